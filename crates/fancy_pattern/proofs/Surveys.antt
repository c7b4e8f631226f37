-- What is noted node by node is noted of the whole tree.
use Rattle.std.specs.Prelude.{ℤ, OnOk}
use Rattle.std.proofs.Common.{◌≡◌, ℕ, ◌+◌, ◌<◌, ◌≤◌, Bool, true, false, ◌||◌, List, [], ◌∷◌, ◌++◌, length, take, get_or, map, filter_map, Result, Ok, Err, refl, sym, ap, ◌∙◌, subst, append_assoc, append-nil}
use Rattle.std.specs.List.{list_any}
use Rattle.std.specs.declared.alloc.AllocError.{AllocError}
use Rattle.std.proofs.lemmas.List.{take_all, map-append}
use Rattle.std.proofs.lemmas.List.Elements.{filter_map-append}
use Rattle.std.proofs.lemmas.List.Folds.{list_any-append}
use Rattle.fancy_meaning.specs.Tree.{Tree, Backref, BackrefWithLevel}
use Rattle.fancy_meaning.specs.Nodes.{nodes}
use Rattle.fancy_meaning.specs.WellFormed.{is_any_call}
use Rattle.fancy_expr.specs.declared.expr.Expr.{Expr}
use Rattle.fancy_expr.specs.declared.expr.Expr.TheVariants as code
use Rattle.fancy_expr.specs.declared.expr.Absent.{Absent}
use Rattle.fancy_expr.specs.declared.expr.Absent.TheVariants as code_absent
use Rattle.fancy_expr.specs.Views.{tree_of, absent_of}
use Rattle.fancy_expr.specs.Exprs.{below, exprs, exprs_of_each}
use Rattle.fancy_expr.proofs.Exprs.{exprs-below, nodes-exprs}
use Rattle.fancy_expr.proofs.Walks.{each-taken}
use Rattle.fancy_pattern.specs.declared.survey.Survey.{Survey}
use Rattle.fancy_pattern.specs.Described.{referred_to, references, Notes}
use Rattle.fancy_pattern.specs.Surveyed.{IsUnreferring, IsSurveyOf}

or_false : (b : Bool) → b ≡ (b || false)
or_false true = refl
or_false false = refl

or_assoc : (a b d : Bool) → ((a || b) || d) ≡ (a || (b || d))
or_assoc true b d = refl
or_assoc false b d = refl

-- a node that says nothing
pub notes_nothing : (s : Survey) (e : Tree) → filter_map referred_to (e ∷ []) ≡ [] → is_any_call e ≡ false → Notes (e ∷ []) s s
notes_nothing s e none uncalled = record {
  references = sym (append-nil s.references.items) ∙ ap (λ l. s.references.items ++ l) (sym none);
  calls = or_false s.calls ∙ ap (λ b. s.calls || (b || false)) (sym uncalled);
}

pub notes_absent : (s : Survey) (e : Expr) (a : Absent) → e ≡ code.Absent a → Notes (tree_of e ∷ []) s s
notes_absent s e a is = subst (λ x. Notes (tree_of x ∷ []) s s) (sym is) (elim a as (λ x. Notes (absent_of x ∷ []) s s) [
  | code_absent.Repeater' b y ↦ notes_nothing s (absent_of (code_absent.Repeater' b y)) refl refl
  | code_absent.Expression' b y d z ↦ notes_nothing s (absent_of (code_absent.Expression' b y d z)) refl refl
  | code_absent.Stopper' b y ↦ notes_nothing s (absent_of (code_absent.Stopper' b y)) refl refl
  | code_absent.Clear ↦ notes_nothing s (absent_of code_absent.Clear) refl refl
])

-- the same group is noted whether the reference is folded or has a level
notes_as : (d e : Tree) (old new : Survey) → filter_map referred_to (d ∷ []) ≡ filter_map referred_to (e ∷ []) → is_any_call d ≡ is_any_call e →
    Notes (d ∷ []) old new → Notes (e ∷ []) old new
notes_as d e old new same calls h = record {
  references = h.references ∙ ap (λ l. old.references.items ++ l) same;
  calls = h.calls ∙ ap (λ b. old.calls || (b || false)) calls;
}

pub notes_backref : (r : Result (Unit {0}) AllocError) (old new : Survey) (e : Expr) (g : ℕ) (casei : Bool) → e ≡ code.Backref g casei →
    OnOk r (Notes (Backref g false ∷ []) old new) → OnOk r (Notes (tree_of e ∷ []) old new)
notes_backref (Ok u) old new e g casei is h =
    subst (λ x. Notes (tree_of x ∷ []) old new) (sym is) (notes_as (Backref g false) (Backref g casei) old new refl refl h)
notes_backref (Err x) old new e g casei is h = tt

pub notes_level : (r : Result (Unit {0}) AllocError) (old new : Survey) (e : Expr) (g : ℕ) (l : ℤ) (casei : Bool) →
    e ≡ code.BackrefWithRelativeRecursionLevel g l casei → OnOk r (Notes (Backref g false ∷ []) old new) → OnOk r (Notes (tree_of e ∷ []) old new)
notes_level (Ok u) old new e g l casei is h =
    subst (λ x. Notes (tree_of x ∷ []) old new) (sym is) (notes_as (Backref g false) (BackrefWithLevel g l casei) old new refl refl h)
notes_level (Err x) old new e g l casei is h = tt

pub notes_both : (a b : List Tree) (old mid new : Survey) → Notes a old mid → Notes b mid new → Notes (a ++ b) old new
notes_both a b old mid new h k = record {
  references =
      k.references
      ∙ ap (λ l. l ++ filter_map referred_to b) h.references
      ∙ append_assoc old.references.items (filter_map referred_to a) (filter_map referred_to b)
      ∙ ap (λ l. old.references.items ++ l) (sym (filter_map-append referred_to a b));
  calls =
      k.calls
      ∙ ap (λ x. x || list_any is_any_call b) h.calls
      ∙ or_assoc old.calls (list_any is_any_call a) (list_any is_any_call b)
      ∙ ap (λ x. old.calls || x) (sym (list_any-append is_any_call a b));
}

pub notes_more : (e : Tree) (old mid new : Survey) (es : List Expr) (i : ℕ) (x : Expr) → i < length es → x ≡ get_or es i x →
    Notes (e ∷ map tree_of (exprs_of_each (take i es))) old mid → Notes (nodes (tree_of x)) mid new →
    Notes (e ∷ map tree_of (exprs_of_each (take (i + 1) es))) old new
notes_more e old mid new es i x h at before more =
    subst (λ l. Notes (e ∷ l) old new)
    (ap (λ l. map tree_of (exprs_of_each (take i es)) ++ l) (sym (nodes-exprs x))
    ∙ sym (map-append tree_of (exprs_of_each (take i es)) (exprs x))
    ∙ ap (map tree_of) (sym (each-taken es i x h at)))
    (notes_both (e ∷ map tree_of (exprs_of_each (take i es))) (nodes (tree_of x)) old mid new before more)

pub notes_done : (old new : Survey) (x : Expr) (n : ℕ) → length (below x) ≤ n → Notes (tree_of x ∷ map tree_of (exprs_of_each (take n (below x)))) old new →
    Notes (nodes (tree_of x)) old new
notes_done old new x n h s =
    subst (λ l. Notes l old new) (sym (ap (map tree_of) (exprs-below x)) ∙ nodes-exprs x)
    (subst (λ l. Notes (tree_of x ∷ map tree_of (exprs_of_each l)) old new) (take_all n (below x) h) s)

-- what was noted of the whole tree, where nothing was noted before
pub surveyed : (e : Tree) (old new : Survey) → old.references.items ≡ [] → old.calls ≡ false → Notes (nodes e) old new → IsSurveyOf e new
surveyed e old new none uncalled h = record {
  references = h.references ∙ ap (λ l. l ++ references e) none;
  calls = h.calls ∙ ap (λ b. b || list_any is_any_call (nodes e)) uncalled;
}

pub survey_of_none : (e : Tree) (s : Survey) → s.references.items ≡ [] → s.calls ≡ false → IsUnreferring e → IsSurveyOf e s
survey_of_none e s none uncalled h = record { references = none ∙ sym h.references; calls = uncalled ∙ sym h.calls }
