-- The class texts of a node are those of the nodes that are written out with it.
use Rattle.std.proofs.Common.{◌≡◌, ℕ, zero, suc, ◌<◌, Bool, false, List, [], ◌∷◌, ◌++◌, get_or, length, Option, Some, None, inl, inr, refl, sym, subst, arith}
use Rattle.std.specs.Prelude.{◌⊎◌, Result, Ok, Err, IsErr, IsErrAnd, IsTrue}
use Rattle.fancy_meaning.specs.Tree.{Tree, Trees, none, more, Delegate, Repeat}
use Rattle.fancy_meaning.specs.Chars.{is_class}
use Rattle.fancy_meaning.specs.CompileRefusals.{IsAmong, here, there, written_parts}
use Rattle.fancy_nfa_laws.specs.NfaStates as plain
use Rattle.fancy_meaning.specs.Constructs as plain_form
use Rattle.fancy_meaning.specs.Spots.{is_never}
use Rattle.fancy_nfa_laws.specs.NfaCode.{NfaCode, one}
use Rattle.fancy_expr.specs.declared.error.Error.{Error}
use Rattle.fancy_info.specs.declared.info.Info.{Info}
use Rattle.fancy_info.specs.Infos.{info_tree}
use Rattle.fancy_nfa.specs.declared.layout.Layout.{Layout}
use Rattle.fancy_nfa.specs.declared.layout.LoopForm.{LoopForm}
use Rattle.fancy_nfa.specs.declared.layout.LoopForm.TheVariants as form
use Rattle.fancy_nfa.specs.ClassTexts.{HasClass, itself, below, no_text, texts_of, texts_in, AreClasses, IsRefusal}
use Rattle.fancy_nfa.specs.Shapes.{form_of}
use Rattle.fancy_nfa.specs.Layouts.{states_in, Replaces, Lays}
use Rattle.fancy_nfa.specs.Neighbours.{trees_of}
use Rattle.fancy_nfa.proofs.Laid.{lays_by, lays_fault, refusal_by}

abbrev pub IsNoClass : Tree → Type 0
IsNoClass (Delegate inner casei) = ⊥
IsNoClass e = Unit {0}

module _ (inner : List ℕ) (casei : Bool) where
  texts_below : {e : Tree} → HasClass inner casei e → IsNoClass e → texts_in (written_parts e) inner casei
  texts_below itself n = absurd n
  texts_below (below {c = c} i h) n = (c, (i, h))

  texts_above : (e : Tree) → texts_in (written_parts e) inner casei → HasClass inner casei e
  texts_above e h = below h.1.0 h.1.1

  among_more : (e : Tree) (es : Trees) (d : Tree) → IsAmong d (more e es) → HasClass inner casei d → HasClass inner casei e ⊎ texts_in es inner casei
  among_more e es d here h = inl h
  among_more e es d (there i) h = inr (d, (i, h))

  pub texts_more : (e : Tree) (es : Trees) → texts_in (more e es) inner casei → HasClass inner casei e ⊎ texts_in es inner casei
  texts_more e es h = among_more e es h.0 h.1.0 h.1.1

  among_one : (e d : Tree) → IsAmong d (more e none) → HasClass inner casei d → HasClass inner casei e
  among_one e d here h = h
  among_one e d (there i) h = elim i [ ]

  one_text : (e : Tree) → texts_in (more e none) inner casei → HasClass inner casei e
  one_text e h = among_one e h.0 h.1.0 h.1.1

  pub texts_at : (l : List Info) (i : ℕ) (x : Info) → i < length l → x ≡ get_or l i x → HasClass inner casei (info_tree x) → texts_in (trees_of l) inner casei
  texts_at [] i x lt at h = absurd (omega arith)
  texts_at (y ∷ l) zero x lt at h = (info_tree y, (here, subst (λ z. HasClass inner casei (info_tree z)) at h))
  texts_at (y ∷ l) (suc i) x lt at h = let r = texts_at l i x (omega arith) at h in (r.0, (there r.1.0, r.1.1))

pub classes_more : (unicode : Bool) (e : Tree) (es : Trees) → AreClasses unicode (texts_of e) → AreClasses unicode (texts_in es) →
    AreClasses unicode (texts_in (more e es))
classes_more unicode e es h g inner casei t = is_one (texts_more inner casei e es t)
  where
    is_one : HasClass inner casei e ⊎ texts_in es inner casei → IsTrue (is_class unicode inner casei)
    is_one (inl x) = h inner casei x
    is_one (inr x) = g inner casei x

module _ {X : Type 0} (code : NfaCode) (e : Tree) (other : IsNoClass e) (s t : Layout) (r : Result X Error) where
  -- a node that is laid out by its parts
  pub lays_parts : Lays code (texts_in (written_parts e)) s t r → Lays code (texts_of e) s t r
  lays_parts =
      lays_by code (texts_in (written_parts e)) (texts_of e) s t (λ inner casei. texts_above inner casei e)
      (λ inner casei h. texts_below inner casei h other) r

  pub lays_part : (d : Tree) → written_parts e ≡ more d none → Lays code (texts_of d) s t r → Lays code (texts_of e) s t r
  lays_part d one h =
      lays_parts (subst (λ es. Lays code (texts_in es) s t r) (sym one)
      (lays_by code (texts_of d) (texts_in (more d none)) s t (λ inner casei x. (d, (here, x))) (λ inner casei. one_text inner casei d) r h))

-- ---- loops

pub repeat_parts : (lo : ℕ) (hi : Option ℕ) (greedy : Bool) (e : Tree) → is_never hi ≡ false → written_parts (Repeat lo hi greedy e) ≡ more e none
repeat_parts lo None greedy e h = refl
repeat_parts lo (Some zero) greedy e h = cc
repeat_parts lo (Some (suc n)) greedy e h = refl

-- a loop with a form is entered
never_form : (f : LoopForm) → ¬ (form_of (Some f) ≡ plain_form.Never)
never_form form.AtMostOnce h = cc
never_form (form.Epsilon lo) h = cc
never_form form.Star h = cc
never_form form.Plus h = cc
never_form (form.Counted lo hi) h = cc

pub form_enters : (f : LoopForm) (lo : ℕ) (hi : Option ℕ) (empty : Bool) → form_of (Some f) ≡ plain_form.loop_form lo hi empty → is_never hi ≡ false
form_enters f lo None empty h = refl
form_enters f lo (Some zero) empty h = absurd (never_form f h)
form_enters f lo (Some (suc n)) empty h = refl

-- ---- a class

module _ (inner : List ℕ) (casei : Bool) (p : plain.NfaState) (s t : Layout) (is : p ≡ plain.Character (plain.InClass inner casei))
    (yes : IsTrue (is_class s.unicode inner casei)) where
  only_itself : (i : List ℕ) (f : Bool) → HasClass i f (Delegate inner casei) → IsTrue (is_class s.unicode i f)
  only_itself i f itself = yes
  only_itself i f (below a h) = elim a [ ]

  pub lays_class : {X : Type 0} (r : Result X Error) → Lays (one p) no_text s t r →
      Lays (one (plain.Character (plain.InClass inner casei))) (texts_of (Delegate inner casei)) s t r
  lays_class (Ok x) h = record { added = subst (λ k. Replaces (states_in s ++ k ∷ []) s t) is h.added; classes = only_itself }
  lays_class (Err e) h = refusal_by s.unicode no_text (texts_of (Delegate inner casei)) e (λ i f x. absurd x) h

-- one of these nodes was refused
pub lays_fault_at : {X : Type 0} (code : NfaCode) (l : List Info) (s t : Layout) (r : Result X Error) (d : Error) (i : ℕ) (x : Info)
    (unicode : Bool) → i < length l → x ≡ get_or l i x → IsErr r × IsErrAnd r (λ e. e ≡ d) → unicode ≡ s.unicode →
    IsRefusal unicode (texts_of (info_tree x)) d → Lays code (texts_in (trees_of l)) s t r
lays_fault_at code l s t r d i x unicode lt at from same refused =
    lays_fault code (texts_in (trees_of l)) s t r d from
    (refusal_by s.unicode (texts_of (info_tree x)) (texts_in (trees_of l)) d (λ inner casei. texts_at inner casei l i x lt at)
    (subst (λ u. IsRefusal u (texts_of (info_tree x)) d) same refused))
