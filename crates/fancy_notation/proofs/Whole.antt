-- The reading of a whole text.
use Rattle.std.proofs.Common.{◌≡◌, ℕ, ◌≤◌, List, [], ◌∷◌, Some, Result, Ok, Err, MatchResult, refl, sym, ap, ◌∙◌, subst, append_assoc}
use Rattle.fancy_meaning.specs.Tree.{Tree}
use Rattle.fancy_expr.specs.declared.expr.Expr.{Expr}
use Rattle.fancy_expr.specs.declared.expr.ExprTree.{ExprTree}
use Rattle.fancy_expr.specs.Views.{tree_of}
use Rattle.fancy_expr.specs.declared.error.Error.{Error}
use Rattle.fancy_expr.specs.declared.error.Error.TheVariants.{CompileError, RuntimeError, TreeFault, NestLimitExceeded, Memory}
use Rattle.fancy_notation.specs.declared.reader.Reader.{Reader}
use Rattle.fancy_notation.specs.Tokens.{Placed}
use Rattle.fancy_expr.specs.Sound.{AllSound, IsWellFormedTree}
use Rattle.fancy_notation.specs.Grammar.{Spells, IsSpelled}
use Rattle.fancy_notation.specs.Faults.{IsFaultAt, stray, early}
use Rattle.fancy_notation.specs.Misfit.{Node, misfit}
use Rattle.fancy_notation.specs.NotationViews.{point_of}
use Rattle.fancy_notation.specs.Described.{IsDescribed}
use Rattle.fancy_notation.specs.Reading.{place, IsFaultHere, Fails, IsFault, OneCharEach}
use Rattle.fancy_meaning.specs.Nodes.{group_count}
use Rattle.fancy_meaning.specs.WellFormed.{most_groups}
use Rattle.fancy_notation.proofs.Counting.{spelled_groups}
use Rattle.fancy_notation.proofs.Stack.{node_stands}
use Rattle.fancy_notation.proofs.FaultPlaces.{fault_there}
use Rattle.fancy_notation.proofs.OneSpelling.{one_spelling}
use Rattle.fancy_notation.proofs.FineNodes.{sound_if_spelled}
use Rattle.fancy_notation.proofs.GroupLimit.{spelled_few}
use Rattle.fancy_notation.proofs.DescribedTrees.{well_formed}

-- a reader that begins with these tokens
pub record Begins (start : Reader) (end : ℕ) (ts : List Placed) : Type 0 where
  pub tokens : (point_of start).tokens ≡ ts
  pub groups : start.groups ≡ 0
  pub ends : start.end ≡ end

whole_start : (start : Reader) (at : ℕ) (ts : List Placed) → Begins start at ts → point_of start ≡ record { groups = 0; tokens = ts }
whole_start start at ts b = ap (λ g. record { groups = g; tokens = (point_of start).tokens }) b.groups ∙ ap (λ l. record { groups = 0; tokens = l }) b.tokens

whole_spelled : (start last : Reader) (at : ℕ) (ts : List Placed) (e : Tree) → Begins start at ts → Spells (point_of start) (point_of last) e →
    (point_of last).tokens ≡ [] → IsSpelled ts e
whole_spelled start last at ts e b s none =
    record { last = point_of last; spells = subst (λ x. Spells x (point_of last) e) (whole_start start at ts b) s; none_left = none }

pub memory_fault : (at : ℕ) (ts : List Placed) (e : Error) → e ≡ Memory → IsFault at ts e
memory_fault at ts e is = subst (IsFault at ts) (sym is) tt

pub whole_fails : (start : Reader) (at : ℕ) (ts : List Placed) (e : Error) → Begins start at ts → Fails (Node ∷ []) start e → IsFault at ts e
whole_fails start at ts (CompileError x) b h = h
whole_fails start at ts (RuntimeError x) b h = h
whole_fails start at ts (TreeFault p) b h =
    fault_there at ts p
    (sym (ap (λ n. misfit n (point_of start).tokens start.groups (Node ∷ [])) b.ends
    ∙ ap (λ x. misfit at x.tokens x.groups (Node ∷ [])) (whole_start start at ts b)) ∙ h [])
whole_fails start at ts NestLimitExceeded b h = h
whole_fails start at ts Memory b h = tt

-- more tokens come where all was read
left_over : (at g : ℕ) (ts : List Placed) → (ts ≡ [] → ⊥) → misfit at ts g [] ≡ Some (place at ts)
left_over at g [] some = absurd (some refl)
left_over at g (p ∷ ps) some = refl

pub whole_left : {C : Type 0} (start last : Reader) (t : Tree) (at : ℕ) (ts : List Placed) (e : Error) → Begins start at ts →
    Spells (point_of start) (point_of last) t × (last.end ≡ start.end) × C →
    IsFaultHere last e × ((point_of last).tokens ≡ [] → ⊥) → IsFault at ts e
whole_left start last t at ts e b s f =
    subst (IsFault at ts) (sym f.0)
    (fault_there at ts (place last.end (point_of last).tokens)
    (sym (ap (λ x. misfit at x.tokens x.groups (Node ∷ [])) (whole_start start at ts b))
    ∙ node_stands s.0 at []
    ∙ left_over at last.groups (point_of last).tokens f.1
    ∙ ap (λ n. Some (place n (point_of last).tokens)) (sym (s.1 ∙ b.ends))))

-- what is answered, where this is described
pub whole_read : (start last : Reader) (at : ℕ) (ts : List Placed) (expr : Expr) (r : Result ExprTree Error) → Begins start at ts →
    Spells (point_of start) (point_of last) (tree_of expr) × (last.end ≡ start.end) × OneCharEach expr → (point_of last).tokens ≡ [] →
    MatchResult r (λ tree. (tree.expr ≡ expr) × (tree.total_groups ≡ last.groups) × IsDescribed tree) (λ e. e ≡ Memory) →
    MatchResult r (λ tree. IsSpelled ts (tree_of tree.expr) × IsDescribed tree × IsWellFormedTree tree) (λ e. IsFault at ts e)
whole_read start last at ts expr (Ok tree) b s none h = (
  subst (λ x. IsSpelled ts (tree_of x)) (sym h.0) (whole_spelled start last at ts (tree_of expr) b s.0 none),
  h.2,
  well_formed tree (subst AllSound (sym h.0) (sound_if_spelled expr s.0 s.2)) (h.1 ∙ spelled_groups s.0 b.groups ∙ ap (λ x. group_count (tree_of x)) (sym h.0))
      (subst (λ x. group_count (tree_of x) ≤ most_groups) (sym h.0) (spelled_few s.0 b.groups)) h.2,
)
whole_read start last at ts expr (Err e) b s none h = memory_fault at ts e h

not_spelled : (end : ℕ) (ts : List Placed) (at : ℕ) (e : Tree) → IsFaultAt end ts at → IsSpelled ts e → ⊥
not_spelled end ts at e (stray before after p is there begins never) s =
    never (after, e, subst (λ l. IsSpelled l e) (is ∙ sym (append_assoc before (p ∷ []) after)) s)
not_spelled end ts at e (early there begins never) s = never e s

-- what is answered on a text with these tokens
abbrev pub Answered : ℕ → List Placed → Result ExprTree Error → Type 0
Answered end ts r = MatchResult r (λ tree. IsSpelled ts (tree_of tree.expr) × IsDescribed tree × IsWellFormedTree tree) (λ e. IsFault end ts e)

-- what is spelled is read
pub whole_reads : (end : ℕ) (ts : List Placed) (r : Result ExprTree Error) →
    Answered end ts r →
    (e : Tree) → IsSpelled ts e → MatchResult r (λ tree. tree_of tree.expr ≡ e) (λ error. error ≡ Memory)
whole_reads end ts (Ok tree) h e s = one_spelling ts (tree_of tree.expr) e h.0 s
whole_reads end ts (Err (CompileError x)) h e s = absurd h
whole_reads end ts (Err (RuntimeError x)) h e s = absurd h
whole_reads end ts (Err (TreeFault at)) h e s = absurd (not_spelled end ts at e h s)
whole_reads end ts (Err NestLimitExceeded) h e s = absurd h
whole_reads end ts (Err Memory) h e s = refl
