-- What is on top of a stack of nodes.
use Rattle.std.proofs.Common.{◌≡◌, ℕ, ◌-◌, List, [], ◌∷◌, ◌++◌, length, take, map, get_or, Bool, true, false, Option, Some, None, refl, sym, ap, ◌∙◌, subst, arith, append-nil, length-append}
use Rattle.std.specs.Prelude.{if◌then◌else◌}
use Rattle.std.specs.List.{slice_get}
use Rattle.std.proofs.Math.Seq.{get_or-append_seam}
use Rattle.std.proofs.lemmas.Option.{slice_get-get_or}
use Rattle.std.proofs.lemmas.List.{map-append}
use Rattle.fancy_meaning.specs.Tree.{Tree}
use Rattle.fancy_expr.specs.declared.expr.Expr.{Expr}
use Rattle.fancy_expr.specs.Each.{Each}
use Rattle.fancy_expr.specs.Views.{tree_of}
use Rattle.fancy_pattern.specs.Grammar.{is_empty}
use Rattle.fancy_pattern.specs.Reading.{OneCharEach, Adds, AddsSome, TakesOff, some_of}
use Rattle.fancy_pattern.proofs.OneChars.{with_part}

nothing_left : (xs : List Expr) (x : Expr) → [] ≡ xs ++ x ∷ [] → ⊥
nothing_left [] x h = cc
nothing_left (y ∷ xs) x h = cc

-- lists with the same last parts
same_ends : (xs ys : List Expr) (x y : Expr) → xs ++ x ∷ [] ≡ ys ++ y ∷ [] → (xs ≡ ys) × (x ≡ y)
same_ends [] [] x y h = let same : x ≡ y = cc in (refl, same)
same_ends [] (b ∷ ys) x y h = let rest : [] ≡ ys ++ y ∷ [] = cc in absurd (nothing_left ys y rest)
same_ends (a ∷ xs) [] x y h = let rest : [] ≡ xs ++ x ∷ [] = cc in absurd (nothing_left xs x rest)
same_ends (a ∷ xs) (b ∷ ys) x y h =
    let heads : a ≡ b = cc in
    let tails : xs ++ x ∷ [] ≡ ys ++ y ∷ [] = cc in
    let rest = same_ends xs ys x y tails in
    (ap (λ l. a ∷ l) rest.0 ∙ ap (λ c. c ∷ ys) heads, rest.1)

pub top_off : (below all left : List Expr) (node : Expr) (e : Tree) → all ≡ left ++ node ∷ [] → Adds e below all → TakesOff e below left node
top_off below all left node e is h =
    let same = same_ends left below node h.node (sym is ∙ h.added) in
    record {
      made = ap tree_of same.1 ∙ h.made;
      one_char = subst OneCharEach (sym same.1) h.one_char;
      rest = same.0;
    }

-- a node behind what is left, and behind an equal stack
pub behind_rest : (node : Expr) {below all left : List Expr} → all ≡ left ++ node ∷ [] → left ≡ below → all ≡ below ++ node ∷ []
behind_rest node is same = is ∙ ap (λ l. l ++ node ∷ []) same

-- a stack with a node on top is not empty
pub not_none : (below all left : List Expr) (n : ℕ) (e : Tree) → n ≡ 0 → left ≡ take (n - 1) all → all ≡ left ++ [] → Adds e below all → ⊥
not_none below all left n e none is whole h =
    nothing_left below h.node (sym (whole ∙ append-nil left ∙ is ∙ ap (λ k. take (k - 1) all) none) ∙ h.added)

-- the node on top is the last
last_got : (below all : List Expr) (e : Tree) (h : Adds e below all) → slice_get all (length all - 1) ≡ Some h.node
last_got below all e h = subst (λ l. slice_get l (length l - 1) ≡ Some h.node) (sym h.added) (at (length (below ++ h.node ∷ []) - 1) size)
  where
    size : length (below ++ h.node ∷ []) - 1 ≡ length below
    size = let n = length-append below (h.node ∷ []) in omega (arith, n)

    at : (k : ℕ) → k ≡ length below → slice_get (below ++ h.node ∷ []) k ≡ Some h.node
    at k is =
        slice_get-get_or (below ++ h.node ∷ []) k h.node (let n = length-append below (h.node ∷ []) in omega (arith, is, n))
        ∙ ap (λ i. Some (get_or (below ++ h.node ∷ []) i h.node)) is
        ∙ ap Some (get_or-append_seam below h.node [] h.node)

-- a test of the node on top
pub last_tested : (test : Tree → Bool) (below all : List Expr) (e : Tree) (node : Expr) (b : Bool) → b ≡ test (tree_of node) →
    Some node ≡ slice_get all (length all - 1) → Adds e below all → b ≡ test e
last_tested test below all e node b is at h =
    let found : Some node ≡ Some h.node = at ∙ last_got below all e h in
    let same : node ≡ h.node = cc in
    is ∙ ap (λ n. test (tree_of n)) same ∙ ap test h.made

pub no_last : (below all : List Expr) (e : Tree) → ◌≡◌ {A = Option Expr} None (slice_get all (length all - 1)) → Adds e below all → ⊥
no_last below all e none h = let at = last_got below all e h in cc

-- ---- pieces that are nothing

some_kept : (e : Tree) → is_empty e ≡ false → some_of e ≡ e ∷ []
some_kept e is = ap (λ b. if b then [] else e ∷ []) is

some_left_out : (e : Tree) → is_empty e ≡ true → some_of e ≡ []
some_left_out e is = ap (λ b. if b then [] else e ∷ []) is

pub adds_kept : (below all : List Expr) (e : Tree) → is_empty e ≡ false → Adds e below all → AddsSome e below all
adds_kept below all e is h = record {
  added =
      ap (map tree_of) h.added
      ∙ map-append tree_of below (h.node ∷ [])
      ∙ ap (λ t. map tree_of below ++ t ∷ []) h.made
      ∙ ap (λ l. map tree_of below ++ l) (sym (some_kept e is));
  one_char = λ chars. with_part below all h.node h.added h.one_char chars;
}

pub adds_left_out : (below all : List Expr) (e : Tree) → is_empty e ≡ true → all ≡ below → AddsSome e below all
adds_left_out below all e is same = record {
  added =
      ap (map tree_of) same
      ∙ sym (append-nil (map tree_of below))
      ∙ ap (λ l. map tree_of below ++ l) (sym (some_left_out e is));
  one_char = λ chars. subst (Each OneCharEach) (sym same) chars;
}
