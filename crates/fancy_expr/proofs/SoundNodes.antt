-- Which nodes are sound.
use Rattle.std.proofs.Common.{◌≡◌, ℕ, zero, suc, ◌==◌, ◌&&◌, Bool, true, false, not, List, [], ◌∷◌, length, ◌<◌, ◌≤◌, ◌-◌, ◌^◌, Some, None, IfSome, cond, eqb, ltb, leb, ltb-true, leb-true, le-leb, map, All, Contains, slice_index_or, IsTrue, Box, Vec, String, Global, string_bytes, chars, IsUtf8, refl, sym, ap, ◌∙◌, subst, arith}
use Rattle.std.proofs.lemmas.Bool.{eqb-true, eq-eqb, false≢true}
use Rattle.std.proofs.lemmas.List.Elements.{Contains-append_right, All-contains, All-contains_itself}
use Rattle.fancy_meaning.specs.Nodes.{nodes}
use Rattle.fancy_expr.proofs.Exprs.{nodes-exprs}
use Rattle.std.specs.Char.{IsScalar}
use Rattle.std.proofs.Math.Utf8.{scalar, scalars}
use Rattle.std.proofs.lemmas.Str.{scalars-chars, IsUtf8-string_bytes}
use Rattle.fancy_meaning.specs.Tree as plain
use Rattle.fancy_meaning.specs.Tree.{Tree, none, more}
use Rattle.fancy_meaning.specs.WellFormed.{IsCount, IsFine}
use Rattle.fancy_expr.specs.declared.expr.Expr.{Expr, Row_of-Expr, end_of-Expr, more_of-Expr}
use Rattle.fancy_expr.specs.declared.expr.Expr.TheVariants as code
use mathlib.Core.Former.{Count}
use Rattle.fancy_expr.specs.declared.expr.Absent.TheBlock.{hidden-the_row-Expr-0}
use Rattle.fancy_expr.specs.declared.expr.Absent.TheViews as view
use Rattle.fancy_expr.specs.declared.expr.Absent.{Absent}
use Rattle.fancy_expr.specs.declared.expr.Absent.TheVariants as code_absent
use Rattle.fancy_expr.specs.Views.{tree_of, trees_of, absent_of}
use Rattle.fancy_expr.specs.Exprs.{in_row, below, exprs}
use Rattle.fancy_expr.specs.Sound.{IsOneChar, IsSoundNode, AllSound}

left_of : (a b : Bool) → (a && b) ≡ true → a ≡ true
left_of true b h = refl
left_of false b h = cc

first_scalar : (cs : List ℕ) → scalars cs ≡ true → length cs ≡ 1 → IsScalar (slice_index_or cs 0 0)
first_scalar [] s n = absurd (omega arith)
first_scalar (c ∷ cs) s n = left_of (scalar c) (scalars cs) s

pub sound_literal : (e : Expr) (val : String Global) (casei : Bool) (n : ℕ) → e ≡ code.Literal val casei → n ≡ length (chars (string_bytes val)) →
    (IsTrue (n == 1) → IsSoundNode e) × (IsSoundNode e → IsTrue (n == 1))
sound_literal e val casei n is counted =
    let one : IsTrue (n == 1) → IsSoundNode e = λ h.
    let l : length (chars (string_bytes val)) ≡ 1 = sym counted ∙ eqb-true n 1 h in
    subst IsSoundNode (sym is) (record { fine = first_scalar _ (scalars-chars (string_bytes val) (IsUtf8-string_bytes val)) l; one_char = l }) in
    (one, λ h. eq-eqb n 1 (counted ∙ (subst IsSoundNode is h).one_char))

pub sound_absent : (e : Expr) (a : Absent) → e ≡ code.Absent a → IsSoundNode e
sound_absent e a is =
    subst IsSoundNode (sym is) (record {
      fine = elim a as (λ x. IsFine (absent_of x)) [
        | code_absent.Repeater' b y ↦ tt
        | code_absent.Expression' b y d z ↦ tt
        | code_absent.Stopper' b y ↦ tt
        | code_absent.Clear ↦ tt
      ];
      one_char = tt;
    })

not_zero : (n : ℕ) → IsTrue (not (n == 0)) → n ≡ 0 → ⊥
not_zero n h z = cc

is_not_zero : (n : ℕ) → (n ≡ 0 → ⊥) → IsTrue (not (n == 0))
is_not_zero zero h = absurd (h refl)
is_not_zero (suc n) h = grind arith

row_fine : (m : Count) (k : Row_of-Expr m) → (length (in_row k) ≡ 0 → ⊥) → IsFine (plain.Alt (trees_of k))
row_fine _ end_of-Expr h = h refl
row_fine _ (more_of-Expr e k) h = tt

fine_row : (m : Count) (k : Row_of-Expr m) → IsFine (plain.Alt (trees_of k)) → length (in_row k) ≡ 0 → ⊥
fine_row _ end_of-Expr h z = h
fine_row _ (more_of-Expr e k) h z = omega arith

pub sound_alt : (e : Expr) (v : Vec Expr Global) (n : ℕ) → e ≡ view.Alt v → n ≡ length (below e) →
    (IsTrue (not (n == 0)) → IsSoundNode e) × (IsSoundNode e → IsTrue (not (n == 0)))
sound_alt e v n is counted =
    let children : n ≡ length (below (view.Alt v)) = counted ∙ ap (λ x. length (below x)) is in
    let there : IsTrue (not (n == 0)) → IsSoundNode e =
    λ h. subst IsSoundNode (sym is) (record { fine = row_fine _ (hidden-the_row-Expr-0 v) (λ z. not_zero n h (children ∙ z)); one_char = tt }) in
    (there, λ h. is_not_zero n (λ z. fine_row _ (hidden-the_row-Expr-0 v) (subst IsSoundNode is h).fine (sym children ∙ z)))

text_fine : (bytes : List ℕ) (casei : Bool) → IsUtf8 bytes → (length bytes ≡ 0 → ⊥) → IsFine (plain.Delegate bytes casei)
text_fine [] casei u h = h refl
text_fine (b ∷ bs) casei u h = u

fine_text : (bytes : List ℕ) (casei : Bool) → IsFine (plain.Delegate bytes casei) → length bytes ≡ 0 → ⊥
fine_text [] casei h z = h
fine_text (b ∷ bs) casei h z = omega arith

pub sound_class : (e : Expr) (inner : String Global) (casei : Bool) (n : ℕ) → e ≡ code.Delegate inner casei → n ≡ length (string_bytes inner) →
    (IsTrue (not (n == 0)) → IsSoundNode e) × (IsSoundNode e → IsTrue (not (n == 0)))
sound_class e inner casei n is counted =
    let there : IsTrue (not (n == 0)) → IsSoundNode e =
    λ h. subst IsSoundNode (sym is) (record { fine = text_fine _ casei (IsUtf8-string_bytes inner) (λ z. not_zero n h (counted ∙ z)); one_char = tt }) in
    (there, λ h. is_not_zero n (λ z. fine_text _ casei (subst IsSoundNode is h).fine (sym counted ∙ z)))

-- ---- numbers and bytes

-- a test that never fails, at a node that is sound
pub sound_always : (e x : Expr) (b : Bool) → e ≡ x → b ≡ true → IsSoundNode x → (IsTrue b → IsSoundNode e) × (IsSoundNode e → IsTrue b)
sound_always e x b is so here = (λ _. subst IsSoundNode (sym is) here, λ _. so)

pub sound_bytes : (e : Expr) (v : Vec ℕ Global) (bytes : List ℕ) (b : Bool) → e ≡ code.LiteralBytes v → bytes ≡ v.items →
    (b ≡ true) × All (λ c. c < 2 ^ 8) bytes → (IsTrue b → IsSoundNode e) × (IsSoundNode e → IsTrue b)
sound_bytes e v bytes b is read h =
    sound_always e _ b is h.0 (record { fine = subst (All (λ c. c < 2 ^ 8)) read h.1; one_char = tt })

bound_fine : (lo hi : ℕ) (last : Bool) → eqb hi (2 ^ 64 - 1) ≡ last → lo ≤ hi → hi < 2 ^ 64 →
    IfSome (cond last None (Some hi)) (λ n. (lo ≤ n) × IsCount n)
bound_fine lo hi true is low fits = tt
bound_fine lo hi false is low fits =
    (low, let other : hi ≡ 2 ^ 64 - 1 → ⊥ = λ e. false≢true (sym is ∙ eq-eqb hi (2 ^ 64 - 1) e) in omega (arith, other, fits))

fine_bound : (lo hi : ℕ) (last : Bool) → eqb hi (2 ^ 64 - 1) ≡ last → lo < 2 ^ 64 - 1 →
    IfSome (cond last None (Some hi)) (λ n. (lo ≤ n) × IsCount n) → lo ≤ hi
fine_bound lo hi true is low fine = let e = eqb-true hi (2 ^ 64 - 1) is in omega (arith, low, e)
fine_bound lo hi false is low fine = fine.0

pub sound_bounds : (e : Expr) (child : Box Expr Global) (lo hi : ℕ) (greedy : Bool) → e ≡ view.Repeat child lo hi greedy → lo < 2 ^ 64 - 1 → hi < 2 ^ 64 →
    (IsTrue (leb lo hi) → IsSoundNode e) × (IsSoundNode e → IsTrue (leb lo hi))
sound_bounds e child lo hi greedy is low fits = (
  λ h. subst IsSoundNode (sym is) (record { fine = (low, bound_fine lo hi _ refl (leb-true lo hi h) fits); one_char = tt }),
  λ s. le-leb lo hi (fine_bound lo hi _ refl low (subst IsSoundNode is s).fine.1),
)

pub too_often : (e : Expr) (child : Box Expr Global) (lo hi : ℕ) (greedy : Bool) → e ≡ view.Repeat child lo hi greedy → 2 ^ 64 - 1 ≤ lo →
    (IsTrue (ltb lo (2 ^ 64 - 1)) → IsSoundNode e) × (IsSoundNode e → IsTrue (ltb lo (2 ^ 64 - 1)))
too_often e child lo hi greedy is many = (
  λ h. absurd (let k = ltb-true lo (2 ^ 64 - 1) h in omega (arith, many, k)),
  λ s. absurd (let k = (subst IsSoundNode is s).fine.0 in omega (arith, many, k)),
)

-- ---- all nodes

all_mapped : (P : Tree → Type 0) (xs : List Expr) → All (λ x. P (tree_of x)) xs → (k : ℕ) (d : Tree) → k < length (map tree_of xs) →
    P (slice_index_or (map tree_of xs) k d)
all_mapped P [] h k d lt = absurd (omega arith)
all_mapped P (x ∷ xs) h zero d lt = h 0 x (omega arith)
all_mapped P (x ∷ xs) h (suc k) d lt = all_mapped P xs (λ i y less. h (suc i) y (omega arith)) k d (omega arith)

mapped_contains : (xs : List Expr) (x : Expr) (k : ℕ) → k < length xs → slice_index_or xs k x ≡ x → Contains (map tree_of xs) (tree_of x)
mapped_contains [] x k lt at = absurd (omega arith)
mapped_contains (y ∷ xs) x zero lt at = (0, omega arith, ap tree_of at)
mapped_contains (y ∷ xs) x (suc k) lt at = Contains-append_right (tree_of y ∷ []) (map tree_of xs) (tree_of x) (mapped_contains xs x k (omega arith) at)

-- the node of the tree that a node stands for
pub node_there : (e x : Expr) → Contains (exprs e) x → Contains (nodes (tree_of e)) (tree_of x)
node_there e x there = subst (λ l. Contains l (tree_of x)) (nodes-exprs e) (mapped_contains (exprs e) x there.0 there.1 there.2)

pub nodes_fine : (e : Expr) → AllSound e → (x : Tree) → Contains (nodes (tree_of e)) x → IsFine x
nodes_fine e h x there =
    All-contains IsFine (map tree_of (exprs e)) x (all_mapped IsFine (exprs e) (λ k d lt. (h k d lt).fine))
    (subst (λ l. Contains l x) (sym (nodes-exprs e)) there)

pub all_one_char : (e : Expr) → AllSound e → All IsOneChar (exprs e)
all_one_char e h = λ k d lt. (h k d lt).one_char

pub sound_if_fine : (e : Expr) → ((x : Tree) → Contains (nodes (tree_of e)) x → IsFine x) → All IsOneChar (exprs e) → AllSound e
sound_if_fine e fine chars = λ k d lt.
    let there : Contains (exprs e) (slice_index_or (exprs e) k d) = All-contains_itself (exprs e) k d lt in
    record {
      fine = fine _ (subst (λ l. Contains l (tree_of (slice_index_or (exprs e) k d))) (nodes-exprs e)
          (mapped_contains (exprs e) (slice_index_or (exprs e) k d) there.0 there.1 there.2));
      one_char = chars k d lt;
    }
