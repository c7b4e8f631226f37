-- What is asked of all nodes, and what that says of what comes with a tree.
use Rattle.std.proofs.Common.{◌≡◌, ℕ, zero, suc, ◌<◌, ◌≤◌, Bool, true, false, not, ◌&&◌, ◌||◌, List, [], ◌∷◌, length, map, nat_eq, nat_le, slice_index_or, Contains, IsTrue, IsFalse, refl, sym, ap, ◌∙◌, arith}
use Rattle.std.specs.List.{list_any, list_all}
use Rattle.std.proofs.lemmas.Bool.{and_from, eqb-true, eq-eqb, leb-true, le-leb}
use Rattle.std.proofs.lemmas.Map.Views.{Contains-from_any}
use Rattle.std.proofs.lemmas.List.Folds.{list_any_none, list_any_at}
use Rattle.std.proofs.lemmas.List.Elements.{Contains-append_right, All-contains, All-contains_itself}
use Rattle.fancy_meaning.specs.Tree as plain
use Rattle.fancy_meaning.specs.Tree.{Tree}
use Rattle.fancy_meaning.specs.Nodes.{nodes}
use Rattle.fancy_expr.specs.declared.expr.Expr.{Expr}
use Rattle.fancy_expr.specs.Views.{tree_of}
use Rattle.fancy_expr.specs.Exprs.{exprs}
use Rattle.fancy_expr.specs.Questions.{is_unlisted}
use Rattle.fancy_expr.proofs.Exprs.{nodes-exprs}

-- ---- tests of lists

pub any-map : {X Y : Type 0} (f : Y → Bool) (g : X → Y) (xs : List X) → list_any (λ x. f (g x)) xs ≡ list_any f (map g xs)
any-map f g [] = refl
any-map f g (x ∷ xs) = ap (λ b. f (g x) || b) (any-map f g xs)

-- a test of the nodes of the tree that it stands for
pub any-nodes : (f : Tree → Bool) (e : Expr) → list_any (λ x. f (tree_of x)) (exprs e) ≡ list_any f (nodes (tree_of e))
any-nodes f e = any-map f tree_of (exprs e) ∙ ap (list_any f) (nodes-exprs e)

pub true_false : true ≡ false → ⊥
true_false h = cc

pub false_true : false ≡ true → ⊥
false_true h = cc

denied : {b : Bool} → not b ≡ false → b ≡ true
denied {b = true} h = refl
denied {b = false} h = absurd (true_false h)

pub not_true : {b : Bool} → not b ≡ true → b ≡ false
not_true {b = false} h = refl
not_true {b = true} h = absurd (false_true h)

left_true : (a b : Bool) → (a && b) ≡ true → a ≡ true
left_true true b h = refl
left_true false b h = h

right_true : (a b : Bool) → (a && b) ≡ true → b ≡ true
right_true true b h = h
right_true false b h = absurd (false_true h)

pub left_false : (a b : Bool) → (a || b) ≡ false → a ≡ false
left_false false b h = refl
left_false true b h = cc

pub right_false : (a b : Bool) → (a || b) ≡ false → b ≡ false
right_false false b h = h
right_false true b h = cc

fails_at : {X : Type 0} (p : X → Bool) (xs : List X) → list_any p xs ≡ false → (k : ℕ) (d : X) → k < length xs → p (slice_index_or xs k d) ≡ false
fails_at p [] h k d lt = absurd (omega arith)
fails_at p (x ∷ xs) h zero d lt = left_false (p x) (list_any p xs) h
fails_at p (x ∷ xs) h (suc k) d lt = fails_at p xs (right_false (p x) (list_any p xs) h) k d (omega arith)

pub any_fails_at : {X : Type 0} (p : X → Bool) (xs : List X) (x : X) → list_any p xs ≡ false → Contains xs x → p x ≡ false
any_fails_at p xs x h there = All-contains (λ y. p y ≡ false) xs x (fails_at p xs h) there

pub none_passes : {X : Type 0} (p : X → Bool) (xs : List X) → ((x : X) → Contains xs x → p x ≡ false) → list_any p xs ≡ false
none_passes p xs h = list_any_none p xs (λ k d lt. h _ (All-contains_itself xs k d lt))

pub any_passes : {X : Type 0} (p : X → Bool) (xs : List X) (x : X) → Contains xs x → p x ≡ true → list_any p xs ≡ true
any_passes p xs x there h = list_any_at p xs there.0 x there.1 (ap p there.2 ∙ h)

all_at : {X : Type 0} (p : X → Bool) (xs : List X) → list_all p xs ≡ true → (k : ℕ) (d : X) → k < length xs → p (slice_index_or xs k d) ≡ true
all_at p [] h k d lt = absurd (omega arith)
all_at p (x ∷ xs) h zero d lt = left_true (p x) (list_all p xs) h
all_at p (x ∷ xs) h (suc k) d lt = all_at p xs (right_true (p x) (list_all p xs) h) k d (omega arith)

pub all_pass_at : {X : Type 0} (p : X → Bool) (xs : List X) (x : X) → list_all p xs ≡ true → Contains xs x → p x ≡ true
all_pass_at p xs x h there = All-contains (λ y. p y ≡ true) xs x (all_at p xs h) there

pub each_passes : {X : Type 0} (p : X → Bool) (xs : List X) → ((x : X) → Contains xs x → p x ≡ true) → list_all p xs ≡ true
each_passes p [] h = refl
each_passes p (x ∷ xs) h =
    and_from _ _ (h x (0, omega arith, refl)) (each_passes p xs (λ y there. h y (Contains-append_right (x ∷ []) xs y there)))

-- ---- the tests of what comes with a tree

pub calls_yes : (contains any : Bool) (Call : Type 0) → contains ≡ true →
    (IsTrue any → (Call → contains ≡ true) × (IsFalse any → contains ≡ false)) × ((Call → contains ≡ true) × (IsFalse any → contains ≡ false) → IsTrue any)
calls_yes contains true Call given = (λ _. (λ _. given, λ h. absurd (true_false h)), λ _. refl)
calls_yes contains false Call given = (λ h. absurd (false_true h), λ p. absurd (true_false (sym given ∙ p.1 refl)))

pub calls_no : (contains call : Bool) (Any : Type 0) → contains ≡ false →
    (IsTrue (not call) → (IsTrue call → contains ≡ true) × (Any → contains ≡ false))
    × ((IsTrue call → contains ≡ true) × (Any → contains ≡ false) → IsTrue (not call))
calls_no contains true Any given = (λ h. absurd (false_true h), λ p. absurd (false_true (sym given ∙ p.0 refl)))
calls_no contains false Any given = (λ _. (λ h. absurd (false_true h), λ _. given), λ _. refl)

backref_not : (listed : List ℕ) (groups g : ℕ) → (g ≤ groups → Contains listed g) → (nat_le g groups && not (list_any (nat_eq g) listed)) ≡ false
backref_not listed groups g h = by_test (nat_le g groups) refl
  where
    by_test : (b : Bool) → nat_le g groups ≡ b → (b && not (list_any (nat_eq g) listed)) ≡ false
    by_test false is = refl
    by_test true is = ap not (any_passes (nat_eq g) listed g (h (leb-true g groups is)) (eq-eqb g g refl))

pub listed_there : (listed : List ℕ) (groups g : ℕ) → (nat_le g groups && not (list_any (nat_eq g) listed)) ≡ false → g ≤ groups → Contains listed g
listed_there listed groups g h le =
    let found : list_any (nat_eq g) listed ≡ true = denied (ap (λ b. b && not (list_any (nat_eq g) listed)) (sym (le-leb g groups le)) ∙ h) in
    Contains-from_any (λ x y. eqb-true x y) g listed found

pub is_unlisted_not : (listed : List ℕ) (groups : ℕ) (e : Tree) → ((g : ℕ) (casei : Bool) → e ≡ plain.Backref g casei → g ≤ groups → Contains listed g) →
    is_unlisted listed groups e ≡ false
is_unlisted_not listed groups (plain.Backref g casei) h = backref_not listed groups g (h g casei refl)
is_unlisted_not listed groups e h = refl
