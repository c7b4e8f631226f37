-- The nodes below a node, child by child.
use Rattle.std.proofs.Common.{◌≡◌, ℕ, zero, suc, ◌+◌, ◌<◌, ◌≤◌, Bool, true, false, ◌||◌, if◌then◌else◌, Some, List, [], ◌∷◌, ◌++◌, length, take, get_or, slice_index_or, All, Contains, refl, sym, ap, ◌∙◌, subst, arith, append_assoc, append-nil}
use Rattle.std.specs.List.{list_any}
use Rattle.std.proofs.lemmas.Option.{none-some}
use Rattle.std.proofs.lemmas.List.{take_more, take_all}
use Rattle.std.proofs.lemmas.List.Folds.{list_any-append}
use Rattle.std.proofs.lemmas.List.Elements.{Contains-append_left, Contains-append_right, All-append, All-contains, All-contains_itself}
use Rattle.fancy_expr.specs.declared.expr.Expr.{Expr}
use Rattle.fancy_expr.specs.Exprs.{below, exprs, exprs_of_each, first_with}
use Rattle.fancy_expr.proofs.Exprs.{exprs-below}

-- one more child
pub taken : {X : Type 0} (es : List X) (i : ℕ) (e : X) → i < length es → e ≡ get_or es i e → take (i + 1) es ≡ take i es ++ e ∷ []
taken es i e h at = take_more es i e h ∙ ap (λ x. take i es ++ x ∷ []) (sym at)

pub each-append : (xs ys : List Expr) → exprs_of_each (xs ++ ys) ≡ exprs_of_each xs ++ exprs_of_each ys
each-append [] ys = refl
each-append (x ∷ xs) ys = ap (λ l. exprs x ++ l) (each-append xs ys) ∙ sym (append_assoc (exprs x) (exprs_of_each xs) (exprs_of_each ys))

pub each-taken : (es : List Expr) (i : ℕ) (e : Expr) → i < length es → e ≡ get_or es i e →
    exprs_of_each (take (i + 1) es) ≡ exprs_of_each (take i es) ++ exprs e
each-taken es i e h at =
    ap exprs_of_each (taken es i e h at)
    ∙ each-append (take i es) (e ∷ [])
    ∙ ap (λ l. exprs_of_each (take i es) ++ l) (append-nil (exprs e))

-- ---- tests

none_of : (a b : Bool) → a ≡ false → b ≡ false → (a || b) ≡ false
none_of a b p q = ap (λ x. x || b) p ∙ q

module _ (test : Expr → Bool) where
  pub none_more : (es : List Expr) (i : ℕ) (e : Expr) → i < length es → e ≡ get_or es i e → list_any test (exprs_of_each (take i es)) ≡ false →
      list_any test (exprs e) ≡ false → list_any test (exprs_of_each (take (i + 1) es)) ≡ false
  none_more es i e h at before here =
      ap (list_any test) (each-taken es i e h at)
      ∙ list_any-append test (exprs_of_each (take i es)) (exprs e)
      ∙ none_of _ _ before here

  pub none_at_all : (e : Expr) (n : ℕ) → length (below e) ≤ n → test e ≡ false → list_any test (exprs_of_each (take n (below e))) ≡ false →
      list_any test (exprs e) ≡ false
  none_at_all e n h here under =
      ap (list_any test) (exprs-below e)
      ∙ none_of _ _ here (subst (λ l. list_any test (exprs_of_each l) ≡ false) (take_all n (below e) h) under)

-- ---- members

pub itself_contained : (e : Expr) → Contains (exprs e) e
itself_contained e = subst (λ l. Contains l e) (sym (exprs-below e)) (0, omega arith, refl)

contained_in_each : (es : List Expr) (i : ℕ) (e x : Expr) → i < length es → e ≡ get_or es i e → Contains (exprs e) x → Contains (exprs_of_each es) x
contained_in_each [] i e x h at there = absurd (omega arith)
contained_in_each (y ∷ es) zero e x h at there = Contains-append_left (exprs y) (exprs_of_each es) x (subst (λ z. Contains (exprs z) x) at there)
contained_in_each (y ∷ es) (suc i) e x h at there =
    Contains-append_right (exprs y) (exprs_of_each es) x (contained_in_each es i e x (omega arith) at there)

pub contained_below : (e child x : Expr) (i : ℕ) → i < length (below e) → child ≡ get_or (below e) i child → Contains (exprs child) x → Contains (exprs e) x
contained_below e child x i h at there =
    subst (λ l. Contains l x) (sym (exprs-below e))
    (Contains-append_right (e ∷ []) (exprs_of_each (below e)) x (contained_in_each (below e) i child x h at there))

-- ---- the first node

true_not_false : true ≡ false → ⊥
true_not_false h = cc

neither_of : (a b : Bool) → (a || b) ≡ false → (a ≡ false) × (b ≡ false)
neither_of false b h = (refl, h)
neither_of true b h = absurd (true_not_false h)

module _ (test : Expr → Bool) where
  pub first_itself : (e : Expr) → test e ≡ true → first_with test (exprs e) ≡ Some e
  first_itself e here =
      ap (first_with test) (exprs-below e) ∙ ap (λ b. if b then Some e else first_with test (exprs_of_each (below e))) here

  first_behind : (xs ys : List Expr) → list_any test xs ≡ false → first_with test (xs ++ ys) ≡ first_with test ys
  first_behind [] ys none = refl
  first_behind (x ∷ xs) ys none =
      let both = neither_of (test x) (list_any test xs) none in
      ap (λ b. if b then Some x else first_with test (xs ++ ys)) both.0 ∙ first_behind xs ys both.1

  first_in_front : (xs ys : List Expr) (x : Expr) → first_with test xs ≡ Some x → first_with test (xs ++ ys) ≡ Some x
  first_in_front [] ys x found = absurd (none-some x found)
  first_in_front (y ∷ xs) ys x found =
      elim (test y) as (λ b. (if b then Some y else first_with test xs) ≡ Some x → (if b then Some y else first_with test (xs ++ ys)) ≡ Some x) [
        | true ↦ λ h. h
        | false ↦ λ h. first_in_front xs ys x h
      ] found

  first_in_each : (es : List Expr) (i : ℕ) (e x : Expr) → i < length es → e ≡ get_or es i e →
      list_any test (exprs_of_each (take i es)) ≡ false → first_with test (exprs e) ≡ Some x → first_with test (exprs_of_each es) ≡ Some x
  first_in_each [] i e x h at before found = absurd (omega arith)
  first_in_each (y ∷ es) zero e x h at before found =
      first_in_front (exprs y) (exprs_of_each es) x (subst (λ z. first_with test (exprs z) ≡ Some x) at found)
  first_in_each (y ∷ es) (suc i) e x h at before found =
      let both = neither_of _ _ (sym (list_any-append test (exprs y) (exprs_of_each (take i es))) ∙ before) in
      first_behind (exprs y) (exprs_of_each es) both.0 ∙ first_in_each es i e x (omega arith) at both.1 found

  pub first_below : (e child x : Expr) (i : ℕ) → i < length (below e) → child ≡ get_or (below e) i child → test e ≡ false →
      list_any test (exprs_of_each (take i (below e))) ≡ false → first_with test (exprs child) ≡ Some x → first_with test (exprs e) ≡ Some x
  first_below e child x i h at here before found =
      ap (first_with test) (exprs-below e)
      ∙ ap (λ b. if b then Some e else first_with test (exprs_of_each (below e))) here
      ∙ first_in_each (below e) i child x h at before found

-- ---- what holds of all nodes

module _ (P : Expr → Type 0) where
  pub all_here : (e : Expr) → All P (exprs e) → P e
  all_here e h = All-contains P (exprs e) e h (itself_contained e)

  pub all_below : (e child : Expr) (i : ℕ) → i < length (below e) → child ≡ get_or (below e) i child → All P (exprs e) → All P (exprs child)
  all_below e child i h at all = λ k d lt.
      All-contains P (exprs e) _ all (contained_below e child _ i h at (All-contains_itself (exprs child) k d lt))

  pub all_more : (es : List Expr) (i : ℕ) (e : Expr) → i < length es → e ≡ get_or es i e → All P (exprs_of_each (take i es)) → All P (exprs e) →
      All P (exprs_of_each (take (i + 1) es))
  all_more es i e h at before here =
      subst (All P) (sym (each-taken es i e h at)) (All-append P (exprs_of_each (take i es)) (exprs e) before here)

  first_of_one : (e : Expr) → P e → (k : ℕ) (d : Expr) → k < 1 → P (slice_index_or (e ∷ []) k d)
  first_of_one e here zero d lt = here
  first_of_one e here (suc k) d lt = absurd (omega arith)

  pub all_together : (e : Expr) (n : ℕ) → length (below e) ≤ n → P e → All P (exprs_of_each (take n (below e))) → All P (exprs e)
  all_together e n h here under =
      let first : All P (e ∷ []) = λ k d lt. first_of_one e here k d lt in
      subst (All P) (sym (exprs-below e))
      (All-append P (e ∷ []) (exprs_of_each (below e)) first (subst (λ l. All P (exprs_of_each l)) (take_all n (below e) h) under))
