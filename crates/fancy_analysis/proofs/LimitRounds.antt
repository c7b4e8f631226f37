-- How many rounds change something, and how many nodes they look at.
use Rattle.std.proofs.Common.{◌≡◌, ℕ, zero, suc, ◌+◌, ◌-◌, ◌<◌, ◌≤◌, Bool, true, false, if◌then◌else◌, sym, ap, ap₂, ◌∙◌, arith, inl, inr, ◌*◌, ◌/◌, List, [], ◌∷◌, length, take, get_or, refl, ⊎_elim, Option, Some, None, IsTrue, ◌↔◌, MatchOption}
use Rattle.std.proofs.lemmas.Bool.{cases_Bool, cases_lt}
use Rattle.fancy_analysis.specs.Rounds.{rounds_from, Agree, named_by, names_one, same_sizes, size_rounds}
use Rattle.std.specs.Bool.{beq}
use Rattle.std.specs.Cmp.Lexicographic.{pointwise}
use Rattle.std.specs.List.{list_any}
use Rattle.std.specs.Option.{is_some}
use Rattle.std.proofs.Math.Nat.{le-div_iff_mul-le}
use Rattle.std.proofs.lemmas.List.{length-append}
use Rattle.fancy_meaning.specs.Nodes.{nodes, group_count}
use Rattle.fancy_meaning.specs.Sizes.{Known, after_rounds, next_round}
use Rattle.fancy_meaning.specs.Tree.{Tree, SubroutineCall, NoLook}
use Rattle.fancy_meaning.specs.WellFormed.{is_call}
use Rattle.fancy_expr.specs.declared.expr.Expr.{Expr}
use Rattle.fancy_expr.specs.Exprs.{below, exprs, exprs_of_each}
use Rattle.fancy_expr.specs.Views.{tree_of}
use Rattle.fancy_expr.proofs.Exprs.{exprs-below}
use Rattle.fancy_expr.proofs.Listed.{any-nodes, any_fails_at, any_passes, none_passes, true_false}
use Rattle.fancy_expr.proofs.Walks.{contained_below, each-taken, itself_contained}
use Rattle.fancy_analysis.proofs.RefusalNodes.{some_there}
use Rattle.fancy_meaning.specs.Numbering.{numbered}
use Rattle.fancy_expr.proofs.Numbered.{count-numbered}
use Rattle.fancy_analysis.specs.AnalysisLimit.{analysis_rounds, whole_of}
use Rattle.fancy_analysis.specs.Endings.{ending_rounds, next_ends}

module _ {X : Type 0} (same : X → X → Bool) (next : X → X) where
  -- with so many rounds made, and so many in all, these are counted
  abbrev pub Counts : ℕ → X → ℕ → ℕ → Type 0
  Counts total x i n = (m : ℕ) → m + i ≡ n → i + rounds_from same next x m ≡ total

  pub counts_first : (x : X) (n : ℕ) → Counts (rounds_from same next x n) x 0 n
  counts_first x n m is = let all : m ≡ n = omega arith in omega (arith, ap (rounds_from same next x) all)

  one_round : (x : X) (m : ℕ) (b : Bool) → same (next x) x ≡ b → rounds_from same next x (suc m) ≡ (if b then 0 else suc (rounds_from same next (next x) m))
  one_round x m b h = ap (λ t. if t then 0 else suc (rounds_from same next (next x) m)) h

  module _ (total i n : ℕ) (x y : X) (lt : i < n) (is : y ≡ next x) (counts : Counts total x i n) where
    pub counts_more : same y x ≡ false → Counts total y (i + 1) n
    counts_more h m at =
        let all = counts (suc m) (omega arith) in
        let more = one_round x m false (ap (λ z. same z x) (sym is) ∙ h) in
        omega (arith, ap (λ z. rounds_from same next z m) is)

    pub counts_over : same y x ≡ false → i < total
    counts_over h = omega (arith, counts (suc (n - suc i)) (omega arith), one_round x (n - suc i) false (ap (λ z. same z x) (sym is) ∙ h))

    pub counts_same : same y x ≡ true → i ≡ total
    counts_same h = omega (arith, counts (suc (n - suc i)) (omega arith), one_round x (n - suc i) true (ap (λ z. same z x) (sym is) ∙ h))

  pub counts_all : (total i n : ℕ) (x : X) → i ≡ n → Counts total x i n → i ≡ total
  counts_all total i n x is counts = let all = counts 0 (omega arith) in omega arith

  pub counts_most : (x : X) (n : ℕ) → rounds_from same next x n ≤ n
  counts_most x zero = omega arith
  counts_most x (suc n) = elim (cases_Bool (same (next x) x)) [
    | inl h ↦ omega (arith, one_round x n true h)
    | inr h ↦ omega (arith, one_round x n false h, counts_most (next x) n)
  ]

-- ---- one that passes

module _ (test : Expr → Bool) where
  pub any_child : (e : Expr) (i : ℕ) (child : Expr) → i < length (below e) → child ≡ get_or (below e) i child → list_any test (exprs child) ≡ true →
      list_any test (exprs e) ≡ true
  any_child e i child lt at h =
      let some = some_there test (exprs child) h in
      any_passes test (exprs e) some.0 (contained_below e child some.0 i lt at some.1) some.2

  pub any_itself : (e : Expr) → test e ≡ true → list_any test (exprs e) ≡ true
  any_itself e h = any_passes test (exprs e) e (itself_contained e) h

-- where nothing is named, all sizes agree
pub all_agree : (a b : Known) (e : Expr) → list_any names_one (exprs e) ≡ false → Agree a b (exprs e)
all_agree a b e none x there g is = absurd (true_false (sym (ap is_some is) ∙ any_fails_at names_one (exprs e) x none there))

-- what is the same by all agrees
pub same_agree : (a b : Known) (es : List Expr) → a ≡ b → Agree a b es
same_agree a b es same x there g is = cc

not_call : (t : Tree) → is_some (named_by t) ≡ false → is_call t ≡ false
not_call (SubroutineCall g) h = absurd (true_false h)
not_call t h = refl

-- a call names a number
pub no_call : (e : Expr) → list_any names_one (exprs e) ≡ false → list_any is_call (nodes (tree_of e)) ≡ false
no_call e none =
    sym (any-nodes is_call e)
    ∙ none_passes (λ x. is_call (tree_of x)) (exprs e) (λ x there. not_call (tree_of x) (any_fails_at names_one (exprs e) x none there))

-- ---- how many there are

pub count_below : (e : Expr) → length (exprs e) ≡ suc (length (exprs_of_each (below e)))
count_below e = ap length (exprs-below e)

pub count_taken : (es : List Expr) (i : ℕ) (e : Expr) → i < length es → e ≡ get_or es i e →
    length (exprs_of_each (take (i + 1) es)) ≡ length (exprs_of_each (take i es)) + length (exprs e)
count_taken es i e h at = ap length (each-taken es i e h at) ∙ length-append (exprs_of_each (take i es)) (exprs e)

count_of_first : (es : List Expr) (n : ℕ) → length (exprs_of_each (take n es)) ≤ length (exprs_of_each es)
count_of_first [] zero = omega arith
count_of_first [] (suc n) = omega arith
count_of_first (x ∷ es) zero = omega arith
count_of_first (x ∷ es) (suc n) =
    omega (arith, length-append (exprs x) (exprs_of_each es), length-append (exprs x) (exprs_of_each (take n es)), count_of_first es n)

pub count_up_to : (es : List Expr) (i : ℕ) (e : Expr) → i < length es → e ≡ get_or es i e →
    length (exprs_of_each (take i es)) + length (exprs e) ≤ length (exprs_of_each es)
count_up_to es i e h at = omega (arith, count_taken es i e h at, count_of_first es (i + 1))

-- ---- against a limit

pub times_within : (limit n r : ℕ) → 0 < n → r ≤ limit / n → n * r ≤ limit
times_within limit n r some le = let h = (le-div_iff_mul-le {k = n} {x = r} {y = limit} some).0 le in omega arith

pub times_over : (limit n r : ℕ) → 0 < n → limit / n < r → limit < n * r
times_over limit n r some lt = ⊎_elim (λ less. less)
    (λ le. let fits = (le-div_iff_mul-le {k = n} {x = r} {y = limit} some).1 (omega arith) in absurd (omega arith))
    (cases_lt limit (n * r))

pub told : {X : Type 0} (o : Option X) (P Q : Type 0) → MatchOption o P (λ x. Q) → (P → Q → ⊥) → IsTrue (is_some o) ↔ Q
told None P Q h against = (λ t. absurd (cc), λ q. absurd (against h q))
told (Some x) P Q h against = (λ t. h, λ q. refl)

-- by whether a number is named, and whether there is a call
pub rounds_by : (e : Expr) (named calls : Bool) → list_any names_one (exprs e) ≡ named → list_any is_call (nodes (tree_of e)) ≡ calls →
    analysis_rounds e
    ≡ (if named then size_rounds (whole_of e) else 0) + (if calls then ending_rounds (whole_of e) (suc (group_count (whole_of e))) else 0)
unfolding analysis_rounds
rounds_by e named calls is are =
    ap₂ (λ n c. (if n then size_rounds (whole_of e) else 0) + (if c then ending_rounds (whole_of e) (suc (group_count (whole_of e))) else 0)) is are

pub sizes_at_most : (whole : Tree) → size_rounds whole ≤ group_count whole
unfolding size_rounds
sizes_at_most whole = counts_most same_sizes (next_round whole) (after_rounds whole 0) (group_count whole)

pub endings_at_most : (whole : Tree) (n : ℕ) → ending_rounds whole n ≤ n
unfolding ending_rounds
endings_at_most whole n = counts_most (pointwise beq) (next_ends whole) _ n

if_most : (b : Bool) (n : ℕ) → (if b then n else 0) ≤ n
if_most true n = omega arith
if_most false n = omega arith

-- no more than groups for sizes, and one more for endings
pub most_rounds : (e : Expr) → analysis_rounds e ≤ 2 * group_count (tree_of e) + 1
unfolding numbered
most_rounds e =
    let n = suc (group_count (whole_of e)) in
    let sizes = if_most (list_any names_one (exprs e)) (size_rounds (whole_of e)) in
    let endings = if_most (list_any is_call (nodes (tree_of e))) (ending_rounds (whole_of e) n) in
    let count = count-numbered NoLook 1 (tree_of e) in
    omega (arith, rounds_by e _ _ refl refl, sizes, endings, sizes_at_most (whole_of e), endings_at_most (whole_of e) n, count)

pub times_none : (n r limit : ℕ) → r ≡ 0 → n * r ≤ limit
times_none n r limit h = let e = ap (λ k. n * k) h in omega arith
