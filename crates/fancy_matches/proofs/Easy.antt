-- Where no limit was asked and the whole tree is easy, no limit is passed.
use Rattle.std.proofs.Common.{◌≡◌, ◌≤◌, ◌<◌, ◌+◌, ◌-◌, ◌*◌, ◌^◌, min, ℕ, zero, suc, Bool, true, false, List, [], ◌∷◌, length, filter, Option, None, Result, Ok, Err, IfErr, IsFalse, refl, sym, ap, ◌∙◌, subst, arith, if◌then◌else◌}
use Rattle.fancy_meaning.specs.Answer.{Search, search_of, starts}
use Rattle.fancy_meaning.specs.Hard.{is_root_hard}
use Rattle.fancy_meaning.specs.Numbers.{usize_max}
use Rattle.fancy_meaning.specs.Options as plain
use Rattle.fancy_meaning.specs.Places.{is_place, places_from, range_from}
use Rattle.fancy_meaning.specs.Premises.{Input, plan}
use Rattle.fancy_meaning.specs.Theorems.{tried}
use Rattle.fancy_expr.specs.declared.error.Error.{Error}
use Rattle.fancy_expr.specs.declared.error.Error.TheVariants as error
use Rattle.fancy_expr.specs.declared.error.RuntimeError.{RuntimeError}
use Rattle.fancy_expr.specs.declared.error.RuntimeError.TheVariants as limit
use Rattle.fancy_vm.specs.Bounds.{IsBelowBound}
use Rattle.fancy_search.specs.Searches.{Bounds, IsCompiledFrom}
use Rattle.fancy_matches.specs.Listing.{backtracks_for, steps_for}
use Rattle.fancy_matches.specs.Matchers.{IsNoLimit, IsNoLimitWhereEasy, IsSame, PromisesSo, compiled_of}
use Rattle.fancy_matches.specs.declared.options.MatcherOptions.{MatcherOptions}
use Rattle.fancy_matches.specs.declared.matcher.Matcher.{Matcher}

-- ---- a text has at most one start more than bytes

few_kept : (p : ℕ → Bool) (is : List ℕ) → length (filter p is) ≤ length is
few_kept p [] = omega arith
few_kept p (i ∷ is) =
    let rest = few_kept p is in
    elim (p i) as (λ v. length (if v then i ∷ filter p is else filter p is) ≤ suc (length is)) [
      | true ↦ omega (arith, rest)
      | false ↦ omega (arith, rest)
    ]

length_of_range : (i n : ℕ) → length (range_from i n) ≡ n
length_of_range i zero = refl
length_of_range i (suc n) = ap suc (length_of_range (suc i) n)

few_places : (text : List ℕ) (i : ℕ) → length (places_from text i) ≤ suc (length text)
unfolding places_from
few_places text i =
    let n = suc (length text) - i in
    let most = few_kept (is_place text) (range_from i n) in
    let range = length_of_range i n in
    omega (arith, most, range)

few_starts : (q : Search) → length (starts q) ≤ suc (length q.text)
few_starts q =
    let all = few_places q.text q.pos in
    elim q.anchored as (λ v. length (if v then q.pos ∷ [] else places_from q.text q.pos) ≤ suc (length q.text)) [
      | true ↦ omega arith
      | false ↦ all
    ]

-- ---- so its limits are high enough

module _ (i : Input) (text : List ℕ) (o : plain.RunOptions) (small : length text < 2 ^ 60)
    (backtracks : o.backtrack_limit ≡ backtracks_for None text) (steps : o.step_limit ≡ steps_for (2 ^ 64 - 1) text) where
  few_tried : tried i text o ≤ suc (length text)
  few_tried = few_starts (search_of (plan i) text o)

  not_below : (l : RuntimeError) → ¬ IsBelowBound i text o l
  not_below limit.BacktrackLimitExceeded below =
      let few = few_tried in
      let enough : o.backtrack_limit ≡ min usize_max (length text + 20_000_001) = backtracks in
      below (omega (arith, few, enough, small))
  not_below limit.StackOverflow below = below
  not_below limit.StepLimitExceeded below =
      let few = few_tried in
      let enough : o.step_limit ≡ min (2 ^ 64 - 1) (length text * 8 + 100_000_008) = steps in
      below (omega (arith, few, enough, small))

  pub no_limit : (e : Error) → IsFalse (is_root_hard (plan i).analysis) → Bounds i text o (Err e) → IsNoLimit e
  no_limit (error.RuntimeError l) easy bounds = not_below l (bounds easy)
  no_limit error.Memory easy bounds = tt
  no_limit (error.CompileError e) easy bounds = tt
  no_limit (error.TreeFault at) easy bounds = tt
  no_limit error.NestLimitExceeded easy bounds = tt

-- ---- a search of a matcher

module _ (r : Matcher) (text : List ℕ) (o : plain.RunOptions)
    (backtracks : o.backtrack_limit ≡ backtracks_for r.options.backtrack_limit text) (steps : o.step_limit ≡ steps_for r.options.run.step_limit text) where
  pub easy_error : (e : Error) → ((i : Input) → IsCompiledFrom i (compiled_of r) → Bounds i text o (Err e)) → IsNoLimitWhereEasy r text e
  easy_error e bounds i from easy none small =
      no_limit i text o small (backtracks ∙ ap (λ asked. backtracks_for asked text) none.0) (steps ∙ ap (λ asked. steps_for asked text) none.1) e easy (bounds i from)

  pub easy_search : {A : Type 0} (Says : Option (List ℕ) → A → Type 0) (result : Result A Error) →
      ((i : Input) → IsCompiledFrom i (compiled_of r) → PromisesSo i text o Says result) → IfErr result (IsNoLimitWhereEasy r text)
  easy_search Says (Ok found) promise = tt
  easy_search Says (Err e) promise = easy_error e (λ i from. (promise i from).1)

-- ---- a matcher of the same tree, with the same options

pub easy_of_same : (r s : Matcher) (text : List ℕ) (e : Error) → IsSame r s → IsNoLimitWhereEasy s text e → IsNoLimitWhereEasy r text e
easy_of_same r s text e same h i from easy none small =
    h i (subst (IsCompiledFrom i) (sym same.0) from) easy
    (ap (λ (o : MatcherOptions). o.backtrack_limit) same.1 ∙ none.0, ap (λ (o : MatcherOptions). o.run.step_limit) same.1 ∙ none.1) small
