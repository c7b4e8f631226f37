-- What the next search of a list comes to, by what is promised of it.
use Rattle.std.proofs.Common.{◌≡◌, ℕ, ◌<◌, ◌≤◌, length, arith, true, false, List, [], ◌∷◌, Option, Some, None, Result, Ok, Err, option_map, refl, sym, ap, ◌∙◌, subst}
use Rattle.std.proofs.Math.Logic.{∥∥₁_elim}
use Rattle.std.proofs.lemmas.Option.{none-some, same_Some}
use Rattle.std.specs.Coded.{le_prop}
use Rattle.fancy_meaning.specs.Answer.{answer, search_of}
use Rattle.fancy_meaning.specs.Fits.{run_fits}
use Rattle.fancy_meaning.specs.MatchState.{Span}
use Rattle.fancy_meaning.specs.Options as plain
use Rattle.fancy_meaning.specs.Places.{is_place}
use Rattle.fancy_meaning.specs.Premises.{Input, plan, IsText}
use Rattle.fancy_steps.specs.Outcomes.{first_pair}
use Rattle.fancy_steps.specs.SearchLimits.{StaysWithin, passed_by}
use Rattle.fancy_search.specs.Scratches.{cost_of, limits_of, passed_of}
use Rattle.fancy_steps.specs.Tasks.{options_of as run_options_of, task_of}
use Rattle.fancy_search.specs.declared.scratch.Scratch.{Scratch}
use Rattle.fancy_steps.specs.declared.search_limits.SearchLimits.{SearchLimits}
use Rattle.fancy_steps.specs.declared.options.RunOptions.{RunOptions}
use Rattle.fancy_search.specs.Searches.{HasSource, IsCompiledFrom, program}
use Rattle.fancy_search.specs.declared.search.Compiled.{Compiled}
use Rattle.fancy_expr.specs.declared.error.Error.{Error}
use Rattle.fancy_laws.proofs.Moves.{is_place_parts}
use Rattle.fancy_matches.specs.Listing.{ComesTo, Cursor, after, by_match, ended, is_listed, options_at, options_for, past_match, stays}
use Rattle.fancy_matches.specs.Matchers.{ComesBy, EndsOn, GivesBy, IsNoLimitWhereEasy, IsRegexOf, IsSame, Shows, StepsBy, compiled_of, left_of, options_in}
use Rattle.fancy_matches.specs.declared.options.MatcherOptions.{MatcherOptions}
use Rattle.fancy_matches.specs.declared.matcher.Matcher.{Matcher}
use Rattle.fancy_matches.proofs.Easy.{easy_error}
use Rattle.fancy_matches.proofs.Lists.{comes_left, comes_more, comes_on, ended_at, finds_none, is_found, next_on, no_place_ends}
use Rattle.fancy_matches.proofs.Searching.{fits_at}

-- ---- what is seen of an answer

none_seen : {B : Type 0} (seen : List ℕ → B) (x : Option (List ℕ)) → None ≡ option_map seen x → None ≡ x
none_seen seen None e = refl
none_seen seen (Some m) e = absurd (none-some _ e)

-- the numbers of which this is seen
record IsSeen {B : Type 0} (seen : List ℕ → B) (shown : B) (x : Option (List ℕ)) : Type 0 where
  pub numbers : List ℕ
  pub found : Some numbers ≡ x
  pub shows : shown ≡ seen numbers

some_seen : {B : Type 0} (seen : List ℕ → B) (shown : B) (x : Option (List ℕ)) → Some shown ≡ option_map seen x → IsSeen seen shown x
some_seen seen shown None e = absurd (none-some _ (sym e))
some_seen seen shown (Some m) e = record { numbers = m; found = refl; shows = same_Some shown (seen m) e }

-- ---- a search from where the list of a tree stands, once it came there without a match

module _ {A B : Type 0} (show : A → B) (seen : List ℕ → B)
    (i : Input) (text : List ℕ) (o : plain.RunOptions) (is : IsText text) (from s : Cursor) (at : is_place text s.pos ≡ true)
    (comes : ComesTo (plan i) text o from [] s) where
  abbrev answered : Option (List ℕ)
  answered = answer (search_of (plan i) text (options_at o s))

  none_left : Shows i text (options_at o s) show seen (Ok None) → left_of i text o from ≡ []
  none_left h = comes_left (plan i) text o is comes ∙ finds_none (plan i) text o is s at (none_seen seen answered h.1)

  -- something was found here
  module _ (x : A) (span : Span) (spans : (numbers : List ℕ) → show x ≡ seen numbers → span ≡ first_pair numbers)
      (h : Shows i text (options_at o s) show seen (Ok (Some x))) where
    sees : IsSeen seen (show x) answered
    sees = some_seen seen (show x) answered h.1

    pair : span ≡ first_pair sees.numbers
    pair = spans sees.numbers sees.shows

    by_this : is_listed s span ≡ true → ComesTo (plan i) text o from (sees.numbers ∷ []) (after text s span)
    by_this so =
        subst (λ p. ComesTo (plan i) text o from (sees.numbers ∷ []) (after text s p)) (sym pair)
        (comes_more (plan i) text o comes
        (by_match s sees.numbers (is_found (plan i) text o is s at sees.numbers sees.found) (subst (λ p. is_listed s p ≡ true) pair so) stays))

    comes_by : is_listed s span ≡ true → ComesBy i text o seen from (show x) (after text s span)
    comes_by so = record {
      numbers = sees.numbers;
      shows = sees.shows;
      comes = by_this so;
      left = comes_left (plan i) text o is (by_this so);
    }

    comes_past : is_listed s span ≡ false → ComesTo (plan i) text o from [] (after text s span)
    comes_past so =
        subst (λ p. ComesTo (plan i) text o from [] (after text s p)) (sym pair)
        (comes_more (plan i) text o comes
        (past_match s sees.numbers (is_found (plan i) text o is s at sees.numbers sees.found) (subst (λ p. is_listed s p ≡ false) pair so) stays))

-- ---- a step of the loop over searches

-- the list of a compiled tree came without a match from one cursor to another
pub record GoesOn (c : Compiled) (text : List ℕ) (o : plain.RunOptions) (from to : Cursor) : Type 0 where
  pub on : from.pos ≤ to.pos
  pub comes : (i : Input) → IsCompiledFrom i c → ComesTo (plan i) text o from [] to

pub at_first : (c : Compiled) (text : List ℕ) (o : plain.RunOptions) (s : Cursor) → GoesOn c text o s s
at_first c text o s = record { on = omega arith; comes = λ i from. stays }

-- a list stands here at a place, and its next search is made with the options that it is to have
module _ (c : Compiled) (text : List ℕ) (is : IsText text) (base here : RunOptions) (from s : Cursor) (at : is_place text s.pos ≡ true)
    (options : run_options_of here ≡ options_at (run_options_of base) s) where
  pub search_fits : run_fits (task_of (program c) [] base) ≡ true → run_fits (task_of (program c) text here) ≡ true
  search_fits fits =
      fits_at (program c) base here text fits
      (subst (λ pos. is_place text pos ≡ true) (sym (ap (λ q. q.pos) options)) at)
      (ap (λ q. q.not_empty) options) (ap (λ q. q.leftmost_longest) options)

  -- where this was found, the next search begins further on
  pub found_further : (span : Span) → EndsOn text here.pos span → s.pos < (after text s span).pos
  found_further span on = next_on text s span (subst (λ n. n ≤ span.1) (ap (λ o. o.pos) options) on.0)

  -- once it goes past what was found, the list stands further on
  pub passed_on : (span : Span) → EndsOn text here.pos span → (t : Cursor) → t ≡ after text s span → (s.pos < t.pos) × (s.pos ≤ length text)
  passed_on span on t to =
      let further = found_further span on in
      let moved = ap (λ u. u.pos) to in
      (omega (arith, moved, further), (is_place_parts text s.pos at).0)

  module _ (goes : GoesOn c text (run_options_of base) from s) {A B : Type 0} (show : A → B) (seen : List ℕ → B)
      (result : Result (Option A) Error) (promise : (i : Input) → IsCompiledFrom i c → Shows i text (run_options_of here) show seen result) where
    abbrev o : plain.RunOptions
    o = run_options_of base

    found_so : (r : Result (Option A) Error) → result ≡ r → (i : Input) → IsCompiledFrom i c → Shows i text (options_at o s) show seen r
    found_so r was i of = subst (λ q. Shows i text q show seen r) options (subst (Shows i text (run_options_of here) show seen) was (promise i of))

    -- nothing was found, and the list ends
    pub search_none : result ≡ Ok None → (i : Input) → IsCompiledFrom i c → StepsBy i text o show seen from (Ok None) (ended s)
    search_none was i of = (
      none_left show seen i text o is from s at (goes.comes i of) (found_so (Ok None) was i of),
      no_place_ends (plan i) text o is (ended s) is.fits,
    )

    pub search_error : (e : Error) → result ≡ Err e → (i : Input) → IsCompiledFrom i c → StepsBy i text o show seen from (Err e) s
    search_error e was i of =
        let h = found_so (Err e) was i of in (goes.comes i of, record { place = at; promise = h.0; bounds = h.1 })

    -- something was found here
    module _ (x : A) (span : Span) (spans : (numbers : List ℕ) → show x ≡ seen numbers → span ≡ first_pair numbers) (was : result ≡ Ok (Some x)) where
      -- a match of the list
      pub search_listed : is_listed s span ≡ true → (i : Input) → IsCompiledFrom i c →
          StepsBy i text o show seen from (Ok (Some x)) (after text s span)
      search_listed so i of =
          comes_by show seen i text o is from s at (goes.comes i of) x span spans (found_so (Ok (Some x)) was i of) so

      -- a match that is passed over
      pub search_past : is_listed s span ≡ false → s.pos < (after text s span).pos → GoesOn c text o from (after text s span)
      search_past so further = record {
        on = let on = goes.on in omega (arith, on, further);
        comes = λ i of.
            comes_past show seen i text o is from s at (goes.comes i of) x span spans (found_so (Ok (Some x)) was i of) so;
      }

-- none is left where the list stands at no place
pub none_at_end : {A B : Type 0} (show : A → B) (seen : List ℕ → B) (c : Compiled) (text : List ℕ) (is : IsText text) (o : plain.RunOptions)
    (from to : Cursor) → GoesOn c text o from to → is_place text to.pos ≡ false → (i : Input) → IsCompiledFrom i c →
    StepsBy i text o show seen from (Ok None) to
none_at_end show seen c text is o from to goes no_place i of =
    let none = ended_at (plan i) text o is to no_place in (comes_left (plan i) text o is (goes.comes i of) ∙ none, none)

-- ---- a step of a matcher

pub of_same : (r s : Matcher) (i : Input) (text : List ℕ) (o : plain.RunOptions) → IsSame r s → IsRegexOf i text o r → IsRegexOf i text o s
of_same r s i text o same h = record {
  compiled = subst (IsCompiledFrom i) (sym same.0) h.compiled;
  options = ap (λ (a : MatcherOptions). options_for (run_options_of a.run) a.backtrack_limit text) same.1 ∙ h.options;
}

pub same_twice : (r s t : Matcher) → IsSame r s → IsSame s t → IsSame r t
same_twice r s t a b = (b.0 ∙ a.0, b.1 ∙ a.1)

-- what its searches for the next match came to
module _ {A B : Type 0} (show : A → B) (seen : List ℕ → B) (r : Matcher) (text : List ℕ) (is : IsText text) (here : plain.RunOptions)
    (asked : here ≡ options_in r text) (from to : Cursor) (result : Result (Option A) Error) (k : Compiled) (this : k ≡ compiled_of r)
    (steps : (i : Input) → IsCompiledFrom i k → StepsBy i text here show seen from result to) where
  steps_of : (i : Input) → IsCompiledFrom i (compiled_of r) → StepsBy i text here show seen from result to
  steps_of i of = steps i (subst (IsCompiledFrom i) (sym this) of)

  steps_so : (x : Result (Option A) Error) → result ≡ x → (i : Input) (o : plain.RunOptions) → IsRegexOf i text o r →
      StepsBy i text o show seen from x to
  steps_so x was i o h =
      subst (λ q. StepsBy i text q show seen from x to) (asked ∙ h.options)
      (subst (λ y. StepsBy i text here show seen from y to) was (steps_of i h.compiled))

  pub gives_none : result ≡ Ok None → (i : Input) (o : plain.RunOptions) → IsRegexOf i text o r → GivesBy i text o show seen from None to
  gives_none was i o h = steps_so (Ok None) was i o h

  pub gives_some : (x : A) → result ≡ Ok (Some x) → (i : Input) (o : plain.RunOptions) → IsRegexOf i text o r →
      GivesBy i text o show seen from (Some (Ok x)) to
  gives_some x was i o h = steps_so (Ok (Some x)) was i o h

  pub gives_error : (e : Error) → result ≡ Err e → (i : Input) (o : plain.RunOptions) → IsRegexOf i text o r →
      GivesBy i text o show seen from (Some (Err e)) (ended to)
  gives_error e was i o h =
      let s = steps_so (Err e) was i o h in
      (record { cursor = to; comes = s.0; fails = s.1 }, no_place_ends (plan i) text o is (ended to) is.fits)

  pub error_within : HasSource (compiled_of r) → (e : Error) → result ≡ Err e → from.pos ≤ length text
  error_within source e was =
      ∥∥₁_elim source le_prop (λ of.
      let s = steps_so (Err e) was of.0 (options_in r text) (record { compiled = of.1; options = refl }) in
      let on = comes_on (plan of.0) text (options_in r text) is s.0 in
      let within = (is_place_parts text to.pos (s.1).place).0 in
      omega (arith, on, within))

  pub easy_step : (e : Error) → result ≡ Err e → IsNoLimitWhereEasy r text e
  easy_step e was =
      easy_error r text (options_at here to) (ap (λ o. o.backtrack_limit) asked) (ap (λ o. o.step_limit) asked) e
      (λ i of. (subst (λ x. StepsBy i text here show seen from x to) was (steps_of i of)).1.bounds)

-- ---- the limits of the delegates

-- which are those of the scratch
pub stays_limited : {A : Type 0} (result : Result A Error) (s : Scratch) (l : SearchLimits) → limits_of s ≡ l → StaysWithin result (passed_of s) →
    StaysWithin result (passed_by l (cost_of s))
stays_limited result s l same h = subst (λ l. StaysWithin result (passed_by l (cost_of s))) same h
