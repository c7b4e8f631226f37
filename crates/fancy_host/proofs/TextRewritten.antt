-- A text is rewritten match by match.
use Rattle.std.proofs.Common.{◌≡◌, ◌≤◌, ◌<◌, ◌-◌, ◌==◌, ℕ, suc, Bool, true, false, List, [], ◌∷◌, ◌++◌, drop, length, map, take, Option, Some, None, Result, Ok, Err, slice_range, if◌then◌else◌, refl, sym, ap, ap₂, ◌∙◌, subst, arith, append_assoc, append-nil, length-append, ◌+◌}
use Rattle.std.proofs.Math.Logic.{∥∥₁_elim}
use Rattle.std.proofs.Math.Seq.{take-nil}
use Rattle.std.proofs.Props.{props}
use Rattle.std.specs.Coded.{le_prop}
use Rattle.std.proofs.lemmas.List.{length-drop, take_all}
use Rattle.std.proofs.lemmas.Str.{IsCharBoundary-start}
use Rattle.fancy_meaning.specs.Numbers.{usize_max}
use Rattle.fancy_meaning.specs.Options.{RunOptions}
use Rattle.fancy_meaning.specs.Places.{is_place}
use Rattle.fancy_meaning.specs.Premises.{Input, IsText, plan}
use Rattle.fancy_laws.proofs.Characters.{place_of_cut}
use Rattle.fancy_expr.specs.declared.error.Error.{Error}
use Rattle.fancy_search.specs.declared.search.Compiled.{Compiled}
use Rattle.fancy_search.specs.Searches.{HasSource, IsCompiledFrom}
use Rattle.fancy_steps.specs.Outcomes.{first_pair}
use Rattle.fancy_matches.specs.Listing.{ComesTo, Cursor, all_matches, at_start, in_turn, left, stays}
use Rattle.fancy_matches.specs.Matchers.{StepsBy, captures_text, numbers_in, shown_captures, with_numbers}
use Rattle.fancy_matches.specs.declared.found.Captures.{Captures}
use Rattle.fancy_matches.proofs.Lists.{all_most, comes_more}
use Rattle.fancy_replace.specs.Pieces.{IsBelow, as_limit, pieces_between, rewrite, take_limit}
use Rattle.fancy_replace.specs.Replacements.{FailsAfter, to_replace}
use Rattle.fancy_replace.specs.Steps.{AreAhead}
use Rattle.fancy_replace.proofs.Cutting.{all_ahead}
use Rattle.fancy_host.specs.Rewritten.{IsRewritten, most_of}

-- pieces and what is written in turn, from where a text was gone through to
abbrev rest_rewrite : (List ℕ → List ℕ) → List ℕ → ℕ → List (List ℕ) → List ℕ
rest_rewrite write text from ms = in_turn (pieces_between text from ms) (map write ms)

-- the rest of a text, from there to its end
pub rest_is : (text : List ℕ) (n : ℕ) → drop n text ≡ slice_range text n (length text)
rest_is text n = let long = length-drop n text in sym (take_all (length text - n) (drop n text) (omega (arith, long)))

-- ---- the limit

take_most : (b : Bool) (limit : ℕ) (ms : List (List ℕ)) → length ms ≤ usize_max →
    take (if b then usize_max else limit) ms ≡ take_limit (if b then None else Some limit) ms
take_most true limit ms fits = take_all usize_max ms fits
take_most false limit ms fits = refl

below_most : (b : Bool) (limit n : ℕ) → n < (if b then usize_max else limit) → IsBelow (if b then None else Some limit) n
below_most true limit n lt = tt
below_most false limit n lt = lt

-- ---- steps of the loop

module _ (c : Compiled) (text : List ℕ) (o : RunOptions) (limit : ℕ) (write : List ℕ → List ℕ → List ℕ) where
  -- so many of the matches to be replaced were gone through, and what was written goes on to the whole
  pub record IsDone (i : Input) (n : ℕ) (at : Cursor) (from : ℕ) (out : List ℕ) : Type 0 where
    pub gone : List (List ℕ)
    pub counts : length gone ≡ n
    pub comes : ComesTo (plan i) text o at_start gone at
    pub value : out ++ rest_rewrite (write text) text from (take (most_of limit - n) (left (plan i) text o at))
        ≡ rewrite (write text) text (take (most_of limit) (all_matches (plan i) text o))

  -- and what is left lies ahead
  pub record GoesOn (n : ℕ) (at : Cursor) (from : ℕ) (out : List ℕ) : Type 0 where
    pub place : is_place text from ≡ true
    pub ahead : (i : Input) → IsCompiledFrom i c → AreAhead text from (map first_pair (left (plan i) text o at))
    pub done : (i : Input) → IsCompiledFrom i c → IsDone i n at from out

  module _ (is : IsText text) where
    whole : (i : Input) → take (most_of limit) (all_matches (plan i) text o) ≡ to_replace i o text (as_limit limit)
    whole i =
        let most = all_most (plan i) text o is in
        let fits = is.fits in
        take_most (limit == 0) limit (all_matches (plan i) text o) (omega (arith, most, fits))

    pub at_first : (out : List ℕ) → out ≡ [] → (at : Cursor) → at ≡ at_start → GoesOn 0 at 0 out
    at_first out none at first = record {
      place = place_of_cut text 0 (IsCharBoundary-start text is.utf8);
      ahead = λ i h. subst (λ s. AreAhead text 0 (map first_pair (left (plan i) text o s))) (sym first) (all_ahead i text o is);
      done = λ i h. record {
        gone = [];
        counts = refl;
        comes = subst (λ s. ComesTo (plan i) text o at_start [] s) (sym first) stays;
        value =
            ap₂ (λ (x : List ℕ) s. x ++ rest_rewrite (write text) text 0 (take (most_of limit - 0) (left (plan i) text o s))) none first
            ∙ ap (λ k. rest_rewrite (write text) text 0 (take k (all_matches (plan i) text o))) (omega arith);
      };
    }

    module _ (source : HasSource c) (n : ℕ) (at to : Cursor) (from : ℕ) (out : List ℕ) (goes : GoesOn n at from out)
        (result : Result (Option Captures) Error)
        (steps : (i : Input) → IsCompiledFrom i c → StepsBy i text o shown_captures (with_numbers text) at result to) where
      steps_so : (r : Result (Option Captures) Error) → result ≡ r → (i : Input) → IsCompiledFrom i c →
          StepsBy i text o shown_captures (with_numbers text) at r to
      steps_so r was i h = subst (λ x. StepsBy i text o shown_captures (with_numbers text) at x to) was (steps i h)

      -- nothing is left where none is, or where the limit is reached
      ends : (i : Input) → IsCompiledFrom i c → take (most_of limit - n) (left (plan i) text o at) ≡ [] → (new rest : List ℕ) → new ≡ out ++ rest →
          rest ≡ slice_range text from (length text) → new ≡ rewrite (write text) text (to_replace i o text (as_limit limit))
      ends i h none new rest is_so tail =
          is_so ∙ ap (λ r. out ++ r) (tail ∙ sym (append-nil (slice_range text from (length text))))
          ∙ ap (λ ms. out ++ rest_rewrite (write text) text from ms) (sym none) ∙ (goes.done i h).value
          ∙ ap (rewrite (write text) text) (whole i)

      pub ends_by_none : result ≡ Ok None → (new rest : List ℕ) → new ≡ out ++ rest → rest ≡ slice_range text from (length text) →
          IsRewritten c text o (as_limit limit) write new
      ends_by_none was new rest is_so tail i h =
          ends i h (ap (take (most_of limit - n)) (steps_so (Ok None) was i h).0 ∙ take-nil (most_of limit - n)) new rest is_so tail

      pub fails_by : (e : Error) → result ≡ Err e → n < most_of limit → (i : Input) → IsCompiledFrom i c → FailsAfter i o text (as_limit limit) e
      fails_by e was below i h =
          let d = goes.done i h in
          let s = steps_so (Err e) was i h in
          record {
            gone = d.gone;
            below = below_most (limit == 0) limit (length d.gone) (let counts = d.counts in omega (arith, counts, below));
            cursor = to;
            comes = subst (λ ms. ComesTo (plan i) text o at_start ms to) (append-nil d.gone) (comes_more (plan i) text o d.comes s.0);
            fails = s.1;
          }

      -- a match was found
      module _ (x : Captures) (was : result ≡ Ok (Some x)) where
        numbers_are : (i : Input) (h : IsCompiledFrom i c) → (steps_so (Ok (Some x)) was i h).numbers ≡ numbers_in x
        numbers_are i h = sym (ap (λ (p : List ℕ × List ℕ). p.1) (steps_so (Ok (Some x)) was i h).shows)

        next_is : (i : Input) → IsCompiledFrom i c → left (plan i) text o at ≡ numbers_in x ∷ left (plan i) text o to
        next_is i h = (steps_so (Ok (Some x)) was i h).left ∙ ap (λ m. m ∷ left (plan i) text o to) (numbers_are i h)

        next_comes : (i : Input) → IsCompiledFrom i c → ComesTo (plan i) text o at (numbers_in x ∷ []) to
        next_comes i h = subst (λ m. ComesTo (plan i) text o at (m ∷ []) to) (numbers_are i h) (steps_so (Ok (Some x)) was i h).comes

        parts : (i : Input) → IsCompiledFrom i c →
            AreAhead text from (first_pair (numbers_in x) ∷ map first_pair (left (plan i) text o to))
        parts i h = subst (λ ms. AreAhead text from (map first_pair ms)) (next_is i h) (goes.ahead i h)

        pub text_is : captures_text x ≡ text
        text_is = ∥∥₁_elim source (Prim.hlevel props) (λ i. ap (λ (p : List ℕ × List ℕ). p.0) (steps_so (Ok (Some x)) was i.0 i.1).shows)

        pub next_begins : from ≤ (first_pair (numbers_in x)).0
        next_begins = ∥∥₁_elim source le_prop (λ i. (parts i.0 i.1).0)

        pub next_starts_at_place : is_place text (first_pair (numbers_in x)).0 ≡ true
        next_starts_at_place = ∥∥₁_elim source (Prim.hlevel props) (λ i. (parts i.0 i.1).1.0.from)

        next_ends_at_place : is_place text (first_pair (numbers_in x)).1 ≡ true
        next_ends_at_place = ∥∥₁_elim source (Prim.hlevel props) (λ i. (parts i.0 i.1).1.0.to)

        value_more : (i : Input) (h : IsCompiledFrom i c) → n < most_of limit → (piece more : List ℕ) →
            piece ≡ slice_range text from (first_pair (numbers_in x)).0 → more ≡ out ++ (piece ++ write (captures_text x) (numbers_in x)) →
            more ++ rest_rewrite (write text) text (first_pair (numbers_in x)).1 (take (most_of limit - suc n) (left (plan i) text o to))
            ≡ rewrite (write text) text (take (most_of limit) (all_matches (plan i) text o))
        value_more i h below piece more piece_is is_so =
            let m = numbers_in x in
            let k = most_of limit - suc n in
            let rest = rest_rewrite (write text) text (first_pair m).1 (take k (left (plan i) text o to)) in
            let before = slice_range text from (first_pair m).0 in
            let step : most_of limit - n ≡ suc k = omega (arith, below) in
            ap (λ ys. ys ++ rest) (is_so ∙ ap₂ (λ p t. out ++ (p ++ write t m)) piece_is text_is)
            ∙ append_assoc out (before ++ write text m) rest
            ∙ ap (λ ys. out ++ ys) (append_assoc before (write text m) rest)
            ∙ ap₂ (λ j ms. out ++ rest_rewrite (write text) text from (take j ms)) (sym step) (sym (next_is i h))
            ∙ (goes.done i h).value

        pub goes_further : n < most_of limit → (piece more : List ℕ) (end : ℕ) → end ≡ (first_pair (numbers_in x)).1 →
            piece ≡ slice_range text from (first_pair (numbers_in x)).0 → more ≡ out ++ (piece ++ write (captures_text x) (numbers_in x)) →
            GoesOn (n + 1) to end more
        goes_further below piece more end ends_there piece_is is_so = record {
          place = subst (λ k. is_place text k ≡ true) (sym ends_there) next_ends_at_place;
          ahead = λ i h. subst (λ k. AreAhead text k (map first_pair (left (plan i) text o to))) (sym ends_there) (parts i h).1.1;
          done = λ i h.
              let d = goes.done i h in
              let one : n + 1 ≡ suc n = omega arith in
              record {
                gone = d.gone ++ numbers_in x ∷ [];
                counts = let counts = d.counts in omega (arith, counts, length-append d.gone (numbers_in x ∷ []));
                comes = comes_more (plan i) text o d.comes (next_comes i h);
                value =
                    ap₂ (λ k j. more ++ rest_rewrite (write text) text k (take (most_of limit - j) (left (plan i) text o to))) ends_there one
                    ∙ value_more i h below piece more piece_is is_so;
              };
        }

    pub ends_by_limit : (at : Cursor) (from : ℕ) (out : List ℕ) → GoesOn (most_of limit) at from out → (new rest : List ℕ) →
        new ≡ out ++ rest → rest ≡ slice_range text from (length text) → IsRewritten c text o (as_limit limit) write new
    ends_by_limit at from out goes new rest is_so tail i h =
        let none : most_of limit - most_of limit ≡ 0 = omega arith in
        is_so ∙ ap (λ r. out ++ r) (tail ∙ sym (append-nil (slice_range text from (length text))))
        ∙ ap (λ k. out ++ rest_rewrite (write text) text from (take k (left (plan i) text o at))) (sym none)
        ∙ (goes.done i h).value ∙ ap (rewrite (write text) text) (whole i)
