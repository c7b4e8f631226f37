-- The searches for a rule in a scan from left to right begin one past the other.
use Rattle.std.proofs.Common.{◌≡◌, ℕ, ◌<◌, ◌≤◌, Bool, true, false, ◌&&◌, ◌==◌, List, [], ◌∷◌, inr, length, map, sum_by, Option, Some, None, option_map, nat_le, nat_lt, if◌then◌else◌, refl, sym, ap, ◌∙◌, subst, arith, length-append, ⊎_elim}
use Rattle.std.proofs.lemmas.Bool.{cases_lt, eq-eqb, lt-ltb, or_parts, true≢false}
use Rattle.std.proofs.lemmas.Bool.Decides.{nat_tests}
use Rattle.fancy_meaning.specs.Places.{places_from}
use Rattle.fancy_meaning.specs.Premises.{plan}
use Rattle.fancy_steps.specs.Outcomes.{first_pair}
use Rattle.fancy_starts.specs.Matches.{Found, match_of}
use Rattle.fancy_starts.proofs.LaterStarts.{places_before}
use Rattle.fancy_starts.proofs.Matches.{match_of_answer}
use Rattle.fancy_bounds.specs.StartsBegun.{begun}
use Rattle.fancy_bounds.specs.Successive.{AreFurtherOn}
use Rattle.fancy_bounds.proofs.Successive.{starts_further_on}
use Rattle.fancy_scanner.specs.Reuse.{MatchesLast, holds_at, is_anchored, lasts_to}
use Rattle.fancy_scanner.specs.Scanning.{Rule, answer_from}
use Rattle.fancy_scanner.specs.Searched.{GoOn, LastsWithoutMatch, search_from, searched, start_from, NoSearchAfterNone, StartsOfScan}
use Rattle.fancy_scanner.specs.declared.reuse.Reuse.{Reuse}
use Rattle.fancy_scanner.specs.declared.reuse.Reuse.TheVariants as lasts
use Rattle.fancy_scanner.proofs.Holding.{has_first}

-- a later list of places goes on from an earlier place too
go_on : (from pos : ℕ) (places : List ℕ) → from ≤ pos → GoOn pos places → GoOn from places
go_on from pos [] le h = tt
go_on from pos (i ∷ places) le h = (let at = h.0 in omega (arith, le, at), h.1)

not_le : (pos start : ℕ) → nat_le pos start ≡ false → start < pos
not_le pos start e = grind (arith, nat_tests)

-- where an answer from one place does not hold at a later one, that is further on, and it does not last to there
record Ends (reuse : Reuse) (from : ℕ) (start : Option ℕ) (pos : ℕ) : Type 0 where
  further : from < pos
  ends : lasts_to reuse start pos ≡ false

ends : (reuse : Reuse) (from : ℕ) (start : Option ℕ) (pos : ℕ) → from ≤ pos → holds_at reuse from start pos ≡ false →
    Ends reuse from start pos
ends reuse from start pos le e =
    let parts = or_parts (from == pos) (nat_lt from pos && lasts_to reuse start pos) e in
    ⊎_elim
    (λ (lt : from < pos). record {
      further = lt;
      ends = sym (ap (λ b. b && lasts_to reuse start pos) (lt-ltb from pos lt)) ∙ parts.1;
    })
    (λ (ge : pos ≤ from).
    let same : from ≡ pos = omega (arith, le, ge) in
    absurd (true≢false (sym (eq-eqb from pos same) ∙ parts.0)))
    (cases_lt from pos)

module _ (text : List ℕ) (r : Rule) where
  to_later : (l : Reuse) → LastsWithoutMatch l → (pos : ℕ) → lasts_to l None pos ≡ true
  to_later lasts.Nothing still pos = absurd still
  to_later lasts.NoMatch still pos = refl
  to_later lasts.Matches still pos = refl

  none_again : (reuse : Reuse) (from : ℕ) (places : List ℕ) → LastsWithoutMatch reuse → GoOn from places →
      answer_from text from r ≡ None → searched text r reuse (Some from) places ≡ []
  none_again reuse from [] still h e = refl
  none_again reuse from (pos ∷ places) still h e =
      by_test (none_again reuse from places still (go_on from pos places h.0 h.1) e) (holds_at reuse from (start_from text r from) pos) refl
    where
      start : start_from text r from ≡ None
      start = ap (option_map (λ numbers. (first_pair numbers).0)) e

      by_test : searched text r reuse (Some from) places ≡ [] → (b : Bool) → holds_at reuse from (start_from text r from) pos ≡ b →
          (if holds_at reuse from (start_from text r from) pos then searched text r reuse (Some from) places
          else pos ∷ searched text r reuse (Some pos) places)
          ≡ []
      by_test rest true is =
          ap (λ b. if b then searched text r reuse (Some from) places else pos ∷ searched text r reuse (Some pos) places) is ∙ rest
      by_test rest false is =
          let past = ends reuse from (start_from text r from) pos h.0 is in
          absurd (true≢false (sym (to_later reuse still pos) ∙ sym (ap (λ s. lasts_to reuse s pos) start) ∙ past.ends))

  module _ (last : MatchesLast (is_anchored (plan r.input) r.options) (plan r.input).analysis.tree) where
    -- the match before begins before the place of the next search
    match_before : (from pos : ℕ) → Ends lasts.Matches from (start_from text r from) pos →
        (m : Found) × (match_of (search_from text r from) ≡ Some m) × (m.0 < pos)
    match_before from pos h = go (answer_from text from r) refl h.ends
      where
        go : (a : Option (List ℕ)) → answer_from text from r ≡ a →
            lasts_to lasts.Matches (option_map (λ numbers. (first_pair numbers).0) a) pos ≡ false →
            (m : Found) × (match_of (search_from text r from) ≡ Some m) × (m.0 < pos)
        go None e past = absurd (true≢false past)
        go (Some numbers) e past =
            let f = has_first (search_from text r from) numbers e in
            let m =
            match_of_answer (search_from text r from) (inr (last.no_match).all_starts) last.no_keep_out f.first f.rest (e ∙ ap Some f.all) in
            let start = ap (λ l. (first_pair l).0) f.all in
            let tried = m.2 in
            let before : (first_pair numbers).0 < pos = not_le pos (first_pair numbers).0 past in
            (m.0, m.1, omega (arith, start, tried, before))

    further_on : (from : ℕ) (places : List ℕ) → GoOn from places →
        AreFurtherOn (search_from text r from) (map (search_from text r) (searched text r lasts.Matches (Some from) places))
    further_on from [] h = tt
    further_on from (pos ∷ places) h =
        by_test (further_on from places (go_on from pos places h.0 h.1)) (further_on pos places h.1)
        (holds_at lasts.Matches from (start_from text r from) pos) refl
      where
        by_test :
            AreFurtherOn (search_from text r from) (map (search_from text r) (searched text r lasts.Matches (Some from) places)) →
            AreFurtherOn (search_from text r pos) (map (search_from text r) (searched text r lasts.Matches (Some pos) places)) →
            (b : Bool) → holds_at lasts.Matches from (start_from text r from) pos ≡ b →
            AreFurtherOn (search_from text r from)
            (map (search_from text r)
            (if holds_at lasts.Matches from (start_from text r from) pos then searched text r lasts.Matches (Some from) places
            else pos ∷ searched text r lasts.Matches (Some pos) places))
        by_test kept anew true is =
            subst
            (λ b. AreFurtherOn (search_from text r from)
            (map (search_from text r)
            (if b then searched text r lasts.Matches (Some from) places else pos ∷ searched text r lasts.Matches (Some pos) places)))
            (sym is) kept
        by_test kept anew false is =
            let m = match_before from pos (ends lasts.Matches from (start_from text r from) pos h.0 is) in
            subst
            (λ b. AreFurtherOn (search_from text r from)
            (map (search_from text r)
            (if b then searched text r lasts.Matches (Some from) places else pos ∷ searched text r lasts.Matches (Some pos) places)))
            (sym is)
            (m.0, record { found = m.1; text = refl; not_anchored = (last.no_match).all_starts }, m.2, anew)

    starts : (places : List ℕ) → GoOn 0 places →
        sum_by begun (map (search_from text r) (searched text r lasts.Matches None places)) ≤ length (places_from text 0)
    starts [] h = omega arith
    starts (pos ∷ places) h =
        let all = places_before text 0 pos h.0 in
        let count = ap length all.all in
        let most =
        starts_further_on (search_from text r pos)
        (map (search_from text r) (searched text r lasts.Matches (Some pos) places)) (last.no_match).all_starts (further_on pos places h.1) in
        omega (arith, most, count, length-append all.starts (places_from text pos))

pub no_search_after_none : NoSearchAfterNone
no_search_after_none text r reuse from places lasts h e = none_again text r reuse from places lasts h e

pub starts_of_scan : StartsOfScan
starts_of_scan text r places last h = starts text r last places h
