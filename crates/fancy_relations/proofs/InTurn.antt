-- The list of all matches: each is what a single search finds after the one before.
use Rattle.std.proofs.Common.{◌≡◌, inl, ⊎_elim, ℕ, zero, suc, ◌-◌, ◌<◌, ◌≤◌, max, Bool, true, false, not, ◌&&◌, ◌==◌, nat_lt, if◌then◌else◌, List, ◌∷◌, length, filter, filter_map, option_map, slice_get, Option, Some, None, refl, sym, ap, ap₂, ◌∙◌, subst, arith, eq-eqb, eqb-true, ne_eqb, le-leb, le-ltb, lt-ltb, true≢false}
use Rattle.regex_hir.specs.Text.{is_none_or, is_some_and}
use Rattle.std.proofs.Math.Path.{fun_ext}
use Rattle.std.proofs.lemmas.Bool.{and_from, and_parts, cases_Bool, cases_lt}
use Rattle.std.proofs.lemmas.Bool.Decides.{eqb_tells}
use Rattle.std.proofs.lemmas.Option.{none-some, same_Some}
use Rattle.fancy_meaning.specs.Answer.{Search, answer, as_numbers, attempt, chosen, is_admitted, search_of, starts}
use Rattle.fancy_meaning.specs.Marks.{is_continue}
use Rattle.fancy_meaning.specs.MatchState.{Ways, first_state}
use Rattle.fancy_meaning.specs.Nodes.{group_count, nodes}
use Rattle.fancy_meaning.specs.OpenCalls.{no_calls}
use Rattle.fancy_meaning.specs.Options.{Plan, RunOptions}
use Rattle.fancy_meaning.specs.Places.{is_place}
use Rattle.fancy_meaning.specs.Premises.{IsText}
use Rattle.fancy_laws.proofs.Every.{Every, every_if, every_one, every_weaker}
use Rattle.fancy_laws.proofs.Moves.{is_place_parts}
use Rattle.fancy_laws.proofs.WaysOf.{every_place_from}
use Rattle.fancy_steps.specs.Outcomes.{first_pair}
use Rattle.fancy_starts.specs.Matches.{Found, has_continue, has_keep_out, match_of}
use Rattle.fancy_starts.specs.Matches as later
use Rattle.fancy_starts.proofs.Firsts.{found_there}
use Rattle.fancy_starts.proofs.Matches.{answer_begins, answer_is, begins, numbers_of}
use Rattle.fancy_starts.proofs.Placeless.{none_passes, placeless}
use Rattle.fancy_matches.specs.Listing.{Cursor, after, at_start, begun_at, found_at, further, is_listed, left, next_pos, options_at}
use Rattle.fancy_matches.proofs.Lists.{finds_listed, finds_passed, found_tells, further_on, goes_on, left_none}
use Rattle.fancy_relations.specs.Lists.{AreInTurn, found_after, found_from, past_empty}

-- ---- without `\G` it is of no account whether a search is continued

same_continued : (q : Search) (continued : Bool) → has_continue q.tree ≡ false → answer (later.begun_at q.pos continued q) ≡ answer q
unfolding answer
same_continued q continued free =
    ap (λ f. option_map (as_numbers (group_count q.tree)) (slice_get (filter_map f (starts q)) 0))
    (fun_ext (λ start.
    ap (λ (w : Ways). chosen q.leftmost_longest (filter (is_admitted q start) (w (first_state start))))
    (sym (placeless q.setting q.pos continued q.tree (none_passes is_continue (nodes q.tree) free) no_calls))))

-- ---- without `\K` a match does not begin before its search

record BeginsPast (pos : ℕ) (m : List ℕ) : Type 0 where
  pub on : pos ≤ (first_pair m).0
  pub in_order : (first_pair m).0 ≤ (first_pair m).1

begins_past : (q : Search) (m : List ℕ) → is_place q.text q.pos ≡ true → has_keep_out q.tree ≡ false → answer q ≡ Some m →
    BeginsPast q.pos m
begins_past q m at free e = go (match_of q) refl
  where
    within : q.pos ≤ length q.text
    within = (is_place_parts q.text q.pos at).0

    all_on : Every (λ i. q.pos ≤ i) (starts q)
    all_on = every_if q.anchored (λ v. every_one (omega arith)) (λ v. every_weaker (λ i h. h.0) (every_place_from q.text q.pos))

    go : (o : Option Found) → match_of q ≡ o → BeginsPast q.pos m
    go None is = absurd (none-some m (sym (sym e ∙ answer_is q ∙ ap (numbers_of q) is)))
    go (Some f) is =
        let known = answer_begins q f (inl within) free is in
        let same : m ≡ f.0 ∷ (f.1).place ∷ known.0 = same_Some _ _ (sym e ∙ known.1) in
        let start : (first_pair m).0 ≡ f.0 = ap (λ l. (first_pair l).0) same in
        let end : (first_pair m).1 ≡ (f.1).place = ap (λ l. (first_pair l).1) same in
        let on = (found_there (attempt q) {P = λ i. q.pos ≤ i} f (starts q) all_on is).0 in
        let forward = (begins q f (inl within) free is).forward in
        record { on = omega (arith, start, on); in_order = omega (arith, start, end, forward) }

-- ---- what is one of the list

no_end : (b : Bool) → not (b && false) ≡ true
no_end true = refl
no_end false = refl

-- if the last match did not end where this one does
listed_past : (s : Cursor) (start end : ℕ) → s.pos ≤ start → is_some_and s.last (λ last. last == end) ≡ false →
    is_listed s (start, end) ≡ true
listed_past s start end on e =
    and_from _ _ (le-leb s.pos start on) (ap (λ b. not ((start == end) && b)) e ∙ no_end (start == end))

-- if the last match ended where the search begins
listed_there : (s : Cursor) (start end : ℕ) → s.pos ≤ start → s.last ≡ Some s.pos →
    is_listed s (start, end) ≡ not (start == s.pos && end == s.pos)
listed_there s start end on e =
    ap₂ (λ a o. a && not (start == end && is_some_and o (λ last. last == end))) (le-leb s.pos start on) e
    ∙ ⊎_elim
    (λ t. ap (λ k. not (start == k && s.pos == k)) t.1 ∙ sym (ap (λ k. not (start == s.pos && k == s.pos)) t.1))
    (λ t.
    ap (λ v. not ((start == end) && v)) (ne_eqb s.pos end (λ same. t.1 (sym same)))
    ∙ no_end (start == end) ∙ sym (ap (λ v. not ((start == s.pos) && v)) t.0 ∙ no_end (start == s.pos)))
    (eqb_tells end s.pos)

-- ---- the list

module _ (p : Plan) (text : List ℕ) (o : RunOptions) (is : IsText text) (no_continue : has_continue (p.analysis).tree ≡ false)
    (no_keep : has_keep_out (p.analysis).tree ≡ false) where
  abbrev single : ℕ → Option (List ℕ)
  single = found_from p text o

  -- a search of the list is a single search
  found_same : (s : Cursor) → found_at p text o s ≡ single s.pos
  found_same s =
      ap (λ a. if is_place text s.pos then a else None)
      (same_continued (search_of p text (begun_at o s.pos)) (is_none_or s.last (λ last. last == s.pos)) no_continue)

  -- what is next from where the list stands: past where the last match ended, or just there
  data Next (s : Cursor) : Option (List ℕ) → Type 0 where
    first : s.last ≡ None → Next s (single s.pos)
    past : (end : ℕ) → s.last ≡ Some end → end < s.pos → Next s (single s.pos)
    there : s.last ≡ Some s.pos → Next s (past_empty p text o s.pos (single s.pos))

  -- after a match of the list
  next_listed : (s : Cursor) (start end : ℕ) → s.pos ≤ start → start ≤ end → is_listed s (start, end) ≡ true →
      Next (after text s (start, end)) (found_after p text o (start, end))
  next_listed s start end on le listed =
      by_tests (nat_lt (max s.pos start) end) (start == end) (is_listed s (start, end)) listed
      (⊎_elim
      (λ lt. lt-ltb (max s.pos start) end (omega (arith, lt, on)) ∙ sym (ap not (ne_eqb start end (λ same. omega (arith, same, lt)))))
      (λ ge. le-ltb (max s.pos start) end (omega (arith, ge)) ∙ sym (ap not (eq-eqb start end (omega (arith, le, ge)))))
      (cases_lt start end))
    where
      by_tests : (moved empty listed : Bool) → listed ≡ true → moved ≡ not empty →
          Next (record { pos = if moved then end else further text end; last = if listed then Some end else s.last })
          (if empty then single (further text end) else past_empty p text o end (single end))
      by_tests true false true e q = there refl
      by_tests false true true e q = past end refl (further_on text end)
      by_tests true true true e q = absurd (true≢false q)
      by_tests false false true e q = absurd (true≢false (sym q))
      by_tests moved empty false e q = absurd (true≢false (sym e))

  -- where nothing is found
  next_none : (s : Cursor) (next : Option (List ℕ)) → Next s next → single s.pos ≡ None → next ≡ None
  next_none s next (first e) none = none
  next_none s next (past end e lt) none = none
  next_none s next (there e) none = ap (past_empty p text o s.pos) none

  -- a match that is found is the next one, or it is empty where the last one ended
  data Step (s : Cursor) (m : List ℕ) (next : Option (List ℕ)) : Type 0 where
    is_next : next ≡ Some m → is_listed s (first_pair m) ≡ true → Step s m next
    is_passed : is_listed s (first_pair m) ≡ false → Next (after text s (first_pair m)) next → Step s m next

  -- an empty match where the last one ended is passed
  passed : (s : Cursor) (start end : ℕ) → s.pos ≤ start → s.last ≡ Some s.pos → (start == s.pos && end == s.pos) ≡ true →
      (is_listed s (start, end) ≡ false) × Next (after text s (start, end)) (single (further text s.pos))
  passed s start end on e empty =
      let same : end ≡ s.pos = eqb-true end s.pos (and_parts (start == s.pos) (end == s.pos) empty).1 in
      let not_listed : is_listed s (start, end) ≡ false = listed_there s start end on e ∙ ap not empty in
      let further_there : next_pos text s (start, end) ≡ further text s.pos =
      ap (λ b. if b then end else further text end) (le-ltb (max s.pos start) end (omega (arith, same))) ∙ ap (further text) same in
      let beyond = further_on text s.pos in (
        not_listed,
        subst (Next (after text s (start, end))) (ap single further_there)
            (past s.pos (ap (λ b. if b then Some end else s.last) not_listed ∙ e) (omega (arith, further_there, beyond))),
      )

  step : (s : Cursor) (m : List ℕ) (next : Option (List ℕ)) → found_at p text o s ≡ Some m → Next s next → Step s m next
  step s m next e n = by_next next n
    where
      there_is : is_place text s.pos ≡ true
      there_is = (found_tells p text o is s m e).0

      on : s.pos ≤ (first_pair m).0
      on = (begins_past (search_of p text (options_at o s)) m there_is no_keep (found_tells p text o is s m e).1).on

      in_order : (first_pair m).0 ≤ (first_pair m).1
      in_order = (begins_past (search_of p text (options_at o s)) m there_is no_keep (found_tells p text o is s m e).1).in_order

      single_is : single s.pos ≡ Some m
      single_is = sym (found_same s) ∙ e

      by_next : (x : Option (List ℕ)) → Next s x → Step s m x
      by_next x (first none) =
          is_next single_is
          (listed_past s (first_pair m).0 (first_pair m).1 on (ap (λ l. is_some_and l (λ last. last == (first_pair m).1)) none))
      by_next x (past end some lt) =
          is_next single_is
          (listed_past s (first_pair m).0 (first_pair m).1 on
          (ap (λ l. is_some_and l (λ last. last == (first_pair m).1)) some
          ∙ ne_eqb end (first_pair m).1 (λ same. omega (arith, same, lt, on, in_order))))
      by_next x (there some) = ⊎_elim
          (λ empty.
          let h = passed s (first_pair m).0 (first_pair m).1 on some empty in
          is_passed h.0
          (subst (Next (after text s (first_pair m)))
          (sym (ap (past_empty p text o s.pos) single_is ∙ ap (λ b. if b then single (further text s.pos) else Some m) empty)) h.1))
          (λ some_taken.
          is_next
          (ap (past_empty p text o s.pos) single_is ∙ ap (λ b. if b then single (further text s.pos) else Some m) some_taken)
          (listed_there s (first_pair m).0 (first_pair m).1 on some ∙ ap not some_taken))
          (cases_Bool ((first_pair m).0 == s.pos && (first_pair m).1 == s.pos))

  abbrev Follows : ℕ → Type 0
  Follows n = (s : Cursor) (next : Option (List ℕ)) → suc (length text) - s.pos ≤ n → Next s next →
      AreInTurn p text o next (left p text o s)

  at_end : (s : Cursor) (next : Option (List ℕ)) → found_at p text o s ≡ None → Next s next →
      AreInTurn p text o next (left p text o s)
  at_end s next e n =
      subst (AreInTurn p text o next) (sym (left_none p text o is s e)) (next_none s next n (sym (found_same s) ∙ e))

  on_match : (n : ℕ) → Follows n → (s : Cursor) (next : Option (List ℕ)) (m : List ℕ) → suc (length text) - s.pos ≤ suc n →
      found_at p text o s ≡ Some m → Step s m next → AreInTurn p text o next (left p text o s)
  on_match n rest s next m enough e (is_next same listed) =
      let q = search_of p text (options_at o s) in
      let t = found_tells p text o is s m e in
      let b = begins_past q m t.0 no_keep t.1 in
      let further_on = goes_on p text o is s m e in
      subst (AreInTurn p text o next) (sym (finds_listed p text o is s t.0 m (sym t.1) listed)) (
        same,
        rest (after text s (first_pair m)) (found_after p text o (first_pair m)) (omega (arith, enough, further_on))
            (next_listed s (first_pair m).0 (first_pair m).1 b.on b.in_order listed),
      )
  on_match n rest s next m enough e (is_passed not_listed on) =
      let t = found_tells p text o is s m e in
      let further_on = goes_on p text o is s m e in
      subst (AreInTurn p text o next) (sym (finds_passed p text o is s t.0 m (sym t.1) not_listed))
      (rest (after text s (first_pair m)) next (omega (arith, enough, further_on)) on)

  in_turn : (n : ℕ) → Follows n
  in_turn zero s next enough n = go (found_at p text o s) refl
    where
      go : (x : Option (List ℕ)) → found_at p text o s ≡ x → AreInTurn p text o next (left p text o s)
      go None e = at_end s next e n
      go (Some m) e =
          let within = (is_place_parts text s.pos (found_tells p text o is s m e).0).0 in absurd (omega (arith, within, enough))
  in_turn (suc k) s next enough n = go (in_turn k) (found_at p text o s) refl
    where
      go : Follows k → (x : Option (List ℕ)) → found_at p text o s ≡ x → AreInTurn p text o next (left p text o s)
      go rest None e = at_end s next e n
      go rest (Some m) e = on_match k rest s next m enough e (step s m next e n)

  pub all_in_turn : AreInTurn p text o (single 0) (left p text o at_start)
  all_in_turn = in_turn (suc (length text)) at_start (single 0) (omega arith) (first refl)
