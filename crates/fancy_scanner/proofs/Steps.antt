-- A scan goes from the last tree to the first.
use Rattle.std.proofs.Common.{◌≡◌, ◌≢◌, ◌⊎◌, inl, inr, ℕ, suc, ◌-◌, ◌<◌, ◌≤◌, Bool, true, false, List, [], ◌∷◌, length, Option, Some, None, IfSome, if◌then◌else◌, nat_lt, option_map, Result, Ok, Err, IfOk, refl, sym, ap, ap₂, ◌∙◌, subst, arith}
use Rattle.std.specs.Prelude.{option_and_then}
use Rattle.std.proofs.lemmas.Option.{none-some, same_Some}
use Rattle.fancy_expr.specs.declared.error.Error.{Error}
use Rattle.fancy_expr.specs.declared.error.Error.TheVariants as error
use Rattle.fancy_meaning.specs.MatchState.{Span}
use Rattle.fancy_matches.specs.Listing.{begun_at}
use Rattle.fancy_matches.specs.Matchers.{FindsCaptures, captures_text, numbers_in, shown_match, span_of}
use Rattle.fancy_matches.specs.declared.found.Captures.{Captures}
use Rattle.fancy_matches.specs.declared.found.Match.{Match}
use Rattle.fancy_scanner.specs.Kept.{found_in, kept_captures, shown_whole}
use Rattle.fancy_scanner.specs.Scanning.{AreTreesOf, FailsForOne, IsRuleAt, MayFail, MayPass, Rule, RuleMatch, earlier, error_of, here, in_text, match_view, search_limit, start_of, stopped_view, trees_of}
use Rattle.fancy_scanner.specs.Limits.{passed_at, passed_from}
use Rattle.fancy_scanner.specs.Scans.{GoesOn, HasRoom, IsScanOf, IsWholeIn, KeepsHeld, KeepsOthers, answers_of, captures_result, earlier_match, found_match, is_held, scan_match, text_of}
use Rattle.fancy_scanner.specs.declared.answers.Answer.{Answer}
use Rattle.fancy_scanner.specs.declared.scan_limit.ScanLimit.{ScanLimit}
use Rattle.fancy_scanner.specs.declared.scan_text.TreeScan.{TreeScan}
use Rattle.fancy_scanner.specs.declared.scan_text.TreeMatch.{TreeMatch}
use Rattle.fancy_scanner.specs.declared.scanner.ScanMatch.{ScanMatch}
use Rattle.fancy_scanner.specs.declared.scanner.ScanTree.{ScanTree}
use Rattle.fancy_scanner.specs.declared.scanner.Stopped.{Stopped}
use Rattle.fancy_scanner.proofs.Rules.{IsScanFrom, RuleAt, back_past_limit, back_past_none, back_past_some, fails_at, rule_at}
use Rattle.fancy_scanner.proofs.Kept.{goes_twice, held_still, room_left}
use Rattle.fancy_scanner.proofs.Passed.{TellsFrom, index_of, none_held, passed_others, passed_stopped, rule_passes, tells_answer, tells_limit, tells_none}

-- a match that was found of a tree from number n on, whose groups are kept
abbrev pub IsSeen : List (Option Answer) → ℕ → Option TreeMatch → Type 0
IsSeen answers n None = Unit {0}
IsSeen answers n (Some m) = (n ≤ m.index) × IsWholeIn answers m

pub whole_of : (answers : List (Option Answer)) (n : ℕ) (found : Option TreeMatch) → IsSeen answers n found → IfSome found (IsWholeIn answers)
whole_of answers n None h = tt
whole_of answers n (Some m) h = h.1

-- where the others keep theirs, and the matches are of others
module _ (s t : TreeScan) (k : ℕ) (others : KeepsOthers k s t) where
  pub seen_still : (n : ℕ) (found : Option TreeMatch) → k < n → IsSeen (answers_of s) n found → IsSeen (answers_of t) k found
  seen_still n None lt h = tt
  seen_still n (Some m) lt h =
      let past = h.0 in
      let other : m.index ≢ k = omega (arith, past, lt) in
      (omega (arith, past, lt), h.1 ∙ ap (option_map shown_whole) (sym (ap (option_and_then found_in) (others m.index other))))

  pub found_still : (n : ℕ) (found : Option TreeMatch) → k < n → IsSeen (answers_of s) n found →
      found_match (answers_of s) found ≡ found_match (answers_of t) found
  found_still n None lt h = refl
  found_still n (Some m) lt h =
      let past = h.0 in
      let other : m.index ≢ k = omega (arith, past, lt) in
      ap (option_map (λ c. record { index = m.index; captures = c })) (sym (ap (option_and_then found_in) (others m.index other)))

-- the groups that are kept of a match
pub record HasGroups (answers : List (Option Answer)) (k : ℕ) (whole : Match) : Type 0 where
  pub captures : Captures
  pub kept : kept_captures answers k ≡ Some captures
  pub same : shown_match whole ≡ shown_whole captures

pub groups_of : (answers : List (Option Answer)) (k : ℕ) (whole : Match) →
    Some (shown_match whole) ≡ option_map shown_whole (kept_captures answers k) → HasGroups answers k whole
groups_of answers k whole e = go (kept_captures answers k) refl e
  where
    go : (o : Option Captures) → kept_captures answers k ≡ o → Some (shown_match whole) ≡ option_map shown_whole o → HasGroups answers k whole
    go None is h = absurd (none-some _ (sym h))
    go (Some c) is h = record { captures = c; kept = is; same = same_Some _ _ h }

pub none_kept : (answers : List (Option Answer)) (k : ℕ) → None ≡ option_map shown_whole (kept_captures answers k) → kept_captures answers k ≡ None
none_kept answers k e = go (kept_captures answers k) refl e
  where
    go : (o : Option Captures) → kept_captures answers k ≡ o → None ≡ option_map shown_whole o → kept_captures answers k ≡ None
    go None is h = is
    go (Some c) is h = absurd (none-some _ h)

-- ---- the earlier one of two matches

module _ (text : List ℕ) (answers : List (Option Answer)) (one : TreeMatch) (groups : HasGroups answers one.index one.whole) where
  abbrev c : Captures
  c = groups.captures

  abbrev this : ScanMatch
  this = record { index = one.index; captures = c }

  shown_this : scan_match answers one ≡ Some this
  shown_this = ap (option_map (λ d. record { index = one.index; captures = d })) groups.kept

  -- what is told of the earlier one
  pub record Told (found : Option TreeMatch) : Type 0 where
    pub match : ScanMatch
    pub shown : found_match answers (Some (earlier_match one found)) ≡ Some match
    pub view : (other : Option RuleMatch) → captures_text c ≡ text → option_map match_view (found_match answers found) ≡ option_map (in_text text) other →
        match_view match ≡ in_text text (earlier (one.index, numbers_in c) other)

  this_view : captures_text c ≡ text → match_view this ≡ in_text text (one.index, numbers_in c)
  this_view e = ap (λ u. (u, (one.index, numbers_in c))) e

  told_alone : Told None
  told_alone = record { match = this; shown = shown_this; view = λ other e h. go other e h }
    where
      go : (other : Option RuleMatch) → captures_text c ≡ text → None ≡ option_map (in_text text) other →
          match_view this ≡ in_text text (earlier (one.index, numbers_in c) other)
      go None e h = this_view e
      go (Some o) e h = absurd (none-some _ h)

  module _ (m : TreeMatch) (there : HasGroups answers m.index m.whole) where
    abbrev d : Captures
    d = there.captures

    abbrev that : ScanMatch
    that = record { index = m.index; captures = d }

    shown_that : scan_match answers m ≡ Some that
    shown_that = ap (option_map (λ x. record { index = m.index; captures = x })) there.kept

    starts : nat_lt (span_of m.whole).0 (span_of one.whole).0 ≡ nat_lt (start_of (m.index, numbers_in d)) (start_of (one.index, numbers_in c))
    starts = ap₂ nat_lt (ap (λ (p : List ℕ × Span). p.1.0) there.same) (ap (λ (p : List ℕ × Span). p.1.0) groups.same)

    -- what it is, where the earlier one is chosen so
    chosen : (b : Bool) → nat_lt (span_of m.whole).0 (span_of one.whole).0 ≡ b → Told (Some m)
    chosen true is = record {
      match = that;
      shown = ap (λ b. scan_match answers (if b then m else one)) is ∙ shown_that;
      view = λ other e h. go other (sym (ap (option_map match_view) shown_that) ∙ h);
    }
      where
        go : (other : Option RuleMatch) → Some (match_view that) ≡ option_map (in_text text) other →
            match_view that ≡ in_text text (earlier (one.index, numbers_in c) other)
        go None h = absurd (none-some _ (sym h))
        go (Some o) h =
            let same = same_Some _ _ h in
            same ∙ ap (λ b. in_text text (if b then o else (one.index, numbers_in c)))
            (sym (ap (λ (p : List ℕ × RuleMatch). nat_lt (start_of p.1) (start_of (one.index, numbers_in c))) (sym same) ∙ sym starts ∙ is))
    chosen false is = record {
      match = this;
      shown = ap (λ b. scan_match answers (if b then m else one)) is ∙ shown_this;
      view = λ other e h. go other e (sym (ap (option_map match_view) shown_that) ∙ h);
    }
      where
        go : (other : Option RuleMatch) → captures_text c ≡ text → Some (match_view that) ≡ option_map (in_text text) other →
            match_view this ≡ in_text text (earlier (one.index, numbers_in c) other)
        go None e h = absurd (none-some _ (sym h))
        go (Some o) e h =
            let same = same_Some _ _ h in
            this_view e ∙ ap (λ b. in_text text (if b then o else (one.index, numbers_in c)))
            (sym (ap (λ (p : List ℕ × RuleMatch). nat_lt (start_of p.1) (start_of (one.index, numbers_in c))) (sym same) ∙ sym starts ∙ is))

  pub told : (n : ℕ) (found : Option TreeMatch) → IsSeen answers n found → Told found
  told n None h = told_alone
  told n (Some m) h = chosen m (groups_of answers m.index m.whole h.1) (nat_lt (span_of m.whole).0 (span_of one.whole).0) refl

-- the earlier one is seen too
pub earlier_seen : (answers : List (Option Answer)) (k : ℕ) (one : TreeMatch) (found : Option TreeMatch) → k ≤ one.index →
    IsWholeIn answers one → IsSeen answers k found → IsSeen answers k (Some (earlier_match one found))
earlier_seen answers k one None at whole h = (at, whole)
earlier_seen answers k one (Some m) at whole h = go (nat_lt (span_of m.whole).0 (span_of one.whole).0)
  where
    go : (b : Bool) → IsSeen answers k (Some (if b then m else one))
    go true = h
    go false = (at, whole)

-- it is one of both
pub earlier_index : (one : TreeMatch) (found : Option TreeMatch) →
    (index_of (Some (earlier_match one found)) ≡ index_of found) ⊎ (index_of (Some (earlier_match one found)) ≡ Some one.index)
earlier_index one None = inr refl
earlier_index one (Some m) = go (nat_lt (span_of m.whole).0 (span_of one.whole).0)
  where
    go : (b : Bool) →
        (index_of (Some (if b then m else one)) ≡ Some m.index) ⊎ (index_of (Some (if b then m else one)) ≡ Some one.index)
    go true = inl refl
    go false = inr refl

-- ---- from one tree to the one before

pub no_memory : (text : List ℕ) (pos : ℕ) (rules : List Rule) (xs : List ScanTree) → AreTreesOf rules text xs → 0 < length xs →
    FailsForOne text pos error.Memory rules
no_memory text pos [] [] h some = absurd (omega (arith, some))
no_memory text pos [] (x ∷ xs) h some = absurd h
no_memory text pos (r ∷ rules) [] h some = absurd h
no_memory text pos (r ∷ rules) (x ∷ xs) h some = here (tt, tt)

module _ (pos : ℕ) (before : TreeScan) where
  -- The trees from number n on were looked at: the scan goes on as before, and this is what the searches came to.
  pub record ScanSoFar (s : TreeScan) (n : ℕ) (found : Option TreeMatch) (stopped : Option Stopped) : Type 0 where
    pub within : n ≤ length (trees_of s.scanner.now)
    pub room : HasRoom s
    pub goes : GoesOn before s
    pub held : KeepsHeld pos before s
    pub seen : IsSeen (answers_of s) n found
    pub tells : TellsFrom n (passed_from pos s) (index_of found) stopped
    pub scanned : (rules : List Rule) → IsScanOf rules before →
        IsScanFrom (text_of before) pos rules n (found_match (answers_of s) found) stopped

  module _ (s t : TreeScan) (n : ℕ) (found : Option TreeMatch) (stopped : Option Stopped) (h : ScanSoFar s n found stopped) (some : 0 < n)
      (goes : GoesOn s t) (holds : KeepsHeld pos s t) (others : KeepsOthers (n - 1) s t)
      (limits : (j : ℕ) → j ≢ n - 1 → passed_at t.scanner.now j ≡ passed_at s.scanner.now j) where
    same_past : (j : ℕ) → n ≤ j → passed_from pos t j ≡ passed_from pos s j
    same_past j le =
        let other : j ≢ n - 1 = omega (arith, le, some) in
        passed_others pos s t (n - 1) goes others limits j other

    before_it : n - 1 < n
    before_it = omega (arith, some)

    pub still_seen : IsSeen (answers_of t) (n - 1) found
    still_seen = seen_still s t (n - 1) others n found before_it h.seen

    pub looked_at : (found_now : Option TreeMatch) (stopped_now : Option Stopped) → IsSeen (answers_of t) (n - 1) found_now →
        TellsFrom (n - 1) (passed_from pos t) (index_of found_now) stopped_now →
        ((rules : List Rule) (at : RuleAt (text_of before) rules (n - 1)) → IsScanOf rules s →
        IsScanFrom (text_of before) pos rules (suc (n - 1)) (found_match (answers_of t) found) stopped →
        IsScanFrom (text_of before) pos rules (n - 1) (found_match (answers_of t) found_now) stopped_now) →
        ScanSoFar t (n - 1) found_now stopped_now
    looked_at found_now stopped_now seen tells back =
        let within = h.within in
        let count = (goes.trees).count in
        let next : n ≡ suc (n - 1) = omega (arith, some) in
        record {
          within = omega (arith, within, count);
          room = room_left s t goes h.room;
          goes = goes_twice before s t h.goes goes;
          held = held_still before s t pos (h.goes).trees h.held holds;
          seen = seen;
          tells = tells;
          scanned = λ rules of.
              let now = (h.goes).still rules of in
              let trees = subst (λ u. AreTreesOf rules u (trees_of s.scanner.now)) (h.goes).within now.scanner in
              back rules (rule_at (text_of before) rules (trees_of s.scanner.now) (n - 1) trees (omega (arith, within, some))) now
              (subst (λ o. IsScanFrom (text_of before) pos rules (suc (n - 1)) o stopped) (found_still s t (n - 1) others n found before_it h.seen)
              (subst (λ m. IsScanFrom (text_of before) pos rules m (found_match (answers_of s) found) stopped) next (h.scanned rules of)));
        }

    -- what the search for a rule at it answers
    abbrev Answered : Result (Option Match) Error → Type 0
    Answered result =
        (rules : List Rule) (r : Rule) → IsScanOf rules s → IsRuleAt rules (n - 1) r →
        FindsCaptures r.input (text_of s) (begun_at r.options pos) (captures_result t (n - 1) result)

    module _ (result : Result (Option Match) Error) (answers : Answered result) where
      -- of the text that was scanned before
      answered_so : (x : Result (Option Match) Error) → result ≡ x → (rules : List Rule) (at : RuleAt (text_of before) rules (n - 1)) →
          IsScanOf rules s → FindsCaptures (at.rule).input (text_of before) (begun_at (at.rule).options pos) (captures_result t (n - 1) x)
      answered_so x e rules at of =
          subst (λ u. FindsCaptures (at.rule).input u (begun_at (at.rule).options pos) (captures_result t (n - 1) x)) (h.goes).within
          (subst Answered e answers rules at.rule of at.rest)

      -- what is shown of the match is of the groups that are kept
      abbrev Shows : Result (Option Match) Error → Type 0
      Shows x = IfOk x (λ o. option_map shown_match o ≡ option_map shown_whole (kept_captures (answers_of t) (n - 1)))

      pub none_so : Shows result → is_held t (n - 1) pos ≡ true → result ≡ Ok None → ScanSoFar t (n - 1) found stopped
      none_so whole kept e =
          let none = none_kept (answers_of t) (n - 1) (subst Shows e whole) in
          looked_at found stopped still_seen
          (tells_none (passed_from pos s) (passed_from pos t) n some same_past (index_of found) stopped h.tells (none_held pos t (n - 1) kept))
          (λ rules at of scanned.
          back_past_none (text_of before) pos rules (n - 1) at (found_match (answers_of t) found) stopped scanned
          (subst (λ o. FindsCaptures (at.rule).input (text_of before) (begun_at (at.rule).options pos) (Ok o)) none
          (answered_so (Ok None) e rules at of)))

      pub some_so : Shows result → is_held t (n - 1) pos ≡ true → (w : Match) → result ≡ Ok (Some w) → (now : TreeMatch) →
          now ≡ earlier_match (record { index = n - 1; whole = w }) found → ScanSoFar t (n - 1) (Some now) stopped
      some_so whole kept w e now is =
          let one : TreeMatch = record { index = n - 1; whole = w } in
          let here : IsWholeIn (answers_of t) one = subst Shows e whole in
          let groups = groups_of (answers_of t) (n - 1) w here in
          let tells = told (text_of before) (answers_of t) one groups (n - 1) found still_seen in
          subst (λ m. ScanSoFar t (n - 1) (Some m) stopped) (sym is)
          (looked_at (Some (earlier_match one found)) stopped (earlier_seen (answers_of t) (n - 1) one found (omega arith) here still_seen)
          (tells_answer (passed_from pos s) (passed_from pos t) n some same_past (index_of found) stopped h.tells (none_held pos t (n - 1) kept)
          (index_of (Some (earlier_match one found))) (earlier_index one found))
          (λ rules at of scanned.
          subst (λ o. IsScanFrom (text_of before) pos rules (n - 1) o stopped) (sym tells.shown)
          (back_past_some (text_of before) pos rules (n - 1) at (found_match (answers_of t) found) stopped scanned groups.captures tells.match
          (subst (λ o. FindsCaptures (at.rule).input (text_of before) (begun_at (at.rule).options pos) (Ok o)) groups.kept
          (answered_so (Ok (Some w)) e rules at of)) tells.view)))

      pub limit_so : (failed : Error) → result ≡ Err failed → (limit : ScanLimit) → failed ≡ error_of limit →
          passed_at t.scanner.now (n - 1) ≡ search_limit limit → is_held t (n - 1) pos ≡ false → (now : Stopped) →
          stopped_view now ≡ (n - 1, limit) → ScanSoFar t (n - 1) found (Some now)
      limit_so failed e limit is passed not_held now view =
          looked_at found (Some now) still_seen
          (tells_limit (passed_from pos s) (passed_from pos t) n some same_past (index_of found) stopped h.tells limit
          (passed_stopped pos t (n - 1) limit not_held passed) now view)
          (λ rules at of scanned.
          let within = h.within in
          let count = (goes.trees).count in
          back_past_limit (text_of before) pos rules (n - 1) at (found_match (answers_of t) found) stopped scanned limit now
          (subst (MayFail (text_of before) pos at.rule) is (answered_so (Err failed) e rules at of))
          (subst (MayPass at.rule) passed
          (rule_passes (text_of t) rules (trees_of t.scanner.now) (n - 1) at.rule (goes.still rules of).scanner at.rest
          (omega (arith, within, count, some)))) view)

      pub fails_so : (failed : Error) → result ≡ Err failed → (rules : List Rule) → IsScanOf rules before → FailsForOne (text_of before) pos failed rules
      fails_so failed e rules of =
          let now = (h.goes).still rules of in
          let within = h.within in
          let trees = subst (λ u. AreTreesOf rules u (trees_of s.scanner.now)) (h.goes).within now.scanner in
          let at = rule_at (text_of before) rules (trees_of s.scanner.now) (n - 1) trees (omega (arith, within, some)) in
          fails_at (text_of before) pos failed rules (n - 1) at (answered_so (Err failed) e rules at now)
