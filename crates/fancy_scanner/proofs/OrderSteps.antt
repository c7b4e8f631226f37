-- A scan for some of the trees, from the last in their order to the first.
use Rattle.std.proofs.Common.{◌≡◌, ◌≢◌, ◌==◌, ℕ, zero, suc, ◌-◌, ◌<◌, ◌≤◌, Bool, true, false, List, [], ◌∷◌, ◌++◌, length, drop, take, get_or, Option, Some, None, IfSome, if◌then◌else◌, nat_lt, option_map, Result, Ok, Err, IfOk, refl, sym, ap, ap₂, ◌∙◌, subst, arith}
use Rattle.std.specs.Prelude.{option_and_then, slice_get}
use Rattle.std.proofs.lemmas.Bool.{true≢false}
use Rattle.std.proofs.lemmas.Option.{none-some, same_Some}
use Rattle.fancy_expr.specs.declared.error.Error.{Error}
use Rattle.fancy_expr.specs.declared.error.Error.TheVariants as error
use Rattle.fancy_matches.specs.Listing.{begun_at}
use Rattle.fancy_matches.specs.Matchers.{FindsCaptures, shown_match, span_of}
use Rattle.fancy_matches.specs.declared.found.Match.{Match}
use Rattle.fancy_scanner.specs.Among.{ArePicked, answer_of, answers_among}
use Rattle.fancy_scanner.specs.Kept.{found_in, kept_captures, shown_whole}
use Rattle.fancy_scanner.specs.Scanning.{AreTreesOf, EachReplies, FailsForOne, IsRuleAt, MayFail, MayPass, Rule, error_of, here, search_limit, stopped_view, trees_of}
use Rattle.fancy_scanner.specs.Limits.{AreDistinct, passed_among, passed_at}
use Rattle.fancy_scanner.specs.Scans.{AreAnswersOf, GoesOn, HasRoom, IsScanOf, IsWholeIn, KeepsHeld, KeepsOthers, answers_of, captures_result, earlier_match, found_match, holds_for, is_held, text_of}
use Rattle.fancy_scanner.specs.declared.answers.Answer.{Answer}
use Rattle.fancy_scanner.specs.declared.reuse.Reuse.{Reuse}
use Rattle.fancy_scanner.specs.declared.scan_limit.ScanLimit.{ScanLimit}
use Rattle.fancy_scanner.specs.declared.scan_text.TreeScan.{TreeScan}
use Rattle.fancy_scanner.specs.declared.scan_text.TreeMatch.{TreeMatch}
use Rattle.fancy_scanner.specs.declared.scanner.ScanTree.{ScanTree}
use Rattle.fancy_scanner.specs.declared.scanner.Stopped.{Stopped}
use Rattle.fancy_scanner.proofs.Kept.{goes_twice, held, held_still, room_left}
use Rattle.fancy_scanner.proofs.Rules.{IsScanFrom, RuleAt, back_past_limit, back_past_none, back_past_some, fails_at}
use Rattle.fancy_scanner.proofs.Steps.{IsSeen, earlier_index, groups_of, none_kept, told}
use Rattle.fancy_scanner.proofs.Passed.{TellsFrom, among_others, index_of, none_held, none_past_in, passed_stopped, read_among, rule_passes, tells_answer, tells_limit, tells_none}

-- ---- what is kept, in the order

slot_among : (s : TreeScan) (order : List ℕ) (j k : ℕ) → slice_get order j ≡ Some k →
    slice_get (answers_among s order) j ≡ Some (answer_of s k)
slot_among s [] j k e = absurd (none-some k e)
slot_among s (i ∷ order) zero k e = ap (λ x. Some (answer_of s x)) (same_Some i k e)
slot_among s (i ∷ order) (suc j) k e = slot_among s order j k e

flat : (o : Option (Option Answer)) → found_in (option_and_then (λ a. a) o) ≡ option_and_then found_in o
flat None = refl
flat (Some a) = refl

pub kept_among : (s : TreeScan) (order : List ℕ) (j k : ℕ) → slice_get order j ≡ Some k →
    kept_captures (answers_among s order) j ≡ kept_captures (answers_of s) k
kept_among s order j k e = ap (option_and_then found_in) (slot_among s order j k e) ∙ flat (slice_get (answers_of s) k)

-- ---- the rules in the order

-- the rule that was picked with this number, and where it stands among all
pub record PickedAt (text : List ℕ) (rules picked : List Rule) (j k : ℕ) : Type 0 where
  pub at : RuleAt text picked j
  pub there : IsRuleAt rules k at.rule

pub picked_at : (text : List ℕ) (rules : List Rule) (order : List ℕ) (picked : List Rule) (j k : ℕ) → ArePicked rules order picked →
    slice_get order j ≡ Some k → PickedAt text rules picked j k
picked_at text rules [] picked j k h e = absurd (none-some k e)
picked_at text rules (i ∷ order) [] j k h e = absurd h
picked_at text rules (i ∷ order) (r ∷ picked) zero k h e = record {
  at = record { rule = r; rest = refl };
  there = subst (λ x. IsRuleAt rules x r) (same_Some i k e) h.0;
}
picked_at text rules (i ∷ order) (r ∷ picked) (suc j) k h e =
    let below = picked_at text rules order picked j k h.1 e in record {
      at = record { rule = (below.at).rule; rest = (below.at).rest };
      there = below.there;
    }

none_past : (rules : List Rule) (order : List ℕ) (picked : List Rule) → ArePicked rules order picked → drop (length order) picked ≡ []
none_past rules [] [] h = refl
none_past rules [] (r ∷ picked) h = absurd h
none_past rules (i ∷ order) [] h = absurd h
none_past rules (i ∷ order) (r ∷ picked) h = none_past rules order picked h.1

-- a rule has a tree
within_trees : (text : List ℕ) (rules : List Rule) (xs : List ScanTree) (k : ℕ) (r : Rule) → AreTreesOf rules text xs → IsRuleAt rules k r →
    k < length xs
within_trees text [] [] zero r h at = absurd (no_rule at)
  where
    no_rule : [] ≡ r ∷ [] → ⊥
    no_rule e = cc
within_trees text [] [] (suc k) r h at = absurd (no_rule at)
  where
    no_rule : [] ≡ r ∷ [] → ⊥
    no_rule e = cc
within_trees text [] (x ∷ xs) k r h at = absurd h
within_trees text (q ∷ rules) [] k r h at = absurd h
within_trees text (q ∷ rules) (x ∷ xs) zero r h at = omega arith
within_trees text (q ∷ rules) (x ∷ xs) (suc k) r h at =
    let below = within_trees text rules xs k r h.1 at in omega (arith, below)

pub no_memory_among : (text : List ℕ) (pos : ℕ) (rules : List Rule) (order : List ℕ) (picked : List Rule) → ArePicked rules order picked →
    0 < length order → FailsForOne text pos error.Memory picked
no_memory_among text pos rules [] picked h some = absurd (omega (arith, some))
no_memory_among text pos rules (i ∷ order) [] h some = absurd h
no_memory_among text pos rules (i ∷ order) (r ∷ picked) h some = here (tt, tt)

-- ---- from one tree of the order to the one before

module _ (pos : ℕ) (order : List ℕ) where
  -- the tree of a match, whose answer holds here, and whose groups are kept
  pub record IsSeenMatch (s : TreeScan) (m : TreeMatch) : Type 0 where
    pub tree : ℕ
    pub read : slice_get order m.index ≡ Some tree
    pub held : is_held s tree pos ≡ true
    pub whole : IsWholeIn (answers_among s order) m

  abbrev pub IsSeenAmong : TreeScan → Option TreeMatch → Type 0
  IsSeenAmong s None = Unit {0}
  IsSeenAmong s (Some m) = IsSeenMatch s m

  pub whole_among : (s : TreeScan) (found : Option TreeMatch) → IsSeenAmong s found → IfSome found (IsWholeIn (answers_among s order))
  whole_among s None h = tt
  whole_among s (Some m) h = h.whole

  module _ (before : TreeScan) where
    -- The trees from this one of the order on were looked at: the scan goes on as before, and this is what the searches
    -- came to.
    pub record AmongSoFar (s : TreeScan) (count n : ℕ) (found : Option TreeMatch) (stopped : Option Stopped) : Type 0 where
      pub within : n ≤ length order
      pub counted : count ≡ length (trees_of s.scanner.now)
      pub room : HasRoom s
      pub goes : GoesOn before s
      pub held : KeepsHeld pos before s
      pub seen : IsSeenAmong s found
      pub tells : AreDistinct order → TellsFrom n (passed_among pos order s) (index_of found) stopped
      pub scanned : (rules picked : List Rule) → IsScanOf rules before → ArePicked rules order picked →
          IsScanFrom (text_of before) pos picked n (found_match (answers_among s order) found) stopped

    pub none_among : (rules picked : List Rule) → ArePicked rules order picked → IsScanFrom (text_of before) pos picked (length order) None None
    none_among rules picked h = record {
      replies = [];
      each = subst (λ l. EachReplies (text_of before) pos l []) (sym (none_past rules order picked h)) tt;
      first = refl;
      stops = refl;
    }

    module _ (s t : TreeScan) (count n : ℕ) (found : Option TreeMatch) (stopped : Option Stopped) (h : AmongSoFar s count n found stopped)
        (some : 0 < n) (k : ℕ) (read : slice_get order (n - 1) ≡ Some k) (goes : GoesOn s t) (holds : KeepsHeld pos s t)
        (others : KeepsOthers k s t) (limits : (j : ℕ) → j ≢ k → passed_at t.scanner.now j ≡ passed_at s.scanner.now j) where
      same_past : AreDistinct order → (j : ℕ) → n ≤ j → passed_among pos order t j ≡ passed_among pos order s j
      same_past distinct = among_others pos s t k goes others limits order n distinct some read

      same_slot : (j i : ℕ) → slice_get order j ≡ Some i → is_held s i pos ≡ true →
          slice_get (answers_among t order) j ≡ slice_get (answers_among s order) j
      same_slot j i e kept =
          slot_among t order j i e ∙ ap (λ o. Some (option_and_then (λ a. a) o)) (holds i kept) ∙ sym (slot_among s order j i e)

      still_held : (i : ℕ) → is_held s i pos ≡ true → is_held t i pos ≡ true
      still_held i kept = ap₂ (λ l a. holds_for l a pos) ((goes.trees).reuse i) (holds i kept) ∙ kept

      still_seen : (o : Option TreeMatch) → IsSeenAmong s o → IsSeenAmong t o
      still_seen None g = tt
      still_seen (Some m) g = record {
        tree = g.tree;
        read = g.read;
        held = still_held g.tree g.held;
        whole = g.whole ∙ ap (λ o. option_map shown_whole (option_and_then found_in o)) (sym (same_slot m.index g.tree g.read g.held));
      }

      still_found : (o : Option TreeMatch) → IsSeenAmong s o → found_match (answers_among s order) o ≡ found_match (answers_among t order) o
      still_found None g = refl
      still_found (Some m) g =
          ap (λ o. option_map (λ c. record { index = m.index; captures = c }) (option_and_then found_in o))
          (sym (same_slot m.index g.tree g.read g.held))

      looked_among : (found_now : Option TreeMatch) (stopped_now : Option Stopped) → IsSeenAmong t found_now →
          (AreDistinct order → TellsFrom (n - 1) (passed_among pos order t) (index_of found_now) stopped_now) →
          ((rules picked : List Rule) (at : PickedAt (text_of before) rules picked (n - 1) k) → IsScanOf rules s →
          IsScanFrom (text_of before) pos picked (suc (n - 1)) (found_match (answers_among t order) found) stopped →
          IsScanFrom (text_of before) pos picked (n - 1) (found_match (answers_among t order) found_now) stopped_now) →
          AmongSoFar t count (n - 1) found_now stopped_now
      looked_among found_now stopped_now seen tells back =
          let within = h.within in
          let next : n ≡ suc (n - 1) = omega (arith, some) in
          record {
            within = omega (arith, within);
            counted = h.counted ∙ sym ((goes.trees).count);
            room = room_left s t goes h.room;
            goes = goes_twice before s t h.goes goes;
            held = held_still before s t pos (h.goes).trees h.held holds;
            seen = seen;
            tells = tells;
            scanned = λ rules picked of picks.
                back rules picked (picked_at (text_of before) rules order picked (n - 1) k picks read) ((h.goes).still rules of)
                (subst (λ o. IsScanFrom (text_of before) pos picked (suc (n - 1)) o stopped) (still_found found h.seen)
                (subst (λ m. IsScanFrom (text_of before) pos picked m (found_match (answers_among s order) found) stopped) next
                (h.scanned rules picked of picks)));
          }

      -- what the search for a rule that has this tree answers
      abbrev AnswersSo : Result (Option Match) Error → Type 0
      AnswersSo result =
          (rules : List Rule) (r : Rule) → IsScanOf rules s → IsRuleAt rules k r →
          FindsCaptures r.input (text_of s) (begun_at r.options pos) (captures_result t k result)

      module _ (result : Result (Option Match) Error) (answers : AnswersSo result) where
        answered_so : (x : Result (Option Match) Error) → result ≡ x → (rules picked : List Rule) →
            (at : PickedAt (text_of before) rules picked (n - 1) k) → IsScanOf rules s →
            FindsCaptures (at.at.rule).input (text_of before) (begun_at (at.at.rule).options pos) (captures_result t k x)
        answered_so x e rules picked at of =
            subst (λ u. FindsCaptures (at.at.rule).input u (begun_at (at.at.rule).options pos) (captures_result t k x)) (h.goes).within
            (subst AnswersSo e answers rules at.at.rule of at.there)

        -- what is shown of the match is of the groups that are kept
        abbrev ShowsSo : Result (Option Match) Error → Type 0
        ShowsSo x = IfOk x (λ o. option_map shown_match o ≡ option_map shown_whole (kept_captures (answers_of t) k))

        none_here : is_held t k pos ≡ true → passed_among pos order t (n - 1) ≡ None
        none_here kept = read_among pos order t (n - 1) k None read (none_held pos t k kept)

        pub none_among_so : ShowsSo result → is_held t k pos ≡ true → result ≡ Ok None → AmongSoFar t count (n - 1) found stopped
        none_among_so whole kept e =
            let none = none_kept (answers_of t) k (subst ShowsSo e whole) in
            looked_among found stopped (still_seen found h.seen)
            (λ distinct.
            tells_none (passed_among pos order s) (passed_among pos order t) n some (same_past distinct) (index_of found) stopped (h.tells distinct)
            (none_here kept))
            (λ rules picked at of scanned.
            back_past_none (text_of before) pos picked (n - 1) at.at (found_match (answers_among t order) found) stopped scanned
            (subst (λ o. FindsCaptures (at.at.rule).input (text_of before) (begun_at (at.at.rule).options pos) (Ok o)) none
            (answered_so (Ok None) e rules picked at of)))

        some_seen : (o : Option TreeMatch) → IsSeenAmong t o → IsSeen (answers_among t order) 0 o
        some_seen None g = tt
        some_seen (Some m) g = (omega arith, g.whole)

        chosen_seen : (one : TreeMatch) (o : Option TreeMatch) → IsSeenMatch t one → IsSeenAmong t o → IsSeenMatch t (earlier_match one o)
        chosen_seen one None g there = g
        chosen_seen one (Some m) g there = go (nat_lt (span_of m.whole).0 (span_of one.whole).0)
          where
            go : (b : Bool) → IsSeenMatch t (if b then m else one)
            go true = there
            go false = g

        pub some_among_so : ShowsSo result → is_held t k pos ≡ true → (w : Match) → result ≡ Ok (Some w) → (now : TreeMatch) →
            now ≡ earlier_match (record { index = n - 1; whole = w }) found → AmongSoFar t count (n - 1) (Some now) stopped
        some_among_so whole held w e now is =
            let one : TreeMatch = record { index = n - 1; whole = w } in
            let place = kept_among t order (n - 1) k read in
            let here : IsWholeIn (answers_among t order) one = subst ShowsSo e whole ∙ ap (option_map shown_whole) (sym place) in
            let groups = groups_of (answers_among t order) (n - 1) w here in
            let there = still_seen found h.seen in
            let tells = told (text_of before) (answers_among t order) one groups 0 found (some_seen found there) in
            let this : IsSeenMatch t one = record { tree = k; read = read; held = held; whole = here } in
            subst (λ m. AmongSoFar t count (n - 1) (Some m) stopped) (sym is)
            (looked_among (Some (earlier_match one found)) stopped (chosen_seen one found this there)
            (λ distinct.
            tells_answer (passed_among pos order s) (passed_among pos order t) n some (same_past distinct) (index_of found) stopped
            (h.tells distinct) (none_here held) (index_of (Some (earlier_match one found))) (earlier_index one found))
            (λ rules picked at of scanned.
            subst (λ o. IsScanFrom (text_of before) pos picked (n - 1) o stopped) (sym tells.shown)
            (back_past_some (text_of before) pos picked (n - 1) at.at (found_match (answers_among t order) found) stopped scanned groups.captures
            tells.match
            (subst (λ o. FindsCaptures (at.at.rule).input (text_of before) (begun_at (at.at.rule).options pos) (Ok o)) (sym place ∙ groups.kept)
            (answered_so (Ok (Some w)) e rules picked at of)) tells.view)))

        pub limit_among_so : (failed : Error) → result ≡ Err failed → (limit : ScanLimit) → failed ≡ error_of limit →
            passed_at t.scanner.now k ≡ search_limit limit → is_held t k pos ≡ false → (now : Stopped) →
            stopped_view now ≡ (n - 1, limit) → AmongSoFar t count (n - 1) found (Some now)
        limit_among_so failed e limit is passed not_held now view =
            looked_among found (Some now) (still_seen found h.seen)
            (λ distinct.
            tells_limit (passed_among pos order s) (passed_among pos order t) n some (same_past distinct) (index_of found) stopped (h.tells distinct)
            limit (read_among pos order t (n - 1) k (search_limit limit) read (passed_stopped pos t k limit not_held passed)) now view)
            (λ rules picked at of scanned.
            let now_of = goes.still rules of in
            back_past_limit (text_of before) pos picked (n - 1) at.at (found_match (answers_among t order) found) stopped scanned limit now
            (subst (MayFail (text_of before) pos at.at.rule) is (answered_so (Err failed) e rules picked at of))
            (subst (MayPass at.at.rule) passed
            (rule_passes (text_of t) rules (trees_of t.scanner.now) k at.at.rule now_of.scanner at.there
            (within_trees (text_of t) rules (trees_of t.scanner.now) k at.at.rule now_of.scanner at.there))) view)

        pub fails_among_so : (failed : Error) → result ≡ Err failed → (rules picked : List Rule) → IsScanOf rules before →
            ArePicked rules order picked → FailsForOne (text_of before) pos failed picked
        fails_among_so failed e rules picked of picks =
            let at = picked_at (text_of before) rules order picked (n - 1) k picks read in
            fails_at (text_of before) pos failed picked (n - 1) at.at (answered_so (Err failed) e rules picked at ((h.goes).still rules of))

    -- a number that no tree has is none of a rule
    pub skipped_so : (s : TreeScan) (count n : ℕ) (found : Option TreeMatch) (stopped : Option Stopped) → AmongSoFar s count n found stopped →
        0 < n → (k : ℕ) → slice_get order (n - 1) ≡ Some k → count ≤ k → AmongSoFar s count (n - 1) found stopped
    skipped_so s count n found stopped h some k read past =
        let within = h.within in
        let counted = h.counted in
        record {
          within = omega (arith, within);
          counted = h.counted;
          room = h.room;
          goes = h.goes;
          held = h.held;
          seen = h.seen;
          tells = λ distinct.
              tells_none (passed_among pos order s) (passed_among pos order s) n some (λ j le. refl) (index_of found) stopped (h.tells distinct)
              (read_among pos order s (n - 1) k None read (none_past_in pos s k (omega (arith, past, counted))));
          scanned = λ rules picked of picks.
              let at = picked_at (text_of before) rules order picked (n - 1) k picks read in
              let now = (h.goes).still rules of in
              let there = within_trees (text_of s) rules (trees_of s.scanner.now) k at.at.rule now.scanner at.there in
              absurd (omega (arith, there, past, counted));
        }

-- ---- one more tree

module _ (text : List ℕ) where
  pub answers_taken : (rules : List Rule) (answers : List (Option Answer)) (n : ℕ) → AreAnswersOf rules text answers →
      AreAnswersOf rules text (take n answers)
  answers_taken rules [] zero h = tt
  answers_taken rules [] (suc n) h = tt
  answers_taken rules (a ∷ answers) zero h = tt
  answers_taken [] (a ∷ answers) (suc n) h = tt
  answers_taken (r ∷ rules) (None ∷ answers) (suc n) h = answers_taken rules answers n h
  answers_taken (r ∷ rules) (Some a ∷ answers) (suc n) h = (h.0, answers_taken rules answers n h.1)

  pub answers_of_more : (rules : List Rule) (xs : List ScanTree) (answers : List (Option Answer)) (n : ℕ) (r : Rule) → AreTreesOf rules text xs →
      n ≡ length xs → AreAnswersOf rules text answers → AreAnswersOf (rules ++ r ∷ []) text (take n answers)
  answers_of_more rules xs answers n r trees e h = subst (λ m. AreAnswersOf (rules ++ r ∷ []) text (take m answers)) (sym e) (go rules xs answers trees h)
    where
      go : (rules : List Rule) (xs : List ScanTree) (answers : List (Option Answer)) → AreTreesOf rules text xs → AreAnswersOf rules text answers →
          AreAnswersOf (rules ++ r ∷ []) text (take (length xs) answers)
      go [] [] [] trees h = tt
      go [] [] (a ∷ answers) trees h = tt
      go [] (x ∷ xs) answers trees h = absurd trees
      go (q ∷ rules) [] answers trees h = absurd trees
      go (q ∷ rules) (x ∷ xs) [] trees h = tt
      go (q ∷ rules) (x ∷ xs) (None ∷ answers) trees h = go rules xs answers trees.1 h
      go (q ∷ rules) (x ∷ xs) (Some a ∷ answers) trees h = (h.0, go rules xs answers trees.1 h.1)

reuse_within : (xs : List ScanTree) (k : ℕ) (reuse : Reuse) → option_map (λ x. x.reuse) (slice_get xs k) ≡ Some reuse → k < length xs
reuse_within [] k reuse e = absurd (none-some reuse e)
reuse_within (x ∷ xs) zero reuse e = omega arith
reuse_within (x ∷ xs) (suc k) reuse e =
    let lt = reuse_within xs k reuse e in omega (arith, lt)

get_taken : {X : Type 0} (xs : List X) (n k : ℕ) → k < n → slice_get (take n xs) k ≡ slice_get xs k
get_taken xs zero k lt = absurd (omega (arith, lt))
get_taken [] (suc n) k lt = refl
get_taken (x ∷ xs) (suc n) zero lt = refl
get_taken (x ∷ xs) (suc n) (suc k) lt = get_taken xs n k (omega (arith, lt))

-- what is held of a tree stays where no more answers than trees are kept
pub held_taken : (s : TreeScan) (pos n k : ℕ) → n ≡ length (trees_of s.scanner.now) → is_held s k pos ≡ true →
    slice_get (take n (answers_of s)) k ≡ slice_get (answers_of s) k
held_taken s pos n k count e =
    let now = held s k pos e in
    let within = reuse_within (trees_of s.scanner.now) k now.reuse now.lasts in
    get_taken (answers_of s) n k (omega (arith, within, count))

-- ---- what stands in the order

pub read_or : (xs : List ℕ) (k : ℕ) → k < length xs → slice_get xs k ≡ Some (get_or xs k 0)
read_or [] k lt = absurd (omega (arith, lt))
read_or (x ∷ xs) zero lt = refl
read_or (x ∷ xs) (suc k) lt = read_or xs k (omega (arith, lt))

pub some_of : (n : ℕ) → (n == 0) ≡ false → 0 < n
some_of zero e = absurd (true≢false e)
some_of (suc n) e = omega arith
