-- The absent repeater of an easy body: one instruction that takes a character at a time, as long as the body has no way.
use Rattle.std.proofs.Common.{◌≡◌, ℕ, zero, suc, ◌+◌, ◌<◌, ◌≤◌, ◌⊎◌, ⊎_elim, Bool, true, false, ◌||◌, ◌==◌, is_some, if◌then◌else◌, List, [], ◌∷◌, ◌++◌, length, map, reverse, Option, Some, option_and_then, refl, sym, ap, ap₂, ◌∙◌, subst, arith, map-id, ne_eqb, eq-eqb}
use Rattle.std.specs.Prelude.{slice_get}
use Rattle.std.specs.Char.{len_utf8}
use Rattle.std.proofs.lemmas.Bool.{cases_lt}
use Rattle.std.proofs.lemmas.List.Concat.{flat_map_single}
use Rattle.std.proofs.lemmas.Str.{len_utf8_bounds}
use Rattle.fancy_meaning.specs.Tree.{Tree}
use Rattle.fancy_meaning.specs.Places.{places_from}
use Rattle.fancy_meaning.specs.MatchState.{MatchState, Ways, fails, moved_to, has_way, first_state}
use Rattle.fancy_meaning.specs.Moves.{past_char}
use Rattle.fancy_meaning.specs.Ways.{absent, take_through, ways_with}
use Rattle.fancy_meaning.specs.Instr.{Instr}
use Rattle.fancy_meaning.specs.Batches.{fragment}
use Rattle.fancy_meaning.specs.Code as code
use Rattle.fancy_meaning.specs.Config.{Slots, Branch, Config, Next, Goes, forward}
use Rattle.fancy_meaning.specs.Machine.{first_way, takes_char}
use Rattle.fancy_laws.proofs.Every.{no_item, item}
use Rattle.fancy_delegation.proofs.EasyNodes.{IsEasy}
use Rattle.fancy_delegation.proofs.Alike.{pairs_head}
use Rattle.fancy_delegation.proofs.Fragments.{over_first_state, fragment_over}
use Rattle.fancy_composed.proofs.Continuations.{Tally, once_more, Ground, to_eq, to_trans, here, go, after, resumed, pushed, step_at_pc}
use Rattle.fancy_composed.proofs.Enumerates.{Enumerates, one, from, append}
use Rattle.fancy_composed.proofs.Parts.{Sound, setting, body, sound_within, Stands, After, after_move, stands_moved, Simulates}
use Rattle.fancy_composed.proofs.Alike.{alike_same}
use Rattle.fancy_composed.proofs.Places.{char_stands, places_on, places_at_end}
use Rattle.fancy_composed.proofs.Absent.{absent_from}
use Rattle.fancy_composed.proofs.Behind.{sound_moved}
use Rattle.fancy_laws.proofs.Characters.{char_ends_at_place}

module _ (w : Ground) (e : Tree) (easy : IsEasy (w.plan).analysis e) (meant : ℕ → Ways) (pattern : List ℕ)
    (groups : Option (ℕ × ℕ)) where
  abbrev text : List ℕ
  text = (w.task).text

  abbrev x : Ways
  x = ways_with (setting w) meant e

  abbrev instr : Instr
  instr = Instr.AbsentRepeater pattern (fragment (w.plan).unicode (e ∷ [])) groups

  -- whether it goes on behind itself from a place
  abbrev is_left : ℕ → Bool
  is_left i = i == length text || is_some (first_way w.task (fragment (w.plan).unicode (e ∷ [])) i)

  -- by that, and by the place after the next character
  abbrev onward : Bool → Option ℕ → Config → Next
  onward v o c = if v then Goes (forward c) else takes_char w.task c o

  -- a search from empty captures finds a way where there is one
  found_alike : (s : MatchState) → is_some (first_way w.task (fragment (w.plan).unicode (e ∷ [])) s.place) ≡ has_way x s
  found_alike s =
      sym
      (pairs_head
      (fragment_over (setting w) (w.plan).analysis meant (λ g. fails) s.captures (item {x = e} easy no_item) s
      (first_state s.place) (over_first_state s)))
      ∙ ap (λ l. is_some (slice_get l 0)) (flat_map_single (λ t. t) (x s) ∙ map-id (x s))

  module _ (a b n : ℕ) (at : slice_get (body w) a ≡ Some instr) (end : a + 1 ≡ b) (marks : List ℕ) where
    abbrev Handed : MatchState → Slots → List Branch → Tally → List MatchState → Type 0
    Handed s slots bs count hs = Enumerates w b (After w n n slots) marks bs count.longest hs (go w a s.place slots marks bs count)

    -- it stops here
    stops : (s : MatchState) (slots : Slots) (bs : List Branch) (count : Tally) → Stands w s slots →
        is_left s.place ≡ true → Handed s slots bs count (s ∷ [])
    stops s slots bs count st q =
        one w slots count (after_move w n n s slots st)
        (to_trans (step_at_pc w instr a s.place slots marks bs count at)
        (to_trans
        (to_eq (λ m. ap (λ v. after w.task (onward v (past_char text (λ d. true) s.place) (here w a s.place slots marks bs count)) m) q))
        (to_eq (λ m. ap (λ c. go w c s.place slots marks bs count m) end))))

    -- or goes on from the next place, and stops here after that
    goes_on : (s : MatchState) (slots : Slots) (bs : List Branch) (count : Tally) (j : ℕ) (hs : List MatchState) → Stands w s slots →
        is_left s.place ≡ false → past_char text (λ d. true) s.place ≡ Some j →
        ((cs : List Branch) → Handed (moved_to j s) slots cs count hs) → Handed s slots bs count (hs ++ s ∷ [])
    goes_on s slots bs count j hs st q next more =
        let k : Branch = record { pc = a + 1; ix = s.place; slots = slots; marks = marks } in
        from w
        (to_trans (step_at_pc w instr a s.place slots marks bs count at)
        (to_trans (to_eq (λ m. ap₂ (λ v o. after w.task (onward v o (here w a s.place slots marks bs count)) m) q next))
        (pushed w a (a + 1) a s.place j slots slots marks bs count)))
        (append w (k ∷ []) hs (s ∷ []) (omega (arith, end), tt) (more (k ∷ bs))
        (λ c.
        one w slots (once_more c) (after_move w n n s slots st)
        (to_trans (resumed w k bs c) (to_eq (λ m. ap (λ y. go w y s.place slots marks bs (once_more c) m) end)))))

    -- with fewer bytes left, it enumerates all of its ways
    abbrev Onward : ℕ → Slots → Tally → Type 0
    Onward fuel slots count =
        (t : MatchState)
        (cs : List Branch) → length text < t.place + fuel → Sound w t → Stands w t slots → Handed t slots cs count
        (absent (setting w) x t)

    handed : (fuel : ℕ) (s : MatchState) (slots : Slots) (bs : List Branch) (count : Tally) → length text < s.place + fuel →
        Sound w s → Stands w s slots →
        Handed s slots bs count (absent (setting w) x s)
    handed zero s slots bs count le ok st = let within = sound_within w s ok in absurd (omega arith)
    handed (suc fuel) s slots bs count le ok st =
        by_way (λ t cs lt so st'. handed fuel t slots cs count lt so st') (has_way x s) refl (cases_lt s.place (length text))
      where
        fragment_found : (v : Bool) → has_way x s ≡ v → (u : Bool) → (s.place == length text) ≡ u →
            is_left s.place ≡ (u || v)
        fragment_found v q u p = ap₂ (λ y z. y || z) p (found_alike s ∙ q)

        at_end : length text ≤ s.place → (v : Bool) → has_way x s ≡ v → Handed s slots bs count (absent (setting w) x s)
        at_end ge v q =
            let within = sound_within w s ok in
            let last : s.place ≡ length text = omega arith in
            subst (Handed s slots bs count)
            (sym (absent_from w (w.is_text).utf8 x s [] v q (places_at_end text s.place last ok.place) ∙ none_left v))
            (stops s slots bs count st (fragment_found v q true (eq-eqb s.place (length text) last)))
          where
            none_left : (v : Bool) → map (λ i. moved_to i s)
                (reverse (if v then [] else take_through (λ i. has_way x (moved_to i s)) [])) ++ s ∷ [] ≡ s ∷ []
            none_left true = refl
            none_left false = refl

        before_end : Onward fuel slots count → s.place < length text → (v : Bool) → has_way x s ≡ v →
            Handed s slots bs count (absent (setting w) x s)
        before_end ih lt true q =
            let c = char_stands text (w.is_text).utf8 s.place ok.place lt in
            subst (Handed s slots bs count)
            (sym
            (absent_from w (w.is_text).utf8 x s (places_from text (s.place + len_utf8 c.0)) true q
            (places_on text (w.is_text).utf8 s.place c.0 ok.place c.1)))
            (stops s slots bs count st (fragment_found true q false (ne_eqb s.place (length text) (λ p. omega (arith, p, lt)))))
        before_end ih lt false q =
            let c = char_stands text (w.is_text).utf8 s.place ok.place lt in
            let j = s.place + len_utf8 c.0 in
            let some = len_utf8_bounds c.0 in
            let so = sound_moved w s j ok (char_ends_at_place text (w.is_text).utf8 s.place c.0 ok.place c.1) in
            subst (Handed s slots bs count)
            (sym
            (absent_from w (w.is_text).utf8 x s (places_from text j) false q
            (places_on text (w.is_text).utf8 s.place c.0 ok.place c.1)))
            (goes_on s slots bs count j (absent (setting w) x (moved_to j s)) st
            (fragment_found false q false (ne_eqb s.place (length text) (λ p. omega (arith, p, lt))))
            (ap (option_and_then (λ d. Some (s.place + len_utf8 d))) c.1)
            (λ cs. ih (moved_to j s) cs (omega (arith, some, le)) so (stands_moved w s j slots st)))

        by_way : Onward fuel slots count → (v : Bool) → has_way x s ≡ v → (s.place < length text) ⊎ (length text ≤ s.place) →
            Handed s slots bs count (absent (setting w) x s)
        by_way ih v q c = ⊎_elim (λ lt. before_end ih lt v q) (λ ge. at_end ge v q) c

  pub simulates_easy_absent : Simulates w (code.one instr) (absent (setting w) x)
  simulates_easy_absent = record {
    grows = λ a n. omega arith;
    handed = absent (setting w) x;
    alike = λ s ok. alike_same (absent (setting w) x s);
    part = λ a b n end fresh h. record {
      enumerates = λ s slots marks bs count ok st.
          handed a b n h.0 end marks (suc (length text)) s slots bs count (omega arith) ok st;
    };
  }
