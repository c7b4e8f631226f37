-- Folded literals match where plain ones do, so their match does not begin later.
use Rattle.std.proofs.Common.{◌≡◌, ⊎_elim, inr, ℕ, suc, ◌+◌, ◌-◌, ◌<◌, ◌≤◌, Bool, true, false, ◌==◌, if◌then◌else◌, List, [], ◌∷◌, ◌++◌, length, filter, Option, Some, None, option_and_then, option_map, chars, refl, sym, ap, ◌∙◌, subst, arith, eq-eqb}
use Rattle.std.specs.List.{list_any}
use Rattle.std.specs.Char.{len_utf8}
use Rattle.std.proofs.lemmas.Bool.Decides.{eqb_tells}
use Rattle.std.proofs.lemmas.Option.{none-some, same_Some}
use Rattle.regex_hir.specs.Text.{char_at}
use Rattle.fancy_meaning.specs.Answer.{Search, answer, attempt, chosen, is_admitted, ways_from}
use Rattle.fancy_meaning.specs.Chars.{fold_equal, folds_to, literal_takes}
use Rattle.fancy_meaning.specs.MatchState.{MatchState, Span, first_state}
use Rattle.fancy_meaning.specs.Moves.{past_char}
use Rattle.fancy_meaning.specs.Nodes.{is_keep_out, nodes_of_each}
use Rattle.fancy_meaning.specs.Places.{is_place, places_from, range_from}
use Rattle.fancy_meaning.specs.Tree.{trees}
use Rattle.fancy_meaning.specs.Ways.{Setting, ways_with}
use Rattle.fancy_composed.proofs.Parts.{at_place}
use Rattle.fancy_laws.proofs.Every.{Every, item, no_item}
use Rattle.fancy_laws.proofs.WaysOf.{every_place_from}
use Rattle.fancy_steps.specs.Outcomes.{first_pair}
use Rattle.fancy_starts.specs.Matches.{Found, has_keep_out, match_of}
use Rattle.fancy_starts.proofs.Firsts.{first_of, found_there, next_of}
use Rattle.fancy_starts.proofs.LaterStarts.{places_before}
use Rattle.fancy_starts.proofs.Matches.{answer_begins, answer_is, numbers_of}
use Rattle.fancy_matches.specs.Matchers.{shown_match, span_of, with_span}
use Rattle.fancy_matches.specs.declared.found.Match.{Match}
use Rattle.fancy_pattern.specs.Escape.{SpellsText, literals}
use Rattle.fancy_regex.specs.Builders.{IsBuilt}
use Rattle.fancy_regex.specs.Options.{input, running}
use Rattle.fancy_regex.specs.declared.options.RegexOptions.{RegexOptions}
use Rattle.fancy_regex.specs.declared.regexes.Regex.{Regex}
use Rattle.fancy_relations.specs.Calls.{ReturnsMatch}
use Rattle.fancy_relations.specs.Folded.{BeginsNoLater, folding}
use Rattle.fancy_relations.proofs.FirstPlace.{place_first}
use Rattle.fancy_relations.proofs.Limited.{searched_by}
use Rattle.fancy_relations.proofs.Literals.{called_in, literals_way, past_literals_of, spelled}
use Rattle.fancy_relations.proofs.Spelled.{numbered_same, tree_spelled}

-- ---- characters

folds_itself : (unicode : Bool) (c : ℕ) → folds_to unicode c c ≡ true
unfolding fold_equal
folds_itself true c = eq-eqb _ _ refl
folds_itself false c = eq-eqb _ _ refl

module _ (q : Setting) where
  char_folded : (c i j : ℕ) → past_char q.text (literal_takes q.unicode c false) i ≡ Some j →
      past_char q.text (literal_takes q.unicode c true) i ≡ Some j
  char_folded c i j = go (char_at q.text i)
    where
      go : (o : Option ℕ) → option_and_then (λ d. if c == d then Some (i + len_utf8 d) else None) o ≡ Some j →
          option_and_then (λ d. if folds_to q.unicode c d then Some (i + len_utf8 d) else None) o ≡ Some j
      go None e = e
      go (Some d) e = ⊎_elim
          (λ t.
          ap (λ b. if b then Some (i + len_utf8 d) else None) (subst (λ k. folds_to q.unicode c k ≡ true) t.1 (folds_itself q.unicode c))
          ∙ sym (ap (λ b. if b then Some (i + len_utf8 d) else None) t.0) ∙ e)
          (λ t. absurd (none-some j (sym (ap (λ b. if b then Some (i + len_utf8 d) else None) t.0) ∙ e)))
          (eqb_tells c d)

  chars_folded : (cs : List ℕ) (i j : ℕ) → past_literals_of q false cs i ≡ Some j → past_literals_of q true cs i ≡ Some j
  chars_folded [] i j e = e
  chars_folded (c ∷ cs) i j e = go (past_char q.text (literal_takes q.unicode c false) i) refl (λ k. chars_folded cs k j) e
    where
      go : (o : Option ℕ) → past_char q.text (literal_takes q.unicode c false) i ≡ o →
          ((k : ℕ) → past_literals_of q false cs k ≡ Some j → past_literals_of q true cs k ≡ Some j) →
          option_and_then (past_literals_of q false cs) o ≡ Some j → past_literals_of q true (c ∷ cs) i ≡ Some j
      go None p rest e = absurd (none-some j e)
      go (Some k) p rest e = ap (option_and_then (past_literals_of q true cs)) (char_folded c i k p) ∙ rest k e

-- ---- matches

no_keep_in : (casei : Bool) (cs : List ℕ) → list_any is_keep_out (nodes_of_each (trees (literals casei cs))) ≡ false
no_keep_in casei [] = refl
no_keep_in casei (c ∷ cs) = no_keep_in casei cs

no_keep : (casei : Bool) (cs : List ℕ) → has_keep_out (spelled casei cs) ≡ false
no_keep casei [] = refl
no_keep casei (c ∷ []) = refl
no_keep casei (c ∷ d ∷ cs) = no_keep_in casei (c ∷ d ∷ cs)

no_choice : (longest : Bool) → chosen longest [] ≡ None
no_choice false = refl
no_choice true = refl

-- the first one that is found, where one of them is
record FoundBy (f : ℕ → Option MatchState) (is : List ℕ) (i : ℕ) : Type 0 where
  pub first : Found
  pub is_first : first_of f is ≡ Some first
  pub no_later : first.0 ≤ i

found_by : (f : ℕ → Option MatchState) (i : ℕ) (s : MatchState) → f i ≡ Some s → (before rest : List ℕ) → Every (λ k. k < i) before →
    FoundBy f (before ++ i ∷ rest) i
found_by f i s e [] rest no_item =
    record { first = (i, s); is_first = ap (λ o. next_of f o i rest) e; no_later = omega arith }
found_by f i s e (k ∷ before) rest (item lt all) = go (f k) refl (found_by f i s e before rest all)
  where
    go : (o : Option MatchState) → f k ≡ o → FoundBy f (before ++ i ∷ rest) i → FoundBy f (k ∷ (before ++ i ∷ rest)) i
    go None is more = record {
      first = more.first;
      is_first = ap (λ o. next_of f o k (before ++ i ∷ rest)) is ∙ more.is_first;
      no_later = more.no_later;
    }
    go (Some t) is more =
        record { first = (k, t); is_first = ap (λ o. next_of f o k (before ++ i ∷ rest)) is; no_later = omega (arith, lt) }

module _ (cs text : List ℕ) (pos : ℕ) (unicode not_empty longest : Bool) where
  abbrev searched : Bool → Search
  searched casei = searched_by (spelled casei cs) text pos unicode not_empty longest

  whole : (casei : Bool) → (searched casei).tree ≡ spelled casei cs
  whole casei = numbered_same 1 casei cs

  attempt_is : (casei : Bool) (i : ℕ) → attempt (searched casei) i
      ≡ chosen longest
      (filter (is_admitted (searched casei) i) (at_place (first_state i) (past_literals_of (searched casei).setting casei cs i)))
  attempt_is casei i =
      let q = searched casei in
      ap (λ ss. chosen longest (filter (is_admitted q i) ss))
      (subst (λ t. ways_from q i ≡ ways_with q.setting (called_in q) t (first_state i)) (whole casei) refl
      ∙ literals_way q.setting (called_in q) casei cs (first_state i))

  attempt_folded : (i : ℕ) (s : MatchState) → attempt (searched false) i ≡ Some s → attempt (searched true) i ≡ Some s
  attempt_folded i s e = go (past_literals_of (searched false).setting false cs i) refl (sym (attempt_is false i) ∙ e)
    where
      go : (o : Option ℕ) → past_literals_of (searched false).setting false cs i ≡ o →
          chosen longest (filter (is_admitted (searched false) i) (at_place (first_state i) o)) ≡ Some s →
          attempt (searched true) i ≡ Some s
      go None p e = absurd (none-some s (sym (no_choice longest) ∙ e))
      go (Some j) p e =
          attempt_is true i
          ∙ ap (λ o. chosen longest (filter (is_admitted (searched true) i) (at_place (first_state i) o)))
          (chars_folded (searched false).setting cs i j p)
          ∙ e

  folded_match : (m : Found) → match_of (searched false) ≡ Some m → FoundBy (attempt (searched true)) (places_from text pos) m.0
  folded_match m e =
      let found =
      found_there (attempt (searched false)) {P = λ i. (pos ≤ i) × (is_place text i ≡ true)} m (places_from text pos)
      (every_place_from text pos) e in
      let before = places_before text pos m.0 found.0.0 in
      let rest = filter (is_place text) (range_from (suc m.0) (length text - m.0)) in
      subst (λ is. FoundBy (attempt (searched true)) is m.0)
      (sym (before.all ∙ ap (λ l. before.starts ++ l) (place_first text m.0 found.0.1)))
      (found_by (attempt (searched true)) m.0 m.1 (attempt_folded m.0 m.1 found.1) before.starts rest before.are_before)

  begins_at : (casei : Bool) (m : Found) → match_of (searched casei) ≡ Some m →
      (groups : List ℕ) × (answer (searched casei) ≡ Some (m.0 ∷ (m.1).place ∷ groups))
  begins_at casei m e =
      answer_begins (searched casei) m (inr refl) (ap has_keep_out (whole casei) ∙ no_keep casei cs) e

  -- ---- what is returned

  start_of : (found : Option Match) (a : Option (List ℕ)) (numbers : List ℕ) → option_map shown_match found ≡ option_map (with_span text) a →
      a ≡ Some numbers → (m : Match) × (found ≡ Some m) × ((span_of m).0 ≡ (first_pair numbers).0)
  start_of found None numbers e is = absurd (none-some numbers is)
  start_of None (Some l) numbers e is = absurd (none-some _ e)
  start_of (Some m) (Some l) numbers e is =
      let shown : ◌≡◌ {A = List ℕ × Span} (shown_match m) (with_span text l) = same_Some _ _ e in
      (m, refl, ap (λ p. (p.1).0) shown ∙ ap (λ n. (first_pair n).0) (same_Some l numbers is))

  pub no_later : (found other : Option Match) → option_map shown_match found ≡ option_map (with_span text) (answer (searched false)) →
      option_map shown_match other ≡ option_map (with_span text) (answer (searched true)) → BeginsNoLater other found
  no_later None other one two = tt
  no_later (Some m) other one two = go (match_of (searched false)) refl
    where
      go : (o : Option Found) → match_of (searched false) ≡ o → BeginsNoLater other (Some m)
      go None is =
          absurd (none-some _ (sym (one ∙ ap (option_map (with_span text)) (answer_is (searched false) ∙ ap (numbers_of (searched false)) is))))
      go (Some f) is =
          let g = folded_match f is in
          let plain = start_of (Some m) (answer (searched false)) _ one (begins_at false f is).1 in
          let folded = start_of other (answer (searched true)) _ two (begins_at true g.first g.is_first).1 in
          let here : m ≡ plain.0 = same_Some m plain.0 plain.1 in
          let start : (span_of m).0 ≡ f.0 = ap (λ n. (span_of n).0) here ∙ plain.2 in
          let other_start : (span_of folded.0).0 ≡ (g.first).0 = folded.2 in
          let le = g.no_later in
          subst (λ o. BeginsNoLater o (Some m)) (sym folded.1) (omega (arith, start, other_start, le))

pub folded_no_later : (s pattern : List ℕ) (o : RegexOptions) (r q : Regex) (text : List ℕ) (pos : ℕ) (found other : Option Match) →
    (o.parsing).case_insensitive ≡ false → SpellsText (chars pattern) (chars s) → IsBuilt pattern o r →
    IsBuilt pattern (folding o) q → ReturnsMatch r text pos found → ReturnsMatch q text pos other → BeginsNoLater other found
folded_no_later s pattern o r q text pos found other unfolded spells is same one two =
    no_later (chars s) text pos (o.parsing).unicode o.not_empty o.longest found other
    ((one (input is.tree o) (running o text) (is.compiled text)).1
    ∙ ap (λ e. option_map (with_span text) (answer (searched_by e text pos (o.parsing).unicode o.not_empty o.longest)))
    (tree_spelled pattern s o r spells is ∙ ap (λ b. spelled b (chars s)) unfolded))
    ((two (input same.tree (folding o)) (running (folding o) text) (same.compiled text)).1
    ∙ ap (λ e. option_map (with_span text) (answer (searched_by e text pos (o.parsing).unicode o.not_empty o.longest)))
    (tree_spelled pattern s (folding o) q spells same))
