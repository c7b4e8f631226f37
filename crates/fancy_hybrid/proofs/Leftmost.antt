-- What the DFAs of an NFA find, as facts of the pattern that the NFA implements.
use Rattle.std.proofs.Common.{◌≡◌, ℕ, ◌<◌, ◌≤◌, Bool, true, List, length, All, Option, Some, None, MatchOption, option_map, refl, sym, ap, subst, ◌∙◌, arith, ⊎_elim}
use Rattle.std.specs.Option.{ForSome}
use Rattle.std.proofs.lemmas.Option.{none-some}
use Rattle.regex_hir.specs.Re.{Re, Trace, accept, attempt}
use Rattle.regex_hir.specs.Find.{Match, find, find_str}
use Rattle.regex_hir.proofs.OptionLemmas.{option_cases}
use Rattle.regex_hir.proofs.FindLemmas.{first_between_cong, first_between_here}
use Rattle.regex_nfa.specs.Run.{find_in}
use Rattle.regex_nfa.specs.Paths.{Accepts}
use Rattle.regex_nfa.specs.declared.nfa.Nfa.{Nfa}
use Rattle.regex_nfa.proofs.PathsLemmas.{Accepts-of_run, no_path_of_run_none}
use Rattle.regex_nfa.proofs.StopLemmas.{Accepts_stop, Accepts_wider, run_narrower}
use Rattle.regex_nfa.proofs.SearchLemmas.{run_unanchored}
use Rattle.regex_compile.specs.Implements.{Implements}
use Rattle.regex_vm.specs.Found.{first_match, span}
use Rattle.regex_dfa.specs.Search.{end_from}
use Rattle.regex_literal.specs.ByteSets.{IsInSet}
use Rattle.regex_literal.specs.Find.{IsFirst}
use Rattle.regex_levels.specs.Beginnings.{BeginsIn}
use Rattle.regex_meta.proofs.LeftmostLemmas.{attempt_fits, find_first, find_here, find_none, find_skip}
use Rattle.regex.proofs.SearchLemmas.{leftmost_attempt}
use Rattle.regex_meta.proofs.ProgramLemmas.{none_of_option_map, refuted, value_of_option_map}

end_of_trace : (o : Option Match) → option_map (λ (t : Trace). t.end) (option_map (λ m. m.trace) o) ≡ option_map (λ m. m.trace.end) o
end_of_trace None = refl
end_of_trace (Some m) = refl

module _ (nfa : Nfa) (re : Re) (implements : Implements nfa re) (hay : List ℕ) where
  pub whole_match : (start : ℕ) → first_match nfa hay (length hay) start (length hay) ≡ find re hay start
  unfolding find
  whole_match start = first_between_cong _ _ start (length hay) (λ i _ _. implements hay i)

  unanchored_end : All (λ b. b < 256) hay → (i : ℕ) → i ≤ length hay →
      end_from nfa hay (length hay) nfa.unanchored i ≡ option_map (λ m. m.trace.end) (find re hay i)
  unfolding find_in
  unanchored_end bytes i inside =
      ap (option_map (λ (t : Trace). t.end)) (run_unanchored nfa hay (length hay) i bytes (omega arith) inside)
      ∙ end_of_trace _ ∙ ap (option_map (λ (m : Match). m.trace.end)) (whole_match i)

  -- where the DFA finds no end there is no match
  pub no_end : All (λ b. b < 256) hay → (at : ℕ) → at ≤ length hay →
      end_from nfa hay (length hay) nfa.unanchored at ≡ None → find re hay at ≡ None
  no_end bytes at inside none = none_of_option_map _ _ (sym (unanchored_end bytes at inside) ∙ none)

  path_of_attempt : (i : ℕ) (t : Trace) → attempt hay re accept i ≡ Some t → t.end ≤ length hay →
      Accepts nfa hay t.end t.end nfa.start i
  path_of_attempt i t e fits =
      Accepts_stop nfa hay (length hay) t.end t.end _ i (omega arith) (Accepts-of_run nfa hay (length hay) _ i t (implements hay i ∙ e))

  attempt_of_path : (i end : ℕ) → end ≤ length hay → ∥ Accepts nfa hay end end nfa.start i ∥₁ →
      (t : Trace) × (attempt hay re accept i ≡ Some t)
  attempt_of_path i end fits path = ⊎_elim
      (λ none. absurd (refuted path (λ it.
      no_path_of_run_none nfa hay (length hay) end _ i (implements hay i ∙ none) (Accepts_wider nfa hay end (length hay) end _ i fits it))))
      (λ some. some)
      (option_cases (attempt hay re accept i))

  -- from the end of the leftmost match, the least start of a path to it is that of the match
  pub span_from_least : All (λ b. b < 256) hay → (floor end from : ℕ) → floor ≤ end → end ≤ length hay →
      end_from nfa hay (length hay) nfa.unanchored floor ≡ Some end → floor ≤ from →
      ∥ Accepts nfa hay end end nfa.start from ∥₁ →
      ((i : ℕ) → floor ≤ i → i < from → ¬ (Accepts nfa hay end end nfa.start i)) →
      Some (from, end) ≡ option_map span (find re hay floor)
  span_from_least bytes floor end from ordered inside ends above path least =
      let v = value_of_option_map _ _ end (sym (unanchored_end bytes floor (omega arith)) ∙ ends) in
      let m = v.0 in
      let first = find_first re hay floor m v.1 in
      let there = attempt_of_path from end inside path in
      let not_after : ¬ (from < m.start) = λ h. none-some there.0 (sym (first.before from above h) ∙ there.1) in
      let on_path = subst (λ x. Accepts nfa hay x x nfa.start m.start) v.2
      (path_of_attempt m.start m.trace first.here (omega (arith, v.2))) in
      let not_before : ¬ (m.start < from) = λ h. least m.start first.from h on_path in
      let same : from ≡ m.start = omega arith in
      ap (λ x. Some (x, end)) same ∙ ap (λ x. Some (m.start, x)) (sym v.2) ∙ sym (ap (option_map span) v.1)

  -- a search over the span of the leftmost match finds that match
  pub match_of_span : (start from end : ℕ) → option_map span (find re hay start) ≡ Some (from, end) →
      (from ≤ end) × (end ≤ length hay) × (first_match nfa hay end from from ≡ find re hay start)
  match_of_span start from end e =
      let v = value_of_option_map _ _ (from, end) e in
      let m = v.0 in
      let first = find_first re hay start m v.1 in
      let starts : m.start ≡ from = ap (λ s. s.0) v.2 in
      let ends : m.trace.end ≡ end = ap (λ s. s.1) v.2 in
      let fits = attempt_fits re hay m.start m.trace first.to first.here in
      let narrow = run_narrower nfa hay (length hay) end (omega arith) _ m.start m.trace (implements hay m.start ∙ first.here) (omega arith) in
      let found : first_match nfa hay end m.start m.start ≡ Some m = first_between_here _ m.start m.start m.trace (omega arith) narrow in
      (omega arith, omega arith, subst (λ x. first_match nfa hay end x x ≡ Some m) starts found ∙ sym v.1)

  -- no match starts before the first byte with which one can start
  pub first_member : (o : Option (List Bool)) (set : List Bool) → ∥ ForSome o (BeginsIn nfa) ∥₁ → o ≡ Some set →
      (start : ℕ) (r : Option ℕ) → IsFirst (IsInSet set hay) start (length hay) r →
      MatchOption r (find re hay start ≡ None) (λ at. find re hay start ≡ find re hay at)
  first_member o set begins is start None none = find_none re hay start (λ i t low high e.
      refuted begins (λ h. let there = h set is hay i t (implements hay i ∙ e) in none i low there.0 there.1))
  first_member o set begins is start (Some at) first =
      find_skip re hay start at first.0.low (λ i t low high e.
      refuted begins (λ h. first.0.before i low high (h set is hay i t (implements hay i ∙ e)).1))

  -- a search over the span of the leftmost match of a text finds that match
  pub match_of_found : (start from end : ℕ) (m : Match) → find_str re hay start ≡ Some m → span m ≡ (from, end) →
      first_match nfa hay end from from ≡ Some m
  match_of_found start from end m found is =
      let at = leftmost_attempt re hay true start m found in
      let here : find re hay m.start ≡ Some m = find_here re hay m.start m.trace at.1 at.2 in
      let starts : m.start ≡ from = ap (λ s. s.0) is in
      let there : find re hay from ≡ Some m = subst (λ i. find re hay i ≡ Some m) starts here in
      (match_of_span from from end (ap (option_map span) there ∙ ap Some is)).2 ∙ there
