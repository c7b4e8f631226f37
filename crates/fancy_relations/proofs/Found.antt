-- Calls of one regex return what is seen of one answer.
use Rattle.std.proofs.Common.{◌≡◌, ◌≢◌, ◌<◌, ℕ, Bool, List, length, Option, Some, None, is_some, option_map, refl, sym, ap, ◌∙◌, arith}
use Rattle.std.proofs.lemmas.Option.{same_Some}
use Rattle.fancy_meaning.specs.Answer.{answer, search_of}
use Rattle.fancy_meaning.specs.MatchState.{Span}
use Rattle.fancy_meaning.specs.Numbers.{usize_max}
use Rattle.fancy_meaning.specs.Premises.{IsSpan, IsText, plan}
use Rattle.fancy_laws.proofs.Moves.{is_place_parts}
use Rattle.fancy_steps.specs.Outcomes.{first_pair}
use Rattle.fancy_matches.specs.Listing.{begun_at, group_span}
use Rattle.fancy_matches.specs.Matchers.{shown_match, span_of, text_of, with_numbers, with_span}
use Rattle.fancy_matches.specs.declared.found.Match.{Match}
use Rattle.fancy_matches.proofs.Lists.{group_is}
use Rattle.fancy_regex.specs.Builders.{IsBuilt}
use Rattle.fancy_regex.specs.Found.{captures_text, numbers_in, shown_captures}
use Rattle.fancy_regex.specs.Options.{input, running}
use Rattle.fancy_regex.specs.declared.found.Captures.{Captures}
use Rattle.fancy_regex.specs.declared.options.RegexOptions.{RegexOptions}
use Rattle.fancy_regex.specs.declared.regexes.Regex.{Regex}
use Rattle.fancy_relations.specs.Calls.{IsGroupZero, ReturnsCaptures, ReturnsMatch, ReturnsWhether}

both_there : (text : List ℕ) (found : Option Match) (a : Option (List ℕ)) →
    option_map shown_match found ≡ option_map (with_span text) a → is_some a ≡ is_some found
both_there text None None e = refl
both_there text None (Some n) e = cc
both_there text (Some m) None e = cc
both_there text (Some m) (Some n) e = refl

module _ (pattern : List ℕ) (o : RegexOptions) (r : Regex) (text : List ℕ) (pos : ℕ) where
  pub whether_is_match : (there : Bool) (found : Option Match) → IsBuilt pattern o r → ReturnsWhether r text pos there →
      ReturnsMatch r text pos found → there ≡ is_some found
  whether_is_match there found is whether finds =
      let i = input is.tree o in
      let run = running o text in
      (whether i run (is.compiled text)).1
      ∙ both_there text found (answer (search_of (plan i) text (begun_at run pos))) (finds i run (is.compiled text)).1

  group_zero : (found : Option Match) (groups : Option Captures) (a : Option (List ℕ)) → length text < usize_max →
      option_map shown_match found ≡ option_map (with_span text) a →
      option_map shown_captures groups ≡ option_map (with_numbers text) a → IsGroupZero found groups
  group_zero None None a fits e f = tt
  group_zero None (Some c) None fits e f = cc
  group_zero None (Some c) (Some n) fits e f = cc
  group_zero (Some m) None None fits e f = cc
  group_zero (Some m) None (Some n) fits e f = cc
  group_zero (Some m) (Some c) None fits e f = cc
  group_zero (Some m) (Some c) (Some n) fits e f =
      let shown : ◌≡◌ {A = List ℕ × Span} (text_of m, span_of m) (text, first_pair n) = same_Some _ _ e in
      let all : ◌≡◌ {A = List ℕ × List ℕ} (captures_text c, numbers_in c) (text, n) = same_Some _ _ f in
      let same_text : text_of m ≡ text = ap (λ p. p.0) shown in
      let same_span : span_of m ≡ first_pair n = ap (λ p. p.1) shown in
      let numbers : numbers_in c ≡ n = ap (λ p. p.1) all in
      let whole : IsSpan (text_of m) (span_of m) = m.in_text in
      let in_order = whole.in_order in
      let within = (is_place_parts (text_of m) (span_of m).1 whole.to).0 in
      let long : length (text_of m) ≡ length text = ap length same_text in
      let start : (span_of m).0 ≡ (first_pair n).0 = ap (λ (p : Span). p.0) same_span in
      let set : (first_pair n).0 ≢ usize_max = λ e'. omega (arith, e', start, in_order, within, long, fits) in (
        same_text ∙ sym (ap (λ p. p.0) all),
        ap Some same_span ∙ sym (ap (λ l. group_span l 0) numbers ∙ group_is n 0 (first_pair n).0 (first_pair n).1 refl refl set),
      )

  pub match_is_group_zero : (found : Option Match) (groups : Option Captures) → IsBuilt pattern o r → IsText text →
      ReturnsMatch r text pos found → ReturnsCaptures r text pos groups → IsGroupZero found groups
  match_is_group_zero found groups is fits finds captures =
      let i = input is.tree o in
      let run = running o text in
      group_zero found groups (answer (search_of (plan i) text (begun_at run pos))) fits.fits (finds i run (is.compiled text)).1
      (captures i run (is.compiled text)).1
