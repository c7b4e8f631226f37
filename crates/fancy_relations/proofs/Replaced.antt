-- Pieces with the same between any two of them, and matches in the place of themselves.
use Rattle.std.proofs.Common.{◌≡◌, ◌≢◌, ℕ, zero, suc, ◌<◌, List, [], ◌∷◌, ◌++◌, length, map, take, Option, Some, None, Ok, codes, slice_range, refl, sym, ap, ap₂, ◌∙◌, arith, append-nil}
use Rattle.std.specs.Cow.{cow_str_bytes}
use Rattle.std.specs.declared.alloc.Global.{Global}
use Rattle.std.specs.declared.borrow.CowStr.{CowStr}
use Rattle.fancy_meaning.specs.MatchState.{Span}
use Rattle.fancy_meaning.specs.Numbers.{usize_max}
use Rattle.fancy_meaning.specs.Options.{RunOptions}
use Rattle.fancy_meaning.specs.Premises.{Input, IsSpan, IsText, plan}
use Rattle.fancy_laws.proofs.Moves.{is_place_parts}
use Rattle.fancy_steps.specs.Outcomes.{first_pair}
use Rattle.fancy_matches.specs.Listing.{AreApart, all_matches, in_turn, part, pieces}
use Rattle.fancy_matches.proofs.Lists.{group_is, matches_apart, spans_join}
use Rattle.fancy_replace.specs.Pieces.{pieces_between, take_limit}
use Rattle.std.specs.Option.{option_map_or}
use Rattle.fancy_replace.specs.Reading.{Names, expansion, tokens_after}
use Rattle.fancy_replace.specs.Templates.{first_group_text}
use Rattle.fancy_replace.specs.Replacements.{to_replace}
use Rattle.fancy_regex.specs.Builders.{IsBuilt}
use Rattle.fancy_regex.specs.Options.{input, running}
use Rattle.fancy_regex.specs.Regexes.{IsRegexOf, IsReplacement}
use Rattle.fancy_regex.specs.declared.options.RegexOptions.{RegexOptions}
use Rattle.fancy_regex.specs.declared.regexes.Regex.{Regex}
use Rattle.fancy_relations.specs.Replaced.{WritesAlways, joined_by, pieces_around}

-- ---- the same for each match

joined_next : (text by piece : List ℕ) (from : ℕ) (spans : List Span) →
    joined_by by (piece ∷ pieces text from spans) ≡ piece ++ (by ++ joined_by by (pieces text from spans))
joined_next text by piece from [] = refl
joined_next text by piece from ((start, end) ∷ spans) = refl

each_by : (text by : List ℕ) (write : List ℕ → List ℕ) → ((numbers : List ℕ) → write numbers ≡ by) → (from : ℕ) (ms : List (List ℕ)) →
    in_turn (pieces_between text from ms) (map write ms) ≡ joined_by by (pieces_between text from ms)
each_by text by write same from [] = append-nil (slice_range text from (length text))
each_by text by write same from (m ∷ ms) =
    let piece = slice_range text from (first_pair m).0 in
    let end = (first_pair m).1 in
    ap₂ (λ x rest. piece ++ (x ++ rest)) (same m) (each_by text by write same end ms)
    ∙ sym (joined_next text by piece end (map first_pair ms))

around : (text by : List ℕ) (limit : Option ℕ) (i : Input) (o : RunOptions) →
    joined_by by (pieces_between text 0 (to_replace i o text limit)) ≡ joined_by by (pieces_around text limit i o)
around text by None i o = refl
around text by (Some limit) i o = refl

pub by_literal : (r q : Regex) (text by : List ℕ) (limit : Option ℕ) (write : List ℕ → List ℕ → List ℕ) (v : CowStr Global) →
    WritesAlways write by → IsReplacement r text limit write (Ok v) q →
    (i : Input) (o : RunOptions) → IsRegexOf i text o r → cow_str_bytes v ≡ joined_by by (pieces_around text limit i o)
by_literal r q text by limit write v same is i o of_regex =
    (is.replaced.promise i o of_regex).0
    ∙ each_by text by (write text) (same text) 0 (to_replace i o text limit)
    ∙ around text by limit i o

-- ---- each match by `$0`

group_zero : (names : Names) (text numbers : List ℕ) → (first_pair numbers).0 ≢ usize_max →
    expansion names (codes "$0") text numbers ≡ part text (first_pair numbers)
unfolding tokens_after
group_zero names text numbers set =
    append-nil (first_group_text text numbers (0 ∷ []))
    ∙ ap (λ o. option_map_or (part text) o []) (group_is numbers 0 (first_pair numbers).0 (first_pair numbers).1 refl refl set)

each_itself : (text : List ℕ) (names : Names) → length text < usize_max → (last : Option ℕ) (ms : List (List ℕ)) → AreApart text last (map first_pair ms) →
    map (expansion names (codes "$0") text) ms ≡ map (part text) (map first_pair ms)
each_itself text names fits last [] apart = refl
each_itself text names fits last (m ∷ ms) apart =
    let span : IsSpan text (first_pair m) = apart.1.0 in
    let within = (is_place_parts text (first_pair m).1 span.to).0 in
    let in_order = span.in_order in
    ap₂ (λ x rest. x ∷ rest) (group_zero names text m (λ e. omega (arith, e, within, in_order, fits)))
    (each_itself text names fits (Some (first_pair m).1) ms apart.1.1)

-- the first of them lie apart too
apart_first : (text : List ℕ) (n : ℕ) (last : Option ℕ) (ms : List (List ℕ)) → AreApart text last (map first_pair ms) →
    AreApart text last (map first_pair (take n ms))
apart_first text zero last ms apart = tt
apart_first text (suc n) last [] apart = tt
apart_first text (suc n) last (m ∷ ms) apart = (apart.0, (apart.1.0, apart_first text n (Some (first_pair m).1) ms apart.1.1))

apart_within : (text : List ℕ) (limit : Option ℕ) (ms : List (List ℕ)) → AreApart text None (map first_pair ms) →
    AreApart text None (map first_pair (take_limit limit ms))
apart_within text None ms apart = apart
apart_within text (Some n) ms apart = apart_first text n None ms apart

pub by_itself : (pattern : List ℕ) (options : RegexOptions) (r q : Regex) (text : List ℕ) (limit : Option ℕ) (names : Names)
    (v : CowStr Global) → IsBuilt pattern options r → IsText text →
    IsReplacement r text limit (expansion names (codes "$0")) (Ok v) q → cow_str_bytes v ≡ text
by_itself pattern options r q text limit names v built fits is =
    let i = input built.tree options in
    let o = running options text in
    let ms = to_replace i o text limit in
    let apart : AreApart text None (map first_pair ms) = apart_within text limit (all_matches (plan i) text o) (matches_apart (plan i) text o fits) in
    (is.replaced.promise i o (built.compiled text)).0
    ∙ ap (in_turn (pieces_between text 0 ms)) (each_itself text names fits.fits None ms apart)
    ∙ spans_join text (map first_pair ms) apart
