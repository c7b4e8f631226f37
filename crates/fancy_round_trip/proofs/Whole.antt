-- A pattern text spells its tree, and what a pattern spells returns.
use Rattle.std.proofs.Common.{◌≡◌, ◌≤◌, Bool, false, List, [], encode_utf8_all, refl, sym, ◌∙◌, subst, arith, append-nil}
use Rattle.std.proofs.lemmas.Str.{encodes_same}
use Rattle.fancy_meaning.specs.Tree.{Tree}
use Rattle.fancy_meaning.specs.WellFormed.{most_groups}
use Rattle.fancy_meaning.specs.PatternText.{text_of}
use Rattle.fancy_expr.specs.Each.{Each}
use Rattle.fancy_pattern.specs.declared.options.ParseOptions.{ParseOptions}
use Rattle.fancy_pattern.specs.Texts.{Text}
use Rattle.fancy_tokens.specs.Tokens.{Placed}
use Rattle.fancy_pattern.specs.Lexing.{ended}
use Rattle.fancy_tokens.specs.Nesting.{most_nested}
use Rattle.fancy_pattern.specs.Naming.{named_in}
use Rattle.fancy_pattern.specs.Spelling.{HasTokens, Spells, every_group, named_groups}
use Rattle.fancy_pattern.proofs.FoundTokens.{FineToken, opened_in, tokens_fine, groups_few}
use Rattle.fancy_pattern.proofs.Counting.{spelled_groups}
use Rattle.fancy_round_trip.specs.Returning.{Returns, depth_of}
use Rattle.fancy_round_trip.specs.RoundTrip.{plain_options, TextSpellsItsTree, RoundTrip}
use Rattle.fancy_round_trip.proofs.Spelled.{spell, opens}
use Rattle.fancy_round_trip.proofs.Readings.{readings}
use Rattle.fancy_round_trip.proofs.Bytes.{bytes}
use Rattle.fancy_round_trip.proofs.Opened.{opens_groups}
use Rattle.fancy_round_trip.proofs.Made.{spelled_returns}
use Rattle.fancy_round_trip.proofs.Easy.{easy_plain}

spells_own : (unicode : Bool) (e : Tree) (h : Returns e) → depth_of e 0 ≤ most_nested → opens e ≤ most_groups →
    Spells (plain_options unicode) (spell e h 0 []) e
spells_own unicode e h nested few =
    let r = (readings unicode e h).whole [] 0 (opens e) [] [] (omega (arith, nested)) (omega arith) few tt (refl, refl) (ended refl) in
    record { ignored = false; tokens = r.tokens; lexed = every_group r.lexes refl; spelled = r.is (named_in r.tokens) }

-- no other characters have these bytes
its_text : (e : Tree) (h : Returns e) (text : Text) → encode_utf8_all text ≡ text_of e 0 → text ≡ spell e h 0 []
its_text e h text is = encodes_same text (spell e h 0 []) (is ∙ sym (bytes e h 0 [] ∙ append-nil (text_of e 0)))

pub text_spells : TextSpellsItsTree
text_spells e h nested few unicode text is =
    let k = opens_groups e h in
    subst (λ t. Spells (plain_options unicode) t e) (sym (its_text e h text is)) (spells_own unicode e h nested (omega (arith, few, k)))

few_opened : {options : ParseOptions} {text : Text} {ignored : Bool} {ts : List Placed} → HasTokens options text ignored ts → opened_in ts ≤ most_groups
few_opened (every_group l h) = let k = groups_few l (omega arith) in omega (arith, k)
few_opened (named_groups l h m) = let k = groups_few m (omega arith) in omega (arith, k)

all_fine : {options : ParseOptions} {text : Text} {ignored : Bool} {ts : List Placed} → HasTokens options text ignored ts → Each (λ p. FineToken p.token) ts
all_fine (every_group l h) = tokens_fine l (omega arith)
all_fine (named_groups l h m) = tokens_fine m (omega arith)

pub round_trip : RoundTrip
round_trip options pattern e s a may =
    let opened = spelled_groups (named_in s.tokens) s.tokens e s.spelled (all_fine s.lexed) in
    let few = few_opened s.lexed in
    text_spells e (spelled_returns options pattern e s (easy_plain a e may.easy may.no_definition) may.none_rewritten) may.nested (omega (arith, opened, few))
