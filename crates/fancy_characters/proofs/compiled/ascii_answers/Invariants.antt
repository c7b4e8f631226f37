use Rattle.std.proofs.Common.{◌≡◌, ℕ, ◌<◌, false, length, is_some, slice_index_or, encode_utf8}
use Rattle.regex_hir.specs.Find.{find_str}
use Rattle.regex.specs.Strings.{regex_pattern, matcher_pattern}
use Rattle.fancy_characters.proofs.compiled.ascii_answers.Given as goal

abbrev pub invariant-ask : goal.invariant-ask
invariant-ask l =
    ((c : ℕ) → c < l.c → slice_index_or l.answers c false ≡ is_some (find_str (regex_pattern l.regex) (encode_utf8 c) 0))
    × (length l.answers ≡ 128) × (matcher_pattern l.matcher ≡ regex_pattern l.regex)
