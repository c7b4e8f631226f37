-- Where a pattern that spells a text finds it.
use Rattle.std.specs.Prelude.{◌≡◌, ◌≢◌, ℕ, suc, ◌+◌, ◌-◌, true, false, List, [], length, filter, Option, option_map, slice_get, chars, encode_utf8_all, IsUtf8}
use Rattle.regex_hir.specs.Text.{has_bytes_at}
use Rattle.fancy_meaning.specs.MatchState.{Span}
use Rattle.fancy_meaning.specs.Places.{is_place, range_from}
use Rattle.fancy_matches.specs.Matchers.{span_of}
use Rattle.fancy_matches.specs.declared.found.Match.{Match}
use Rattle.fancy_pattern.specs.Escape.{SpellsText, escaped}
use Rattle.fancy_regex.specs.Builders.{IsBuilt}
use Rattle.fancy_regex.specs.declared.options.RegexOptions.{RegexOptions}
use Rattle.fancy_regex.specs.declared.regexes.Regex.{Regex}
use Rattle.fancy_relations.specs.Calls.{ReturnsMatch}

-- the first byte of the text, at `pos` or later, where these bytes begin
abbrev pub first_place : List ℕ → List ℕ → ℕ → Option ℕ
first_place text bytes pos =
    slice_get (filter (λ i. has_bytes_at text i bytes) (range_from pos (suc (length text) - pos))) 0

-- from there to their end
abbrev pub first_span : List ℕ → List ℕ → ℕ → Option Span
first_span text bytes pos = option_map (λ i. (i, i + length bytes)) (first_place text bytes pos)

-- With these options the text is found where its bytes are: case is not folded, and the text is not empty if a match
-- may not be. All other options are as one likes.
pub record FindsBytes (o : RegexOptions) (s : List ℕ) : Type 0 where
  pub unfolded : (o.parsing).case_insensitive ≡ false
  pub allowed : o.not_empty ≡ true → s ≢ []

-- ---- theorems

-- A search for a pattern that spells a text, from a place on, finds the first place where the bytes of the text are, or
-- none if they are nowhere.
abbrev pub SpelledTextIsFound : Type 0
SpelledTextIsFound =
    (s pattern : List ℕ) (o : RegexOptions) (r : Regex) (text : List ℕ) (pos : ℕ) (found : Option Match) →
    IsUtf8 s → SpellsText (chars pattern) (chars s) → FindsBytes o s → IsBuilt pattern o r →
    is_place text pos ≡ true → ReturnsMatch r text pos found → option_map span_of found ≡ first_span text s pos

-- So does a search for what `escape` returns.
abbrev pub EscapeFindsTheText : Type 0
EscapeFindsTheText =
    (s pattern : List ℕ) (o : RegexOptions) (r : Regex) (text : List ℕ) (pos : ℕ) (found : Option Match) →
    IsUtf8 s → pattern ≡ encode_utf8_all (escaped (chars s)) → FindsBytes o s → IsBuilt pattern o r →
    is_place text pos ≡ true → ReturnsMatch r text pos found → option_map span_of found ≡ first_span text s pos
