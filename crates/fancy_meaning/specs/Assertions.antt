-- Where each assertion holds. LF is 10, CR is 13.
use Rattle.std.specs.Prelude.{ℕ, Bool, true, false, ◌&&◌, ◌||◌, not, List, drop, length, ◌==◌, slice_get, if◌then◌else◌}
use Rattle.std.specs.List.{list_all}
use Rattle.regex_hir.specs.Text.{is_some_and, byte_before, char_at, char_before}
use Rattle.fancy_meaning.specs.Tree.{Assertion, StartText, EndText, EndTextIgnoreTrailingNewlines, StartLine, StartLineOniguruma, EndLine, LeftWordBoundary, RightWordBoundary, LeftWordHalfBoundary, RightWordHalfBoundary, WordBoundary, NotWordBoundary, Within, NoLook, InLookAhead, InLookBehind}
use Rattle.fancy_meaning.specs.Chars.{is_word}

-- one of the two alone
abbrev pub differ : Bool → Bool → Bool
differ a b = if a then not b else b

module _ (text : List ℕ) (i : ℕ) where
  abbrev pub at_end : Bool
  at_end = i == length text

  abbrev pub is_after : ℕ → Bool
  is_after c = is_some_and (byte_before text i) (λ b. b == c)

  abbrev pub is_before : ℕ → Bool
  is_before c = is_some_and (slice_get text i) (λ b. b == c)

  unfoldable pub is_line_start : Bool → Bool
  is_line_start crlf = i == 0 || is_after 10 || (crlf && is_after 13 && not (is_before 10))

  unfoldable pub is_line_end : Bool → Bool
  is_line_end false = at_end || is_before 10
  is_line_end true = at_end || is_before 13 || (is_before 10 && not (is_after 13))

  -- the rest is LFs, and with `crlf` also CRs
  unfoldable pub only_newlines_left : Bool → Bool
  only_newlines_left crlf = list_all (λ b. b == 10 || (crlf && b == 13)) (drop i text)

  module _ (unicode : Bool) where
    abbrev pub word_before : Bool
    word_before = is_some_and (char_before text i) (is_word unicode)

    abbrev pub word_after : Bool
    word_after = is_some_and (char_at text i) (is_word unicode)

    -- the assertion holds at place i of the text
    unfoldable pub holds : Assertion → Bool
    holds StartText = i == 0
    holds EndText = at_end
    holds (EndTextIgnoreTrailingNewlines crlf) = only_newlines_left crlf
    holds (StartLine crlf) = is_line_start crlf
    holds (StartLineOniguruma crlf) = is_line_start crlf && (not at_end || length text == 0)
    holds (EndLine crlf) = is_line_end crlf
    holds WordBoundary = differ word_before word_after
    holds NotWordBoundary = not (differ word_before word_after)
    holds LeftWordBoundary = not word_before && word_after
    holds RightWordBoundary = word_before && not word_after
    holds LeftWordHalfBoundary = not word_before
    holds RightWordHalfBoundary = not word_after

-- in a look-around of the tree `StartLineOniguruma` is the plain line start
abbrev pub assertion_within : Within → Assertion → Assertion
assertion_within NoLook a = a
assertion_within InLookAhead (StartLineOniguruma crlf) = StartLine crlf
assertion_within InLookBehind (StartLineOniguruma crlf) = StartLine crlf
assertion_within InLookAhead a = a
assertion_within InLookBehind a = a

-- the assertion speaks of the text's end
abbrev pub is_of_end : Assertion → Bool
is_of_end EndText = true
is_of_end (EndTextIgnoreTrailingNewlines crlf) = true
is_of_end a = false
