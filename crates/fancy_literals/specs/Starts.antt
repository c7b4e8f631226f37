-- Where a match of a tree may begin.
use Rattle.std.specs.Prelude.{◌≡◌, ◌<◌, ℕ, slice_index, Bool, true, false, ◌&&◌, All, List, [], drop, length, MatchOption, Option, None, Some, string_bytes}
use Rattle.regex_hir.specs.Text.{has_bytes_at}
use Rattle.memchr.specs.Find.{NoneBefore, Nowhere}
use Rattle.fancy_meaning.specs.Answer.{search_of, ways_from}
use Rattle.fancy_meaning.specs.Assertions.{holds}
use Rattle.fancy_meaning.specs.MatchState.{MatchState, Ways}
use Rattle.fancy_meaning.specs.Numbering.{numbered_within}
use Rattle.fancy_meaning.specs.Options.{RunOptions}
use Rattle.fancy_meaning.specs.Premises.{Input, plan}
use Rattle.fancy_meaning.specs.Tree.{Tree, Within}
use Rattle.fancy_meaning.specs.Ways.{Setting, ways_with}
use Rattle.fancy_expr.specs.Views.{assertion_of}
use Rattle.fancy_expr.specs.declared.expr.Assertion.{Assertion}
use Rattle.fancy_literals.specs.Befores.{follows}
use Rattle.fancy_literals.specs.Required.{begins_among}
use Rattle.fancy_literals.specs.declared.starts.Starts.{Starts}

-- the assertion, if there is one, holds at this byte of the text
abbrev pub allows : (unicode : Bool) → Option Assertion → (text : List ℕ) → ℕ → Bool
allows unicode None text at = true
allows unicode (Some a) text at = holds text at unicode (assertion_of a)

-- each way of the node begins where the assertion holds
abbrev pub IsGuarded : (unicode : Bool) → Option Assertion → Tree → Type 0
IsGuarded unicode a e = (q : Setting) (call : ℕ → Ways) (w : Within) (n : ℕ) (s : MatchState) → q.unicode ≡ unicode →
    All (λ t. allows unicode a q.text s.place ≡ true) (ways_with q call (numbered_within w n e) s)

-- what is before this byte of the text may be there
abbrev pub is_preceded : Starts → (text : List ℕ) → ℕ → Bool
is_preceded s text at = follows (record { bytes = s.before.bytes; at_start = s.at_start }) text at

-- a match may begin at this byte of the text
abbrev pub may_begin : Starts → (text : List ℕ) → ℕ → Bool
may_begin s text at =
    begins_among s.first.bytes (drop at text)
    && (is_preceded s text at && (allows s.unicode s.guard text at && has_bytes_at text at (string_bytes s.literal)))

-- a text of bytes
abbrev pub AreBytes : (text : List ℕ) → Type 0
AreBytes text = (k : ℕ) → slice_index text k < 256

-- no match begins elsewhere, but for the text's end where `at_end` holds
abbrev pub AreStartsOf : Starts → (unicode : Bool) → Tree → Type 0
AreStartsOf starts unicode tree =
    (i : Input) (text : List ℕ) (o : RunOptions) (at : ℕ) → (i.parsed).tree ≡ tree → (i.options).unicode ≡ unicode →
    (starts.at_end ≡ true → at < length text) → AreBytes text → may_begin starts text at ≡ false →
    ways_from (search_of (plan i) text o) at ≡ []

-- A match may begin at none of the bytes of the text from `from` on, or up to this one at none of them.
abbrev pub IsNextStart : Starts → (text : List ℕ) → (from : ℕ) → Option ℕ → Type 0
IsNextStart s text from found =
    MatchOption found (Nowhere (λ at. may_begin s text at ≡ true) from (length text))
    (λ at. NoneBefore (λ k. may_begin s text k ≡ true) from (length text) at)
