-- What clauses see of the groups of a match.
use Rattle.std.specs.Prelude.{◌≡◌, ◌<◌, ◌≤◌, ◌+◌, ℕ, List, [], ◌∷◌, Option, None, MatchOption, IfSome, option_map}
use Rattle.std.specs.Arc.{arc_value}
use Rattle.std.specs.Option.{option_or}
use Rattle.fancy_meaning.specs.MatchState.{Span}
use Rattle.fancy_matches.specs.Listing.{group_span}
use Rattle.fancy_matches.specs.Matchers as engine
use Rattle.fancy_matches.specs.Matchers.{span_of, text_of}
use Rattle.fancy_matches.specs.declared.found.Match.{Match}
use Rattle.fancy_regex.specs.Names.{group_count}
use Rattle.fancy_regex.specs.declared.found.Captures.{Captures}
use Rattle.fancy_regex.specs.declared.found.SubCaptureMatches.{SubCaptureMatches}
use Rattle.fancy_regex.specs.declared.names.GroupNames.{GroupNames}

abbrev pub captures_text : Captures → List ℕ
captures_text c = engine.captures_text c.groups

-- start and end of each group
abbrev pub numbers_in : Captures → List ℕ
numbers_in c = engine.numbers_in c.groups

abbrev pub shown_captures : Captures → List ℕ × List ℕ
shown_captures c = engine.shown_captures c.groups

-- how many groups the pattern has, and their names
abbrev pub captures_names : Captures → GroupNames
captures_names c = arc_value c.names

-- the span of the first of these groups that is set
abbrev pub first_span : List ℕ → List ℕ → Option Span
first_span numbers [] = None
first_span numbers (g ∷ groups) = option_or (group_span numbers g) (first_span numbers groups)

-- The next group has this span, in the text, or there is none.
abbrev pub NextGroup : SubCaptureMatches → Option (Option Match) → SubCaptureMatches → Type 0
NextGroup s item t =
    (t.captures ≡ s.captures)
    × MatchOption item ((group_count (captures_names s.captures.now) ≤ s.next) × (t.next ≡ s.next))
    (λ found. (s.next < group_count (captures_names s.captures.now)) × (t.next ≡ s.next + 1)
    × (option_map span_of found ≡ group_span (numbers_in s.captures.now) s.next)
    × IfSome found (λ m. text_of m ≡ captures_text s.captures.now))
