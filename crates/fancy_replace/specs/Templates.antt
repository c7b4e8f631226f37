-- What a template says: its segments, and the text that they stand for at a match.
use Rattle.std.specs.Prelude.{ℕ, List, [], ◌∷◌, flat_map, map, string_bytes}
use Rattle.std.specs.Option.{option_map_or}
use Rattle.fancy_matches.specs.Listing.{group_span, part}
use Rattle.fancy_replace.specs.declared.template.Segment as code
use Rattle.fancy_replace.specs.declared.template.Segment.TheVariants as code_segment
use Rattle.fancy_replace.specs.declared.template.Template.{Template}

-- a part of a template: these bytes as they stand, or what the first of these groups took that is set
pub data Segment : Type 0 where
  Literal : List ℕ → Segment
  Groups : List ℕ → Segment

-- what the first of these groups took that is set; nothing, if none is
abbrev pub first_group_text : List ℕ → List ℕ → List ℕ → List ℕ
first_group_text text numbers [] = []
first_group_text text numbers (g ∷ groups) =
    option_map_or (part text) (group_span numbers g) (first_group_text text numbers groups)

abbrev pub segment_text : List ℕ → List ℕ → Segment → List ℕ
segment_text text numbers (Literal bytes) = bytes
segment_text text numbers (Groups groups) = first_group_text text numbers groups

-- one after the other, by the text that is searched and the start and end of each group
abbrev pub segments_text : List Segment → List ℕ → List ℕ → List ℕ
segments_text segments text numbers = flat_map (segment_text text numbers) segments

-- ---- what clauses see of a template

abbrev pub segment_of : code.Segment → Segment
segment_of (code_segment.Literal bytes) = Literal (string_bytes bytes)
segment_of (code_segment.Groups groups) = Groups groups.items

abbrev pub segments_of : Template → List Segment
segments_of template = map segment_of template.segments.items

-- the text that it stands for at a match
abbrev pub template_text : Template → List ℕ → List ℕ → List ℕ
template_text template = segments_text (segments_of template)
