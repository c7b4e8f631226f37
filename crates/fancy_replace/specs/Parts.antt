-- What a list of parts stands for at a match.
use Rattle.std.specs.Prelude.{ℕ, List, [], flat_map}
use Rattle.std.specs.Option.{option_map_or}
use Rattle.fancy_matches.specs.Listing.{group_span, part}
use Rattle.fancy_replace.specs.declared.parts.Part.{Part}
use Rattle.fancy_replace.specs.declared.parts.Part.TheVariants.{Group, Text}

-- what a group took of the text: nothing, if it is not there or not set
abbrev pub group_text : List ℕ → List ℕ → ℕ → List ℕ
group_text text numbers g = option_map_or (part text) (group_span numbers g) []

abbrev pub part_text : List ℕ → List ℕ → Part → List ℕ
part_text text numbers (Text s) = s.now
part_text text numbers (Group g) = group_text text numbers g

-- one after the other
abbrev pub parts_text : List ℕ → List ℕ → List Part → List ℕ
parts_text text numbers parts = flat_map (part_text text numbers) parts
