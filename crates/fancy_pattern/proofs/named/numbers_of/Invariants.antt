use Rattle.std.proofs.Common.{◌≡◌, ℕ, List, [], take, map, filter, string_bytes, is_some}
use Rattle.std.specs.List.{list_any}
use Rattle.std.specs.BTreeMap.{get_by_text}
use Rattle.std.specs.Option.{option_map_or}
use Rattle.std.specs.Str.{bytes_eq}
use Rattle.fancy_pattern.proofs.named.numbers_of.Given as goal

abbrev pub invariant-loop-name : goal.invariant-loop-name
invariant-loop-name l =
    ((q : List ℕ) → option_map_or (λ g. g.items) (get_by_text l.numbers q) [] ≡ map (λ p. p.1) (filter (λ p. bytes_eq q (string_bytes p.0)) (take l.name-index l.pairs)))
    × ((q : List ℕ) → is_some (get_by_text l.numbers q) ≡ list_any (λ p. bytes_eq q (string_bytes p.0)) (take l.name-index l.pairs))
