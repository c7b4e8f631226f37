use Rattle.std.proofs.Common.{◌≡◌, [], map, take, string_bytes}
use Rattle.fancy_meaning.specs.PatternText.{text_of, joined}
use Rattle.fancy_fragments.specs.Nodes.{plain_tree}
use Rattle.fancy_fragments.proofs.delegate.pattern_text.Given as goal

abbrev pub invariant-loop-info : goal.invariant-loop-info
invariant-loop-info l = string_bytes l.text ≡ joined [] (map (λ i. text_of (plain_tree i) 1) (take l.info-index l.infos))
