use Rattle.std.proofs.Common.{◌≡◌, ◌++◌, map}
use Rattle.fancy_analysis.specs.Names.{names_of}
use Rattle.fancy_replace.specs.Reading.{reading, segment_for}
use Rattle.fancy_replace.specs.Templates.{segment_of}
use Rattle.fancy_replace.specs.Tokens.{tokens_left}
use Rattle.fancy_replace.proofs.template.segments.Given as goal

abbrev pub invariant-loop-token : goal.invariant-loop-token
invariant-loop-token l =
    let names = names_of l.names.entries in
    map segment_of l.segments.items ++ map (segment_for names) (tokens_left l.token-iterator) ≡ reading names l.text
