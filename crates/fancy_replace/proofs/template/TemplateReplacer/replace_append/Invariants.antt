use Rattle.std.proofs.Common.{map, take}
use Rattle.fancy_matches.specs.Matchers.{captures_text, numbers_in}
use Rattle.fancy_replace.specs.Outputs.{Grows}
use Rattle.fancy_replace.specs.Templates.{segment_of, segments_text}
use Rattle.fancy_replace.proofs.template.TemplateReplacer.replace_append.Given as goal

abbrev pub invariant-loop-segment : goal.invariant-loop-segment
invariant-loop-segment g l =
    Grows g.O.Output.holds l.fn.out
    (segments_text (map segment_of (take l.segment-index l.self.segments.items)) (captures_text l.captures) (numbers_in l.captures)) l.out
