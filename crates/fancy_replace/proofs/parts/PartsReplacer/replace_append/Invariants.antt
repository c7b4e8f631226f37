use Rattle.std.proofs.Common.{take}
use Rattle.fancy_matches.specs.Matchers.{captures_text, numbers_in}
use Rattle.fancy_replace.specs.Outputs.{Grows}
use Rattle.fancy_replace.specs.Parts.{parts_text}
use Rattle.fancy_replace.proofs.parts.PartsReplacer.replace_append.Given as goal

abbrev pub invariant-loop-part : goal.invariant-loop-part
invariant-loop-part g l =
    Grows g.O.Output.holds l.fn.out (parts_text (captures_text l.captures) (numbers_in l.captures) (take l.part-index l.self.0.now)) l.out
