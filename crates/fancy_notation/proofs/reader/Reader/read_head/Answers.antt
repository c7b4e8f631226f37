use Rattle.std.proofs.Common.{refl, sym, ◌∙◌}
use Rattle.fancy_notation.specs.Grammar.{in_word, head_word}
use Rattle.fancy_notation.specs.NotationViews.{point_of}
use Rattle.fancy_notation.proofs.Loops.{skips_giving}
use Rattle.fancy_notation.proofs.reader.Reader.read_head.Goals as goal

pub returns : goal.returns
returns c = (
  point_of c.take.new.self,
  skips_giving (in_word (head_word c.args.self.now.groups)) _ c.args.self.now c.take.new.self (sym c.found_head-found.ensures
      ∙ c.in_ok-head.ensures.0) c.in_ok-head.ensures.1,
  refl,
  c.in_ok-head.ensures.1.end,
)
