use Rattle.std.proofs.Common.{arith, ◌∙◌, length-set}
use Rattle.fancy_characters.specs.SimpleClasses.{is_in_simple}
use Rattle.fancy_characters.proofs.ClassLaws.{one_more_answer}
use Rattle.fancy_characters.proofs.simple_classes.SimpleClass.ascii.Goals as goal

pub ask-preserved : goal.ask-preserved
ask-preserved c = (
  one_more_answer (is_in_simple c.args.self) c.ask.answers c.ask.c c.takes_ascii.result (omega (arith, c.ask.invariant.1)) c.takes_ascii.ensures
      c.ask.invariant.0,
  length-set c.ask.answers c.ask.c c.takes_ascii.result ∙ c.ask.invariant.1,
)
