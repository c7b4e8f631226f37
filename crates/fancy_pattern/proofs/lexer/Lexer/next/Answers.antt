use Rattle.std.proofs.Common.{refl}
use Rattle.fancy_pattern.proofs.Lexed.{steps_more}
use Rattle.fancy_pattern.proofs.lexer.Lexer.next.Goals as goal

pub returns-in-Some-clause-steps : goal.returns-in-Some-clause-steps
returns-in-Some-clause-steps c =
    steps_more c.args.self.now c.pass_literals.new.self _ c.pass_lone.new.self c.pass_lone.result c.in_ok-pass_literals.ensures.steps
    c.pass_lone.ensures.steps refl refl refl

pub returns-in-None-clause-steps : goal.returns-in-None-clause-steps
returns-in-None-clause-steps c =
    steps_more c.args.self.now c.pass_literals.new.self _ c.next_parenthesis.new.self c.next_parenthesis.result c.in_ok-pass_literals.ensures.steps
    c.next_parenthesis.ensures.steps refl refl refl
