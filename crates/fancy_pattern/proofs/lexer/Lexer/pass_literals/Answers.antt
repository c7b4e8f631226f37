use Rattle.std.proofs.Common.{true, arith}
use Rattle.fancy_pattern.proofs.Lexed.{stayed, steps_on, goes_on_by}
use Rattle.fancy_pattern.proofs.lexer.Lexer.pass_literals.Goals as goal

pub loop-token-init : goal.loop-token-init
loop-token-init c = record { steps = stayed c.args.self.now; shorter = omega arith }

pub loop-token-preserved : goal.loop-token-preserved
loop-token-preserved c =
    let before = c.loop-token.invariant in
    let passed = c.in_ok-pass_lone.ensures in
    let on = goes_on_by _ c.pass_lone.new.self _ passed.goes_on passed.steps in
    record {
      steps =
          steps_on true c.args.self.now c.loop-token.self c.pass_lone.new.self before.steps on;
      shorter = let a = passed.shorter in let b = before.shorter in omega (arith, a, b);
    }
