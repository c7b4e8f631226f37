use Rattle.std.proofs.Common.{arith}
use Rattle.fancy_steps.proofs.memos.Memos.restart.Goals as goal

pub returns-in-Some : goal.returns-in-Some
returns-in-Some c task = record {
  each = λ pc memo stands same.
      let before = c.args.self.now.of_runs pc memo stands in
      absurd (omega (arith, before, same, c.in-Some.ensures));
}
