use Rattle.std.proofs.Common.{◌≡◌, suc, length, min, arith}
use Rattle.fancy_backtrack.proofs.BacktrackStackLaws.{one_taken, run_taken}
use Rattle.fancy_backtrack.proofs.backtrack_stack.BacktrackStack.pop.Goals as goal

pub returns-then-before-eq0 : goal.returns-then-before-eq0
returns-then-before-eq0 c =
    let runs = c.args.self.now.runs in
    let last = c.in_ok-last.last in
    let long : min c.args.self.now.len (length runs.items) ≡ suc last = omega (arith, c.len.ensures, c.min.ensures, c.in_ok-last.ensures, runs.ok.0) in
    run_taken runs.items c.args.self.now.len last c.index.result.now long c.index.ensures c.if-before-eq0.true

pub returns-else-before-eq0 : goal.returns-else-before-eq0
returns-else-before-eq0 c =
    let runs = c.args.self.now.runs in
    let last = c.in_ok-last.last in
    let long : min c.args.self.now.len (length runs.items) ≡ suc last = omega (arith, c.len.ensures, c.min.ensures, c.in_ok-last.ensures, runs.ok.0) in
    one_taken runs.items c.args.self.now.len last c.index.result.now c.one_before.result long c.index.ensures c.if-before-eq0.false c.one_before.ensures
