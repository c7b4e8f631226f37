use Rattle.std.proofs.Common.{◌≡◌, ◌^◌, ◌-◌, ◌+◌, min, ap, arith}
use Rattle.fancy_backtrack.specs.declared.memo.Memo.{Memo}
use Rattle.fancy_backtrack.proofs.memo.Memo.count_more.Goals as goal

pub returns : goal.returns
returns c =
    let m = c.args.self.now in
    let turned : c.saturating_add-self.result ≡ min (2 ^ 64 - 1) (m.visits + c.args.states) = omega (arith, c.saturating_add-self.ensures) in
    ap (λ n. let x : Memo = record m { visits = n } in x) turned
