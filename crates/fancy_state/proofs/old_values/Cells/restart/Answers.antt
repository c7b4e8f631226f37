use Rattle.std.proofs.Common.{◌<◌, ◌≡◌, ℕ, suc, [], length, vec_len, arith, sym, ap, subst}
use Rattle.fancy_state.specs.OldValues.{Cells}
use Rattle.fancy_state.proofs.CellLaws.{last_of_same}
use Rattle.fancy_state.proofs.old_values.Cells.restart.Goals as goal

pub returns : goal.returns
returns c =
    let count : ℕ = c.args.count in
    let values = c.self.inside.values in
    let here : count < length values.items = subst (λ (k : Cells). count < length k.values) (sym c.self.view_is) c.requires in
    let len : vec_len c.truncate.new.self ≡ suc count = omega (arith, here, c.truncate.ensures.len, values.ok.0) in
    rw (c.clear.ensures.items, c.fill.ensures.items (λ y e. e), len) (ap (λ v. record { values = v; log = [] }) (last_of_same count))
