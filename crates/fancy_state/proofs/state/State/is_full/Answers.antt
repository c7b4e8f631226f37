use Rattle.std.proofs.Common.{nat_le, length, ap, ◌∙◌}
use Rattle.fancy_state.specs.Held.{StateView}
use Rattle.fancy_state.proofs.state.State.is_full.Goals as goal

pub returns : goal.returns
returns c =
    ap (λ n. nat_le c.self.inside.max_stack n) c.backtrack_count.ensures
    ∙ ap (λ (s : StateView). nat_le s.held.max_stack (length c.args.self.now.held.branches)) c.self.view_is
