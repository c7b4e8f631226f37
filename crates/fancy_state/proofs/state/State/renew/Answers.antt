use Rattle.fancy_state.proofs.StateLaws.{first_view}
use Rattle.fancy_state.proofs.state.State.renew.Goals as goal

pub returns-clause-ok : goal.returns-clause-ok
returns-clause-ok c = rw (c.in_ok-renew.ensures.ok, c.clear.ensures.items) (first_view c.args.n_saves c.args.max_stack)

pub returns-then-n_saves-slot_count-clause-ok : goal.returns-then-n_saves-slot_count-clause-ok
returns-then-n_saves-slot_count-clause-ok c =
    rw (c.restart.ensures, c.clear.ensures.items, ← c.if-n_saves-slot_count.true) (first_view c.args.n_saves c.args.max_stack)
