use Rattle.fancy_state.proofs.StateLaws.{first_view}
use Rattle.fancy_state.proofs.state.State.new.Goals as goal

pub returns-clause-ok : goal.returns-clause-ok
returns-clause-ok c = rw (c.in_ok-new.ensures.ok, c.new-2.ensures.items) (first_view c.args.n_saves c.args.max_stack)
