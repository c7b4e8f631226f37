use Rattle.std.proofs.Common.{refl, ◌∙◌}
use Rattle.fancy_fragments.proofs.DelegateParts.{parts_are}
use Rattle.fancy_fragments.proofs.delegate.Delegate.named.Goals as goal

pub returns-clause-delegate : goal.returns-clause-delegate
returns-clause-delegate c = c.new.ensures.instr ∙ parts_are refl c.in_ok-fragment.ensures.fragment c.group_range.ensures
