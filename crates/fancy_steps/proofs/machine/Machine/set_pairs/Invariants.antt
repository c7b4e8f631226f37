use Rattle.std.proofs.Common.{◌≡◌, drop, length}
use Rattle.fancy_meaning.specs.Config as config
use Rattle.fancy_nfa.specs.Ways.{Ascends, listed}
use Rattle.fancy_steps.specs.Outcomes.{config_of}
use Rattle.fancy_steps.proofs.machine.Machine.set_pairs.Given as goal

abbrev pub invariant-pairs : goal.invariant-pairs
invariant-pairs l = record {
  task : l.self.task ≡ l.initial.self.task;
  slots : length (l.self.state.held).slots ≡ (((l.initial.self.task).prog).now.parts).slots;
  ascend : Ascends (drop l.group-index l.spans);
  same : config.with_slots (config.with_pairs (listed (drop l.group-index l.spans)) (config_of l.self).slots) (config_of l.self)
      ≡ config.with_slots (config.with_pairs (listed l.spans) (config_of l.initial.self).slots) (config_of l.initial.self);
}
