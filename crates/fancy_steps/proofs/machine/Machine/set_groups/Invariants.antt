use Rattle.std.proofs.Common.{◌≡◌, ◌+◌, drop, length}
use Rattle.fancy_meaning.specs.Config as config
use Rattle.fancy_nfa.specs.GroupSpans.{span_from}
use Rattle.fancy_steps.specs.Outcomes.{config_of}
use Rattle.fancy_steps.proofs.machine.Machine.set_groups.Given as goal

abbrev pub invariant-groups : goal.invariant-groups
invariant-groups l = record {
  task : l.self.task ≡ l.initial.self.task;
  slots : length (l.self.state.held).slots ≡ (((l.initial.self.task).prog).now.parts).slots;
  same : config.with_slots (config.with_pairs (span_from (l.first + l.index) (drop l.index l.spans)) (config_of l.self).slots) (config_of l.self)
      ≡ config.with_slots (config.with_pairs (span_from l.first l.spans) (config_of l.initial.self).slots) (config_of l.initial.self);
}
