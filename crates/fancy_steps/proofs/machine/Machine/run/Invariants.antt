use Rattle.std.proofs.Common.{◌≡◌}
use Rattle.fancy_meaning.specs.Machine as machine
use Rattle.fancy_steps.specs.Memos.{AreMemosOf}
use Rattle.fancy_steps.specs.Outcomes.{config_of, plain_task}
use Rattle.fancy_program.proofs.PlacesLaws.{IsAtPlaces}
use Rattle.fancy_steps.proofs.machine.Machine.run.Given as goal

abbrev pub invariant-steps : goal.invariant-steps
invariant-steps l =
    let t = l.initial.self.task in
    record {
      task : l.self.task ≡ t;
      memos : AreMemosOf t l.memos;
      places : IsAtPlaces (t.text).now (config_of l.self);
      same : machine.exec (plain_task t) l.left (config_of l.self) ≡ machine.run (plain_task t);
    }

abbrev pub decreases-steps : goal.decreases-steps
decreases-steps l = l.left
