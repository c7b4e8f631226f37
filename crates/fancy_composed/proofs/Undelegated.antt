-- A run of the undelegated program answers what the tree means, and ends.
use Rattle.std.proofs.Common.{ℕ, true, false, List, refl, length}
use Rattle.fancy_meaning.specs.OpenCalls.{no_calls, free_calls}
use Rattle.fancy_meaning.specs.Ways.{ways}
use Rattle.fancy_meaning.specs.Layout.{undelegated_layout, program}
use Rattle.fancy_meaning.specs.CompileRefusals.{root}
use Rattle.fancy_meaning.specs.Options.{RunOptions}
use Rattle.fancy_meaning.specs.Premises.{Input, plan, IsAccepted, IsFit}
use Rattle.fancy_meaning.specs.Theorems.{UndelegatedHeadline, UndelegatedRunsEnd}
use Rattle.fancy_composed.proofs.Continuations.{Ground}
use Rattle.fancy_composed.proofs.Alike.{contains}
use Rattle.fancy_composed.proofs.Attempts.{or_else}
use Rattle.fancy_composed.proofs.Branches.{never}
use Rattle.fancy_composed.proofs.Ready.{Ready}
use Rattle.fancy_composed.proofs.Accepted.{ground, ready}
use Rattle.fancy_composed.proofs.Trees.{tree_simulates}
use Rattle.fancy_composed.proofs.Calls.{calls_simulate}
use Rattle.fancy_composed.proofs.Search.{tree, task, q, fits, RootEnumerates, answers, has_enough}

-- the whole tree enumerates its ways
roots_enumerate : (i : Input) (text : List ℕ) (o : RunOptions) (accepted : IsAccepted i (length (program (plan i) never).body))
    (fit : IsFit i text o) → RootEnumerates i text o never accepted fit
roots_enumerate i text o accepted fit start base other falls place stop =
    let w : Ground =
    ground i (length (program (plan i) never).body) accepted (task i text o never accepted fit) fit.is_text
    (fits i text o never accepted fit) start base (λ count. or_else count.longest other) falls in
    let r : Ready w =
    ready i (length (program (plan i) never).body) accepted (task i text o never accepted fit) fit.is_text
    (fits i text o never accepted fit) start base (λ count. or_else count.longest other) falls in
    let whole = tree i text o never accepted fit in
    let search = q i text o never accepted fit in (
      (λ s. ways search.setting whole whole no_calls s),
      tree_simulates w r no_calls (calls_simulate w r stop (free_calls whole no_calls) no_calls refl) whole root true false (λ x y. stop y),
      refl,
      λ s among. contains among,
    )

pub undelegated : UndelegatedHeadline
unfolding undelegated_layout
undelegated i text o accepted fit = answers i text o never accepted fit (roots_enumerate i text o accepted fit)

pub undelegated_runs_end : UndelegatedRunsEnd
unfolding undelegated_layout
undelegated_runs_end i text o accepted fit = has_enough i text o never accepted fit (roots_enumerate i text o accepted fit)
