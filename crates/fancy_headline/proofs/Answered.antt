-- A run of the program with delegates answers what the tree means, and ends.
use Rattle.std.proofs.Common.{ℕ, Bool, false, not, List, arith, length}
use Rattle.fancy_meaning.specs.Tree.{Tree}
use Rattle.fancy_meaning.specs.OpenCalls.{no_calls}
use Rattle.fancy_meaning.specs.MatchState.{first_state}
use Rattle.fancy_meaning.specs.Options.{RunOptions}
use Rattle.fancy_meaning.specs.Hard.{is_hard}
use Rattle.fancy_meaning.specs.Layout.{layout, program}
use Rattle.fancy_meaning.specs.CompileRefusals.{root}
use Rattle.fancy_meaning.specs.Premises.{Input, plan, IsAccepted, IsFit}
use Rattle.fancy_meaning.specs.Theorems.{DelegationIsHarmless, Headline, RunsEnd}
use Rattle.fancy_laws.proofs.SizedWays.{first_is_sound}
use Rattle.fancy_composed.proofs.Alike.{contains}
use Rattle.fancy_composed.proofs.Attempts.{or_else}
use Rattle.fancy_composed.proofs.Parts.{place_within}
use Rattle.fancy_composed.proofs.Search.{task, q, fits, RootEnumerates, answers, has_enough}
use Rattle.fancy_laws.proofs.Every.{every_weaker}
use Rattle.fancy_delegation.proofs.Admitted.{same_admitted}
use Rattle.fancy_delegation.proofs.Items.{every_is_in, is_in_contained, contained_is_in}
use Rattle.fancy_delegation.proofs.Delegated.{part_of}
use Rattle.fancy_delegation.proofs.DelegatedCalls.{whole_key_equal}
use Rattle.fancy_delegation.proofs.OnMachine.{setup}
use Rattle.fancy_delegation.proofs.Harmless as harmless
use Rattle.fancy_headline.proofs.Simulates.{batches_simulate, easy_repeaters_simulate}

pub delegation_is_harmless : DelegationIsHarmless
delegation_is_harmless = harmless.delegation_is_harmless batches_simulate easy_repeaters_simulate

-- the nodes that are left to a plain search
abbrev pub easy : Input → Tree → Bool
easy i e = not (is_hard (plan i).analysis e)

module _ (i : Input) (text : List ℕ) (o : RunOptions) (accepted : IsAccepted i (length (program (plan i) (easy i)).body))
    (fit : IsFit i text o) where
  -- the whole tree enumerates a list of ways from which the same is chosen as from all
  roots_enumerate : RootEnumerates i text o (easy i) accepted fit
  unfolding layout
  roots_enumerate start base other falls place stop =
      let t = task i text o (easy i) accepted fit in
      let search = q i text o (easy i) accepted fit in
      let ok = fits i text o (easy i) accepted fit in
      let given = setup i (length (program (plan i) (easy i)).body) accepted t fit.is_text ok start base (λ count. or_else count.longest other) falls stop
      (batches_simulate i accepted t fit.is_text ok start base (λ count. or_else count.longest other) falls)
      (easy_repeaters_simulate i accepted t fit.is_text ok start base (λ count. or_else count.longest other) falls) in
      let h = whole_key_equal given no_calls false in
      let s = first_state start in
      let so = first_is_sound search.setting (plan i).analysis.tree start place in
      let onward = (part_of given no_calls (plan i).analysis.tree root).sound s so in (
        h.handed,
        h.simulates,
        same_admitted (plan i) text o start fit.not_empty fit.longest
            (every_weaker (λ u on. record { from_start = on.on; in_text = place_within text u.place (on.sound).place }) onward)
            ((h.key_equal).by s start so (omega arith)),
        λ u among. contained_is_in (every_is_in ((h.key_equal).by s start so (omega arith)).among (is_in_contained (h.handed s) u (contains among))),
      )

pub headline : Headline
unfolding layout
headline i text o accepted fit = answers i text o (easy i) accepted fit (roots_enumerate i text o accepted fit)

pub runs_end : RunsEnd
unfolding layout
runs_end i text o accepted fit = has_enough i text o (easy i) accepted fit (roots_enumerate i text o accepted fit)
