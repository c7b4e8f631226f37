-- Batches and absent repeaters of easy bodies simulate their ways on every ground of an accepted tree's program.
use Rattle.std.proofs.Common.{length, [], ◌∷◌, Contains, refl}
use Rattle.fancy_meaning.specs.Tree.{Tree, Group}
use Rattle.fancy_meaning.specs.Nodes.{nodes, group_count}
use Rattle.fancy_meaning.specs.OpenCalls.{free_calls}
use Rattle.fancy_meaning.specs.Ways.{called}
use Rattle.fancy_meaning.specs.Batches.{pattern_of, group_range}
use Rattle.fancy_meaning.specs.Layout.{layout}
use Rattle.fancy_meaning.specs.Premises.{plan}
use Rattle.fancy_laws.proofs.NodesBelow.{nodes_below}
use Rattle.fancy_laws.proofs.SizesHold.{sizes_hold}
use Rattle.fancy_composed.proofs.Continuations.{Ground}
use Rattle.fancy_composed.proofs.Parts.{setting, whole}
use Rattle.fancy_composed.proofs.Ready.{Ready}
use Rattle.fancy_composed.proofs.Trees.{class_there}
use Rattle.fancy_composed.proofs.Accepted.{ready}
use Rattle.fancy_laws.proofs.Every.{every_weaker}
use Rattle.fancy_delegation.proofs.Items.{IsIn, contained_is_in}
use Rattle.fancy_delegation.proofs.RefinedDelegates.{batch_agrees}
use Rattle.fancy_delegation.proofs.OnMachine.{analysed_of, w}
use Rattle.fancy_delegation.proofs.Harmless.{BatchesSimulate, EasyRepeatersSimulate}
use Rattle.fancy_headline.proofs.Delegates.{HasGroups, IsNumbered}
use Rattle.fancy_headline.proofs.Batches.{simulates_batch}
use Rattle.fancy_headline.proofs.Repeaters.{simulates_easy_absent}

module _ (g : Ground) (r : Ready g) where
  -- the groups of a node of the tree
  pub numbered : (e : Tree) → IsIn e (nodes (whole g)) → IsNumbered g e
  numbered e there d i = by_node d (nodes_below (whole g) e (contained_is_in there) d (contained_is_in i))
    where
      by_node : (d : Tree) → Contains (nodes (whole g)) d → HasGroups (group_count (whole g)) d
      by_node (Group n b) c = r.group n b c
      by_node _ c = tt

pub batches_simulate : BatchesSimulate
batches_simulate i accepted task is_text fits start base bottom falls es depths h wr =
    let program = layout (plan i) in
    let g = w i (length program.body) accepted task is_text fits start base bottom falls in
    let r = ready i (length program.body) accepted task is_text fits start base bottom falls in
    let a = analysed_of i (length program.body) accepted in
    simulates_batch g r (called (setting g) (whole g) (free_calls (whole g) depths) depths)
    (λ inner casei wd. class_there g r depths inner casei wd _ refl) es wr
    (every_weaker (λ e d. d.easy) h) (every_weaker (λ e d. numbered g r e d.there) h)
    (λ s.
    every_weaker (λ t k. record { kept = k.kept; flag = k.flag })
    (batch_agrees sizes_hold a i.options (setting g) is_text depths accepted.same_end_text h s))

pub easy_repeaters_simulate : EasyRepeatersSimulate
easy_repeaters_simulate i accepted task is_text fits start base bottom falls e depths h wr =
    let g = w i (length (layout (plan i)).body) accepted task is_text fits start base bottom falls in
    simulates_easy_absent g e h.easy (called (setting g) (whole g) (free_calls (whole g) depths) depths)
    (pattern_of (i.options).unicode (e ∷ [])) (group_range (e ∷ []))
