-- The composed theorem.
use Rattle.std.proofs.Common.{◌≡◌, ◌+◌, ◌≤◌, Bool, true, false, ◌&&◌, if◌then◌else◌, [], length, refl, sym, ap, ◌∙◌, subst, arith, true≢false}
use Rattle.fancy_meaning.specs.Tree.{Tree}
use Rattle.fancy_meaning.specs.Nodes.{group_count}
use Rattle.fancy_meaning.specs.OpenCalls.{Depths, free_calls}
use Rattle.fancy_meaning.specs.Ways.{ways}
use Rattle.fancy_meaning.specs.Layout.{undelegated_layout, first_fresh, group_numbers}
use Rattle.fancy_meaning.specs.Config.{Config, Goes}
use Rattle.fancy_meaning.specs.Machine.{exec, fail_to}
use Rattle.fancy_meaning.specs.Keys.{bit, whole_key}
use Rattle.fancy_meaning.specs.Enumerates.{GoesOn, no_search, one_start, two_branches}
use Rattle.fancy_meaning.specs.Marks.{has_marked_continue}
use Rattle.fancy_meaning.specs.CompileRefusals.{IsWritten, root}
use Rattle.fancy_meaning.specs.Premises.{Input, plan, IsAccepted}
use Rattle.fancy_meaning.specs.Theorems.{RefinesUpTo, may_give_up, code_of_node, AllRefine, ComposedTheorem}
use Rattle.fancy_composed.proofs.Continuations.{Tally, tally_of, To, to_same, to_eq, after, Ground, config, here}
use Rattle.fancy_composed.proofs.Parts.{whole, first, flag_is}
use Rattle.fancy_composed.proofs.Tests.{MayStop}
use Rattle.fancy_composed.proofs.Branches.{never}
use Rattle.fancy_composed.proofs.Ready.{Ready}
use Rattle.fancy_composed.proofs.Accepted.{ground, ready}
use Rattle.std.proofs.lemmas.Bool.{or_left, or_right}
use Rattle.fancy_composed.proofs.Trees.{both, tree_simulates}
use Rattle.fancy_composed.proofs.Calls.{calls_simulate}
use Rattle.fancy_composed.proofs.Reduced.{alike_key_equal}
use Rattle.fancy_composed.proofs.Refining.{stands_here, handed_by}

-- where no `\G` gives up, none may
none_gives_up : (w : Ground) (c : Config) → GoesOn w.task c → length c.branches ≡ length w.base → MayStop w
none_gives_up w c (no_search e) same search anchored = absurd (true≢false (sym search ∙ e))
none_gives_up w c (one_start e) same search anchored = absurd (true≢false (sym e ∙ anchored))
none_gives_up w c (two_branches le) same search anchored = (omega (arith, same, le), λ one. absurd (omega (arith, one, same, le)))

-- the first slot of the plan is the first of the program
pub first_slot : (w : Ground) → (w.plan).analysis.explicit_capture_group_0 ≡ false → first w ≡ first_fresh w.plan
first_slot w implicit =
    let count = group_count (whole w) in
    let groups : group_numbers w.plan ≡ count + 1 = ap (λ v. if v then count else count + 1) implicit in
    let flagged : bit ((w.task).program).end_text ≡ (if (w.plan).end_text then 1 else 0) =
    ap bit (w.fits).end_text ∙ bit_is (w.plan).end_text in
    omega (arith, flag_is w, groups, flagged)
  where
    bit_is : (v : Bool) → bit v ≡ (if v then 1 else 0)
    bit_is true = refl
    bit_is false = refl

module _ (i : Input) (accepted : IsAccepted i (length (undelegated_layout (plan i)).body)) where
  abbrev tree : Tree
  tree = (plan i).analysis.tree

  abbrev begins : Tree → Bool
  begins = has_marked_continue tree

  -- a node that is written out, where a `\G` in its code may give up only by this test
  refines : (e : Tree) (depths : Depths) (at_start in_hard may_stop : Bool) → IsWritten tree e →
      (begins tree ≡ true → may_stop ≡ true) → (at_start ≡ true → begins e ≡ true → may_stop ≡ true) →
      RefinesUpTo (plan i) (code_of_node (plan i) never depths e at_start in_hard) (λ q. ways q tree e depths)
      (λ from. whole_key tree) may_stop
  refines e depths at_start in_hard may_stop wr by_call by_node t c fresh s from at le' =
      let fits = at.program in
      let is_text = at.text in
      let goes_on = at.goes_on in
      let bottom : Tally → _ = λ count. after t (fail_to t c.branches (config 0 0 (λ k. 0) [] [] c.start count)) in
      let falls : (count : Tally) → To (after t (fail_to t c.branches (config 0 0 (λ k. 0) [] [] c.start count))) (bottom count) =
      λ count. to_same in
      let w : Ground = ground i (length (undelegated_layout (plan i)).body) accepted t is_text fits c.start c.branches bottom falls in
      let r : Ready w = ready i (length (undelegated_layout (plan i)).body) accepted t is_text fits c.start c.branches bottom falls in
      let stop : may_stop ≡ true → MayStop w = λ may. none_gives_up w c (goes_on may) refl in
      let simulates =
      tree_simulates w r depths (calls_simulate w r (λ x. stop (by_call x)) (free_calls tree depths) depths refl) e wr at_start in_hard
      (λ x y. stop (by_node x y)) in
      let laid = code_of_node (plan i) never depths e at_start in_hard c.pc fresh in
      let part =
      simulates.part c.pc (c.pc + length laid.instrs) fresh refl
      (subst (λ n. n ≤ fresh) (sym (first_slot w accepted.implicit_group_0)) at.slots_are_fresh) at.code_is_there in (
        simulates.handed s,
        handed_by w (λ count. to_same) c.pc c.ix c.slots c.marks (tally_of c) (c.pc + length laid.instrs) fresh laid.fresh
            (Goes c)
            (to_eq (λ n. ap (λ x. exec t n (here w c.pc x c.slots c.marks [] (tally_of c))) (at.stands).place))
            (part.enumerates s c.slots c.marks [] (tally_of c) at.sound (stands_here w (λ count. to_same) s c at.stands)),
        alike_key_equal (whole_key tree) (simulates.handed s) _ (simulates.alike s at.sound),
      )

  all_refine : AllRefine (plan i) never (λ in_hard from. whole_key tree)
  all_refine = record {
    root = λ depths in_hard. refines tree depths true in_hard (begins tree) root (λ x. x) (λ x y. y);
    node = λ e depths at_start in_hard wr.
        refines e depths at_start in_hard (may_give_up tree e at_start) wr
        (λ x. or_left (begins tree) (at_start && begins e) x)
        (λ x y. or_right (begins tree) (at_start && begins e) (both at_start (begins e) x y));
  }

pub composed : ComposedTheorem
composed i accepted = all_refine i accepted
