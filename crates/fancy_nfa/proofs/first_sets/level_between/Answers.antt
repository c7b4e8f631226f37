use Rattle.std.proofs.Common.{sym, ap, ◌∙◌, ◌+◌, subst, arith, ◌≤◌, Some, length}
use Rattle.fancy_nfa.specs.Views.{state_of}
use Rattle.fancy_nfa.specs.FirstSets.{TakesAmong}
use Rattle.fancy_nfa.specs.declared.nfa_state.NfaState.TheVariants as code
use Rattle.fancy_nfa.proofs.FirstSetLaws.{AreWithin, all_within, at_index, no_take, unreached_within, within_more}
use Rattle.fancy_nfa.proofs.first_sets.level_between.Goals.{then-counter_at-gt0+else-not-steps_on+in-Character, then-counter_at-gt0+else-not-steps_on+in_default, else-counter_at-gt0}
use Rattle.fancy_nfa.proofs.first_sets.level_between.Goals as goal

pub states-init : goal.states-init
states-init c = λ i p below at r. absurd (omega (arith, below))

pub add_taken-requires : goal.add_taken-requires
add_taken-requires c =
    c.requires c.states.at (code.Character c.in-Character.test)
    (at_index c.args.states.now c.states.at c.index-states-at.result c.states-test.true
    ∙ ap Some (sym c.index-states-at.is ∙ c.in-Character.is))

pub states-preserved : goal.states-preserved
states-preserved c =
    let unicode = c.args.unicode in
    let states = c.args.states.now in
    let reached = c.args.reached.now in
    let after = c.args.after.now in
    let n = c.states.at in
    elim c.if-counter_at-gt0.branch [
      | then-counter_at-gt0+else-not-steps_on+in-Character w ↦
          subst (λ ascii. AreWithin unicode states reached after ascii (n + 1)) (sym w.set-is)
          (within_more unicode states reached after c.states.set w.add_taken.new.set n w.index-states-at.result c.states-test.true
          w.index-states-at.is w.add_taken.ensures.kept c.states.invariant
          (sym w.steps_on.ensures ∙ w.if-not-steps_on.false)
          (subst (λ p. TakesAmong unicode w.add_taken.new.set (state_of p)) (sym w.in-Character.is) w.add_taken.ensures.taken))
      | then-counter_at-gt0+else-not-steps_on+in_default w ↦
          subst (λ ascii. AreWithin unicode states reached after ascii (n + 1)) (sym w.set-is)
          (within_more unicode states reached after c.states.set c.states.set n w.index-states-at.result c.states-test.true
          w.index-states-at.is (λ k e. e) c.states.invariant
          (sym w.steps_on.ensures ∙ w.if-not-steps_on.false)
          (no_take unicode c.states.set w.index-states-at.result w.in_default.not-Character))
      | else-counter_at-gt0 w ↦
          subst (λ ascii. AreWithin unicode states reached after ascii (n + 1)) (sym w.set-is)
          (unreached_within unicode states reached after c.states.set n
          (subst (λ k. k ≤ 0) c.counter_at.ensures w.if-counter_at-gt0.false) c.states.invariant)
    ]

pub returns : goal.returns
returns c =
    let all : length c.args.states.now ≤ c.states.at = omega (arith, c.states-test.false) in
    all_within c.args.unicode c.args.states.now c.args.reached.now c.args.after.now c.states.set c.states.at all c.states.invariant
