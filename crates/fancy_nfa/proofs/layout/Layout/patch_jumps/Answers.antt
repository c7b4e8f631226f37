use Rattle.std.proofs.Common.{◌≡◌, [], sym, ap, ◌∙◌, refl, arith}
use Rattle.fancy_nfa.specs.Layouts.{states_in}
use Rattle.fancy_nfa.specs.Shapes.{with_jumps}
use Rattle.fancy_nfa.proofs.Laid.{no_items, place, replaced_then, same_states, with_jumps_last}
use Rattle.fancy_nfa.proofs.layout.Layout.patch_jumps.Goals as goal

pub loop-jump-init : goal.loop-jump-init
loop-jump-init c = record { same = same_states c.args.self.now; states = refl }

pub loop-jump-preserved : goal.loop-jump-preserved
loop-jump-preserved c =
    let end = c.len-end.result in
    let left = c.pop.new.self.items in record {
      same = replaced_then _ _ _ c.loop-jump.self _ c.loop-jump.invariant.same
          (record { states = refl; unicode = c.patch.ensures.unicode; reads = c.patch.ensures.reads });
      states = ap (with_jumps left end) c.patch.ensures.states
          ∙ sym (with_jumps_last left c.in-Some.jump end (states_in c.loop-jump.self))
          ∙ ap (λ l. with_jumps l end (states_in c.loop-jump.self)) (sym c.in-Some.ensures.items)
          ∙ c.loop-jump.invariant.states;
    }

pub returns : goal.returns
returns c = record {
  states =
      let none : c.loop-jump.left.items ≡ [] = no_items c.loop-jump.left.items (omega (arith, c.in_default.ensures.cases.0, c.loop-jump.left.ok.0)) in
      ap (λ l. with_jumps l c.len-end.result (states_in c.loop-jump.self)) (sym none) ∙ c.loop-jump.invariant.states
      ∙ ap (λ n. with_jumps c.args.jumps.items n (states_in c.args.self.now)) (c.len-end.ensures ∙ place c.args.self.now);
  unicode = c.loop-jump.invariant.same.unicode;
  reads = c.loop-jump.invariant.same.reads;
}
