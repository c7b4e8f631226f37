use Rattle.std.proofs.Common.{◌≡◌, ℕ, zero, suc, List, [], Option, slice_index_or, refl, ap, subst, sym, arith}
use Rattle.std.specs.Prelude.{replicate, None}
use Rattle.std.proofs.Math.Path.{fun_ext}
use Rattle.std.proofs.lemmas.List.{length-replicate}
use Rattle.fancy_meaning.specs.Config.{Config, Slots}
use Rattle.fancy_meaning.specs.Machine as machine
use Rattle.fancy_meaning.specs.Numbers.{usize_max}
use Rattle.fancy_state.specs.Held.{StateView}
use Rattle.fancy_steps.specs.Outcomes.{config_at, plain_task}
use Rattle.fancy_steps.specs.Sound.{IsSound}
use Rattle.fancy_steps.proofs.machine.Machine.begin.Goals as goal

unset_at : (n s : ℕ) → slice_index_or (replicate n usize_max) s usize_max ≡ usize_max
unset_at zero s = refl
unset_at (suc n) zero = refl
unset_at (suc n) (suc s) = unset_at n s

pub invariant_of-result : goal.invariant_of-result
invariant_of-result c =
    let slots = c.args.task.now.prog.now.parts.slots in
    let len = length-replicate slots usize_max in
    record {
      sound = subst (λ (s : StateView). IsSound c.args.task.now s.held) (sym c.requires.state)
          (record { slots = len; small = omega (arith, len); max_stack = refl; implicit = c.requires.implicit });
      are_trailing_newlines = c.new.ensures c.args.task.now.text.now;
    }

pub returns-clause-begins : goal.returns-clause-begins
returns-clause-begins c =
    let pos : ℕ = c.args.task.now.options.now.pos in
    let at_slots : Slots → Config = λ slots.
    record { now = record { pc = 0; ix = pos; slots = slots; marks = [] }; branches = []; start = pos; backtracks = 0; longest = None } in
    subst (λ (longest : Option (List ℕ)). config_at 0 pos pos 0 longest c.args.state.held ≡ machine.begin (plain_task c.args.task.now))
    (sym c.requires.longest)
    (subst (λ (s : StateView). config_at 0 pos pos 0 None s.held ≡ machine.begin (plain_task c.args.task.now)) (sym c.requires.state)
    (ap at_slots (fun_ext (unset_at c.args.task.now.prog.now.parts.slots))))
