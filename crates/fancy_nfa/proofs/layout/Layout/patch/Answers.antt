use Rattle.std.proofs.Common.{◌≤◌, length, refl, sym, arith}
use Rattle.std.proofs.lemmas.List.{set_past}
use Rattle.fancy_nfa.specs.Views.{state_of}
use Rattle.fancy_nfa.specs.Layouts.{states_in}
use Rattle.fancy_nfa.proofs.Laid.{place, replaced_one}
use Rattle.fancy_nfa.proofs.layout.Layout.patch.Goals as goal

pub returns-then-at-len : goal.returns-then-at-len
returns-then-at-len c = replaced_one c.args.self.now _ c.args.at c.args.nfa_state refl refl c.requires

pub returns-else-at-len : goal.returns-else-at-len
returns-else-at-len c =
    let states = states_in c.args.self.now in
    let past : length states ≤ c.args.at = omega (arith, c.if-at-len.false, c.len.ensures, place c.args.self.now) in
    record { states = sym (set_past states c.args.at (state_of c.args.nfa_state) past); unicode = refl; reads = λ each. each }
