use Rattle.std.proofs.Common.{[], ◌∷◌, map, refl, ap, ◌∙◌, subst}
use Rattle.std.proofs.lemmas.List.{map-append}
use Rattle.fancy_nfa.specs.declared.nfa_state.NfaState.TheVariants as code
use Rattle.fancy_nfa.specs.declared.layout.Layout.{Layout}
use Rattle.fancy_nfa.specs.FirstSets.{AreFirstSets}
use Rattle.fancy_nfa.specs.Nfas.{IsRefusedFor}
use Rattle.fancy_nfa.specs.Views.{state_of}
use Rattle.fancy_nfa.proofs.Built.{are_easy, fault_passed, all_states, all_read, one_read}
use Rattle.fancy_nfa.proofs.nfa.Nfa.build.Goals as goal

pub returns-in_err-lay_each-clause-refused : goal.returns-in_err-lay_each-clause-refused
returns-in_err-lay_each-clause-refused c =
    fault_passed (IsRefusedFor c.args.unicode c.args.infos.now) c.from_residual-in_err-lay_each.result _ c.from_residual-in_err-lay_each.ensures
    (c.in_err-lay_each.ensures c.requires.0 c.requires.1)

pub first_sets-requires : goal.first_sets-requires
first_sets-requires c = λ i p at.
    let s : Layout = record { alloc = c.args.alloc; unicode = c.args.unicode; states = c.in_ok-states.states } in
    one_read c.requires.0 c.args.infos.now s c.lay_each.new.self c.in_ok-states.ensures.items
    (c.in_ok-lay_each.ensures c.requires.0 c.requires.1) c.push.new.self.items c.in_ok-push.ensures.items _ c.deref-2.ensures.value i p at

pub seems_one_pass-seems_one_pass-requires : goal.seems_one_pass-seems_one_pass-requires
seems_one_pass-seems_one_pass-requires c = λ i p at.
    let s : Layout = record { alloc = c.args.alloc; unicode = c.args.unicode; states = c.in_ok-states.states } in
    one_read c.requires.0 c.args.infos.now s c.lay_each.new.self c.in_ok-states.ensures.items
    (c.in_ok-lay_each.ensures c.requires.0 c.requires.1) c.push.new.self.items c.in_ok-push.ensures.items _ c.deref-3.ensures.value i p at

pub returns-clause-nfa : goal.returns-clause-nfa
returns-clause-nfa c = λ a each fine.
    let infos = c.args.infos.now in
    let adds = c.in_ok-lay_each.ensures a each in
    let t = c.lay_each.new.self in
    let s : Layout = record { alloc = c.args.alloc; unicode = c.args.unicode; states = c.in_ok-states.states } in
    let none = c.in_ok-states.ensures.items in
    let more = c.in_ok-push.ensures.items in record {
      states = all_states a infos s t (ap (map state_of) none) adds (map state_of c.push.new.self.items)
          (ap (map state_of) more ∙ map-append state_of t.states.items (code.Match ∷ []));
      unicode = refl;
      reads = all_read a infos s t none adds c.push.new.self.items more;
      easy = are_easy a infos each fine;
    }

pub returns-clause-classes : goal.returns-clause-classes
returns-clause-classes c = (c.in_ok-lay_each.ensures c.requires.0 c.requires.1).classes

pub invariant_of-result : goal.invariant_of-result
invariant_of-result c = record {
  begin =
      subst (λ l. AreFirstSets c.args.unicode (map state_of l) c.in_ok-first_sets.first_sets.items) c.deref-2.ensures.value c.in_ok-first_sets.ensures;
}
