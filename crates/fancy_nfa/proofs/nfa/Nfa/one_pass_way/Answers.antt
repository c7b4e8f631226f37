use Rattle.std.proofs.Common.{◌<◌, length, slice_get, sym, ap, ◌∙◌, arith}
use Rattle.fancy_meaning.specs.Numbers.{usize_max}
use Rattle.fancy_meaning.specs.Premises.{IsText}
use Rattle.fancy_nfa.proofs.ReadStates.{states_read}
use Rattle.fancy_nfa.proofs.OnePassLaws.{one_pass_way_answered, way_of_none}
use Rattle.fancy_nfa.proofs.nfa.Nfa.one_pass_way.Goals as goal

pub walk_groups-requires-clause-searcher : goal.walk_groups-requires-clause-searcher
walk_groups-requires-clause-searcher c = λ i p at.
    states_read c.args.self.now c.requires.nodes i p (ap (λ l. slice_get l i) (sym c.deref.ensures.value) ∙ at)

pub returns-then-self : goal.returns-then-self
returns-then-self c =
    way_of_none c.args.text.now c.args.self.now c.args.ix c.begin.new.self c.begin.ensures.groups c.one_pass_end.result c.one_pass_end.ensures

pub returns : goal.returns
returns c =
    let small : length c.args.text.now < usize_max = omega arith in
    let is_text : IsText c.args.text.now = record { utf8 = c.utf8.text; fits = small } in
    one_pass_way_answered c.deref.result c.args.text c.args.self.now c.args.ix c.deref.ensures.value is_text c.requires.place
    c.walk_groups.new.groups c.walk_groups.result c.walk_groups.ensures
