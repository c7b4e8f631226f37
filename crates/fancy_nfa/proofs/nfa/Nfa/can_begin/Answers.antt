use Rattle.std.proofs.Common.{ap, sym, ◌∙◌, arith, ◌<◌, length}
use Rattle.fancy_meaning.specs.Premises.{IsText}
use Rattle.fancy_meaning.specs.Numbers.{usize_max}
use Rattle.fancy_nfa.specs.FirstSets.{may_begin}
use Rattle.fancy_nfa.proofs.FirstWayLaws.{no_way_at}
use Rattle.fancy_nfa.proofs.nfa.Nfa.can_begin.Goals as goal

pub returns-clause-told : goal.returns-clause-told
returns-clause-told c =
    c.may_begin.ensures
    ∙ ap (λ levels. may_begin levels c.as_bytes.result.now c.args.ix) c.deref.ensures.value
    ∙ ap (λ text. may_begin c.args.self.now.first_sets.items text c.args.ix) c.as_bytes.ensures.value

pub returns-clause-none : goal.returns-clause-none
returns-clause-none c = λ e.
    let small : length c.args.text.now < usize_max = omega arith in
    let is_text : IsText c.args.text.now = record { utf8 = c.utf8.text; fits = small } in
    no_way_at c.args.text.now c.args.self.now c.args.ix is_text c.requires.place
    (ap (λ text. may_begin c.args.self.now.first_sets.items text c.args.ix) (sym c.as_bytes.ensures.value)
    ∙ ap (λ levels. may_begin levels c.as_bytes.result.now c.args.ix) (sym c.deref.ensures.value)
    ∙ sym c.may_begin.ensures ∙ e)
