use Rattle.std.proofs.Common.{◌∙◌, ap, subst, sym}
use Rattle.fancy_laws.proofs.Moves.{is_place_parts}
use Rattle.fancy_meaning.specs.Answer.{search_of}
use Rattle.fancy_meaning.specs.Premises.{plan}
use Rattle.fancy_program.proofs.FitsLaws.{run_place}
use Rattle.fancy_steps.specs.Tasks.{options_of as run_options_of, task_of}
use Rattle.fancy_vm.specs.Scratches as runs
use Rattle.fancy_search.specs.Scratches.{IsGearOf}
use Rattle.fancy_search.specs.Searches.{program}
use Rattle.fancy_search.proofs.GearLaws.{gear_answers, gear_kept, if_ok}
use Rattle.fancy_search.proofs.search.Compiled.search_by_engine.Goals as goal

pub search_into-requires : goal.search_into-requires
search_into-requires c =
    let o = c.args.options.now in
    (is_place_parts c.args.text.now o.pos (run_place (task_of (program c.args.self.now) c.args.text.now o) c.requires.fits)).0

pub returns-clause-answers : goal.returns-clause-answers
returns-clause-answers c = λ i from.
    let yes = c.if-not-is_plain.false in
    let o = run_options_of c.args.options.now in
    gear_answers c.args.self.now c.in_ok-make_engine.ensures.common c.deref_mut.result.now
    (subst (IsGearOf c.args.self.now) (sym c.deref_mut.ensures.value) (rw c.in-Some.is at c.in_ok-make_engine.ensures.suits))
    c.args.text.now o
    (record { any_start = c.is_plain.ensures.any_start yes; empty_too = c.is_plain.ensures.empty_too yes; first_way = c.is_plain.ensures.first_way yes })
    i from c.search_into.new.numbers.items c.search_into.result
    (λ search of. c.search_into.ensures.answers (search_of (plan i) c.args.text.now o) (i.parsed).tree search of)

pub returns-clause-limits : goal.returns-clause-limits
returns-clause-limits c = ap runs.limits_of c.make_engine.ensures.runs ∙ (c.limit.ensures.limits ∙ c.limits.ensures)

pub returns-clause-suits : goal.returns-clause-suits
returns-clause-suits c =
    gear_kept c.args.self.now c.deref_mut.result.now c.search_into.new.engine c.search_into.ensures.engine
    (subst (IsGearOf c.args.self.now) (sym c.deref_mut.ensures.value) (rw c.in-Some.is at c.in_ok-make_engine.ensures.suits))

pub make_engine-requires : goal.make_engine-requires
make_engine-requires c = c.limit.ensures.suits c.args.self.now c.requires.suits

pub returns-in_err-make_engine-clause-limits : goal.returns-in_err-make_engine-clause-limits
returns-in_err-make_engine-clause-limits c = ap runs.limits_of c.make_engine.ensures.runs ∙ (c.limit.ensures.limits ∙ c.limits.ensures)

pub returns-in_default-clause-limits : goal.returns-in_default-clause-limits
returns-in_default-clause-limits c = ap runs.limits_of c.make_engine.ensures.runs ∙ (c.limit.ensures.limits ∙ c.limits.ensures)

pub returns-clause-stays : goal.returns-clause-stays
returns-clause-stays c = if_ok c.search_into.result _ (ap runs.passed_of c.make_engine.ensures.runs ∙ c.limit.ensures.passed)
