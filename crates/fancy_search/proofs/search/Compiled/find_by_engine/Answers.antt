use Rattle.std.proofs.Common.{◌∙◌, ap, subst, sym}
use Rattle.fancy_laws.proofs.Moves.{is_place_parts}
use Rattle.fancy_program.proofs.FitsLaws.{run_place}
use Rattle.fancy_steps.specs.Tasks.{options_of as run_options_of, task_of}
use Rattle.fancy_vm.specs.Scratches as runs
use Rattle.fancy_search.specs.Scratches.{IsGearOf}
use Rattle.fancy_search.specs.Searches.{program}
use Rattle.fancy_search.proofs.GearLaws.{engine_kept, gear_finds, gear_kept}
use Rattle.fancy_search.proofs.search.Compiled.find_by_engine.Goals as goal

pub find-requires : goal.find-requires
find-requires c =
    let o = c.args.options.now in
    (is_place_parts c.args.text.now o.pos (run_place (task_of (program c.args.self.now) c.args.text.now o) c.requires.fits)).0

pub returns-in-Ok-clause-answers : goal.returns-in-Ok-clause-answers
returns-in-Ok-clause-answers c = λ i from.
    let yes = c.if-not-is_plain.false in
    gear_finds c.args.self.now c.in_ok-make_engine.ensures.common c.deref_mut.result.now
    (subst (IsGearOf c.args.self.now) (sym c.deref_mut.ensures.value) (rw c.in-Some.is at c.in_ok-make_engine.ensures.suits))
    c.args.text.now (run_options_of c.args.options.now)
    (record { any_start = c.is_plain.ensures.any_start yes; empty_too = c.is_plain.ensures.empty_too yes; first_way = c.is_plain.ensures.first_way yes })
    i from c.in-Ok.found (λ of. c.in-Ok.ensures.found of.re of.searches)

pub returns-in-Ok-clause-limits : goal.returns-in-Ok-clause-limits
returns-in-Ok-clause-limits c = ap runs.limits_of c.make_engine.ensures.runs ∙ (c.limit.ensures.limits ∙ c.limits.ensures)

pub returns-in-Ok-clause-suits : goal.returns-in-Ok-clause-suits
returns-in-Ok-clause-suits c =
    gear_kept c.args.self.now c.deref_mut.result.now c.find.new.self
    (λ u e. engine_kept u e c.deref_mut.result.now c.find.new.self c.find.ensures.dfa c.find.ensures.cells)
    (subst (IsGearOf c.args.self.now) (sym c.deref_mut.ensures.value) (rw c.in-Some.is at c.in_ok-make_engine.ensures.suits))

pub returns-in-Err-clause-suits : goal.returns-in-Err-clause-suits
returns-in-Err-clause-suits c =
    gear_kept c.args.self.now c.deref_mut.result.now c.find.new.self
    (λ u e. engine_kept u e c.deref_mut.result.now c.find.new.self c.find.ensures.dfa c.find.ensures.cells)
    (subst (IsGearOf c.args.self.now) (sym c.deref_mut.ensures.value) (rw c.in-Some.is at c.in_ok-make_engine.ensures.suits))

pub make_engine-requires : goal.make_engine-requires
make_engine-requires c = c.limit.ensures.suits c.args.self.now c.requires.suits

pub returns-in_err-make_engine-clause-limits : goal.returns-in_err-make_engine-clause-limits
returns-in_err-make_engine-clause-limits c = ap runs.limits_of c.make_engine.ensures.runs ∙ (c.limit.ensures.limits ∙ c.limits.ensures)

pub returns-in_default-clause-limits : goal.returns-in_default-clause-limits
returns-in_default-clause-limits c = ap runs.limits_of c.make_engine.ensures.runs ∙ (c.limit.ensures.limits ∙ c.limits.ensures)

pub returns-in-Ok-clause-stays : goal.returns-in-Ok-clause-stays
returns-in-Ok-clause-stays c = ap runs.passed_of c.make_engine.ensures.runs ∙ c.limit.ensures.passed

pub returns-in-Err-clause-limits : goal.returns-in-Err-clause-limits
returns-in-Err-clause-limits c = ap runs.limits_of c.make_engine.ensures.runs ∙ (c.limit.ensures.limits ∙ c.limits.ensures)
