use Rattle.std.proofs.Common.{◌≡◌, ◌≤◌, ◌+◌, ℕ, None, Ok, Some, true, ap, sym, subst, ◌∙◌, arith}
use Rattle.std.specs.Prelude.{IfOk, IfSome}
use Rattle.std.proofs.lemmas.Bool.{false≢true}
use Rattle.fancy_meaning.specs.Answer.{answer, search_of}
use Rattle.fancy_meaning.specs.Fits.{run_fits}
use Rattle.fancy_meaning.specs.Places.{is_place}
use Rattle.fancy_meaning.specs.Premises.{Input, plan}
use Rattle.fancy_program.specs.Programs.{prog_of}
use Rattle.fancy_steps.specs.Outcomes.{answer_in}
use Rattle.fancy_steps.specs.Tasks.{options_of, task_of}
use Rattle.fancy_vm.specs.Attempts.{MayAttempt}
use Rattle.fancy_vm.specs.Means.{IsMeaning, numbers_of}
use Rattle.fancy_vm.specs.Scratches.{limits_of, passed_of}
use Rattle.fancy_search.specs.Candidates.{IsPassed}
use Rattle.fancy_search.specs.Searches.{BeginsAt, IsCompiledFrom}
use Rattle.fancy_search.proofs.CandidateLaws.{attempt_fits, found_alone, none_alone, none_answered, passed_all, passed_one, passed_to}
use Rattle.fancy_search.proofs.Searched.{accepted}
use Rattle.fancy_search.proofs.search.Compiled.try_candidates.Goals.{else-is_place, then-is_place+in-Ok-false}
use Rattle.fancy_search.proofs.search.Compiled.try_candidates.Goals as goal

pub returns-in_default-clause-told : goal.returns-in_default-clause-told
returns-in_default-clause-told c i from =
    let it = c.args.candidates.now in
    let begins : BeginsAt i it = subst (λ s. IfSome s (BeginsAt i)) c.requires.candidates from.candidates in
    let text = c.args.text.now in
    let o = options_of c.args.options.now in
    none_answered i it begins text o c.requires.any_start
    (passed_all i text (λ k. let fits = c.type_inv.text k in omega (arith, fits)) o c.candidates.from (c.candidates.invariant.4 i from) it begins.all c.in_default.ensures.next)

pub attempt_into-requires-clause-fits : goal.attempt_into-requires-clause-fits
attempt_into-requires-clause-fits c =
    let prog = c.args.self.now.prog in
    let text = c.args.text.now in
    let at = c.in-Some.at in
    subst (λ x. run_fits (record { program = prog_of prog; text = text; options = x }) ≡ true) (sym c.attempt_at-here.ensures)
    (attempt_fits (task_of prog text c.args.options.now) at c.candidates.left.backtracks c.candidates.left.steps
    (subst (λ l. is_place l at ≡ true) c.as_bytes.ensures.value (sym c.if-is_place.ensures)) c.requires.fits)

pub returns-in-Ok-true-clause-told : goal.returns-in-Ok-true-clause-told
returns-in-Ok-true-clause-told c i from =
    let self = c.args.self.now in
    let text = c.args.text.now in
    let it = c.args.candidates.now in
    let begins : BeginsAt i it = subst (λ s. IfSome s (BeginsAt i)) c.requires.candidates from.candidates in
    let o = options_of c.args.options.now in
    let at = c.in-Some.at in
    let low = c.in-Some.ensures.low in
    let first = c.candidates.invariant.3 in
    let numbers = c.attempt_into.new.numbers.items in
    let means : IsMeaning (prog_of self.prog) text (options_of c.attempt_at-here.result) (Some numbers) =
    subst
    (λ b. IfOk (answer_in (Ok b) c.attempt_into.new.numbers) (λ found. IsMeaning (prog_of self.prog) text (options_of c.attempt_at-here.result) (numbers_of found)))
    c.in-Ok-true.field-0-test c.in-Ok-true.ensures.headline in
    found_alone i it begins text o c.requires.any_start at c.candidates.left.backtracks c.candidates.left.steps numbers (omega (arith, low, first))
    (subst (λ l. is_place l at ≡ true) c.as_bytes.ensures.value (sym c.if-is_place.ensures))
    (passed_to i text (λ k. let fits = c.type_inv.text k in omega (arith, fits)) o c.candidates.from (c.candidates.invariant.4 i from) it begins.all at c.in-Some.ensures.high c.in-Some.ensures.next)
    (subst (λ x. Some numbers ≡ answer (search_of (plan i) text x)) c.attempt_at-here.ensures
    (means.answers i (accepted i self text c.args.options.now from c.requires.fits) from.program))

pub candidates-preserved : goal.candidates-preserved
candidates-preserved c =
    let self = c.args.self.now in
    let text = c.args.text.now in
    let it = c.args.candidates.now in
    let o = options_of c.args.options.now in
    let at = c.in-Some.at in
    let low = c.in-Some.ensures.low in
    let first = c.candidates.invariant.3 in
    let here : o.pos ≤ at = omega (arith, low, first) in
    let begins_at : (i : Input) → IsCompiledFrom i self → BeginsAt i it =
    λ i from. subst (λ s. IfSome s (BeginsAt i)) c.requires.candidates from.candidates in
    let passed : (i : Input) → IsCompiledFrom i self → IsPassed i text o at =
    λ i from. passed_to i text (λ k. let fits = c.type_inv.text k in omega (arith, fits)) o c.candidates.from (c.candidates.invariant.4 i from) it (begins_at i from).all at c.in-Some.ensures.high c.in-Some.ensures.next in
    elim c.if-is_place.branch [
      | then-is_place+in-Ok-false w ↦
          let means : IsMeaning (prog_of self.prog) text (options_of w.attempt_at-here.result) None =
          subst
          (λ b. IfOk (answer_in (Ok b) w.attempt_into.new.numbers)
          (λ found. IsMeaning (prog_of self.prog) text (options_of w.attempt_at-here.result) (numbers_of found)))
          w.in-Ok-false.field-0-test w.in-Ok-false.ensures.headline in (
            subst (MayAttempt self.prog text) (sym w.runs-is) w.in-Ok-false.ensures.may,
            ap limits_of w.runs-is ∙ w.in-Ok-false.ensures.limits ∙ c.candidates.invariant.1,
            ap passed_of w.runs-is ∙ w.in-Ok-false.ensures.stays,
            omega (arith, here),
            λ i from. passed_one i it (begins_at i from) text o c.requires.any_start at (passed i from)
                (λ place. none_alone i it (begins_at i from) text o c.requires.any_start at c.candidates.left.backtracks c.candidates.left.steps here place
                (subst (λ x. None ≡ answer (search_of (plan i) text x)) w.attempt_at-here.ensures
                (means.answers i (accepted i self text c.args.options.now from c.requires.fits) from.program))),
          )
      | else-is_place w ↦ (
        subst (MayAttempt self.prog text) (sym w.runs-is) c.candidates.invariant.0,
        ap limits_of w.runs-is ∙ c.candidates.invariant.1,
        ap passed_of w.runs-is ∙ c.candidates.invariant.2,
        omega (arith, here),
        λ i from. passed_one i it (begins_at i from) text o c.requires.any_start at (passed i from)
            (λ place. absurd (false≢true (w.if-is_place.ensures ∙ subst (λ l. is_place l at ≡ true) (sym c.as_bytes.ensures.value) place))),
      )
    ]
