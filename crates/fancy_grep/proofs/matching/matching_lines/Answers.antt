use Rattle.std.proofs.Common.{Err, length, sym, ap, subst, ◌∙◌, arith, eqb-true}
use Rattle.fancy_grep.specs.Lines.{lines_left}
use Rattle.fancy_grep.proofs.MatchingLaws.{Searched, Took, all_rises, left_from, searched_more, searched_most, searched_none, searched_stops, still_few, stopped_few, stopped_rises}
use Rattle.fancy_grep.proofs.matching.matching_lines.Goals as goal

pub loop-line-init : goal.loop-line-init
loop-line-init c =
    let regex = c.args.regex.now in
    let text = c.args.text.now in
    let left = lines_left c.into_iter-line-iterator.result in
    let all = ap lines_left c.into_iter-line-iterator.ensures.into_iter_gives ∙ c.new-line-items.ensures in (
      subst (λ ls. Searched regex c.args.required c.args.choice text ls regex c.occurrences_of-occurrences.result left)
          (sym c.new-lines.ensures.items)
          (searched_none regex c.args.required c.args.choice text c.occurrences_of-occurrences.result left c.occurrences_of-occurrences.ensures all),
      omega (arith, ap length c.new-lines.ensures.items),
    )

pub loop-line-preserved : goal.loop-line-preserved
loop-line-preserved c =
    let regex = c.args.regex.now in
    let text = c.args.text.now in
    let lines = c.loop-line.lines.items in
    let line = c.in-Some.line in
    let rest = lines_left c.next.new.self in (
      searched_more regex c.args.required c.args.choice text lines c.take.new.lines.items c.loop-line.regex c.take.new.regex
          c.loop-line.occurrences c.take.new.sought line rest
          (subst (Searched regex c.args.required c.args.choice text lines c.loop-line.regex c.loop-line.occurrences) c.in-Some.ensures.steps
          c.loop-line.invariant.0) c.in_default.field-0
          (record {
            promise = c.in_default.ensures.promise;
            still = c.in_default.ensures.sought;
            grows = c.in_default.ensures.grows;
            same = c.in_default.ensures.same;
          }),
      still_few c.args.most line lines c.take.new.lines.items (omega (arith, c.if-len-most.false, c.len.ensures)) c.in_default.ensures.grows,
    )

-- where so many lines are found
pub returns-then-len-most-clause-promise : goal.returns-then-len-most-clause-promise
returns-then-len-most-clause-promise c =
    searched_most c.args.regex.now c.args.required c.args.choice c.args.text.now c.loop-line.lines.items c.loop-line.regex c.loop-line.occurrences
    (lines_left c.loop-line.line-iterator) c.args.most c.loop-line.invariant.0 c.loop-line.invariant.1
    (omega (arith, c.if-len-most.true, c.len.ensures))

pub returns-then-len-most-clause-rising : goal.returns-then-len-most-clause-rising
returns-then-len-most-clause-rising c =
    all_rises c.args.regex.now c.args.required c.args.choice c.args.text.now c.loop-line.lines.items c.loop-line.regex c.loop-line.occurrences
    (lines_left c.loop-line.line-iterator) c.loop-line.invariant.0

-- where nothing is left of the budget
pub returns-then-is_used_up-clause-promise : goal.returns-then-is_used_up-clause-promise
returns-then-is_used_up-clause-promise c =
    let regex = c.args.regex.now in
    let text = c.args.text.now in
    let lines = c.loop-line.lines.items in
    let line = c.in-Some.line in
    let rest = lines_left c.next.new.self in
    λ i o is required. (
      omega (arith, c.if-len-most.false, c.len.ensures),
      (
        eqb-true _ 0 (sym c.is_used_up.ensures ∙ c.if-is_used_up.true),
        left_from regex c.args.required c.args.choice text lines c.loop-line.regex c.loop-line.occurrences line rest
            (subst (Searched regex c.args.required c.args.choice text lines c.loop-line.regex c.loop-line.occurrences) c.in-Some.ensures.steps
            c.loop-line.invariant.0) i o is required,
      ),
    )

pub returns-then-is_used_up-clause-rising : goal.returns-then-is_used_up-clause-rising
returns-then-is_used_up-clause-rising c =
    all_rises c.args.regex.now c.args.required c.args.choice c.args.text.now c.loop-line.lines.items c.loop-line.regex c.loop-line.occurrences
    (lines_left c.loop-line.line-iterator) c.loop-line.invariant.0

pub returns-in-Err-clause-promise : goal.returns-in-Err-clause-promise
returns-in-Err-clause-promise c =
    let regex = c.args.regex.now in
    let text = c.args.text.now in
    let lines = c.loop-line.lines.items in
    let more = c.take.new.lines.items in
    let line = c.in-Some.line in
    let rest = lines_left c.next.new.self in
    let so_far =
    subst (Searched regex c.args.required c.args.choice text lines c.loop-line.regex c.loop-line.occurrences) c.in-Some.ensures.steps
    c.loop-line.invariant.0 in
    let took : Took c.loop-line.regex c.loop-line.occurrences c.args.choice line lines (Err c.in-Err.error) more c.take.new.regex c.take.new.sought =
    record {
      promise = c.in-Err.ensures.promise;
      still = c.in-Err.ensures.sought;
      grows = c.in-Err.ensures.grows;
      same = c.in-Err.ensures.same;
    } in
    λ i o is required. (
      stopped_few regex c.args.required c.args.choice text lines more c.loop-line.regex c.take.new.regex c.loop-line.occurrences c.take.new.sought
          line rest so_far c.in-Err.error took c.args.most (omega (arith, c.if-len-most.false, c.len.ensures)) i o is required,
      searched_stops regex c.args.required c.args.choice text lines more c.loop-line.regex c.take.new.regex c.loop-line.occurrences
          c.take.new.sought line rest so_far c.in-Err.error took i o is required,
    )

pub returns-in-Err-clause-rising : goal.returns-in-Err-clause-rising
returns-in-Err-clause-rising c =
    let regex = c.args.regex.now in
    let text = c.args.text.now in
    let lines = c.loop-line.lines.items in
    let line = c.in-Some.line in
    let rest = lines_left c.next.new.self in
    stopped_rises regex c.args.required c.args.choice text lines c.take.new.lines.items c.loop-line.regex c.take.new.regex
    c.loop-line.occurrences c.take.new.sought line rest
    (subst (Searched regex c.args.required c.args.choice text lines c.loop-line.regex c.loop-line.occurrences) c.in-Some.ensures.steps
    c.loop-line.invariant.0) c.in-Err.error
    (record {
      promise = c.in-Err.ensures.promise;
      still = c.in-Err.ensures.sought;
      grows = c.in-Err.ensures.grows;
      same = c.in-Err.ensures.same;
    })

pub returns-clause-rising : goal.returns-clause-rising
returns-clause-rising c =
    all_rises c.args.regex.now c.args.required c.args.choice c.args.text.now c.loop-line.lines.items c.loop-line.regex c.loop-line.occurrences
    (lines_left c.loop-line.line-iterator) c.loop-line.invariant.0
