use Rattle.std.proofs.Common.{false, Ok, subst}
use Rattle.fancy_steps.specs.Outcomes.{answer_in}
use Rattle.fancy_steps.specs.Tasks.{options_of}
use Rattle.fancy_search.specs.Searches.{Promises}
use Rattle.fancy_search.proofs.Pairs.{first_of}
use Rattle.fancy_search.proofs.search.Compiled.find_by_numbers.Goals as goal

pub returns-else-branch-clause-promise : goal.returns-else-branch-clause-promise
returns-else-branch-clause-promise c i from =
    let text = c.args.text.now in
    let o = c.args.options.now in
    let numbers = c.search_by_gears-answer.new.numbers in
    first_of i c.args.self.now text o from c.requires.fits false numbers
    (subst (λ b. Promises i text (options_of o) (answer_in (Ok b) numbers)) c.if-branch.false (c.in_ok-answer.ensures.promise i from))
