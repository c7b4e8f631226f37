use Rattle.std.proofs.Common.{subst, sym}
use Rattle.fancy_meaning.specs.Machine.{first_way}
use Rattle.fancy_fragments.specs.Fragments.{IsOnePassOf, fragment_of}
use Rattle.fancy_steps.specs.Outcomes.{StepAnswers, config_of, plain_task}
use Rattle.fancy_steps.proofs.PairsLaws.{takes_none}
use Rattle.fancy_steps.proofs.machine.Machine.delegate.Goals as goal

pub returns-in-Fails-clause-leads : goal.returns-in-Fails-clause-leads
returns-in-Fails-clause-leads c =
    let t = plain_task c.args.self.now.task in
    let f = c.args.delegate.now.fragment in
    let ix = c.args.self.now.ix in
    let way = rw c.fragment-2.ensures at c.in_ok-end.ensures.way in
    let none = subst (IsOnePassOf t.text f ix) c.in-Fails.is way in
    subst (λ to. StepAnswers to c.fail-in-Fails.result c.fail-in-Fails.new.self)
    (sym (takes_none t (config_of c.args.self.now) (first_way t (fragment_of f) ix) (none t.pos t.continued))) c.fail-in-Fails.ensures.leads

pub returns-then-is_excluded-clause-leads : goal.returns-then-is_excluded-clause-leads
returns-then-is_excluded-clause-leads c =
    let t = plain_task c.args.self.now.task in
    let f = c.args.delegate.now.fragment in
    let ix = c.args.self.now.ix in
    let none = rw c.fragment.ensures at c.is_excluded.ensures c.if-is_excluded.true in
    subst (λ to. StepAnswers to c.fail.result c.fail.new.self)
    (sym (takes_none t (config_of c.args.self.now) (first_way t (fragment_of f) ix) (none t.pos t.continued))) c.fail.ensures.leads
