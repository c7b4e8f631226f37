use Rattle.std.proofs.Common.{◌≡◌, ◌<◌, ◌+◌, ◌*◌, IfSome, ap, subst, sym, ◌∙◌}
use Rattle.fancy_meaning.specs.Config.{Goes, at_ix, forward, with_pairs, with_slots}
use Rattle.fancy_meaning.specs.Machine.{first_way}
use Rattle.fancy_nfa.specs.GroupSpans.{spans_in}
use Rattle.fancy_fragments.specs.Fragments.{IsOnePassWayOf, fragment_of}
use Rattle.fancy_steps.specs.Outcomes.{StepAnswers, config_of, plain_task}
use Rattle.fancy_steps.proofs.PairsLaws.{groups_fit, takes_none, takes_seen}
use Rattle.fancy_steps.proofs.machine.Machine.take_way.Goals as goal

pub returns-in-Fails-clause-leads : goal.returns-in-Fails-clause-leads
returns-in-Fails-clause-leads c =
    let t = plain_task c.args.self.now.task in
    let f = c.args.delegate.now.fragment in
    let ix = c.args.self.now.ix in
    let spans = spans_in c.one_pass_way.new.self.groups in
    let way = subst (λ g. IsOnePassWayOf t.text g ix spans c.in_ok-end.field-0) c.fragment.ensures c.in_ok-end.ensures.way in
    let none = subst (IsOnePassWayOf t.text f ix spans) c.in-Fails.is way in
    subst (λ to. StepAnswers to c.fail.result c.fail.new.self)
    (sym (takes_none t (config_of c.args.self.now) (first_way t (fragment_of f) ix) (none t.pos t.continued))) c.fail.ensures.leads

pub set_groups-requires : goal.set_groups-requires
set_groups-requires c =
    let t = plain_task c.args.self.now.task in
    let f = c.args.delegate.now.fragment in
    let ix = c.args.self.now.ix in
    let slots = c.args.self.now.task.prog.now.parts.slots in
    let spans = spans_in c.one_pass_way.new.self.groups in
    let way = subst (λ g. IsOnePassWayOf t.text g ix spans c.in_ok-end.field-0) c.fragment.ensures c.in_ok-end.ensures.way in
    let is = subst (IsOnePassWayOf t.text f ix spans) c.in-Ends.is way in
    record {
      slots = λ g.
          subst (λ groups. IfSome (spans_in groups g) (λ span. 2 * g + 1 < slots)) (sym c.groups.ensures)
          (groups_fit t (fragment_of f) ix slots c.in-Ends.end spans c.requires.fits (is t.pos t.continued) g);
    }

pub returns-in_ok-set_groups-in-Ends-clause-leads : goal.returns-in_ok-set_groups-in-Ends-clause-leads
returns-in_ok-set_groups-in-Ends-clause-leads c =
    let t = plain_task c.args.self.now.task in
    let f = c.args.delegate.now.fragment in
    let ix = c.args.self.now.ix in
    let here = config_of c.args.self.now in
    let end = c.in-Ends.end in
    let spans = spans_in c.one_pass_way.new.self.groups in
    let way = subst (λ g. IsOnePassWayOf t.text g ix spans c.in_ok-end.field-0) c.fragment.ensures c.in_ok-end.ensures.way in
    let is = subst (IsOnePassWayOf t.text f ix spans) c.in-Ends.is way in
    let ok = subst (λ groups. config_of c.set_groups.new.self ≡ with_slots (with_pairs (spans_in groups) here.slots) here) c.groups.ensures
    c.in_ok-set_groups-in-Ends.ensures.ok in
    takes_seen t here end spans (first_way t (fragment_of f) ix) (is t.pos t.continued) ∙ sym (ap (λ d. Goes (forward (at_ix end d))) ok)
