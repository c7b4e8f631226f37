use Rattle.std.proofs.Common.{◌≡◌, All, ◌+◌, ◌*◌, ◌<◌, ap, option_map, subst, sym, ◌∙◌}
use Rattle.fancy_meaning.specs.Config.{Goes, at_ix, forward, with_pairs, with_slots}
use Rattle.fancy_meaning.specs.Machine.{first_way}
use Rattle.fancy_laws.proofs.Every.{All-every}
use Rattle.fancy_nfa_laws.specs.FirstWays.{seen}
use Rattle.fancy_nfa.specs.Ways.{IsSeenAs, listed}
use Rattle.fancy_fragments.specs.Fragments.{fragment_of}
use Rattle.fancy_steps.specs.Outcomes.{StepAnswers, config_of, plain_task}
use Rattle.fancy_steps.proofs.PairsLaws.{takes_none, takes_some, way_fits}
use Rattle.fancy_steps.proofs.machine.Machine.take_searched.Goals as goal

pub returns-in-None-clause-leads : goal.returns-in-None-clause-leads
returns-in-None-clause-leads c =
    let t = plain_task c.args.self.now.task in
    let way = first_way t (fragment_of c.args.delegate.now.fragment) c.args.self.now.ix in
    let found = subst (λ w. IsSeenAs w (option_map seen way)) c.in-None.is c.in_ok-first_way.ensures.seen in
    subst (λ to. StepAnswers to c.fail.result c.fail.new.self) (sym (takes_none t (config_of c.args.self.now) way found)) c.fail.ensures.leads

pub set_pairs-requires-clause-slots : goal.set_pairs-requires-clause-slots
set_pairs-requires-clause-slots c =
    let t = plain_task c.args.self.now.task in
    let fragment = fragment_of c.args.delegate.now.fragment in
    let slots = c.args.self.now.task.prog.now.parts.slots in
    let way = first_way t fragment c.args.self.now.ix in
    let found = subst (λ w. IsSeenAs w (option_map seen way)) c.in-Some.is c.in_ok-first_way.ensures.seen in
    subst (All (λ e. 2 * e.0 + 1 < slots)) (sym c.deref.ensures.value)
    (All-every (way_fits t fragment c.args.self.now.ix slots c.in-Some.way c.requires.fits found))

pub returns-in_ok-set_pairs-in-Some-clause-leads : goal.returns-in_ok-set_pairs-in-Some-clause-leads
returns-in_ok-set_pairs-in-Some-clause-leads c =
    let t = plain_task c.args.self.now.task in
    let way = first_way t (fragment_of c.args.delegate.now.fragment) c.args.self.now.ix in
    let found = subst (λ w. IsSeenAs w (option_map seen way)) c.in-Some.is c.in_ok-first_way.ensures.seen in
    let here = config_of c.args.self.now in
    let ok = subst (λ l. config_of c.set_pairs.new.self ≡ with_slots (with_pairs (listed l) here.slots) here) c.deref.ensures.value
    c.in_ok-set_pairs-in-Some.ensures.ok in
    takes_some t here c.in-Some.way way found ∙ sym (ap (λ d. Goes (forward (at_ix c.in-Some.way.end d))) ok)
