use Rattle.std.proofs.Common.{◌≡◌, suc, ◌+◌, ◌∷◌, ap, ◌∙◌, arith, sym, subst, drop, drop-cons, slice_index_or}
use Rattle.std.proofs.Math.ListN.{drop_of_length-le}
use Rattle.fancy_meaning.specs.Config as config
use Rattle.fancy_nfa.specs.Ways.{Ascends, listed}
use Rattle.fancy_steps.specs.Outcomes.{config_of}
use Rattle.fancy_steps.proofs.PairsLaws.{ascend_on, pairs_none, pairs_of_one}
use Rattle.fancy_steps.proofs.machine.Machine.set_pairs.Goals as goal

pub pairs-preserved : goal.pairs-preserved
pairs-preserved c =
    let spans = c.args.spans.now in
    let i = c.pairs.group-index in
    let x = slice_index_or spans i (0, 0, 0) in
    let one : suc i ≡ i + 1 = omega arith in
    let cut : drop i spans ≡ x ∷ drop (i + 1) spans = drop-cons spans i (0, 0, 0) c.pairs-test.true ∙ ap (λ n. x ∷ drop n spans) one in
    let on = ascend_on x (drop (i + 1) spans) (subst Ascends cut c.pairs.invariant.ascend) in
    record {
      task = c.in_ok-set_pair.ensures.task ∙ c.pairs.invariant.task;
      slots = c.in_ok-set_pair.ensures.slots ∙ c.pairs.invariant.slots;
      ascend = on.1;
      same = pairs_of_one (config_of c.pairs.self) (config_of c.set_pair.new.self) x.0 x.1 x.2 (listed (drop (i + 1) spans))
          c.in_ok-set_pair.ensures.ok on.0
          ∙ ap (λ l. config.with_slots (config.with_pairs (listed l) (config_of c.pairs.self).slots) (config_of c.pairs.self)) (sym cut)
          ∙ c.pairs.invariant.same;
    }

pub returns-clause-ok : goal.returns-clause-ok
returns-clause-ok c =
    let spans = c.args.spans.now in
    let now = config_of c.pairs.self in
    let none = drop_of_length-le spans c.pairs-test.false in
    sym (ap (λ l. config.with_slots (config.with_pairs (listed l) now.slots) now) none
    ∙ ap (λ slots. config.with_slots slots now) (pairs_none now.slots))
    ∙ c.pairs.invariant.same
