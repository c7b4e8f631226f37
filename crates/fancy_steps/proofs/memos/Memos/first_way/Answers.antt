use Rattle.std.proofs.Common.{◌≡◌, ◌+◌, ◌*◌, min, refl, subst}
use Rattle.std.proofs.lemmas.Result.{IfOk-weaker}
use Rattle.fancy_steps.proofs.MemosLaws.{memos_put, runs_put}
use Rattle.fancy_meaning.specs.Numbers.{usize_max}
use Rattle.fancy_steps.specs.SearchLimits.{visit_cost}
use Rattle.fancy_steps.specs.declared.search_limits.SearchCost.{SearchCost}
use Rattle.fancy_steps.proofs.memos.Memos.first_way.Goals as goal

pub invariant_of-self : goal.invariant_of-self
invariant_of-self c = record {
  of_runs = runs_put c.note_for.new.self.run c.note_for.new.self.by_place.items c.args.pc _ c.note_for.new.self.of_runs c.in_ok-memo.ensures.run;
}

pub returns-clause-counted : goal.returns-clause-counted
returns-clause-counted c =
    IfOk-weaker c.first_way-way.result _ _
    (λ found is some. subst (λ (was : SearchCost). c.first_way-way.new.self.visits ≡ min usize_max (was.visits + found.visits * visit_cost c.args.fragment.now))
    c.note_for.ensures.cost is) c.first_way-way.ensures.visits

pub returns-clause-memos : goal.returns-clause-memos
returns-clause-memos c =
    memos_put c.args.task.now c.args.fragment.now c.note_for.new.self _ c.args.pc _ refl refl c.note_for.ensures.memos c.requires.here
    c.first_way-way.ensures.memo
