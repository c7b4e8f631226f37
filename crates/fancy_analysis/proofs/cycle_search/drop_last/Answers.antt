use Rattle.std.proofs.Common.{◌-◌, ◌∷◌, [], length, take, ap, ◌∙◌, arith}
use Rattle.std.proofs.lemmas.List.{length-append}
use Rattle.fancy_analysis.proofs.SearchSteps.{written_back}
use Rattle.fancy_analysis.proofs.cycle_search.drop_last.Goals as goal

pub returns : goal.returns
returns c = λ before n is.
    c.pop.ensures.rest ∙ ap (take (c.args.list.now.len - 1)) is
    ∙ written_back (c.args.list.now.len - 1) (n ∷ []) before (omega (arith, c.args.list.now.ok.0, ap length is, length-append before (n ∷ [])))
