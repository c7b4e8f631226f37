use Rattle.std.proofs.Common.{map, sym, ap, ◌∙◌, arith}
use Rattle.std.specs.List.{fold}
use Rattle.std.proofs.lemmas.List.{drop_all}
use Rattle.fancy_meaning.specs.Sizes.{either, any_of}
use Rattle.fancy_info.specs.Infos.{info_size}
use Rattle.fancy_info.specs.Sized.{size_of}
use Rattle.fancy_analysis.proofs.RoundSizes.{any_fold}
use Rattle.fancy_analysis.proofs.make.any_of_sizes.Goals as goal

pub returns : goal.returns
returns c =
    let rest = c.in-Some.rest.now in
    sym (ap (λ l. fold either (size_of c.loop-child.size) (map info_size l)) (drop_all c.loop-child.child-index rest (omega arith)))
    ∙ c.loop-child.invariant ∙ any_fold (info_size c.in-Some.first.now) (map info_size rest)
    ∙ sym (ap (λ l. any_of (map info_size l)) c.in-Some.ensures.cases.0)
