use Rattle.std.proofs.Common.{map, sym, ap, ◌∙◌, arith}
use Rattle.std.specs.List.{fold}
use Rattle.std.proofs.lemmas.List.{drop_all}
use Rattle.fancy_meaning.specs.Sizes.{plus}
use Rattle.fancy_info.specs.Infos.{info_size}
use Rattle.fancy_info.specs.Sized.{size_of}
use Rattle.fancy_analysis.proofs.RoundSizes.{sum_fold}
use Rattle.fancy_analysis.proofs.make.sum_of_sizes.Goals as goal

pub returns : goal.returns
returns c =
    sym (ap (λ l. fold plus (size_of c.loop-child.size) (map info_size l)) (drop_all c.loop-child.child-index c.args.children.now (omega arith)))
    ∙ c.loop-child.invariant ∙ sum_fold (map info_size c.args.children.now)
