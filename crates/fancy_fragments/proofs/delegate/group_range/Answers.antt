use Rattle.std.proofs.Common.{ap, ◌∙◌}
use Rattle.fancy_fragments.specs.Delegates.{range_of}
use Rattle.fancy_fragments.proofs.GroupRanges.{seen_range, between}
use Rattle.fancy_fragments.proofs.delegate.group_range.Goals as goal

pub returns-in-Some-Some : goal.returns-in-Some-Some
returns-in-Some-Some c =
    ap range_of c.to_option_if_non_empty.ensures
    ∙ seen_range _ _
    ∙ between c.args.infos.now c.requires c.in-Some-Some.first.now c.in-Some-Some.last.now c.in-Some-Some.ensures.value c.in-Some-Some.ensures'.value
    c.start_group.result c.end_group.result c.start_group.ensures c.end_group.ensures
