use Rattle.std.proofs.Common.{sym, subst}
use Rattle.regex_class.specs.Ranges.{KeysRise}
use Rattle.regex_syntax.proofs.FoldLemmas.{KeysRise-fold_pairs}
use Rattle.fancy_hybrid.proofs.RangeLaws.{folded_made, scalar_bounded}
use Rattle.fancy_hybrid.proofs.ranges.folded.Goals as goal

pub append_image-requires : goal.append_image-requires
append_image-requires c = subst KeysRise (sym c.fold_pairs.ensures.table) KeysRise-fold_pairs

pub returns : goal.returns
returns c =
    folded_made c.new.result _ c.fold_pairs.result.now c.in_ok-one.one.ranges.items c.in_ok-ranges.ranges.items
    c.args.c (scalar_bounded c.args.c c.ranges.c.0) c.in_ok-ranges.ensures.items c.in_ok-one.one.canonical c.in_ok-one.ensures c.in_ok-append_image.ensures.members
    c.fold_pairs.ensures.meaning c.new.ensures
