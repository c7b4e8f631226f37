use Rattle.std.proofs.Common.{arith}
use Rattle.std.proofs.lemmas.List.Sums.{prefix_len-le-length}
use Rattle.fancy_compile.specs.AnalysedNodes.{is_front}
use Rattle.fancy_compile.proofs.cuts.in_three.Goals as goal

pub split_at-requires : goal.split_at-requires
split_at-requires c = omega (arith, c.front_count.ensures, prefix_len-le-length is_front c.args.infos.now)
