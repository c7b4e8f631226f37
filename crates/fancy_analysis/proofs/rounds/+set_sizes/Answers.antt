use Rattle.std.proofs.Common.{◌≡◌, ◌+◌, ◌<◌, length, map, drop, get_or, sym, ap, ◌∙◌, arith}
use Rattle.fancy_info.proofs.Children.{rest_at}
use Rattle.fancy_info.specs.Infos.{info_children}
use Rattle.fancy_info.specs.Sized.{size_of}
use Rattle.fancy_analysis.proofs.InfoNodes.{child_sized}
use Rattle.fancy_analysis.proofs.RoundSizes.{sizes-below, with_each}
use Rattle.fancy_analysis.proofs.rounds.+set_sizes.Goals as goal

pub loop-child-init : goal.loop-child-init
loop-child-init t c = λ known sized.
    let info = c.args.info.now in
    ap (λ table. with_each known table (info_children info)) c.set_size.ensures ∙ sizes-below known info (map size_of c.args.table.now) sized

pub loop-child-preserved : goal.loop-child-preserved
loop-child-preserved t c = λ known sized.
    let info = c.args.info.now in
    let child = c.child-item.result in
    let n = c.loop-child.child-index in
    let lt : n < length (info_children info) = omega (arith, ap length c.deref-child-items.ensures.value) in
    let at : child ≡ get_or (info_children info) n child = c.child-item.is ∙ ap (λ l. get_or l n child) c.deref-child-items.ensures.value in
    ap (λ table. with_each known table (drop (n + 1) (info_children info))) (c.set_sizes.ensures known (child_sized known info n child lt at sized))
    ∙ sym (ap (with_each known (map size_of c.loop-child.table)) (rest_at (info_children info) n child lt at))
    ∙ c.loop-child.invariant known sized
