use Rattle.std.proofs.Common.{◌≡◌, IfOk, map, subst}
use Rattle.fancy_meaning.specs.Batches.{fragment, group_range}
use Rattle.fancy_meaning.specs.Instr as plain
use Rattle.fancy_info.specs.Infos.{info_tree}
use Rattle.fancy_fragments.specs.Delegates.{delegate_instr}
use Rattle.fancy_fragments.proofs.delegate.Delegate.build.Goals as goal

pub returns-clause-delegate : goal.returns-clause-delegate
returns-clause-delegate c =
    let es = map info_tree c.args.infos.now in
    subst (λ t. IfOk c.named.result (λ d. delegate_instr d ≡ plain.Instr.Delegate t (fragment c.args.unicode es) (group_range es)))
    (c.in_ok-pattern.ensures.text c.args.unicode) c.named.ensures.delegate
