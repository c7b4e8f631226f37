use Rattle.std.proofs.Common.{ap}
use Rattle.fancy_meaning.specs.Batches.{fragment}
use Rattle.fancy_fragments.proofs.FragmentNodes.{each_analysed, same_nodes, laid_over, fits_copied}
use Rattle.fancy_fragments.proofs.fragment.Fragment.build.Goals as goal

pub settable_above-requires : goal.settable_above-requires
settable_above-requires c =
    (c.requires.analysis, each_analysed c.requires.analysis c.args.infos.now c.requires.each)

pub invariant_of-result : goal.invariant_of-result
invariant_of-result c =
    let is = c.args.infos.now in
    let exprs = c.in_ok-exprs.exprs.items in record {
      laid_out = laid_over is c.requires exprs c.in_ok-exprs.ensures _ _ c.beginning-first_group.ensures c.args.unicode c.in_ok-nfa.nfa
          c.in_ok-nfa.ensures.nfa;
      fits = fits_copied is c.requires exprs c.in_ok-exprs.ensures _ _ c.beginning-first_group.ensures c.settable_above.result
          c.settable_above.ensures;
    }

pub returns-clause-fragment : goal.returns-clause-fragment
returns-clause-fragment c =
    ap (fragment c.args.unicode)
    (same_nodes c.args.infos.now c.requires c.in_ok-exprs.exprs.items c.in_ok-exprs.ensures _ _ c.beginning-first_group.ensures)
