use Rattle.std.proofs.lemmas.Result.{err_from_is_err_and}
use Rattle.fancy_search.proofs.Searched.{analysed, may_compile, analysis_refused, compiler_refused, compiled_from}
use Rattle.fancy_search.proofs.search.Compiled.new.Goals as goal

pub returns-in_err-info-clause-made : goal.returns-in_err-info-clause-made
returns-in_err-info-clause-made c =
    let p = err_from_is_err_and c.from_residual.result c.from_residual.ensures.1 in
    rw (p.1, p.2) (analysis_refused c.args.tree.now c.args.context c.args.options c.requires.well_formed c.requires.fits _ c.in_err-info.ensures)

pub compile-requires : goal.compile-requires
compile-requires c = (
  analysed c.args.tree.now c.args.context c.args.options c.requires.well_formed c.requires.fits,
  may_compile c.args.tree.now c.args.context c.args.options c.requires.well_formed c.requires.fits c.in_ok-info.info c.in_ok-info.ensures,
)

pub returns-in_err-prog-clause-made : goal.returns-in_err-prog-clause-made
returns-in_err-prog-clause-made c =
    let p = err_from_is_err_and c.from_residual-in_err-prog.result c.from_residual-in_err-prog.ensures.1 in
    let may = may_compile c.args.tree.now c.args.context c.args.options c.requires.well_formed c.requires.fits c.in_ok-info.info c.in_ok-info.ensures in
    rw (p.1, p.2)
    (compiler_refused c.args.tree.now c.args.context c.args.options c.requires.well_formed c.requires.fits _ (c.in_err-prog.ensures _ may))

pub returns-clause-made : goal.returns-clause-made
returns-clause-made c =
    let may = may_compile c.args.tree.now c.args.context c.args.options c.requires.well_formed c.requires.fits c.in_ok-info.info c.in_ok-info.ensures in
    compiled_from c.args.tree.now c.args.context c.args.options c.requires.well_formed c.requires.fits c.in_ok-info.info c.in_ok-prog.prog
    c.min_size-min_size.result c.in_ok-common.common c.in_ok-needed.needed c.in_ok-candidates.candidates
    c.min_size-min_size.ensures c.in_ok-info.ensures (c.in_ok-prog.ensures _ may) c.in_ok-common.ensures c.in_ok-needed.ensures
    (c.in_ok-candidates.ensures c.args.context)

pub returns-clause-within : goal.returns-clause-within
returns-clause-within c =
    let may = may_compile c.args.tree.now c.args.context c.args.options c.requires.well_formed c.requires.fits c.in_ok-info.info c.in_ok-info.ensures in
    (c.in_ok-prog.ensures _ may).within
