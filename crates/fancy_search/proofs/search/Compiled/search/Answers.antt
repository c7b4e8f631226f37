use Rattle.std.proofs.lemmas.Result.{err_from_is_err_and}
use Rattle.fancy_search.proofs.search.Compiled.search.Goals as goal

pub returns-in_err-search_into-clause-promise : goal.returns-in_err-search_into-clause-promise
returns-in_err-search_into-clause-promise c i from =
    let p = err_from_is_err_and c.from_residual.result c.from_residual.ensures.1 in
    rw (p.1, p.2) (c.in_err-search_into.ensures.promise i from)

pub returns-in_err-search_into-clause-bounds : goal.returns-in_err-search_into-clause-bounds
returns-in_err-search_into-clause-bounds c i from =
    let p = err_from_is_err_and c.from_residual.result c.from_residual.ensures.1 in
    rw (p.1, p.2) (c.in_err-search_into.ensures.bounds i from)

pub returns-in_err-search_into-clause-stays : goal.returns-in_err-search_into-clause-stays
returns-in_err-search_into-clause-stays c =
    let p = err_from_is_err_and c.from_residual.result c.from_residual.ensures.1 in
    rw (p.1, p.2) c.in_err-search_into.ensures.stays
