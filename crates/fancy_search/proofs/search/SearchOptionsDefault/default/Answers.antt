use Rattle.std.proofs.Common.{ap}
use Rattle.fancy_search.proofs.Searched.{defaults_fit}
use Rattle.fancy_search.proofs.search.SearchOptionsDefault.default.Goals as goal

pub returns-clause-fits : goal.returns-clause-fits
returns-clause-fits c text utf8 =
    defaults_fit (record { analysis = c.default.result; compilation = c.default-2.result; run = c.default-3.result }) text c.default.ensures
    (ap (λ o. o.disallow_empty_match_at_eof_after_newline) c.default-2.ensures) (ap (λ o. o.pos) c.default-3.ensures)
    (ap (λ o. o.not_empty) c.default-3.ensures) (ap (λ o. o.leftmost_longest) c.default-3.ensures) utf8
