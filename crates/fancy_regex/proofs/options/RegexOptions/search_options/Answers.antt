use Rattle.std.proofs.Common.{◌≡◌, true, [], refl}
use Rattle.regex_hir.specs.Text.{is_boundary}
use Rattle.fancy_regex.proofs.options.RegexOptions.search_options.Goals as goal

at_start : is_boundary [] 0 ≡ true
unfolding is_boundary
at_start = refl

pub returns-clause-fits : goal.returns-clause-fits
returns-clause-fits c = c.options.ensures.fits [] at_start
