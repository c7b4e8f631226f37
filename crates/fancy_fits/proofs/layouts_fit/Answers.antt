use Rattle.fancy_fits.proofs.Programs.{layouts_fit}
use Rattle.fancy_fits.proofs.layouts_fit.Goals as goal

pub returns : goal.returns
returns c = layouts_fit
