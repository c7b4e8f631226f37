use Rattle.std.proofs.lemmas.Bool.{false≢true}
use Rattle.fancy_compile.proofs.compile.is_unicode.Goals as goal

pub returns-in-Ascii-clause-yes : goal.returns-in-Ascii-clause-yes
returns-in-Ascii-clause-yes c = λ e. absurd (false≢true e)
