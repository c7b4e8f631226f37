use Rattle.std.proofs.Common.{sym, ap}
use Rattle.std.specs.Str.{chars}
use Rattle.fancy_matches.specs.Matchers.{captures_text}
use Rattle.fancy_highlight.specs.Ends.{text_in}
use Rattle.fancy_highlight.proofs.references.text_of.Goals as goal

pub returns-in-None : goal.returns-in-None
unfolding chars
returns-in-None c = sym (ap (text_in (captures_text c.args.captures.now)) (sym c.in-None.ensures.found))
