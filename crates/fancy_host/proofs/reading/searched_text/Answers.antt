use Rattle.std.proofs.Common.{sym, ◌∙◌}
use Rattle.fancy_host.proofs.reading.searched_text.Goals as goal

pub from_utf8_unchecked-requires : goal.from_utf8_unchecked-requires
from_utf8_unchecked-requires c = c.requires (sym c.has_size.ensures ∙ c.if-has_size.true) c.if-options.true
