use Rattle.std.proofs.lemmas.Iterator.{YieldsList-from_chars, items_from_collect}
use Rattle.fancy_grep.proofs.globs.chars_of.Goals as goal

pub returns : goal.returns
returns c = items_from_collect c.collect.result c.collect.ensures.ran (YieldsList-from_chars c.args.text.now c.utf8.text cc)
