use Rattle.std.proofs.Common.{◌≡◌, take}
use Rattle.fancy_grep.specs.Ignores.{said}
use Rattle.fancy_grep.proofs.ignores.said.Given as goal

abbrev pub invariant-loop-source : goal.invariant-loop-source
invariant-loop-source l = l.said ≡ said l.entry.path.now l.entry.name.now l.entry.is_folder (take l.source-index l.sources)
