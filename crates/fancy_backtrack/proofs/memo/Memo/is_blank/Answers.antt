use Rattle.std.proofs.Common.{sym, ◌∙◌}
use Rattle.fancy_backtrack.specs.PairKeys.{key_of}
use Rattle.fancy_backtrack.proofs.memo.Memo.is_blank.Goals as goal

pub returns : goal.returns
returns c is failed have p = sym (have p) ∙ c.is_empty.ensures is (key_of p)
