use Rattle.std.proofs.Common.{sym, ap}
use Rattle.fancy_notation.specs.Words.{found, plain_leaves}
use Rattle.fancy_notation.proofs.words.plain_leaf.Goals as goal

pub returns-in-empty : goal.returns-in-empty
returns-in-empty c = ap (found plain_leaves) (sym c.in-empty.is)

pub returns-in-dot : goal.returns-in-dot
returns-in-dot c = ap (found plain_leaves) (sym c.in-dot.is)

pub returns-in-dotcrlf : goal.returns-in-dotcrlf
returns-in-dotcrlf c = ap (found plain_leaves) (sym c.in-dotcrlf.is)

pub returns-in-any : goal.returns-in-any
returns-in-any c = ap (found plain_leaves) (sym c.in-any.is)

pub returns-in-nl : goal.returns-in-nl
returns-in-nl c = ap (found plain_leaves) (sym c.in-nl.is)

pub returns-in-nlascii : goal.returns-in-nlascii
returns-in-nlascii c = ap (found plain_leaves) (sym c.in-nlascii.is)

pub returns-in-keep : goal.returns-in-keep
returns-in-keep c = ap (found plain_leaves) (sym c.in-keep.is)

pub returns-in-cont : goal.returns-in-cont
returns-in-cont c = ap (found plain_leaves) (sym c.in-cont.is)

pub returns-in-absclear : goal.returns-in-absclear
returns-in-absclear c = ap (found plain_leaves) (sym c.in-absclear.is)
