use Rattle.std.proofs.Common.{sym, ap}
use Rattle.fancy_notation.specs.Words.{found, enclosings}
use Rattle.fancy_notation.proofs.words.enclosing.Goals as goal

pub returns-in-grp : goal.returns-in-grp
returns-in-grp c = ap (found enclosings) (sym c.in-grp.is)

pub returns-in-atom : goal.returns-in-atom
returns-in-atom c = ap (found enclosings) (sym c.in-atom.is)

pub returns-in-define : goal.returns-in-define
returns-in-define c = ap (found enclosings) (sym c.in-define.is)

pub returns-in-ahead : goal.returns-in-ahead
returns-in-ahead c = ap (found enclosings) (sym c.in-ahead.is)

pub returns-in-nahead : goal.returns-in-nahead
returns-in-nahead c = ap (found enclosings) (sym c.in-nahead.is)

pub returns-in-behind : goal.returns-in-behind
returns-in-behind c = ap (found enclosings) (sym c.in-behind.is)

pub returns-in-nbehind : goal.returns-in-nbehind
returns-in-nbehind c = ap (found enclosings) (sym c.in-nbehind.is)

pub returns-in-absent : goal.returns-in-absent
returns-in-absent c = ap (found enclosings) (sym c.in-absent.is)

pub returns-in-absstop : goal.returns-in-absstop
returns-in-absstop c = ap (found enclosings) (sym c.in-absstop.is)
