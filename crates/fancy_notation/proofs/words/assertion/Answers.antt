use Rattle.std.proofs.Common.{sym, ap}
use Rattle.fancy_notation.specs.Words.{found, assertions}
use Rattle.fancy_notation.proofs.words.assertion.Goals as goal

pub returns-in-start : goal.returns-in-start
returns-in-start c = ap (found assertions) (sym c.in-start.is)

pub returns-in-end : goal.returns-in-end
returns-in-end c = ap (found assertions) (sym c.in-end.is)

pub returns-in-endnl : goal.returns-in-endnl
returns-in-endnl c = ap (found assertions) (sym c.in-endnl.is)

pub returns-in-endcrlf : goal.returns-in-endcrlf
returns-in-endcrlf c = ap (found assertions) (sym c.in-endcrlf.is)

pub returns-in-bol : goal.returns-in-bol
returns-in-bol c = ap (found assertions) (sym c.in-bol.is)

pub returns-in-bolcrlf : goal.returns-in-bolcrlf
returns-in-bolcrlf c = ap (found assertions) (sym c.in-bolcrlf.is)

pub returns-in-obol : goal.returns-in-obol
returns-in-obol c = ap (found assertions) (sym c.in-obol.is)

pub returns-in-obolcrlf : goal.returns-in-obolcrlf
returns-in-obolcrlf c = ap (found assertions) (sym c.in-obolcrlf.is)

pub returns-in-eol : goal.returns-in-eol
returns-in-eol c = ap (found assertions) (sym c.in-eol.is)

pub returns-in-eolcrlf : goal.returns-in-eolcrlf
returns-in-eolcrlf c = ap (found assertions) (sym c.in-eolcrlf.is)

pub returns-in-wstart : goal.returns-in-wstart
returns-in-wstart c = ap (found assertions) (sym c.in-wstart.is)

pub returns-in-wend : goal.returns-in-wend
returns-in-wend c = ap (found assertions) (sym c.in-wend.is)

pub returns-in-whstart : goal.returns-in-whstart
returns-in-whstart c = ap (found assertions) (sym c.in-whstart.is)

pub returns-in-whend : goal.returns-in-whend
returns-in-whend c = ap (found assertions) (sym c.in-whend.is)

pub returns-in-wb : goal.returns-in-wb
returns-in-wb c = ap (found assertions) (sym c.in-wb.is)

pub returns-in-nwb : goal.returns-in-nwb
returns-in-nwb c = ap (found assertions) (sym c.in-nwb.is)
