use Rattle.std.proofs.Common.{arith, sym, ◌∙◌}
use Rattle.fancy_characters.proofs.LookLaws.{none_left, other_first, newline_first}
use Rattle.fancy_characters.proofs.look.only_newlines_left.Goals as goal

pub returns-then-not-is_line_byte : goal.returns-then-not-is_line_byte
returns-then-not-is_line_byte c =
    sym (other_first c.args.text.now c.args.crlf c.loop-at.at (omega arith) (sym c.if-not-is_line_byte.ensures)) ∙ c.loop-at.invariant

pub loop-at-preserved : goal.loop-at-preserved
loop-at-preserved c =
    sym (newline_first c.args.text.now c.args.crlf c.loop-at.at (omega arith) (sym c.if-not-is_line_byte.ensures)) ∙ c.loop-at.invariant

pub returns : goal.returns
returns c = sym (none_left c.args.text.now c.args.crlf c.loop-at.at (omega arith)) ∙ c.loop-at.invariant
