use Rattle.std.proofs.Common.{◌+◌, ◌*◌, length}
use Rattle.fancy_notation.proofs.Loops.{PartsRead}
use Rattle.fancy_notation.proofs.reader.Reader.+reading.Given as goal

abbrev pub decreases-read_node : goal.decreases-read_node
decreases-read_node l = 6 * length l.self.now.rest.now + 1

abbrev pub decreases-read_form : goal.decreases-read_form
decreases-read_form l = 6 * length l.self.now.rest.now

abbrev pub decreases-read_form_rest : goal.decreases-read_form_rest
decreases-read_form_rest l = 6 * length l.self.now.rest.now + 5

abbrev pub decreases-read_parts : goal.decreases-read_parts
decreases-read_parts l = 6 * length l.self.now.rest.now + 2

abbrev pub decreases-read_alt : goal.decreases-read_alt
decreases-read_alt l = 6 * length l.self.now.rest.now + 3

abbrev pub decreases-read_boxed : goal.decreases-read_boxed
decreases-read_boxed l = 6 * length l.self.now.rest.now + 2

abbrev pub decreases-read_last : goal.decreases-read_last
decreases-read_last l = 6 * length l.self.now.rest.now + 3

abbrev pub decreases-read_enclosed : goal.decreases-read_enclosed
decreases-read_enclosed l = 6 * length l.self.now.rest.now + 4

abbrev pub decreases-read_repeat : goal.decreases-read_repeat
decreases-read_repeat l = 6 * length l.self.now.rest.now + 4

abbrev pub decreases-read_conditional : goal.decreases-read_conditional
decreases-read_conditional l = 6 * length l.self.now.rest.now + 4

abbrev pub decreases-read_absent_expression : goal.decreases-read_absent_expression
decreases-read_absent_expression l = 6 * length l.self.now.rest.now + 4

abbrev pub invariant-read_parts-loop-self : goal.invariant-read_parts-loop-self
invariant-read_parts-loop-self l = PartsRead l.splices l.fn.self l.self l.fn.given.items l.parts.items

abbrev pub decreases-read_parts-loop-self : goal.decreases-read_parts-loop-self
decreases-read_parts-loop-self l = length l.self.rest.now
