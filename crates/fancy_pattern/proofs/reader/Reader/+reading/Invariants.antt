use Rattle.std.proofs.Common.{◌+◌, ◌*◌, length}
use Rattle.fancy_pattern.specs.Naming.{pairs_in}
use Rattle.fancy_pattern.proofs.Points.{PiecesApart, BarsApart}
use Rattle.fancy_pattern.proofs.reader.Reader.+reading.Given as goal

abbrev pub decreases-read_alternatives : goal.decreases-read_alternatives
decreases-read_alternatives l = 12 * length l.self.now.rest.now + 5

abbrev pub decreases-read_bars : goal.decreases-read_bars
decreases-read_bars l = 12 * length l.self.now.rest.now + 1

abbrev pub decreases-read_branch : goal.decreases-read_branch
decreases-read_branch l = 12 * length l.self.now.rest.now + 4

abbrev pub decreases-read_boxed_branch : goal.decreases-read_boxed_branch
decreases-read_boxed_branch l = 12 * length l.self.now.rest.now + 5

abbrev pub decreases-read_piece : goal.decreases-read_piece
decreases-read_piece l = 12 * length l.self.now.rest.now + 3

abbrev pub decreases-read_atom : goal.decreases-read_atom
decreases-read_atom l = 12 * length l.self.now.rest.now + 2

abbrev pub decreases-read_other : goal.decreases-read_other
decreases-read_other l = 12 * length l.self.now.rest.now + 1

abbrev pub decreases-read_opened : goal.decreases-read_opened
decreases-read_opened l = 12 * length l.self.now.rest.now + 10

abbrev pub decreases-read_enclosed : goal.decreases-read_enclosed
decreases-read_enclosed l = 12 * length l.self.now.rest.now + 7

abbrev pub decreases-read_group : goal.decreases-read_group
decreases-read_group l = 12 * length l.self.now.rest.now + 7

abbrev pub decreases-read_last : goal.decreases-read_last
decreases-read_last l = 12 * length l.self.now.rest.now + 6

abbrev pub decreases-read_boxed : goal.decreases-read_boxed
decreases-read_boxed l = 12 * length l.self.now.rest.now + 7

abbrev pub decreases-read_absent : goal.decreases-read_absent
decreases-read_absent l = 12 * length l.self.now.rest.now + 7

abbrev pub decreases-read_if : goal.decreases-read_if
decreases-read_if l = 12 * length l.self.now.rest.now + 9

abbrev pub decreases-read_bodies : goal.decreases-read_bodies
decreases-read_bodies l = 12 * length l.self.now.rest.now + 8

abbrev pub invariant-read_branch-loop-self : goal.invariant-read_branch-loop-self
invariant-read_branch-loop-self l =
    PiecesApart (pairs_in l.names.pairs) l.fn.self l.self l.fn.nodes.items l.nodes.items l.pieces.items

abbrev pub decreases-read_branch-loop-self : goal.decreases-read_branch-loop-self
decreases-read_branch-loop-self l = length l.self.rest.now

abbrev pub invariant-read_bars-loop-self : goal.invariant-read_bars-loop-self
invariant-read_bars-loop-self l =
    BarsApart (pairs_in l.names.pairs) l.fn.self l.self l.fn.nodes.items l.nodes.items l.branches.items

abbrev pub decreases-read_bars-loop-self : goal.decreases-read_bars-loop-self
decreases-read_bars-loop-self l = length l.self.rest.now
