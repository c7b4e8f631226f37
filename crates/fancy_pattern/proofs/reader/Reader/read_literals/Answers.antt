use Rattle.std.proofs.Common.{arith}
use Rattle.fancy_pattern.proofs.Literals.{row_begins, row_goes_on}
use Rattle.fancy_pattern.proofs.reader.Reader.read_literals.Goals as goal

pub loop-val-init : goal.loop-val-init
loop-val-init c =
    record {
      row = λ names.
          row_goes_on names c.args.self.now c.args.self.now c.read_literal.new.self c.args.nodes.now.items c.args.nodes.now.items
          c.read_literal.new.nodes.items (row_begins names c.args.self.now c.args.nodes.now.items) (c.in_ok-read_literal.ensures.pushes names);
      shorter = c.in_ok-read_literal.ensures.shorter;
    }

pub loop-val-preserved : goal.loop-val-preserved
loop-val-preserved c =
    let before = c.loop-val.invariant in
    record {
      row = λ names.
          row_goes_on names c.args.self.now c.loop-val.self c.read_literal-in-Some.new.self c.args.nodes.now.items c.loop-val.nodes.items
          c.read_literal-in-Some.new.nodes.items (before.row names) (c.in_ok-read_literal-2.ensures.pushes names);
      shorter = let a = c.in_ok-read_literal-2.ensures.shorter in let b = before.shorter in omega (arith, a, b);
    }
