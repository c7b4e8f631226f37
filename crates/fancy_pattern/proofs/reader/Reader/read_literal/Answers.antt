use Rattle.std.proofs.Common.{sym, ◌∙◌}
use Rattle.fancy_pattern.proofs.Literals.{literal_read, literal_alone}
use Rattle.fancy_pattern.proofs.reader.Reader.read_literal.Goals as goal

pub returns-then-is_at_quantifier-clause-pushes : goal.returns-then-is_at_quantifier-clause-pushes
returns-then-is_at_quantifier-clause-pushes c = λ names.
    literal_read names c.args.val c.args.casei c.args.self.now c.skip.new.self c.repeat_literal.new.self c.args.nodes.now.items
    c.repeat_literal.new.nodes.items c.repeat_literal.result (c.requires.there names) c.skip.ensures.skips c.repeat_literal.ensures.pushes

pub returns-clause-pushes : goal.returns-clause-pushes
returns-clause-pushes c = λ names.
    literal_read names c.args.val c.args.casei c.args.self.now c.skip.new.self c.skip.new.self c.args.nodes.now.items
    c.add_literal.new.nodes.items c.add_literal.result (c.requires.there names) c.skip.ensures.skips
    (literal_alone c.args.val c.args.casei c.skip.new.self c.args.nodes.now.items c.add_literal.new.nodes.items c.add_literal.result
    (sym c.is_at_quantifier.ensures ∙ c.if-is_at_quantifier.false) c.add_literal.ensures)
