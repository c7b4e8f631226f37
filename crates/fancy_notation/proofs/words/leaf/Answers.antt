use Rattle.std.proofs.Common.{option_map, ap, sym, ◌∙◌}
use Rattle.fancy_expr.specs.Views.{assertion_of}
use Rattle.fancy_notation.proofs.WordFacts.{leaf-some, leaf-none}
use Rattle.fancy_notation.proofs.words.leaf.Goals as goal

pub returns-in-Some : goal.returns-in-Some
returns-in-Some c = leaf-some c.args.word.now _ (sym c.assertion.ensures ∙ ap (option_map assertion_of) c.in-Some.is)

pub returns-in-None : goal.returns-in-None
returns-in-None c = c.plain_leaf.ensures ∙ leaf-none c.args.word.now (sym c.assertion.ensures ∙ ap (option_map assertion_of) c.in-None.is)
