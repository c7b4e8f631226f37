use Rattle.std.proofs.Common.{sym, ◌∙◌}
use Rattle.fancy_notation.proofs.WordFacts.{form-some, form-none}
use Rattle.fancy_notation.proofs.words.form.Goals as goal

pub returns-in-Some : goal.returns-in-Some
returns-in-Some c = form-some c.args.word.now _ (sym c.enclosing.ensures ∙ c.in-Some.is)

pub returns-in-None : goal.returns-in-None
returns-in-None c = c.other_form.ensures ∙ form-none c.args.word.now (sym c.enclosing.ensures ∙ c.in-None.is)
