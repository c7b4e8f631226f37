use Rattle.std.proofs.Common.{refl}
use Rattle.fancy_expr.specs.Views.{tree_of}
use Rattle.fancy_pattern.proofs.Surveys.{surveyed, survey_of_none}
use Rattle.fancy_pattern.proofs.pattern.surveyed.Goals as goal

pub returns-then-not-names_group : goal.returns-then-not-names_group
returns-then-not-names_group c =
    survey_of_none (tree_of c.args.expr.now) _ c.new.ensures.items refl (c.requires c.if-not-names_group.true)

pub returns : goal.returns
returns c = surveyed (tree_of c.args.expr.now) _ c.note_all.new.self c.new.ensures.items refl c.in_ok-note_all.ensures
