use Rattle.std.proofs.Common.{[], ◌++◌, append-nil, refl, sym, ap, ◌∙◌, string_bytes}
use Rattle.fancy_expr.specs.Texts as texts
use Rattle.fancy_expr.proofs.AbsentTests.{absent_same}
use Rattle.fancy_expr.proofs.text.push_separator.Goals as goal

pub returns-in-Absent : goal.returns-in-Absent
returns-in-Absent c =
    sym (append-nil _)
    ∙ ap (λ t. string_bytes c.args.text.now ++ t)
    (absent_same (λ t. texts.before t c.args.index) [] (λ x. refl) (λ x y. refl) (λ x. refl) refl _ _ c.in-Absent.is)
