use Rattle.std.proofs.Common.{◌&&◌, not, sym, ap, ◌∙◌}
use Rattle.fancy_faults.specs.Known.{has_fixed_length, is_look_behind}
use Rattle.fancy_faults.proofs.Analysed.{variable_by_body}
use Rattle.fancy_faults.proofs.blame.is_variable_look_behind.Goals as goal

pub returns-then-is_look_behind : goal.returns-then-is_look_behind
returns-then-is_look_behind c = λ a k.
    let i = c.args.info.now in
    let body = c.in-Some.body.now in
    ap not c.is_body_of_look_behind.ensures
    ∙ ap (λ b. b && not (has_fixed_length body)) (sym c.if-is_look_behind.true ∙ c.is_look_behind.ensures ∙ ap is_look_behind c.expr.ensures)
    ∙ variable_by_body i a c.children.result.now body c.children.ensures c.in-Some.ensures.item.3.0 c.in-Some.ensures.item.1 k
