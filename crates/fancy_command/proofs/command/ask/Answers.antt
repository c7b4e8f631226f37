use Rattle.std.proofs.Common.{◌∷◌, false, true, ap, ◌∙◌}
use Rattle.fancy_command.proofs.Asked.{tells_place, asks}
use Rattle.fancy_command.proofs.command.ask.Goals as goal

pub returns-then-not-is_char_boundary-clause-asks :
    goal.returns-then-not-is_char_boundary-clause-asks
returns-then-not-is_char_boundary-clause-asks c =
    let split = c.in_ok-tree.ensures.cases.0 ∙ ap (λ rest. c.in_ok-tree.tree.now ∷ rest) c.in_ok-text.ensures.cases.0 in
    let at = tells_place _ _ _ c.is_char_boundary.ensures.test ∙ c.if-not-is_char_boundary.true in
    asks c.args.args.now c.in_ok-tree.tree.now c.in_ok-text.text.now c.in_ok-text.words.now c.as_str-tree.result.now c.as_str-text.result.now
    c.in_ok-arguments.arguments false split c.as_str-tree.ensures.value c.as_str-text.ensures.value c.in_ok-arguments.ensures at

pub returns-clause-asks : goal.returns-clause-asks
returns-clause-asks c =
    let split = c.in_ok-tree.ensures.cases.0 ∙ ap (λ rest. c.in_ok-tree.tree.now ∷ rest) c.in_ok-text.ensures.cases.0 in
    let at = tells_place _ _ _ c.is_char_boundary.ensures.test ∙ c.if-not-is_char_boundary.false in
    asks c.args.args.now c.in_ok-tree.tree.now c.in_ok-text.text.now c.in_ok-text.words.now c.as_str-tree.result.now c.as_str-text.result.now
    c.in_ok-arguments.arguments true split c.as_str-tree.ensures.value c.as_str-text.ensures.value c.in_ok-arguments.ensures at

pub returns-clause-begins : goal.returns-clause-begins
returns-clause-begins c = tells_place _ _ _ c.is_char_boundary.ensures.test ∙ c.if-not-is_char_boundary.false
