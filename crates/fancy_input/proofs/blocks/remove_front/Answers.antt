use Rattle.std.proofs.Common.{◌≡◌, ◌+◌, ◌-◌, length, take, drop, ap, ◌∙◌, arith, rules, length-drop, take_all}
use lib.Seq.{paste}
use Rattle.std.proofs.lemmas.List.Edits.{take-paste}
use Rattle.fancy_input.proofs.blocks.remove_front.Goals as goal

pub returns : goal.returns
returns c =
    let all = c.args.bytes.now.items in
    let n = c.args.count in
    let left = c.len-length.result - n in
    let long : length all ≡ c.len-length.result = search rules in
    let same : left ≡ 0 + left = omega arith in
    let rest : length (drop n all) ≡ left = omega (arith, length-drop n all) in
    c.truncate.ensures.items ∙ ap (take left) c.copy_within.ensures.items
    ∙ ap (λ k. take k (paste all 0 (drop n all) left)) same ∙ take-paste all 0 (drop n all) left (omega arith) (omega arith)
    ∙ take_all left (drop n all) (omega arith)
