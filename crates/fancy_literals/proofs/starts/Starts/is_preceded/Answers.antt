use Rattle.std.proofs.Common.{◌≡◌, ◌+◌, ◌-◌, ap, ◌∙◌, arith}
use Rattle.fancy_literals.specs.Starts.{is_preceded}
use Rattle.fancy_literals.proofs.StartLaws.{preceded_after, preceded_first}
use Rattle.fancy_literals.proofs.starts.Starts.is_preceded.Goals as goal

pub returns-then-at-eq0 : goal.returns-then-at-eq0
returns-then-at-eq0 c = preceded_first c.args.self.now c.args.text.now c.args.at c.if-at-eq0.true

pub returns-else-at-eq0 : goal.returns-else-at-eq0
returns-else-at-eq0 c =
    let starts = c.args.self.now in
    let text = c.args.text.now in
    let at = c.args.at in
    let other = c.if-at-eq0.false in
    let next : at - 1 + 1 ≡ at = omega (arith, other) in
    preceded_after starts text (at - 1) (omega (arith, other, c.requires)) (let fits = c.type_inv.text (at - 1) in omega (arith, fits))
    ∙ ap (is_preceded starts text) next
