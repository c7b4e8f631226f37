use Rattle.std.proofs.Common.{sym, subst, ◌∙◌}
use Rattle.fancy_meaning.specs.Chars.{literal_takes}
use Rattle.fancy_characters.specs.Others.{LacksOthers}
use Rattle.fancy_literals.proofs.CharacterLaws.{all_told, none_told, one_told, plain_lacks}
use Rattle.fancy_literals.proofs.characters.literal_characters.Goals.{else-casei, then-casei}
use Rattle.fancy_literals.proofs.characters.literal_characters.Goals as goal

pub ascii-init : goal.ascii-init
ascii-init c = none_told (literal_takes c.args.unicode c.args.character c.args.casei) _

pub ascii-preserved : goal.ascii-preserved
ascii-preserved c =
    one_told c.ascii.byte c.ascii.bytes (literal_takes c.args.unicode c.args.character c.args.casei) _ c.literal_takes.result c.ascii-test.true
    c.literal_takes.ensures c.ascii.invariant

pub returns : goal.returns
returns c =
    let unicode = c.args.unicode in
    let character = c.args.character in
    all_told c.ascii.byte c.ascii.bytes (literal_takes unicode character c.args.casei) _ c.ascii-test.false c.ascii.invariant
    (elim c.if-casei.branch [
      | then-casei w ↦ λ no. subst (λ v. LacksOthers (literal_takes unicode character v)) (sym w.if-casei.true) (w.folds_to_others-others.ensures (sym w.others-is ∙ no))
      | else-casei w ↦ λ no. subst (λ v. LacksOthers (literal_takes unicode character v)) (sym w.if-casei.false) (plain_lacks unicode character (sym w.others-is ∙ no))
    ])
