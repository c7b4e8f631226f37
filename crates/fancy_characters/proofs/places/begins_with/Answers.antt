use Rattle.std.proofs.Common.{◌<◌, length, refl, sym, ◌∙◌, arith}
use Rattle.fancy_characters.proofs.PlacesLaws.{other_start, same_start, whole_start}
use Rattle.fancy_characters.proofs.places.begins_with.Goals as goal

pub bytes-init : goal.bytes-init
bytes-init c = refl

pub returns-then-text-i : goal.returns-then-text-i
returns-then-text-i c =
    let below : c.bytes.i < length c.args.text.now = omega (arith, c.bytes-test.true, c.if-text-bytes.false) in
    sym (other_start c.args.text.now c.args.bytes.now c.bytes.i below c.bytes-test.true c.if-text-i.true) ∙ c.bytes.invariant

pub bytes-preserved : goal.bytes-preserved
bytes-preserved c =
    let below : c.bytes.i < length c.args.text.now = omega (arith, c.bytes-test.true, c.if-text-bytes.false) in
    sym (same_start c.args.text.now c.args.bytes.now c.bytes.i below c.bytes-test.true c.if-text-i.false) ∙ c.bytes.invariant

pub returns : goal.returns
returns c = sym (whole_start c.args.text.now c.args.bytes.now c.bytes.i (omega (arith, c.bytes-test.false))) ∙ c.bytes.invariant
