use Rattle.std.proofs.Common.{◌≡◌, Bool, suc, min, arith, ap, sym, ◌∙◌, ◌+◌}
use Rattle.fancy_composed.proofs.Places.{more_chars}
use Rattle.fancy_delegation.proofs.Counting.{no_chars}
use Rattle.fancy_laws.proofs.LongestWays.{chars_at_most}
use Rattle.fancy_meaning.specs.Places as place
use Rattle.fancy_program.proofs.moves.chars_between.Goals as goal
use Rattle.fancy_program.proofs.moves.chars_between.Goals.{then-is_place, else-is_place}

pub places-init : goal.places-init
places-init c = sym (no_chars c.args.text.now c.args.from (min c.args.from c.args.to) (omega arith))

pub overflow_add-count : goal.overflow_add-count
overflow_add-count c =
    let few = chars_at_most c.args.text.now c.args.from (min c.places.pos c.args.to) in
    omega (arith, few, c.places.invariant, c.places-test.true, c.ranges.to)

pub places-preserved : goal.places-preserved
places-preserved c =
    let here : min c.places.pos c.args.to ≡ c.places.pos = omega arith in
    let next : min (c.places.pos + 1) c.args.to ≡ suc c.places.pos = omega arith in
    let up : suc c.places.pos ≡ c.places.pos + 1 = omega arith in
    let count = place.chars_between c.args.text.now c.args.from in
    let before = c.places.invariant ∙ ap count here in
    let stands = ap (place.is_place c.args.text.now) up in
    let more = λ (v : Bool) (e : place.is_place c.args.text.now (c.places.pos + 1) ≡ v).
    more_chars c.args.text.now c.args.from c.places.pos v (stands ∙ e) (omega arith) in
    elim c.if-is_place.branch [
      | then-is_place w ↦
          w.count-is ∙ ap (λ n. n + 1) before ∙ sym (ap count next ∙ more _ (sym w.if-is_place.ensures))
      | else-is_place w ↦
          let same = more _ (sym w.if-is_place.ensures) in
          w.count-is ∙ before ∙ sym (ap count next ∙ same ∙ omega arith)
    ]

pub returns : goal.returns
returns c =
    let all : min c.places.pos c.args.to ≡ c.args.to = omega (arith, c.places-test.false) in
    c.places.invariant ∙ ap (place.chars_between c.args.text.now c.args.from) all
