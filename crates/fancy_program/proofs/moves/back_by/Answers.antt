use Rattle.std.proofs.Common.{arith, sym, ◌∙◌, ap, ◌-◌}
use Rattle.fancy_meaning.specs.Places as place
use Rattle.fancy_program.proofs.BackLaws.{back_here, back_on, back_over, back_out, back_out_on, back_too_far}
use Rattle.fancy_program.proofs.moves.back_by.Goals as goal
use Rattle.fancy_program.proofs.moves.back_by.Goals.{then-is_place+else-left-eq0, else-is_place}

pub returns-then-chars-ix : goal.returns-then-chars-ix
returns-then-chars-ix c = back_too_far c.args.text.now c.args.chars c.args.ix c.if-chars-ix.true

pub returns-then-left-eq0 : goal.returns-then-left-eq0
returns-then-left-eq0 c =
    sym (back_here c.args.text.now c.back.pos (sym c.if-is_place.ensures))
    ∙ ap (λ n. place.back_by c.args.text.now n c.back.pos) (sym c.if-left-eq0.true) ∙ c.back.invariant

pub returns-then-pos-eq0 : goal.returns-then-pos-eq0
returns-then-pos-eq0 c =
    elim c.if-is_place.branch [
      | then-is_place+else-left-eq0 w ↦ back_out_on c.args.text.now c.back.left c.back.pos c.if-pos-eq0.true (sym w.if-is_place.ensures) (omega arith)
          ∙ c.back.invariant
      | else-is_place w ↦ back_out c.args.text.now c.back.left c.back.pos c.if-pos-eq0.true (sym w.if-is_place.ensures) ∙ c.back.invariant
    ]

pub back-preserved : goal.back-preserved
back-preserved c =
    elim c.if-is_place.branch [
      | then-is_place+else-left-eq0 w ↦
          ap (λ n. place.back_by c.args.text.now n (c.back.pos - 1)) w.left-is
          ∙ back_on c.args.text.now c.back.left c.back.pos (sym w.if-is_place.ensures) (omega arith) (omega arith) ∙ c.back.invariant
      | else-is_place w ↦
          ap (λ n. place.back_by c.args.text.now n (c.back.pos - 1)) w.left-is
          ∙ back_over c.args.text.now c.back.left c.back.pos (sym w.if-is_place.ensures) (omega arith) ∙ c.back.invariant
    ]
