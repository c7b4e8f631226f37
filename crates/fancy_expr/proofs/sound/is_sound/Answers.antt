use Rattle.std.proofs.Common.{refl, sym, subst, ap, ◌∙◌, length, chars, FitsSigned, arith, rules}
use mir.Syntax.{w64}
use Rattle.std.proofs.Math.Facts.{to_z-of_z}
use Rattle.std.proofs.lemmas.Bool.{false≢true}
use Rattle.fancy_expr.proofs.SoundNodes.{sound_literal, sound_alt, sound_class, sound_absent, sound_always, sound_bytes, sound_bounds, too_often}
use Rattle.fancy_expr.proofs.sound.is_sound.Goals as goal

pub returns-in-Literal : goal.returns-in-Literal
returns-in-Literal c = sound_literal _ _ _ _ c.in-Literal.is (c.char_count.ensures ∙ ap (λ l. length (chars l)) c.deref.ensures)

pub returns-in-Alt : goal.returns-in-Alt
returns-in-Alt c = sound_alt _ _ _ c.in-Alt.is c.part_count.ensures

pub returns-in-Delegate : goal.returns-in-Delegate
returns-in-Delegate c = sound_class _ _ _ _ c.in-Delegate.is (omega (arith, c.len.ensures))

pub returns-in-Absent : goal.returns-in-Absent
returns-in-Absent c = (λ _. sound_absent _ _ c.in-Absent.is, λ _. refl)

pub returns-in-LiteralBytes : goal.returns-in-LiteralBytes
returns-in-LiteralBytes c = sound_bytes _ _ _ _ c.in-LiteralBytes.is c.deref-in-LiteralBytes.ensures.value c.has_bytes.ensures

pub returns-then-lo-lt18446744073709551615 : goal.returns-then-lo-lt18446744073709551615
returns-then-lo-lt18446744073709551615 c =
    let r = c.in-Repeat in sound_bounds _ r.child r.lo r.hi r.greedy r.is c.if-lo-lt18446744073709551615.true (omega arith)

pub returns-else-lo-lt18446744073709551615 : goal.returns-else-lo-lt18446744073709551615
returns-else-lo-lt18446744073709551615 c =
    let r = c.in-Repeat in too_often _ r.child r.lo r.hi r.greedy r.is c.if-lo-lt18446744073709551615.false

pub returns-in-Backref : goal.returns-in-Backref
returns-in-Backref c = sound_always _ _ _ c.in-Backref.is c.is_number.ensures.0 (record { fine = c.is_number.ensures.1; one_char = tt })

pub returns-then-is_number : goal.returns-then-is_number
returns-then-is_number c =
    let fits = subst (FitsSigned w64) (to_z-of_z {w = w64} (search rules)) c.is_level.ensures.1 in
    sound_always _ _ _ c.in-BackrefWithRelativeRecursionLevel.is c.is_level.ensures.0
    (record { fine = (c.is_number-in-BackrefWithRelativeRecursionLevel.ensures.1, fits); one_char = tt })

pub returns-else-is_number : goal.returns-else-is_number
returns-else-is_number c =
    absurd (false≢true (sym c.if-is_number.false ∙ c.is_number-in-BackrefWithRelativeRecursionLevel.ensures.0))

pub returns-then-is_number-2 : goal.returns-then-is_number-2
returns-then-is_number-2 c =
    sound_always _ _ _ c.in-BackrefExistsCondition.is c.is_level_if_any.ensures.0
    (record { fine = (c.is_number-in-BackrefExistsCondition.ensures.1, c.is_level_if_any.ensures.1); one_char = tt })

pub returns-else-is_number-2 : goal.returns-else-is_number-2
returns-else-is_number-2 c =
    absurd (false≢true (sym c.if-is_number-2.false ∙ c.is_number-in-BackrefExistsCondition.ensures.0))

pub returns-in-SubroutineCall : goal.returns-in-SubroutineCall
returns-in-SubroutineCall c =
    sound_always _ _ _ c.in-SubroutineCall.is c.is_number-in-SubroutineCall.ensures.0 (record { fine = c.is_number-in-SubroutineCall.ensures.1; one_char = tt })
