use Rattle.std.proofs.Common.{arith, ap, ◌∙◌, drop, slice_index, zero, ◌≡◌}
use Rattle.std.specs.Str.{chars_after}
use Rattle.fancy_characters.proofs.SpellingLaws.{chars_past, chars_here, after_last, after_more, most_more, most_first}
use Rattle.fancy_characters.proofs.spelling.spelled_at.Goals as goal

pub returns-then-at-bytes-clause-none : goal.returns-then-at-bytes-clause-none
returns-then-at-bytes-clause-none c = chars_past c.args.bytes.now c.args.at (omega arith)

pub spell-init : goal.spell-init
spell-init c =
    let here = chars_here c.args.bytes.now c.args.at (omega arith) in (
      rw (c.following-left.ensures.value, c.bits-code.ensures.value) here,
      most_first c.following-left.result c.bits-code.result c.bits-code.ensures.most,
      c.following-left.ensures.most,
      omega arith,
      omega arith,
    )

pub spell-preserved : goal.spell-preserved
spell-preserved c =
    let inv = c.spell.invariant in
    let left = c.spell.left in
    let more = after_more left c.spell.code c.args.bytes.now c.spell.next (omega arith) (omega arith) in
    let small = most_more left c.spell.code (slice_index c.args.bytes.now c.spell.next) (omega arith) inv.2 inv.1 (omega arith) in
    (rw (c.saturating_sub.ensures) (inv.0 ∙ more), rw (c.saturating_sub.ensures) small, omega (arith, inv.2), omega (arith, inv.3), omega arith)

pub returns-clause-some : goal.returns-clause-some
returns-clause-some c =
    let done : c.spell.left ≡ zero = omega arith in
    c.spell.invariant.0 ∙ ap (λ n. chars_after n c.spell.code (drop c.spell.next c.args.bytes.now)) done ∙ after_last _ _
