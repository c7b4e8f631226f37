use Rattle.std.proofs.Common.{◌≡◌, ◌++◌, false, length, take, drop, slice_index_or, arith, ap, ◌∙◌}
use Rattle.std.proofs.lemmas.List.{take-append-le, take_all}
use Rattle.fancy_analysis.proofs.endings.next_flags.Goals as goal

pub returns-clause-flags : goal.returns-clause-flags
returns-clause-flags c = λ a found g.
    let next = c.set_ends.new.next in
    let len = c.extend_from_slice.new.self.len in
    let rest = drop (length next) c.extend_from_slice.new.self.items in
    let filled = c.in_ok-extend_from_slice.ensures in
    let all : len ≡ length next = omega (arith, filled.len, c.new-next.ensures.len, c.set_ends.ensures.length) in
    let back : take len (next ++ rest) ≡ next = take-append-le len next rest (omega (arith, all)) ∙ take_all len next (omega (arith, all)) in
    ap (λ l. slice_index_or l g false) back ∙ c.set_ends.ensures.flags a found g
