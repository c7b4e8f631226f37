use Rattle.std.proofs.Common.{◌≡◌, ◌≤◌, ◌<◌, ◌-◌, ◌++◌, ◌∷◌, [], ℕ, List, length, min, take, sym, ap, ap₂, ◌∙◌, subst, arith}
use Rattle.std.proofs.lemmas.List.{length-take, take_all}
use Rattle.fancy_meaning.specs.Numbers.{usize_max}
use Rattle.fancy_replace.specs.Outputs.{Holds}
use Rattle.fancy_host.specs.Codes.{no_room, ok}
use Rattle.fancy_host.specs.Hosted.{coded, ended, over, with_count}
use Rattle.fancy_host.specs.Rewritten.{WritesNew, has_no_room, text_room, written}
use Rattle.fancy_host.proofs.rewriting.write_kept.Goals as goal

-- a text is written as its first bytes are, as many as there is room for
ended_kept : (old new kept : List ℕ) (k : ℕ) → kept ≡ take k new → k ≡ length old - 1 → ended kept old ≡ ended new old
ended_kept old new kept k is at =
    let n = length old - 1 in
    let long = length-take n new in
    ap (λ xs. over (xs ++ 0 ∷ []) old)
    (ap (take n) (is ∙ ap (λ j. take j new) at) ∙ take_all n (take n new) (omega (arith, long)))

pub returns-then-count-room : goal.returns-then-count-room
returns-then-count-room c new h =
    let old = c.args.room.now in
    let count = h.count in
    let at = h.room in
    let yes = c.if-count-room.true in
    let told = c.count.ensures in
    let again = c.count-then-count-room.ensures in
    let fit : length new < length old = omega (arith, count, yes, told) in
    let size : c.count-then-count-room.result ≡ length new = omega (arith, count, yes, told, again) in
    let there = c.write_text.ensures.text ∙ ap (λ t. ended t old) c.kept.ensures
    ∙ ended_kept old new _ _ h.kept (omega (arith, at)) in
    subst (WritesNew new old c.write_text.new.room) (sym (c.with_count.ensures ∙ ap₂ with_count size c.coded.ensures))
    (subst (λ r. WritesNew new old r (with_count (length new) (coded ok))) (sym there) (written fit))

pub returns-else-count-room : goal.returns-else-count-room
returns-else-count-room c new h =
    let old = c.args.room.now in
    let count = h.count in
    let at = h.room in
    let no = c.if-count-room.false in
    let told = c.count.ensures in
    let again = c.count-else-count-room.ensures in
    let full : length old ≤ length new = omega (arith, count, no, told) in
    let size : c.count-else-count-room.result ≡ min usize_max (length new) = omega (arith, count, again) in
    let there = c.write_text.ensures.text ∙ ap (λ t. ended t old) c.kept.ensures
    ∙ ended_kept old new _ _ h.kept (omega (arith, at)) in
    subst (WritesNew new old c.write_text.new.room)
    (sym (c.with_count-else-count-room.ensures ∙ ap₂ with_count size c.coded-else-count-room.ensures))
    (subst (λ r. WritesNew new old r (with_count (min usize_max (length new)) (coded no_room))) (sym there) (has_no_room full))
