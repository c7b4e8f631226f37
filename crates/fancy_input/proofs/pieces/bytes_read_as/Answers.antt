use Rattle.std.proofs.Common.{◌≡◌, ◌+◌, ◌-◌, suc, chars, length, subst, ap, ◌∙◌, arith, rules}
use Rattle.std.proofs.lemmas.Str.{chars_from_encodes}
use Rattle.fancy_input.specs.Pieces.{length_of, length_up_to}
use Rattle.fancy_input.proofs.PieceLaws.{Left, goes_on, stays}
use Rattle.fancy_input.proofs.pieces.bytes_read_as.Goals.{in-None, in-Some}
use Rattle.fancy_input.proofs.pieces.bytes_read_as.Goals as goal

pub characters-preserved : goal.characters-preserved
characters-preserved c =
    let s = c.characters in
    let n = c.count-count.result - (s._place + 1) in
    let total = length_of c.args.bytes.now c.count-count.result in
    let here : Left s.left s.length (suc n) total = subst (λ k. Left s.left s.length k total) (omega (arith, c.characters-test.true)) s.invariant in
    elim c.match-next.branch [
      | in-Some w ↦ rw w.length-is (goes_on s.left s.length n total _ c.next.new.self here w.in-Some.ensures.steps)
      | in-None w ↦ rw w.length-is (stays s.left c.next.new.self s.length n total here w.in-None.ensures.steps.0 w.in-None.ensures.steps.1)
    ]

pub returns : goal.returns
returns c =
    let s = c.characters in
    let over : c.count-count.result - s._place ≡ 0 = omega (arith, c.characters-test.false) in
    let counted : c.count-count.result ≡ length (chars c.args.text.now) = search (rules, chars_from_encodes) in
    let whole : s.length ≡ length_of c.args.bytes.now c.count-count.result =
    omega (arith, s.invariant.sum, ap (λ k. length_up_to k s.invariant.rest) over) in
    whole ∙ ap (length_of c.args.bytes.now) counted
