-- A text of which no more is kept than there is room for, when a piece is appended.
use Rattle.std.proofs.Common.{◌≡◌, ◌≤◌, ◌<◌, ◌+◌, ◌-◌, ◌++◌, ℕ, List, [], length, min, take, IsUtf8, ⊎_elim, refl, sym, ap, ap₂, ◌∙◌, subst, arith, append-nil}
use Rattle.std.proofs.Math.Seq.{take-append-add}
use Rattle.std.proofs.lemmas.Bool.{cases_lt}
use Rattle.std.proofs.lemmas.List.{length-append, length-take-le, take-append-le, take_all}
use Rattle.fancy_meaning.specs.Numbers.{usize_max}

take_least : (n : ℕ) (xs : List ℕ) → take (min n (length xs)) xs ≡ take n xs
take_least n xs =
    ⊎_elim
    (λ lt. ap (λ k. take k xs) (omega (arith, lt)))
    (λ le. ap (λ k. take k xs) (let is : min n (length xs) ≡ length xs = omega (arith, le) in is)
    ∙ take_all (length xs) xs (omega arith) ∙ sym (take_all n xs le))
    (cases_lt n (length xs))

-- what there is room for of the text before it, and what there is then room for of the piece
pub keeps_more : (room : ℕ) (text piece kept : List ℕ) (more : ℕ) → kept ≡ take room text → more ≡ min (room - length kept) (length piece) →
    kept ++ take more piece ≡ take room (text ++ piece)
keeps_more room text piece kept more is count =
    ⊎_elim
    (λ lt.
    let full : length kept ≡ room = ap length is ∙ length-take-le room text (omega (arith, lt)) in
    let none : more ≡ 0 = omega (arith, full, count) in
    ap (λ k. kept ++ take k piece) none ∙ append-nil kept ∙ is ∙ sym (take-append-le room text piece (omega (arith, lt))))
    (λ le.
    let whole : kept ≡ text = is ∙ take_all room text le in
    let left : room ≡ length text + (room - length text) = omega (arith, le) in
    ap₂ (λ ys k. ys ++ take k piece) whole (count ∙ ap (λ ys. min (room - length ys) (length piece)) whole)
    ∙ ap (λ ys. text ++ ys) (take_least (room - length text) piece)
    ∙ sym (ap (λ k. take k (text ++ piece)) left ∙ take-append-add text piece (room - length text)))
    (cases_lt room (length text))
