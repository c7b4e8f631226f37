-- A text is written with the zero at its end.
use Rattle.std.proofs.Common.{◌≡◌, ◌<◌, ◌≤◌, ◌-◌, ℕ, List, [], ◌∷◌, ◌++◌, length, min, set, take, sym, ap, ◌∙◌, arith}
use Rattle.std.proofs.Math.Seq.{drop-nil}
use Rattle.std.proofs.lemmas.List.{length-take, take_min}
use Rattle.fancy_host.specs.Hosted.{ended, over}
use Rattle.fancy_host.proofs.RowsWritten.{over_more}

module _ (text : List ℕ) where
  pub ended_in_room : (old : List ℕ) (n : ℕ) → n ≡ min (length old - 1) (length text) → n < length old →
      set (over (take n text) old) n 0 ≡ ended text old
  ended_in_room old n is fits =
      let cut : take n text ≡ take (length old - 1) text = ap (λ k. take k text) is ∙ take_min (length old - 1) text in
      let long : length (take n text) ≡ n = omega (arith, length-take n text, is) in
      let short : length (take n text) < length old = omega (arith, long, fits) in
      ap (λ k. set (over (take n text) old) k 0) (sym long) ∙ over_more (take n text) old 0 short
      ∙ ap (λ front. over (front ++ 0 ∷ []) old) cut

  pub ended_without_room : (old : List ℕ) (n : ℕ) → n ≡ min (length old - 1) (length text) → length old ≤ n →
      over (take n text) old ≡ ended text old
  ended_without_room [] n is full = drop-nil (length (take n text)) ∙ sym (drop-nil (length (take 0 text ++ 0 ∷ [])))
  ended_without_room (x ∷ xs) n is full =
      let no : ⊥ = omega (arith, is, full) in
      absurd no
