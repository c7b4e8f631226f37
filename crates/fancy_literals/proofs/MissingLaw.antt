-- A text lacks what does not stand in what is left of it.
use Rattle.std.proofs.Common.{◌≡◌, ⊎_elim, inl, inr, ℕ, ◌+◌, ◌-◌, ◌<◌, ◌≤◌, Bool, true, false, List, ◌++◌, take, drop, length, min, Option, Some, None, is_some, slice_index, slice_index_or, refl, sym, ap, ◌∙◌, arith, eq-eqb, take_all, take_at, drop-drop, length-append, length-drop}
use Rattle.std.proofs.lemmas.Bool.{cases_lt, false≢true, true≢false}
use Rattle.std.proofs.lemmas.List.{drop_all, drop_more, get_or-drop}
use Rattle.memchr.specs.Find.{FindsNeedle, IsFirstByte, OccursAt, is_byte}
use Rattle.memchr.proofs.lemmas.MatchLemmas.{OccursAt-from_part}
use Rattle.regex_hir.specs.Text.{has_bytes_at}
use Rattle.regex_hir.proofs.TextLemmas.{has_bytes_at_parts}
use Rattle.fancy_literals.specs.ByteSets.{HasNone, is_in}
use Rattle.fancy_literals.specs.Required.{LacksFrom, OneOf, Piece, begins_among}

-- what is left from a byte on, which may be past the end
pub rest_from : (text : List ℕ) (from start : ℕ) → start ≡ min from (length text) → take (length text - start) (drop start text) ≡ drop from text
rest_from text from start is =
    take_all (length text - start) (drop start text) (omega (arith, length-drop start text))
    ∙ elim (cases_lt from (length text)) [
      | inl inside ↦ let same : start ≡ from = omega (arith, is, inside) in ap (λ n. drop n text) same
      | inr past ↦
          let end : start ≡ length text = omega (arith, is, past) in
          drop_all start text (omega (arith, end)) ∙ sym (drop_all from text past)
    ]

-- a text lacks a literal that is not found, or of which a byte is not found
module _ (text literal : List ℕ) where
  pub not_found : (o : Option ℕ) → FindsNeedle text literal 0 o → is_some o ≡ false → FindsNeedle text literal 0 None
  not_found None nowhere none = nowhere
  not_found (Some at) found none = absurd (true≢false none)

  pub byte_not_found : (at byte : ℕ) → at < length literal → slice_index literal at ≡ byte → (o : Option ℕ) →
      IsFirstByte (is_byte byte) text o → is_some o ≡ false → FindsNeedle text literal 0 None
  byte_not_found at byte inside same None nowhere none = λ i low high occurs.
      let fits = occurs.fits in
      nowhere (i + at) (omega arith) (omega (arith, inside, fits)) (eq-eqb _ _ (occurs.reads at inside ∙ same))
  byte_not_found at byte inside same (Some found) first none = absurd (true≢false none)

module _ (text : List ℕ) (from : ℕ) where
  module _ (literal : List ℕ) where
    -- where it stands in the text it stands in what is left
    pub occurs : (i : ℕ) → from ≤ i → i ≤ length text → has_bytes_at text i literal ≡ true → OccursAt (drop from text) literal (i - from)
    occurs i le within h =
        let after : List ℕ = drop (i + length literal) text in
        let e : drop i text ≡ literal ++ after = has_bytes_at_parts text i literal h in
        let same : from + (i - from) ≡ i = omega (arith, le) in
        let there : drop (i - from) (drop from text) ≡ drop i text = drop-drop (i - from) from text ∙ ap (λ n. drop n text) same in
        OccursAt-from_part (drop from text) literal (i - from)
        (omega (arith, le, within, ap length e, length-drop i text, length-drop from text, length-append literal after))
        (ap (take (length literal)) (there ∙ e) ∙ take_at literal after (length literal) refl)

    -- past the text nothing stands but the empty literal, which stands everywhere
    occurs_past : (i : ℕ) → length text < i → has_bytes_at text i literal ≡ true → OccursAt (drop from text) literal 0
    occurs_past i past h =
        let after : List ℕ = drop (i + length literal) text in
        let e : drop i text ≡ literal ++ after = has_bytes_at_parts text i literal h in
        let empty : length literal ≡ 0 = omega (arith, past, ap length e, length-drop i text, length-append literal after) in
        record { fits = omega (arith, empty); reads = λ j lt. absurd (omega (arith, lt, empty)) }

    pub literal_missing : FindsNeedle (drop from text) literal 0 None → LacksFrom (Piece literal) text from
    literal_missing nowhere i le h =
        ⊎_elim
        (λ (past : length text < i). nowhere 0 (omega arith) (omega arith) (occurs_past i past h))
        (λ (within : i ≤ length text).
        nowhere (i - from) (omega arith) (omega (arith, le, within, length-drop from text)) (occurs i le within h))
        (cases_lt (length text) i)

  pub set_missing : (bytes : List Bool) → HasNone (is_in bytes) (drop from text) → LacksFrom (OneOf bytes) text from
  set_missing bytes none i le h =
      ⊎_elim
      (λ (within : i < length text).
      let same : from + (i - from) ≡ i = omega (arith, le) in
      none (i - from) (omega arith) (omega (arith, le, within, length-drop from text))
      (ap (is_in bytes) (get_or-drop from text (i - from) 0 ∙ ap (λ n. slice_index_or text n 0) same)
      ∙ sym (ap (begins_among bytes) (drop_more text i 0 within)) ∙ h))
      (λ (past : length text ≤ i). false≢true (sym (ap (begins_among bytes) (drop_all i text past)) ∙ h))
      (cases_lt i (length text))
