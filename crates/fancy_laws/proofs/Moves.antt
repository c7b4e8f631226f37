-- Where a move over text leads, whatever the text.
use Rattle.std.proofs.Common.{◌≡◌, ℕ, ◌+◌, ◌-◌, ◌&&◌, ◌≤◌, ◌⊎◌, inl, inr, ⊎_elim, Bool, true, false, if◌then◌else◌, List, length, Some, None, slice_range, refl, sym, subst, arith, leb-true}
use Rattle.std.proofs.lemmas.Bool.{and_parts}
use Rattle.std.proofs.lemmas.Option.{cond_some, option_and_then_some}
use Rattle.std.specs.Char.{len_utf8}
use Rattle.regex_hir.specs.Text.{char_at, has_bytes_at, is_boundary}
use Rattle.regex_hir.proofs.TextLemmas.{char_at_fits, has_bytes_at_fits}
use Rattle.fancy_meaning.specs.MatchState.{Span}
use Rattle.fancy_meaning.specs.Places.{is_place}
use Rattle.fancy_meaning.specs.Moves.{past_char, past_piece, pieces_fold}

-- a character that passes stands there
pub record IsPastChar (text : List ℕ) (test : ℕ → Bool) (i j : ℕ) : Type 0 where
  pub char : ℕ
  pub stands : char_at text i ≡ Some char
  pub passes : test char ≡ true
  pub to : j ≡ i + len_utf8 char

pub past_char_tells : (text : List ℕ) (test : ℕ → Bool) (i j : ℕ) → past_char text test i ≡ Some j → IsPastChar text test i j
past_char_tells text test i j e =
    option_and_then_some (λ c. if test c then Some (i + len_utf8 c) else None) (char_at text i) j e
    (λ c at f. let parts = cond_some (test c)
    (i + len_utf8 c) j f in record { char = c; stands = at; passes = parts.0; to = sym parts.1 })

pub past_char_fits : (text : List ℕ) (test : ℕ → Bool) (i j : ℕ) → past_char text test i ≡ Some j → (i ≤ j) × (j ≤ length text)
past_char_fits text test i j e =
    let p = past_char_tells text test i j e in
    (omega (arith, p.to), omega (arith, p.to, char_at_fits text i p.char p.stands))

pub is_place_parts : (text : List ℕ) (i : ℕ) → is_place text i ≡ true → (i ≤ length text) × (is_boundary text i ≡ true)
is_place_parts text i e = let p = and_parts _ _ e in (leb-true i (length text) p.0, p.1)

-- The piece stands there once more, or another that folds as it does.
pub record IsPastBytes (text : List ℕ) (casei : Bool) (span : Span) (i j : ℕ) : Type 0 where
  pub is_exact : casei ≡ false
  pub stands : has_bytes_at text i (slice_range text span.0 span.1) ≡ true
  pub to : j ≡ i + length (slice_range text span.0 span.1)

pub record IsPastFolded (text : List ℕ) (unicode : Bool) (span : Span) (i j : ℕ) : Type 0 where
  pub place : is_place text j ≡ true
  pub folds : pieces_fold unicode (slice_range text span.0 span.1) (slice_range text i j) ≡ true
  pub to : j ≡ i + (span.1 - span.0)

pub past_piece_tells : (text : List ℕ) (unicode casei : Bool) (span : Span) (i j : ℕ) →
    past_piece text unicode casei span i ≡ Some j →
    IsPastBytes text casei span i j ⊎ IsPastFolded text unicode span i j
past_piece_tells text unicode false (from, to) i j e =
    let p = cond_some (has_bytes_at text i (slice_range text from to)) (i + length (slice_range text from to)) j e in inl
    (record { is_exact = refl; stands = p.0; to = sym p.1 })
past_piece_tells text unicode true (from, to) i j e =
    let p = cond_some
    (is_place text (i + (to - from)) && pieces_fold unicode (slice_range text from to) (slice_range text i (i + (to - from))))
    (i + (to - from)) j e in
    let b = and_parts (is_place text (i + (to - from))) _ p.0 in
    inr (record {
      place = subst (λ k. is_place text k ≡ true) p.1 b.0;
      folds = subst (λ k. pieces_fold unicode (slice_range text from to) (slice_range text i k) ≡ true) p.1 b.1;
      to = sym p.1;
    })

pub past_piece_fits : (text : List ℕ) (unicode casei : Bool) (span : Span) (i j : ℕ) → i ≤ length text →
    past_piece text unicode casei span i ≡ Some j →
    (i ≤ j) × (j ≤ length text)
past_piece_fits text unicode casei span i j within e = ⊎_elim
    (λ b. (omega (arith, b.to), omega (arith, b.to, has_bytes_at_fits text i (slice_range text span.0 span.1) b.stands)))
    (λ f. (omega (arith, f.to), (is_place_parts text j f.place).0))
    (past_piece_tells text unicode casei span i j e)
