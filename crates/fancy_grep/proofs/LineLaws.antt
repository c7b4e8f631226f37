-- The lines of a text, one after the other.
use Rattle.std.proofs.Common.{◌-◌, take_all, ◌⊎◌, inl, inr, get_or, ◌≡◌, ℕ, suc, ◌+◌, ◌<◌, Bool, true, false, not, cond, List, [], ◌∷◌, length, take, drop, refl, sym, ap, ap₂, ⊎_elim, drop_of_length-le, length-take, length-drop, ◌∙◌, if◌then◌else◌, arith}
use Rattle.std.specs.List.{after_first, before_first, position_or_len, prefix_len}
use Rattle.std.proofs.lemmas.Bool.{cases_lt}
use Rattle.std.proofs.lemmas.List.Sums.{position_or_len_is}
use Rattle.memchr.specs.Find.{Nowhere, NoneBefore, Passes, is_byte}
use Rattle.fancy_grep.specs.Lines.{Line, begun_by, is_newline, lines, numbered}

module _ (p : ℕ → Bool) (b : ℕ) (text : List ℕ) where
  -- the place where the list is cut, by whether its first byte passes
  place : Bool → ℕ
  place t = cond (not t) (1 + prefix_len (λ x. not (p x)) text) 0

  before_here : p b ≡ true → before_first p (b ∷ text) ≡ []
  unfolding place
  before_here is = ap (λ t. take (place t) (b ∷ text)) is

  after_here : p b ≡ true → after_first p (b ∷ text) ≡ text
  unfolding place
  after_here is = ap (λ t. drop (place t + 1) (b ∷ text)) is ∙ refl

  before_later : p b ≡ false → before_first p (b ∷ text) ≡ b ∷ before_first p text
  unfolding place
  before_later is =
      let one : 1 + position_or_len p text ≡ suc (position_or_len p text) = omega arith in
      ap (λ t. take (place t) (b ∷ text)) is ∙ ap (λ n. take n (b ∷ text)) one

  after_later : p b ≡ false → after_first p (b ∷ text) ≡ after_first p text
  unfolding place
  after_later is =
      let one : 1 + position_or_len p text + 1 ≡ suc (position_or_len p text + 1) = omega arith in
      ap (λ t. drop (place t + 1) (b ∷ text)) is ∙ ap (λ n. drop n (b ∷ text)) one

module _ (b : ℕ) (text : List ℕ) where
  ends_line : is_newline b ≡ true → lines (b ∷ text) ≡ before_first is_newline (b ∷ text) ∷ lines (after_first is_newline (b ∷ text))
  unfolding lines
  ends_line is =
      let left : lines (b ∷ text) ≡ [] ∷ lines text = ap (λ t. if t then [] ∷ lines text else begun_by b (lines text)) is in
      left ∙ sym (ap (λ l. l ∷ lines (after_first is_newline (b ∷ text))) (before_here is_newline b text is)
      ∙ ap (λ l. [] ∷ lines l) (after_here is_newline b text is))

  begins_line : is_newline b ≡ false → lines (b ∷ text) ≡ begun_by b (lines text)
  unfolding lines
  begins_line is = ap (λ t. if t then [] ∷ lines text else begun_by b (lines text)) is

  joins_line : is_newline b ≡ false → begun_by b (lines text) ≡ (b ∷ before_first is_newline text) ∷ lines (after_first is_newline text) →
      lines (b ∷ text) ≡ before_first is_newline (b ∷ text) ∷ lines (after_first is_newline (b ∷ text))
  joins_line is h =
      begins_line is ∙ h ∙ sym (ap (λ l. l ∷ lines (after_first is_newline (b ∷ text))) (before_later is_newline b text is)
      ∙ ap (λ l. (b ∷ before_first is_newline text) ∷ lines l) (after_later is_newline b text is))

  step_at : (t : Bool) → is_newline b ≡ t → begun_by b (lines text) ≡ (b ∷ before_first is_newline text) ∷ lines (after_first is_newline text) →
      lines (b ∷ text) ≡ before_first is_newline (b ∷ text) ∷ lines (after_first is_newline (b ∷ text))
  step_at true is h = ends_line is
  step_at false is h = joins_line is h

no_lines : lines [] ≡ []
unfolding lines
no_lines = refl

-- what a byte before a text makes of the first line
begun : (b : ℕ) (text : List ℕ) → begun_by b (lines text) ≡ (b ∷ before_first is_newline text) ∷ lines (after_first is_newline text)
begun b [] = ap (begun_by b) no_lines ∙ ap (λ ls. (b ∷ []) ∷ ls) (sym no_lines)
begun b (c ∷ text) = ap (begun_by b) (step_at c text (is_newline c) refl (begun c text))

-- the first line of a text that is not empty is what stands before its first "\n", and the others are those of what follows
pub lines_step : (text : List ℕ) → 0 < length text → lines text ≡ before_first is_newline text ∷ lines (after_first is_newline text)
lines_step [] some = absurd (omega arith)
lines_step (b ∷ text) some = step_at b text (is_newline b) refl (begun b text)

-- ---- with their numbers

-- a text without "\n" is its first line; else this and its "\n" stand before what follows
pub cuts : (text : List ℕ) →
    (after_first is_newline text ≡ []) ⊎ (length text ≡ length (before_first is_newline text) + (length (after_first is_newline text) + 1))
cuts text =
    let k = position_or_len is_newline text in
    ⊎_elim (λ lt. inr (omega (arith, lt, length-take k text, length-drop (k + 1) text)))
    (λ le. inl (drop_of_length-le text (omega (arith, le)))) (cases_lt k (length text))

pub shortens : (text : List ℕ) → 0 < length text → length (after_first is_newline text) < length text
shortens text some = omega (arith, length-drop (position_or_len is_newline text + 1) text)

no_more : (m n s t : ℕ) (text : List ℕ) → text ≡ [] → numbered m s (lines text) ≡ numbered n t (lines text)
unfolding numbered
no_more m n s t text is = ap (λ l. numbered m s (lines l)) is ∙ ap (numbered m s) no_lines ∙ sym (ap (λ l. numbered n t (lines l)) is ∙ ap (numbered n t) no_lines)

-- the first line of what is left, and the others from where this is passed
pub numbered_step : (n s t : ℕ) (text : List ℕ) → 0 < length text → t ≡ s + (length text - length (after_first is_newline text)) →
    numbered n s (lines text) ≡ record { number = n; start = s; text = before_first is_newline text } ∷ numbered (n + 1) t (lines (after_first is_newline text))
unfolding numbered
numbered_step n s t text some is =
    ap (numbered n s) (lines_step text some)
    ∙ ap (λ ls. record { number = n; start = s; text = before_first is_newline text } ∷ ls)
    (⊎_elim (λ none. no_more (suc n) (n + 1) (s + length (before_first is_newline text) + 1) t (after_first is_newline text) none)
    (λ e. ap₂ (λ m u. numbered m u (lines (after_first is_newline text))) (omega arith) (omega (arith, e))) (cuts text))

pub none_left : (n s : ℕ) (text : List ℕ) → length text ≡ 0 → numbered n s (lines text) ≡ []
unfolding numbered
none_left n s [] none = ap (numbered n s) no_lines
none_left n s (b ∷ text) none = absurd (omega arith)

-- the lines are numbered one after the other, from this number on
abbrev pub AreCounted : ℕ → List Line → Type 0
AreCounted n [] = Unit {0}
AreCounted n (l ∷ ls) = (l.number ≡ n) × AreCounted (suc n) ls

pub numbered_counts : (n s : ℕ) (ls : List (List ℕ)) → AreCounted n (numbered n s ls)
unfolding numbered
numbered_counts n s [] = tt
numbered_counts n s (line ∷ ls) = (refl, numbered_counts (suc n) (s + length line + 1) ls)

-- ---- the first "\n", as `memchr` finds it

-- it stands here
abbrev pub IsFirstNewline : List ℕ → ℕ → Type 0
IsFirstNewline text at = NoneBefore (Passes (is_byte 10) text) 0 (length text) at × Passes (is_byte 10) text at

-- there is none
abbrev pub HasNoNewline : List ℕ → Type 0
HasNoNewline text = Nowhere (Passes (is_byte 10) text) 0 (length text)

none_here : (b : Bool) → ¬ (b ≡ true) → b ≡ false
none_here true none = absurd (none refl)
none_here false none = refl

module _ (text : List ℕ) where
  none_to : (n : ℕ) → Nowhere (Passes (is_byte 10) text) 0 n → (k : ℕ) → k < n → is_newline (get_or text k 0) ≡ false
  none_to n none k lt = none_here (is_newline (get_or text k 0)) (none k (omega arith) lt)

  pub newline_at : (at : ℕ) → IsFirstNewline text at → position_or_len is_newline text ≡ at
  newline_at at h = position_or_len_is is_newline text at 0 (omega (arith, h.0.high)) (none_to at h.0.before) (λ lt. h.1)

  no_newline : HasNoNewline text → position_or_len is_newline text ≡ length text
  no_newline none = position_or_len_is is_newline text (length text) 0 (omega arith) (none_to (length text) none) (λ lt. absurd (omega (arith, lt)))

  pub all_before : HasNoNewline text → text ≡ before_first is_newline text
  all_before none = sym (take_all (position_or_len is_newline text) text (omega (arith, no_newline none)))

  pub nothing_after : HasNoNewline text → [] ≡ after_first is_newline text
  nothing_after none = sym (drop_of_length-le text (omega (arith, no_newline none)))
