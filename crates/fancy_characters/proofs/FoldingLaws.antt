-- Folding of numbers, and rows of tests on characters.
use Rattle.std.proofs.Common.{◌≡◌, ℕ, ◌+◌, ◌-◌, ◌<◌, ◌≤◌, ◌⊎◌, arith, Bool, true, false, true≢false, ◌&&◌, ◌||◌, ◌==◌, nat_le, nat_lt, List, [], ◌∷◌, length, map, drop, get_or, slice_index_or, refl, sym, ap, ◌∙◌, ne_eqb, eq-eqb, ◌≢◌, Option, Some, None, if◌then◌else◌, option_and_then}
use Rattle.std.proofs.lemmas.Bool.Decides.{nat_tests}
use Rattle.std.proofs.lemmas.List.{drop-map}
use Rattle.std.specs.Char.{eq_ignore_ascii_case, len_utf8, to_ascii_lowercase}
use Rattle.ucd_table.proofs.Computing.{tables}
use Rattle.ucd_table.proofs.RangedFacts.{points_ok, Stepped-at_points}
use Rattle.regex_hir.specs.Text.{is_scalar, char_at}
use Rattle.ucd_case.specs.CaseFolding.{simple_folding, simple_fold}
use Rattle.ucd_case.proofs.CaseFoldingLemmas.{simple_fold-ascii, simple_folding_stepped}
use Rattle.fancy_characters.proofs.RestLaws.{rest_here}
use Rattle.fancy_meaning.specs.Chars.{fold_equal, fold_equal_chars}
use Rattle.fancy_meaning.specs.Moves.{past_chars}

abbrev is_empty : List ℕ → Bool
is_empty [] = true
is_empty (x ∷ xs) = false

folds_characters : (c : ℕ) → is_empty (simple_folding c) ≡ false → is_scalar c ≡ true
unfolding tables points_ok simple_folding_stepped
folds_characters = Stepped-at_points simple_folding simple_folding_stepped is_empty (λ c v. is_scalar c) refl

fold_none : (c : ℕ) (v : List ℕ) → (is_empty v ≡ false → is_scalar c ≡ true) → is_scalar c ≡ false → c ≡ slice_index_or v 0 c
fold_none c [] h other = refl
fold_none c (x ∷ xs) h other = absurd (true≢false (sym (h refl) ∙ other))

-- a number that is no character folds to itself
pub fold_other : (c : ℕ) → is_scalar c ≡ false → c ≡ simple_fold c
fold_other c = fold_none c (simple_folding c) (folds_characters c)

-- ---- characters beyond ASCII that fold to one of ASCII: to `k` and `s` alone

abbrev folds_apart : (c : ℕ) → List ℕ → Bool
folds_apart c v = nat_lt c 128 || (nat_le 128 (slice_index_or v 0 c) || (slice_index_or v 0 c == 107 || slice_index_or v 0 c == 115))

folds_apart_if_listed : (c : ℕ) → is_empty (simple_folding c) ≡ false → folds_apart c (simple_folding c) ≡ true
unfolding tables points_ok simple_folding_stepped
folds_apart_if_listed = Stepped-at_points simple_folding simple_folding_stepped is_empty folds_apart refl

apart_if_none : (c : ℕ) (v : List ℕ) → (is_empty v ≡ false → folds_apart c v ≡ true) → folds_apart c v ≡ true
apart_if_none c [] h = grind (arith, nat_tests)
apart_if_none c (x ∷ xs) h = h refl

no_k_or_s : (d folded : ℕ) → 128 ≤ d → (nat_lt d 128 || (nat_le 128 folded || (folded == 107 || folded == 115))) ≡ true →
    (l : ℕ) → l < 128 → (l ≡ 107 → ⊥) → (l == 115) ≡ false → (l == folded) ≡ false
no_k_or_s d folded far apart l small k s = grind (arith, nat_tests, k)

pub no_fold_beyond : (c d l : ℕ) → c < 128 → 128 ≤ d → l ≡ to_ascii_lowercase c → (l ≡ 107 → ⊥) → (l == 115) ≡ false →
    fold_equal c d ≡ false
unfolding fold_equal
no_fold_beyond c d l small far is k s =
    ap (λ x. x == simple_fold d) (simple_fold-ascii c small ∙ sym is)
    ∙ no_k_or_s d (simple_fold d) far (apart_if_none d (simple_folding d) (folds_apart_if_listed d)) l (lower_is_small c l small is) k s
  where
    lower_is_small : (c l : ℕ) → c < 128 → l ≡ to_ascii_lowercase c → l < 128
    lower_is_small c l small is = grind (arith, nat_tests, is)

pub no_case_beyond : (c d : ℕ) → c < 128 → 128 ≤ d → eq_ignore_ascii_case c d ≡ false
no_case_beyond c d small far = grind (arith, nat_tests)

-- ---- the two cases of an ASCII letter

pub lower_or_upper : (l d : ℕ) → l ≡ to_ascii_lowercase d → (d ≡ l) ⊎ (d ≡ l - 32)
lower_or_upper l d same = grind (arith, nat_tests, same)

pub no_letter : (l d : ℕ) → l ≡ to_ascii_lowercase d → (97 ≤ l → l ≤ 122 → ⊥) → d ≡ l
no_letter l d same other = grind (arith, nat_tests, same, other)

-- ---- characters that are taken one after the other

module _ {T : Type 0} (text : List ℕ) (test : T → ℕ → Bool) (items : List T) (default : T) (i at : ℕ) (inside : i < length items) where
  first_test : drop i (map test items) ≡ test (get_or items i default) ∷ drop (i + 1) (map test items)
  first_test =
      drop-map test i items ∙ ap (map test) (rest_here items i default inside)
      ∙ ap (λ tests. test (get_or items i default) ∷ tests) (sym (drop-map test (i + 1) items))

  one_taken : (o : Option ℕ) → char_at text at ≡ o →
      past_chars text (drop i (map test items)) at
      ≡ option_and_then (past_chars text (drop (i + 1) (map test items)))
      (option_and_then (λ c. if test (get_or items i default) c then Some (at + len_utf8 c) else None) o)
  one_taken o e = ap (λ tests. past_chars text tests at) first_test ∙ rw e refl

  pub none_there : char_at text at ≡ None → past_chars text (drop i (map test items)) at ≡ None
  none_there e = one_taken None e

  pub other_there : (c : ℕ) → char_at text at ≡ Some c → test (get_or items i default) c ≡ false →
      past_chars text (drop i (map test items)) at ≡ None
  other_there c e other = one_taken (Some c) e ∙ rw other refl

  pub taken_there : (c : ℕ) → char_at text at ≡ Some c → test (get_or items i default) c ≡ true →
      past_chars text (drop i (map test items)) at ≡ past_chars text (drop (i + 1) (map test items)) (at + len_utf8 c)
  taken_there c e takes = one_taken (Some c) e ∙ rw takes refl

-- ---- two rows of characters, pair by pair

pub one_pair : (xs ys : List ℕ) (c d : ℕ) (cs ds : List ℕ) → xs ≡ c ∷ cs → ys ≡ d ∷ ds →
    fold_equal_chars xs ys ≡ ((simple_fold c == simple_fold d) && fold_equal_chars cs ds)
unfolding fold_equal
one_pair xs ys c d cs ds e f = rw (e, f) refl

pub other_pair : (xs ys : List ℕ) (c d : ℕ) (cs ds : List ℕ) → xs ≡ c ∷ cs → ys ≡ d ∷ ds → simple_fold c ≢ simple_fold d →
    fold_equal_chars xs ys ≡ false
other_pair xs ys c d cs ds e f differ =
    one_pair xs ys c d cs ds e f ∙ ap (λ b. b && fold_equal_chars cs ds) (ne_eqb (simple_fold c) (simple_fold d) differ)

pub same_pair : (xs ys : List ℕ) (c d : ℕ) (cs ds : List ℕ) → xs ≡ c ∷ cs → ys ≡ d ∷ ds → simple_fold c ≡ simple_fold d →
    fold_equal_chars xs ys ≡ fold_equal_chars cs ds
same_pair xs ys c d cs ds e f same =
    one_pair xs ys c d cs ds e f ∙ ap (λ b. b && fold_equal_chars cs ds) (eq-eqb (simple_fold c) (simple_fold d) same)
