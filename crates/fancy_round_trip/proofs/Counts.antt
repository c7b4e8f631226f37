-- The bounds of a loop are read as they are written.
use Rattle.std.proofs.Common.{◌≡◌, ℕ, ◌-◌, ◌^◌, ◌<◌, ◌≤◌, Bool, true, false, not, ◌&&◌, List, [], ◌∷◌, ◌++◌, length, drop, Option, Some, None, Result, Ok, Err, if◌then◌else◌, ◌==◌, nat_lt, nat_le, codes, refl, sym, ap, ◌∙◌, arith}
use Rattle.std.specs.Prelude.{option_and_then}
use Rattle.std.specs.Fmt.{decimal}
use Rattle.std.specs.Char.{is_ascii_digit, digit_value}
use Rattle.std.specs.List.{take_while}
use Rattle.std.specs.Str.Parse.{AllDigits, digits_value}
use Rattle.std.proofs.lemmas.Bool.{and_from, and_parts, le-leb, lt-ltb, eqb-true, ne_eqb}
use Rattle.std.proofs.lemmas.Fmt.{decimal_is_IsNumeral}
use Rattle.std.proofs.lemmas.Str.Parse.{digit_from_value}
use Rattle.std.proofs.lemmas.List.Sums.{take_while-cons}
use Rattle.std.proofs.Math.Seq.{drop-append_seam}
use Rattle.fancy_meaning.specs.WellFormed.{IsCount}
use Rattle.fancy_expr.specs.Views.{bound_of}
use Rattle.fancy_tokens.specs.declared.error.ErrorKind.{ErrorKind}
use Rattle.fancy_tokens.specs.declared.error.ErrorKind.TheVariants.{InvalidRepeat}
use Rattle.fancy_tokens.specs.declared.flags.Flags.{Flags}
use Rattle.fancy_tokens.specs.declared.tokens.Quantifier.{Quantifier}
use Rattle.fancy_tokens.specs.declared.tokens.Quantifier.TheVariants.{Star, Plus, Question, Counts}
use Rattle.fancy_pattern.specs.Texts.{Text, Read, fault_at, ◌>>=◌, uncons, skip_word, skip_run, gap_at}
use Rattle.fancy_tokens.specs.Tokens.{Token, Item, Quantified, item}
use Rattle.fancy_pattern.specs.Numbers.{number_of}
use Rattle.fancy_pattern.specs.Quantifiers.{Written, is_empty, digits_at, upper_at, written_at, count_of, lo_of, hi_of, counts_of, counts_at}
use Rattle.fancy_pattern.specs.Grammar as grammar
use Rattle.fancy_pattern.specs.Items.{item_at, brace_at, literal, quantified}
use Rattle.fancy_pattern.proofs.EscapedTokens.{not_if}
use Rattle.fancy_round_trip.specs.Returning.{AreBounds}
use Rattle.fancy_round_trip.proofs.Steps.{base, is_if}
use Rattle.fancy_round_trip.proofs.Spelled.{spell_bounds}

-- ---- digits

digit : (d : ℕ) → digit_value d < 10 → is_ascii_digit d ≡ true
digit d h = let r = digit_from_value d h in and_from _ _ (le-leb 48 d r.0) (le-leb d 57 r.1)

run : (ds : List ℕ) (c : ℕ) (rest : Text) → AllDigits 10 ds → is_ascii_digit c ≡ false → take_while is_ascii_digit (ds ++ c ∷ rest) ≡ ds
run [] c rest h missing = take_while-cons is_ascii_digit c rest ∙ not_if (is_ascii_digit c) _ _ missing
run (d ∷ ds) c rest h missing =
    take_while-cons is_ascii_digit d (ds ++ c ∷ rest)
    ∙ is_if (is_ascii_digit d) _ _ (digit d h.0)
    ∙ ap (λ l. d ∷ l) (run ds c rest h.1 missing)

past : (ds : List ℕ) (c : ℕ) (rest : Text) → AllDigits 10 ds → is_ascii_digit c ≡ false → skip_run is_ascii_digit (ds ++ c ∷ rest) ≡ c ∷ rest
past ds c rest h missing = ap (λ l. drop (length l) (ds ++ c ∷ rest)) (run ds c rest h missing) ∙ drop-append_seam ds (c ∷ rest)

abbrev Digits : ℕ → Type 0
Digits n = (0 < length (decimal n)) × AllDigits 10 (decimal n) × (digits_value 10 (decimal n) ≡ n)

digits : (n : ℕ) → IsCount n → Digits n
digits n h = let d = decimal_is_IsNumeral n (omega (arith, h)) in (d.0.0, d.0.1, d.1)

some_digits : (ds : List ℕ) → 0 < length ds → is_empty ds ≡ false
some_digits ds h = ne_eqb (length ds) 0 (λ z. omega (arith, h, z))

-- ---- what is written

abbrev upper_from : Text → Text → Text → Option (Written × Text)
upper_from lo a b =
    option_and_then (λ after. if is_empty lo && is_empty a then None else Some (record { lo = lo; hi = Some a }, after)) (skip_word (codes "}") b)

upper_parts : (lo text : Text) → upper_at lo false text ≡ upper_from lo (take_while is_ascii_digit text) (skip_run is_ascii_digit text)
unfolding upper_at digits_at
upper_parts lo text = refl

upper : (lo ds : List ℕ) (rest : Text) → is_empty lo ≡ false → AllDigits 10 ds → upper_at lo false (ds ++ 125 ∷ rest) ≡ Some (record { lo = lo; hi = Some ds }, rest)
upper lo ds rest some h =
    upper_parts lo (ds ++ 125 ∷ rest)
    ∙ ap (λ a. upper_from lo a (skip_run is_ascii_digit (ds ++ 125 ∷ rest))) (run ds 125 rest h refl)
    ∙ ap (upper_from lo ds) (past ds 125 rest h refl)
    ∙ ap {A = Bool} {B = Option (Written × Text)} (λ b. if b && is_empty ds then None else Some (record { lo = lo; hi = Some ds }, rest)) some

abbrev written_from : Text → Text → Option (Written × Text)
written_from a b =
    option_and_then
    (λ p. if p.0 == 125 && not (is_empty a) then Some (record { lo = a; hi = None }, p.1)
    else if p.0 == 44 then upper_at a false p.1
    else None)
    (uncons b)

written_parts : (text : Text) → written_at false text ≡ written_from (take_while is_ascii_digit text) (skip_run is_ascii_digit text)
unfolding written_at digits_at
written_parts text = refl

written_run : (ds : List ℕ) (c : ℕ) (rest : Text) → AllDigits 10 ds → is_ascii_digit c ≡ false → written_at false (ds ++ c ∷ rest) ≡ written_from ds (c ∷ rest)
written_run ds c rest h missing =
    written_parts (ds ++ c ∷ rest)
    ∙ ap (λ a. written_from a (skip_run is_ascii_digit (ds ++ c ∷ rest))) (run ds c rest h missing)
    ∙ ap (written_from ds) (past ds c rest h missing)

-- `N}`
one_written : (ds : List ℕ) (rest : Text) → is_empty ds ≡ false → AllDigits 10 ds → written_at false (ds ++ 125 ∷ rest) ≡ Some (record { lo = ds; hi = None }, rest)
one_written ds rest some h =
    written_run ds 125 rest h refl
    ∙ ap {A = Bool} {B = Option (Written × Text)} (λ b. if not b then Some (record { lo = ds; hi = None }, rest) else None) some

-- `N,N}`, and `N,}` for no digits
two_written : (ds es : List ℕ) (rest : Text) → is_empty ds ≡ false → AllDigits 10 ds → AllDigits 10 es →
    written_at false (ds ++ 44 ∷ (es ++ 125 ∷ rest)) ≡ Some (record { lo = ds; hi = Some es }, rest)
two_written ds es rest some h k = written_run ds 44 (es ++ 125 ∷ rest) h refl ∙ upper ds es rest some k

-- ---- the numbers

count : (n : ℕ) → IsCount n → count_of (decimal n) ≡ Some n
unfolding number_of
count n h =
    ap
    (λ k. option_and_then (λ m. if nat_lt m (2 ^ 64 - 1) then Some m else None) (if nat_lt k (2 ^ 64) then Some k else None))
    (digits n h).2
    ∙ ap {A = Bool} {B = Option ℕ} (λ b. option_and_then (λ m. if nat_lt m (2 ^ 64 - 1) then Some m else None) (if b then Some n else None))
    (lt-ltb n (2 ^ 64) (omega (arith, h)))
    ∙ ap {A = Bool} {B = Option ℕ} (λ b. if b then Some n else None) (lt-ltb n (2 ^ 64 - 1) (omega (arith, h)))

lo_read : (n : ℕ) → IsCount n → lo_of (decimal n) ≡ Some n
lo_read n h = not_if (is_empty (decimal n)) _ _ (some_digits (decimal n) (digits n h).0) ∙ count n h

hi_read : (lo hi : ℕ) → lo ≤ hi → IsCount hi → hi_of lo (Some (decimal hi)) ≡ Some hi
hi_read lo hi le h =
    not_if (is_empty (decimal hi)) _ _ (some_digits (decimal hi) (digits hi h).0)
    ∙ ap (λ o. option_and_then (λ k. if nat_le lo k then Some k else None) o) (count hi h)
    ∙ ap {A = Bool} {B = Option ℕ} (λ b. if b then Some hi else None) (le-leb lo hi le)

counts_from : (w : Written) (lo hi : ℕ) → lo_of w.lo ≡ Some lo → hi_of lo w.hi ≡ Some hi → counts_of w ≡ Some (Counts lo hi)
unfolding counts_of
counts_from w lo hi h k =
    ap (λ o. option_and_then (λ l. option_and_then (λ n. Some (Counts l n)) (hi_of l w.hi)) o) h
    ∙ ap (λ o. option_and_then (λ n. Some (Counts lo n)) o) k

counts_read : (text rest : Text) (w : Written) (lo hi : ℕ) → written_at false text ≡ Some (w, rest) → lo_of w.lo ≡ Some lo → hi_of lo w.hi ≡ Some hi →
    counts_at false text ≡ Some (Ok (Counts lo hi), rest)
unfolding counts_at
counts_read text rest w lo hi e h k =
    ap
    (λ o. option_and_then
    (λ w. elim (counts_of w.0) [
      | Some q ↦ Some (Ok q, w.1)
      | None ↦ Some (Err InvalidRepeat, w.1)
    ]) o)
    e
    ∙ ap {A = Option Quantifier} {B = Option (Result Quantifier ErrorKind × Text)} (λ o. elim o [
      | Some q ↦ Some (Ok q, rest)
      | None ↦ Some (Err InvalidRepeat, rest)
    ]) (counts_from w lo hi h k)

-- ---- the token

-- the text begins with this quantifier
pub record IsBounds (unicode : Bool) (text rest : Text) (lo : ℕ) (hi : Option ℕ) : Type 0 where
  pub quantifier : Quantifier
  pub some : 0 < length text
  pub no_gap : gap_at false text ≡ None
  pub is : (n : ℕ) → item_at (base unicode) n text ≡ Ok (item (base unicode) (Quantified quantifier true), rest)
  pub lo_is : grammar.lo_of quantifier ≡ lo
  pub hi_is : bound_of (grammar.hi_of quantifier) ≡ hi

brace_token : (f : Flags) (text rest : Text) (q : Quantifier) → f.ignore_whitespace ≡ false → counts_at false text ≡ Some (Ok q, rest) →
    brace_at f (123 ∷ text) text ≡ Ok (quantified f q, rest)
unfolding brace_at
brace_token f text rest q plain e =
    ap {A = Option (Result Quantifier ErrorKind × Text)} {B = Read Token}
    (λ o. elim o [
      | None ↦ Ok (literal f 123, text)
      | Some counts ↦ elim counts.0 [
        | Ok k ↦ Ok (quantified f k, counts.1)
        | Err kind ↦ Err (fault_at kind (123 ∷ text))
      ]
    ])
    (ap (λ x. counts_at x text) plain ∙ e)

abbrev as_item : Flags → Read Token → Read Item
as_item f r = r >>= λ t. Ok (item f t.0, t.1)

brace_item : (unicode : Bool) (n : ℕ) (text rest : Text) (q : Quantifier) → counts_at false text ≡ Some (Ok q, rest) →
    item_at (base unicode) n (123 ∷ text) ≡ Ok (item (base unicode) (Quantified q true), rest)
unfolding item_at
brace_item unicode n text rest q e = ap (as_item (base unicode)) (brace_token (base unicode) text rest q refl e)

star_item : (unicode : Bool) (n : ℕ) (rest : Text) → item_at (base unicode) n (42 ∷ rest) ≡ Ok (item (base unicode) (Quantified Star true), rest)
unfolding item_at
star_item unicode n rest = refl

plus_item : (unicode : Bool) (n : ℕ) (rest : Text) → item_at (base unicode) n (43 ∷ rest) ≡ Ok (item (base unicode) (Quantified Plus true), rest)
unfolding item_at
plus_item unicode n rest = refl

pub question_item : (unicode : Bool) (n : ℕ) (rest : Text) →
    item_at (base unicode) n (63 ∷ rest) ≡ Ok (item (base unicode) (Quantified Question true), rest)
unfolding item_at
question_item unicode n rest = refl

bound_is : (n : ℕ) → IsCount n → bound_of n ≡ Some n
bound_is n h = not_if (n == 2 ^ 64 - 1) _ _ (ne_eqb n (2 ^ 64 - 1) (λ e. omega (arith, h, e)))

-- `{..}`
braced : (unicode : Bool) (text rest : Text) (lo hi : ℕ) (bound : Option ℕ) → counts_at false text ≡ Some (Ok (Counts lo hi), rest) → bound_of hi ≡ bound →
    IsBounds unicode (123 ∷ text) rest lo bound
braced unicode text rest lo hi bound e h =
    record {
      quantifier = Counts lo hi;
      some = omega arith;
      no_gap = refl;
      is = λ n. brace_item unicode n text rest (Counts lo hi) e;
      lo_is = refl;
      hi_is = h;
    }

no_digits : AllDigits 10 []
no_digits = tt

no_bound : (lo : ℕ) → hi_of lo (Some []) ≡ Some (2 ^ 64 - 1)
no_bound lo = refl

pub bounds_read : (unicode : Bool) (lo : ℕ) (hi : Option ℕ) (rest : Text) → AreBounds lo hi → IsBounds unicode (spell_bounds lo hi rest) rest lo hi
bounds_read unicode lo None rest h = by_zero (lo == 0) refl
  where
    by_one : (b : Bool) → (lo == 1) ≡ b → IsBounds unicode (if b then 43 ∷ rest else 123 ∷ (decimal lo ++ 44 ∷ 125 ∷ rest)) rest lo None
    by_one true e =
        record {
          quantifier = Plus;
          some = omega arith;
          no_gap = refl;
          is = λ n. plus_item unicode n rest;
          lo_is = sym (eqb-true lo 1 e);
          hi_is = refl;
        }
    by_one false e =
        let d = digits lo h.0 in
        braced unicode (decimal lo ++ 44 ∷ 125 ∷ rest) rest lo (2 ^ 64 - 1) None
        (counts_read (decimal lo ++ 44 ∷ 125 ∷ rest) rest (record { lo = decimal lo; hi = Some [] }) lo (2 ^ 64 - 1)
        (two_written (decimal lo) [] rest (some_digits (decimal lo) d.0) d.1 no_digits) (lo_read lo h.0) (no_bound lo)) refl

    by_zero : (b : Bool) → (lo == 0) ≡ b →
        IsBounds unicode (if b then 42 ∷ rest else (if lo == 1 then 43 ∷ rest else 123 ∷ (decimal lo ++ 44 ∷ 125 ∷ rest))) rest lo None
    by_zero true e =
        record {
          quantifier = Star;
          some = omega arith;
          no_gap = refl;
          is = λ n. star_item unicode n rest;
          lo_is = sym (eqb-true lo 0 e);
          hi_is = refl;
        }
    by_zero false e = by_one (lo == 1) refl
bounds_read unicode lo (Some hi) rest h = by_same (lo == hi) refl
  where
    by_question : (b : Bool) → (lo == 0 && hi == 1) ≡ b →
        IsBounds unicode (if b then 63 ∷ rest else 123 ∷ (decimal lo ++ 44 ∷ (decimal hi ++ 125 ∷ rest))) rest lo (Some hi)
    by_question true e =
        let p = and_parts (lo == 0) (hi == 1) e in
        record {
          quantifier = Question;
          some = omega arith;
          no_gap = refl;
          is = λ n. question_item unicode n rest;
          lo_is = sym (eqb-true lo 0 p.0);
          hi_is = ap Some (sym (eqb-true hi 1 p.1));
        }
    by_question false e =
        let d = digits lo h.0 in
        braced unicode (decimal lo ++ 44 ∷ (decimal hi ++ 125 ∷ rest)) rest lo hi (Some hi)
        (counts_read (decimal lo ++ 44 ∷ (decimal hi ++ 125 ∷ rest)) rest (record { lo = decimal lo; hi = Some (decimal hi) }) lo hi
        (two_written (decimal lo) (decimal hi) rest (some_digits (decimal lo) d.0) d.1 (digits hi h.1.1).1) (lo_read lo h.0) (hi_read lo hi h.1.0 h.1.1))
        (bound_is hi h.1.1)

    by_same : (b : Bool) → (lo == hi) ≡ b → IsBounds unicode (if b then 123 ∷ (decimal lo ++ 125 ∷ rest)
        else (if lo == 0 && hi == 1 then 63 ∷ rest else 123 ∷ (decimal lo ++ 44 ∷ (decimal hi ++ 125 ∷ rest)))) rest lo (Some hi)
    by_same true e =
        let d = digits lo h.0 in
        braced unicode (decimal lo ++ 125 ∷ rest) rest lo lo (Some hi)
        (counts_read (decimal lo ++ 125 ∷ rest) rest (record { lo = decimal lo; hi = None }) lo lo
        (one_written (decimal lo) rest (some_digits (decimal lo) d.0) d.1) (lo_read lo h.0) refl) (bound_is lo h.0 ∙ ap Some (eqb-true lo hi e))
    by_same false e = by_question (lo == 0 && hi == 1) refl
