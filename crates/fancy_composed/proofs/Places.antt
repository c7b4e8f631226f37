-- Places back from one, and places on from one.
use Rattle.std.proofs.Common.{◌≡◌, ◌⊎◌, ℕ, zero, suc, ◌+◌, ◌-◌, ◌<◌, ◌≤◌, Bool, true, false, cond, if◌then◌else◌, List, [], ◌∷◌, length, filter, drop, Some, slice_get, IsUtf8, encode_utf8_all, refl, sym, ap, ap₂, ◌∙◌, arith, inl, inr, ⊎_elim, length-drop}
use Rattle.std.proofs.lemmas.Bool.{cond-true, cond-false, cases_lt}
use Rattle.std.proofs.lemmas.Option.{same_Some}
use Rattle.std.proofs.lemmas.Str.{len_utf8_bounds}
use Rattle.std.proofs.Math.Utf8.{scalar, scalars}
use Rattle.std.specs.Char.{len_utf8}
use Rattle.regex_hir.specs.Text.{char_at}
use Rattle.regex_hir.proofs.TextLemmas.{char_at_from, char_at_fits}
use Rattle.fancy_meaning.specs.Places.{range_from, range_down, is_place, places_from, places_back, chars_between, back_by}
use Rattle.fancy_composed.proofs.Parts.{both_left}
use Rattle.fancy_laws.proofs.Characters.{chars_add, no_chars, rest_is_utf8, no_place_inside}

-- ---- back

-- what stands at a number in the places back from one
pub record IsBack (text : List ℕ) (e n i : ℕ) : Type 0 where
  pub place : is_place text i ≡ true
  pub before : i ≤ e
  pub count : chars_between text i e ≡ n

last_char : (text : List ℕ) (e : ℕ) (v : Bool) → is_place text (suc e) ≡ v → chars_between text e (suc e) ≡ (if v then 1 else 0)
unfolding chars_between
last_char text e v at =
    let one : suc e - e ≡ 1 = omega arith in
    ap (λ n. length (filter (is_place text) (range_from (suc e) n))) one ∙ ap (λ u. length (cond u (suc e ∷ []) [])) at ∙ by v
  where
    by : (u : Bool) → length (cond u (suc e ∷ []) []) ≡ (if u then 1 else 0)
    by true = refl
    by false = refl

pub more_chars : (text : List ℕ) (i e : ℕ) (v : Bool) → is_place text (suc e) ≡ v → i ≤ e →
    chars_between text i (suc e) ≡ chars_between text i e + (if v then 1 else 0)
more_chars text i e v at le =
    chars_add text i e (suc e) le (omega arith) ∙ ap (λ n. chars_between text i e + n) (last_char text e v at)

back_is : (text : List ℕ) (e n i : ℕ) → slice_get (filter (is_place text) (range_down e)) n ≡ Some i → IsBack text e n i
back_is text zero n i at = first (is_place text 0) refl n at
  where
    first : (v : Bool) → is_place text 0 ≡ v → (n : ℕ) → slice_get (cond v (0 ∷ []) []) n ≡ Some i → IsBack text 0 n i
    first true p zero h =
        let z : 0 ≡ i = same_Some 0 i h in
        record {
          place = ap (is_place text) (sym z) ∙ p;
          before = omega (arith, z);
          count = ap (λ k. chars_between text k 0) (sym z) ∙ no_chars text 0;
        }
    first true p (suc m) h = cc
    first false p m h = cc
back_is text (suc e) n i at = next (is_place text (suc e)) refl n (λ m h. back_is text e m i h) at
  where
    next : (v : Bool) → is_place text (suc e) ≡ v → (n : ℕ) →
        ((m : ℕ) → slice_get (filter (is_place text) (range_down e)) m ≡ Some i → IsBack text e m i) →
        slice_get (cond v (suc e ∷ filter (is_place text) (range_down e)) (filter (is_place text) (range_down e))) n ≡ Some i →
        IsBack text (suc e) n i
    next true p zero ih h =
        let z : suc e ≡ i = same_Some (suc e) i h in
        record {
          place = ap (is_place text) (sym z) ∙ p;
          before = omega (arith, z);
          count = ap (λ k. chars_between text k (suc e)) (sym z) ∙ no_chars text (suc e);
        }
    next true p (suc m) ih h =
        let b = ih m h in
        record {
          place = b.place;
          before = omega (arith, b.before);
          count = (let c = more_chars text i e true p b.before in omega (arith, c, b.count));
        }
    next false p m ih h =
        let b = ih m h in
        record {
          place = b.place;
          before = omega (arith, b.before);
          count = (let c = more_chars text i e false p b.before in omega (arith, c, b.count));
        }

pub back_by_is : (text : List ℕ) (e n i : ℕ) → back_by text n e ≡ Some i → IsBack text e n i
unfolding places_back
back_by_is text e n i at = back_is text e n i at

some_char : (text : List ℕ) (i j : ℕ) → i < j → is_place text j ≡ true → 1 ≤ chars_between text i j
some_char text i zero lt at = absurd (omega arith)
some_char text i (suc j) lt at = let m = more_chars text i j true at (omega arith) in omega (arith, m)

-- as many characters on from a place is one place
pub same_end : (text : List ℕ) (i j k : ℕ) → is_place text j ≡ true → is_place text k ≡ true → i ≤ j → i ≤ k →
    chars_between text i j ≡ chars_between text i k → j ≡ k
same_end text i j k pj pk lj lk e =
    ⊎_elim {C = j ≡ k}
    (λ lt. let a = chars_add text i j k lj (omega arith) in let b = some_char text j k lt pk in absurd (omega (arith, a, b, e)))
    (λ le.
    ⊎_elim {C = j ≡ k}
    (λ lt. let a = chars_add text i k j lk (omega arith) in let b = some_char text k j lt pj in absurd (omega (arith, a, b, e)))
    (λ ge. omega arith) (cases_lt k j))
    (cases_lt j k)

-- no more characters than bytes
pub few_chars : (text : List ℕ) (i e : ℕ) → i ≤ e → chars_between text i e ≤ e
few_chars text i zero le =
    let z : i ≡ 0 = omega arith in (let c = ap (λ k. chars_between text k 0) z ∙ no_chars text 0 in omega (arith, c))
few_chars text i (suc e) le =
    ⊎_elim {C = chars_between text i (suc e) ≤ suc e}
    (λ lt.
    let ih = few_chars text i e (omega arith) in
    ⊎_elim {C = chars_between text i (suc e) ≤ suc e}
    (λ p. let m = more_chars text i e true p (omega arith) in omega (arith, m, ih))
    (λ p. let m = more_chars text i e false p (omega arith) in omega (arith, m, ih)) (decided (is_place text (suc e))))
    (λ ge.
    let z : i ≡ suc e = omega arith in
    (let c = ap (λ k. chars_between text k (suc e)) z ∙ no_chars text (suc e) in omega (arith, c)))
    (cases_lt i (suc e))
  where
    decided : (v : Bool) → (v ≡ true) ⊎ (v ≡ false)
    decided true = inl refl
    decided false = inr refl

-- ---- on, in UTF-8

-- a character stands at each place before the end
pub char_stands : (text : List ℕ) → IsUtf8 text → (i : ℕ) → is_place text i ≡ true → i < length text →
    (c : ℕ) × (char_at text i ≡ Some c)
char_stands text utf8 i at lt = let h = rest_is_utf8 text utf8 i at in found h.0 h.1.0 h.1.1
  where
    found : (cs : List ℕ) → scalars cs ≡ true → encode_utf8_all cs ≡ drop i text → (c : ℕ) × (char_at text i ≡ Some c)
    found [] s e = absurd (omega (arith, ap length e, length-drop i text, lt))
    found (c ∷ cs) s e = (c, char_at_from text i c (encode_utf8_all cs) (both_left (scalar c) (scalars cs) s) (sym e))

-- past what is no place
skip : (text : List ℕ) (m i n all start : ℕ) → all ≡ m + n → start ≡ i + m →
    ((k : ℕ) → i ≤ k → k < i + m → is_place text k ≡ false) →
    filter (is_place text) (range_from i all) ≡ filter (is_place text) (range_from start n)
skip text zero i n all start e f h =
    let a : all ≡ n = omega arith in let b : i ≡ start = omega arith in ap₂ (λ x y. filter (is_place text) (range_from x y)) b a
skip text (suc m) i n zero start e f h = absurd (omega (arith, e))
skip text (suc m) i n (suc all) start e f h =
    cond-false (is_place text i) _ _ (h i (omega arith) (omega arith))
    ∙ skip text m (suc i) n all start (omega (arith, e)) (omega (arith, f)) (λ k a b. h k (omega (arith, a)) (omega (arith, b)))

pub places_on : (text : List ℕ) → IsUtf8 text → (i c : ℕ) → is_place text i ≡ true → char_at text i ≡ Some c →
    places_from text i ≡ i ∷ places_from text (i + len_utf8 c)
unfolding places_from
places_on text utf8 i c at stands =
    let n = len_utf8 c in
    let fits = char_at_fits text i c stands in
    let some = len_utf8_bounds c in
    let more : suc (length text) - i ≡ suc (length text - i) = omega (arith, fits) in
    ap (λ m. filter (is_place text) (range_from i m)) more
    ∙ cond-true (is_place text i) _ _ at
    ∙ ap (λ l. i ∷ l)
    (skip text (n - 1) (suc i) (suc (length text) - (i + n)) (length text - i) (i + n) (omega (arith, fits, some))
    (omega (arith, some)) (λ k a b. no_place_inside text utf8 i c k at stands a (omega (arith, a, b, some))))

pub places_at_end : (text : List ℕ) (i : ℕ) → i ≡ length text → is_place text i ≡ true → places_from text i ≡ i ∷ []
unfolding places_from
places_at_end text i e at =
    let one : suc (length text) - i ≡ 1 = omega (arith, e) in
    ap (λ m. filter (is_place text) (range_from i m)) one ∙ cond-true (is_place text i) (i ∷ []) [] at
