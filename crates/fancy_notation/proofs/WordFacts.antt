-- What `parse` answers, as the numbers of the notation.
use Rattle.std.proofs.Common.{◌≡◌, ℕ, ◌-◌, ◌^◌, ◌<◌, ◌≤◌, Bool, true, false, ◌&&◌, List, [], ◌∷◌, length, get_or, Option, Some, None, Result, Ok, Err, OkIff, codes, refl, sym, ap, ◌∙◌, subst, cond, eqb, ltb, leb, eq-eqb, eqb-true, ne_eqb, ltb-true, lt-ltb, le-leb, leb-true, bytes_eq, ℤ, pos, neg_ℤ, arith}
use mir.Syntax.{w64}
use Rattle.std.specs.Str.{all_ascii_digits}
use Rattle.std.specs.Str.Parse.{digits_value, ParsesUnsigned, ParsesSigned}
use Rattle.std.specs.Result.{result_ok}
use Rattle.std.proofs.lemmas.Bool.{and_parts, and_from}
use Rattle.std.proofs.lemmas.Str.Parse.{IsNumeralModel, numerals_by_value, tells_all_ascii_digits, parse_plain, parse_signed_plain, parse_signed_minus}
use Rattle.fancy_expr.specs.Views.{bound_of}
use Rattle.fancy_meaning.specs.Tree.{Assertion, Assert, NoLook}
use Rattle.fancy_notation.specs.declared.forms.Enclosing.{Enclosing}
use Rattle.fancy_notation.specs.declared.forms.Form.TheVariants as form
use Rattle.fancy_notation.specs.Words.{found, assertions, plain_leaves, leaf_of, enclosings, other_forms, form_of, when, kept, is_numeral, number_of, level_of, count_of, bound_at_least}

digits : IsNumeralModel (λ ds. all_ascii_digits ds ≡ true) (digits_value 10)
digits = numerals_by_value _ tells_all_ascii_digits

when-true : {V : Type 0} (b : Bool) (v : V) → b ≡ true → Some v ≡ when b v
when-true b v e = subst (λ x. Some v ≡ when x v) (sym e) refl

when-not : {V : Type 0} (b : Bool) (v : V) → (b ≡ true → ⊥) → None ≡ when b v
when-not true v never = absurd (never refl)
when-not false v never = refl

when-false : {V : Type 0} (b : Bool) (v : V) → b ≡ false → None ≡ when b v
when-false b v e = subst (λ x. None ≡ when x v) (sym e) refl

answered : {V E : Type 0} (b : Bool) (P : Type 0) (v : V) (r : Result V E) → (P → b ≡ true) → (b ≡ true → P) → OkIff r P v → result_ok r ≡ when b v
answered b P v (Ok x) to from h = ap Some h.1 ∙ when-true b v (to h.0)
answered b P v (Err e) to from h = when-not b v (λ t. h (from t))

numeral : (w : List ℕ) → all_ascii_digits w ≡ true → 0 < length w → is_numeral w ≡ true
numeral [] e h = absurd (omega (arith, h))
numeral (c ∷ cs) e h = e

is_digits : (w : List ℕ) → is_numeral w ≡ true → (all_ascii_digits w ≡ true) × (0 < length w)
is_digits [] e = absurd (cc)
is_digits (c ∷ cs) e = (e, omega arith)

to_test : (w : List ℕ) (small : Bool) (Small : Type 0) → (Small → small ≡ true) → (all_ascii_digits w ≡ true) × (0 < length w) × Small →
    (is_numeral w && small) ≡ true
to_test w small Small to h = and_from _ _ (numeral w h.0 h.1) (to h.2)

from_test : (w : List ℕ) (small : Bool) (Small : Type 0) → (small ≡ true → Small) → (is_numeral w && small) ≡ true →
    (all_ascii_digits w ≡ true) × (0 < length w) × Small
from_test w small Small from h =
    let p = and_parts _ _ h in
    let d = is_digits w p.0 in
    (d.0, d.1, from p.1)

pub number-plus : (w : List ℕ) → get_or w 0 0 ≡ 43 → None ≡ number_of w
unfolding number_of
number-plus [] e = refl
number-plus (c ∷ cs) e = subst (λ x. None ≡ number_of (x ∷ cs)) (sym e) refl

pub number-parsed : {E : Type 0} (w : List ℕ) (r : Result ℕ E) → ParsesUnsigned 64 10 w r → (get_or w 0 0 ≡ 43 → ⊥) → result_ok r ≡ number_of w
unfolding number_of
number-parsed w r h never =
    answered _ _ _ r
    (to_test w (ltb (digits_value 10 w) (2 ^ 64)) (digits_value 10 w < 2 ^ 64) (lt-ltb _ _))
    (from_test w (ltb (digits_value 10 w) (2 ^ 64)) (digits_value 10 w < 2 ^ 64) (ltb-true _ _))
    (parse_plain digits 64 w r h never)

pub level-plus : (w : List ℕ) → get_or w 0 0 ≡ 43 → None ≡ level_of w
unfolding level_of
level-plus [] e = refl
level-plus (c ∷ cs) e = subst (λ x. None ≡ level_of (x ∷ cs)) (sym e) refl

-- by what a test says
pub by_test : {G : Type 0} (b : Bool) → (b ≡ true → G) → (b ≡ false → G) → G
by_test true at_true at_false = at_true refl
by_test false at_true at_false = at_false refl

pub level-parsed : {E : Type 0} (w : List ℕ) (r : Result ℤ E) → ParsesSigned w64 10 w r → (get_or w 0 0 ≡ 43 → ⊥) → result_ok r ≡ level_of w
unfolding level_of
level-parsed [] r h never =
    answered false _ _ r (λ p. absurd (omega (arith, p.1))) (λ t. absurd (cc)) (parse_signed_plain digits w64 [] r h never (λ e. absurd (omega (arith, e))))
level-parsed (c ∷ cs) r h never =
    by_test (eqb c 45)
    (λ e. subst (λ b. result_ok r
    ≡ cond b (when (is_numeral cs && leb (digits_value 10 cs) (2 ^ 63)) (neg_ℤ (pos (digits_value 10 cs))))
    (when (is_numeral (c ∷ cs) && ltb (digits_value 10 (c ∷ cs)) (2 ^ 63)) (pos (digits_value 10 (c ∷ cs))))) (sym e)
    (answered _ _ _ r
    (to_test cs (leb (digits_value 10 cs) (2 ^ 63)) (digits_value 10 cs ≤ 2 ^ 63) (le-leb _ _))
    (from_test cs (leb (digits_value 10 cs) (2 ^ 63)) (digits_value 10 cs ≤ 2 ^ 63) (leb-true _ _))
    (parse_signed_minus digits w64 (c ∷ cs) r h (eqb-true _ _ e))))
    (λ e. subst (λ b. result_ok r
    ≡ cond b (when (is_numeral cs && leb (digits_value 10 cs) (2 ^ 63)) (neg_ℤ (pos (digits_value 10 cs))))
    (when (is_numeral (c ∷ cs) && ltb (digits_value 10 (c ∷ cs)) (2 ^ 63)) (pos (digits_value 10 (c ∷ cs))))) (sym e)
    (answered _ _ _ r
    (to_test (c ∷ cs) (ltb (digits_value 10 (c ∷ cs)) (2 ^ 63)) (digits_value 10 (c ∷ cs) < 2 ^ 63) (lt-ltb _ _))
    (from_test (c ∷ cs) (ltb (digits_value 10 (c ∷ cs)) (2 ^ 63)) (digits_value 10 (c ∷ cs) < 2 ^ 63) (ltb-true _ _))
    (parse_signed_plain digits w64 (c ∷ cs) r h never (λ i. absurd (let t = eq-eqb _ _ i in cc)))))

pub leb-low : (a b : ℕ) → b < a → leb a b ≡ false
leb-low a b h = by_test (leb a b) (λ t. absurd (let k = leb-true a b t in omega (arith, k, h))) (λ f. f)

-- a value that passes a test is kept, and another is not
pub kept-true : {V : Type 0} (test : V → Bool) (o : Option V) (v : V) → o ≡ Some v → test v ≡ true → Some v ≡ kept test o
kept-true test o v is t = subst (λ x. Some v ≡ kept test x) (sym is) (when-true _ _ t)

pub kept-false : {V : Type 0} (test : V → Bool) (o : Option V) (v : V) → o ≡ Some v → test v ≡ false → None ≡ kept test o
kept-false test o v is t = subst (λ x. None ≡ kept test x) (sym is) (when-false _ _ t)

pub kept-none : {V : Type 0} (test : V → Bool) (o : Option V) → o ≡ None → None ≡ kept test o
kept-none test o is = subst (λ x. None ≡ kept test x) (sym is) refl

when-some : {V : Type 0} (b : Bool) (v w : V) → when b v ≡ Some w → (b ≡ true) × (v ≡ w)
when-some true v w e = (refl, cc)
when-some false v w e = absurd (cc)

kept-some : {V : Type 0} (test : V → Bool) (o : Option V) (v : V) → kept test o ≡ Some v → test v ≡ true
kept-some test None v e = absurd (cc)
kept-some test (Some w) v e = let p = when-some (test w) w v e in subst (λ x. test x ≡ true) p.1 p.0

-- a count is below the number that means that there is no bound
pub count-view : (w : List ℕ) (n : ℕ) → count_of w ≡ Some n → bound_of n ≡ Some n
unfolding count_of
count-view w n e =
    let small : n < 2 ^ 64 - 1 = ltb-true _ _ (kept-some (λ m. ltb m (2 ^ 64 - 1)) (number_of w) n e) in
    subst (λ b. cond b None (Some n) ≡ Some n) (sym (ne_eqb n (2 ^ 64 - 1) (λ i. absurd (omega (arith, small, i))))) refl

bound-from : (lo : ℕ) (w : List ℕ) (k : Option ℕ) (b : Option (Option ℕ)) → bytes_eq w (codes "*") ≡ false →
    kept (λ n. leb lo n) (count_of w) ≡ k → b ≡ elim k [ Some n ↦ Some (Some n) | None ↦ None ] → b ≡ bound_at_least lo w
unfolding bound_at_least
bound-from lo w k b star is e =
    subst (λ s. b ≡ cond s (Some None) (elim (kept (λ n. leb lo n) (count_of w)) [ Some n ↦ Some (Some n) | None ↦ None ])) (sym star)
    (subst (λ x. b ≡ elim x [ Some n ↦ Some (Some n) | None ↦ None ]) (sym is) e)

pub bound-star : (lo : ℕ) (w : List ℕ) → bytes_eq w (codes "*") ≡ true → ◌≡◌ {A = Option (Option ℕ)} (Some None) (bound_at_least lo w)
unfolding bound_at_least
bound-star lo w star =
    subst (λ s. ◌≡◌ {A = Option (Option ℕ)} (Some None)
    (cond s (Some None) (elim (kept (λ n. leb lo n) (count_of w)) [ Some n ↦ Some (Some n) | None ↦ None ]))) (sym star) refl

pub bound-some : (lo : ℕ) (w : List ℕ) (n : ℕ) → bytes_eq w (codes "*") ≡ false → count_of w ≡ Some n → lo ≤ n → Some (bound_of n) ≡ bound_at_least lo w
bound-some lo w n star is h =
    bound-from lo w (Some n) _ star (sym (kept-true (λ m. leb lo m) _ n is (le-leb _ _ h))) (ap Some (count-view w n is))

pub bound-low : (lo : ℕ) (w : List ℕ) (n : ℕ) → bytes_eq w (codes "*") ≡ false → count_of w ≡ Some n → n < lo → None ≡ bound_at_least lo w
bound-low lo w n star is h = bound-from lo w None _ star (sym (kept-false (λ m. leb lo m) _ n is (leb-low lo n h))) refl

pub bound-none : (lo : ℕ) (w : List ℕ) → bytes_eq w (codes "*") ≡ false → count_of w ≡ None → None ≡ bound_at_least lo w
bound-none lo w star is = bound-from lo w None _ star (sym (kept-none (λ m. leb lo m) _ is)) refl

pub form-some : (w : List ℕ) (e : Enclosing) → found enclosings w ≡ Some e → Some (form.Enclosing e) ≡ form_of w
unfolding form_of
form-some w e is = subst (λ x. Some (form.Enclosing e) ≡ elim x [ Some y ↦ Some (form.Enclosing y) | None ↦ found other_forms w ]) (sym is) refl

pub form-none : (w : List ℕ) → found enclosings w ≡ None → found other_forms w ≡ form_of w
unfolding form_of
form-none w is = subst (λ x. found other_forms w ≡ elim x [ Some y ↦ Some (form.Enclosing y) | None ↦ found other_forms w ]) (sym is) refl

pub leaf-some : (w : List ℕ) (a : Assertion) → found assertions w ≡ Some a → Some (Assert NoLook a) ≡ leaf_of w
unfolding leaf_of
leaf-some w a is = subst (λ x. Some (Assert NoLook a) ≡ elim x [ Some y ↦ Some (Assert NoLook y) | None ↦ found plain_leaves w ]) (sym is) refl

pub leaf-none : (w : List ℕ) → found assertions w ≡ None → found plain_leaves w ≡ leaf_of w
unfolding leaf_of
leaf-none w is = subst (λ x. found plain_leaves w ≡ elim x [ Some y ↦ Some (Assert NoLook y) | None ↦ found plain_leaves w ]) (sym is) refl
