-- A walk over lines among those that are selected.
use Rattle.std.proofs.Common.{◌≡◌, ℕ, suc, ◌+◌, ◌≤◌, ◌<◌, Bool, true, false, ◌&&◌, ◌||◌, ◌==◌, nat_le, List, [], ◌∷◌, ◌++◌, append_assoc, append-nil, Option, None, Some, IfSome, if◌then◌else◌, length, nat_lt, map, filter, cond, refl, sym, ap, ap₂, subst, ◌∙◌, arith}
use Rattle.std.proofs.lemmas.Bool.{eq-eqb, eqb-true, eqb-false, lt-ltb, le-ltb, le-leb, lt-leb, ne_eqb, or_right, leb-true, leb-false, false≢true}
use Rattle.std.proofs.lemmas.List.Folds.{list_any-append}
use Rattle.fancy_grep.specs.Context.{AreRising, Stands, is_ahead, is_among, is_near, is_shown, is_past, past, shown}
use Rattle.fancy_grep.specs.Lines.{Line}
use Rattle.fancy_grep.specs.declared.context.Context.{Context}

pub at_start : (all : List ℕ) → AreRising 1 all → Stands all 1 None all
at_start all rising = record {
  passed = [];
  split = refl;
  low = tt;
  near = λ context n h. refl;
  among = λ n h. refl;
  ahead = rising;
}

-- the numbers further on are not this one
beyond : (n least : ℕ) (ss : List ℕ) → n < least → AreRising least ss → is_among ss n ≡ false
beyond n least [] lt rising = refl
beyond n least (s ∷ ss) lt rising = ap₂ ◌||◌ (ne_eqb s n (omega (arith, rising.0))) (beyond n (suc s) ss (omega (arith, rising.0)) rising.1)

-- nor are those near that begin further on than the context reaches
too_far : (context : Context) (n least : ℕ) (ss : List ℕ) → n + context.before < least → AreRising least ss → is_near context ss n ≡ false
too_far context n least [] far rising = refl
too_far context n least (t ∷ ss) far rising =
    ap₂ ◌||◌ (ap (λ b. b && nat_le n (t + context.after)) (lt-leb t (n + context.before) (omega (arith, rising.0))))
    (too_far context n (suc t) ss (omega (arith, rising.0)) rising.1)

-- of those that lie ahead the first tells
ahead_at : (context : Context) (n s : ℕ) (ss : List ℕ) (b : Bool) → nat_le s (n + context.before) ≡ b → n ≤ s → AreRising (suc s) ss →
    ((nat_le s (n + context.before) && nat_le n (s + context.after)) || is_near context ss n) ≡ nat_le s (n + context.before)
ahead_at context n s ss true is le rising =
    ap (λ b. b || is_near context ss n) (ap₂ ◌&&◌ is (le-leb n (s + context.after) (omega arith))) ∙ sym is
ahead_at context n s ss false is le rising =
    ap₂ ◌||◌ (ap (λ b. b && nat_le n (s + context.after)) is) (too_far context n (suc s) ss (omega (arith, leb-false s (n + context.before) is)) rising) ∙ sym is

near_left : (context : Context) (n : ℕ) (left : List ℕ) → AreRising (suc n) left → is_near context left n ≡ is_ahead context n left
near_left context n [] rising = refl
near_left context n (s ∷ ss) rising = ahead_at context n s ss (nat_le s (n + context.before)) refl (omega (arith, rising.0)) rising.1

-- of those that were passed the last one tells
past_at : (context : Context) (n m : ℕ) (last : Option ℕ) → IfSome last (λ s. s < n) → n ≤ m → is_past context m last ≡ true → nat_le m (n + context.after) ≡ true
past_at context n m None low le is = absurd (false≢true is)
past_at context n m (Some s) low le is = le-leb m (n + context.after) (omega (arith, low, leb-true m (s + context.after) is))

past_or : (context : Context) (n m : ℕ) (a b c : Bool) → (a ≡ true → c ≡ true) → b ≡ true → (a || ((b && c) || false)) ≡ c
past_or context n m true b true h is = refl
past_or context n m true b false h is = absurd (false≢true (h refl))
past_or context n m false true true h is = refl
past_or context n m false true false h is = refl
past_or context n m false false c h is = absurd (false≢true is)

lower : (n : ℕ) (last : Option ℕ) → IfSome last (λ s. s < n) → IfSome last (λ s. s < suc n)
lower n None h = tt
lower n (Some s) h = omega (arith, h)

module _ {all : List ℕ} {last : Option ℕ} (n : ℕ) where
  -- ---- the next selected line has this number

  pub passes_it : (ss : List ℕ) → Stands all n last (n ∷ ss) → Stands all (suc n) (Some n) ss
  passes_it ss h = record {
    passed = h.passed ++ (n ∷ []);
    split = h.split ∙ sym (append_assoc h.passed (n ∷ []) ss);
    low = omega arith;
    near = λ context m le.
        list_any-append _ h.passed (n ∷ [])
        ∙ ap (λ b. b || ((nat_le n (m + context.before) && nat_le m (n + context.after)) || false)) (h.near context m (omega arith))
        ∙ past_or context n m (is_past context m last) (nat_le n (m + context.before)) (nat_le m (n + context.after))
        (past_at context n m last h.low (omega arith)) (le-leb n (m + context.before) (omega arith));
    among = λ m le. list_any-append _ h.passed (n ∷ []) ∙ ap₂ ◌||◌ (h.among m (omega arith)) (ap (λ b. b || false) (ne_eqb n m (omega arith)));
    ahead = h.ahead.1;
  }

  pub is_it : (ss : List ℕ) → Stands all n last (n ∷ ss) → is_among all n ≡ true
  is_it ss h =
      ap (λ ns. is_among ns n) h.split ∙ list_any-append _ h.passed (n ∷ ss)
      ∙ or_right _ _ (ap (λ b. b || is_among ss n) (eq-eqb n n refl))

  -- ---- it has another one, or there is none

  pub passes_other : (left : List ℕ) → AreRising (suc n) left → Stands all n last left → Stands all (suc n) last left
  passes_other left rising h = record {
    passed = h.passed;
    split = h.split;
    low = lower n last h.low;
    near = λ context m le. h.near context m (omega arith);
    among = λ m le. h.among m (omega arith);
    ahead = rising;
  }

  pub is_other : (left : List ℕ) → AreRising (suc n) left → Stands all n last left → is_among all n ≡ false
  is_other left rising h =
      ap (λ ns. is_among ns n) h.split ∙ list_any-append _ h.passed left
      ∙ ap₂ ◌||◌ (h.among n (omega arith)) (beyond n (suc n) left (omega arith) rising)

  -- ---- what is near

  pub near_by : (context : Context) (left : List ℕ) → Stands all (suc n) last left →
      is_near context all n ≡ (is_past context n last || is_ahead context n left)
  near_by context left h =
      ap (λ ns. is_near context ns n) h.split ∙ list_any-append _ h.passed left
      ∙ ap₂ ◌||◌ (h.near context n (omega arith)) (near_left context n left h.ahead)

-- ---- one line more

-- The walk comes to the line with this number, which is selected or not.
pub record Comes (all : List ℕ) (n : ℕ) (last : Option ℕ) (left : List ℕ) (b : Bool) : Type 0 where
  pub stands : Stands all (suc n) (if b then Some n else last) left
  pub is : b ≡ is_among all n

-- the next selected line has this number or not
comes_at : (all : List ℕ) (n s : ℕ) (ss : List ℕ) (last : Option ℕ) (t : Bool) → (s == n) ≡ t → Stands all n last (s ∷ ss) →
    Comes all n last (if t then ss else s ∷ ss) (nat_lt (length (if t then ss else s ∷ ss)) (suc (length ss)))
comes_at all n s ss last true is h =
    let same : s ≡ n = eqb-true s n is in
    let it : Stands all n last (n ∷ ss) = subst (λ m. Stands all n last (m ∷ ss)) same h in
    subst (Comes all n last ss) (sym (lt-ltb (length ss) (suc (length ss)) (omega arith)))
    (record { stands = passes_it n ss it; is = sym (is_it n ss it) })
comes_at all n s ss last false is h =
    let other : AreRising (suc n) (s ∷ ss) = (omega (arith, h.ahead.0, eqb-false s n is), h.ahead.1) in
    subst (Comes all n last (s ∷ ss)) (sym (le-ltb (suc (length ss)) (suc (length ss)) (omega arith)))
    (record { stands = passes_other n (s ∷ ss) other h; is = sym (is_other n (s ∷ ss) other h) })

pub comes : (all : List ℕ) (n : ℕ) (last : Option ℕ) (left : List ℕ) → Stands all n last left →
    Comes all n last (past n left) (nat_lt (length (past n left)) (length left))
comes all n last [] h = record { stands = passes_other n [] tt h; is = sym (is_other n [] tt h) }
comes all n last (s ∷ ss) h = comes_at all n s ss last (s == n) refl h

-- ---- what is shown

module _ (context : Context) (owed : ℕ) (numbers : List ℕ) (l : Line) (ls : List Line) where
  pub near_is_shown : is_shown context owed numbers l.number ≡ true →
      shown context owed numbers (l ∷ ls) ≡ (l, is_among numbers l.number) ∷ shown context owed numbers ls
  unfolding shown
  near_is_shown is =
      ap (λ b. map (λ k. (k, is_among numbers k.number)) (cond b (l ∷ filter (λ k. is_shown context owed numbers k.number) ls) (filter (λ k. is_shown context owed numbers k.number) ls))) is

  pub far_is_left_out : is_shown context owed numbers l.number ≡ false → shown context owed numbers (l ∷ ls) ≡ shown context owed numbers ls
  unfolding shown
  far_is_left_out is =
      ap (λ b. map (λ k. (k, is_among numbers k.number)) (cond b (l ∷ filter (λ k. is_shown context owed numbers k.number) ls) (filter (λ k. is_shown context owed numbers k.number) ls))) is

pub none_is_shown : (context : Context) (owed : ℕ) (numbers : List ℕ) → shown context owed numbers [] ≡ []
unfolding shown
none_is_shown context owed numbers = refl

module _ (context : Context) (owed : ℕ) (numbers : List ℕ) (out : List (Line × Bool)) (l : Line) (ls : List Line) (all : List (Line × Bool)) where
  pub one_more : (b : Bool) → is_shown context owed numbers l.number ≡ true → b ≡ is_among numbers l.number →
      out ++ shown context owed numbers (l ∷ ls) ≡ all → (out ++ ((l, b) ∷ [])) ++ shown context owed numbers ls ≡ all
  one_more b near is h =
      append_assoc out ((l, b) ∷ []) (shown context owed numbers ls)
      ∙ ap (λ s. out ++ s) (ap (λ t. (l, t) ∷ shown context owed numbers ls) is ∙ sym (near_is_shown context owed numbers l ls near)) ∙ h

  pub none_more : is_shown context owed numbers l.number ≡ false → out ++ shown context owed numbers (l ∷ ls) ≡ all → out ++ shown context owed numbers ls ≡ all
  none_more far h = ap (λ s. out ++ s) (sym (far_is_left_out context owed numbers l ls far)) ∙ h

pub all_shown : (context : Context) (owed : ℕ) (numbers : List ℕ) (out all : List (Line × Bool)) → out ++ shown context owed numbers [] ≡ all → out ≡ all
all_shown context owed numbers out all h = sym (append-nil out) ∙ ap (λ s. out ++ s) (sym (none_is_shown context owed numbers)) ∙ h
