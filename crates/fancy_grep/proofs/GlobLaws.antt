-- What the tokens of a glob match, row by row, and how a glob is read.
use Rattle.std.proofs.Common.{append_assoc, not, Option, option_and_then, option_map, ◌≡◌, ℕ, zero, suc, ◌-◌, ◌≤◌, ◌<◌, Bool, true, false, ◌&&◌, ◌||◌, ◌==◌, if◌then◌else◌, nat_lt, List, [], ◌∷◌, ◌++◌, length, take, drop, set, get_or, Some, None, refl, sym, ap, ap₂, subst, ◌∙◌, ⊎_elim, arith, drop-cons, drop_of_length-le, length-drop, get_or-set_same, get_or-set_other, take_all, append-nil}
use Rattle.std.proofs.lemmas.Bool.{cases_lt, ltb-false}
use Rattle.std.proofs.lemmas.List.{map-append, take-append-drop}
use Rattle.fancy_grep.specs.Globs.{Any, Folders, HasAlone, IsRow, One, Set, Token, begins_after, first_of, is_end, is_in, matches, matches_first, matches_some, may_be_empty, range, ranges, read, takes, token_of, tokens_of}
use Rattle.fancy_grep.specs.declared.globs.Token as code

-- ---- a row of flags, from the end of a name to its beginning

-- From this place on the flags are those of the token and what follows it, and before it still those of what follows.
pub record Passed (t : Token) (rest : List ℕ → Bool) (name : List ℕ) (at : ℕ) (row : List Bool) (e m : Bool) : Type 0 where
  pub ends : e ≡ rest (drop at name)
  pub more : m ≡ matches_some t rest (drop at name)
  pub below : (i : ℕ) → i < at → get_or row i false ≡ rest (drop i name)
  pub above : (i : ℕ) → at ≤ i → i ≤ length name → get_or row i false ≡ matches_first t rest (drop i name)

module _ (t : Token) (rest : List ℕ → Bool) (name : List ℕ) (row : List Bool) where
  pub passed_none : (f : Bool) → length row ≡ suc (length name) → f ≡ (may_be_empty t && get_or row (length name) false) → IsRow rest name row →
      Passed t rest name (length name) (set row (length name) f) (get_or row (length name) false) false
  passed_none f long is h =
      let end : drop (length name) name ≡ [] = drop_of_length-le name (omega arith) in
      let here = h.flag (length name) (omega arith) in record {
        ends = here;
        more = ap (matches_some t rest) (sym end);
        below = λ i lt. get_or-set_other row (length name) i f false (omega (arith, lt)) ∙ h.flag i (omega (arith, lt));
        above = λ i le most.
            let same : length name ≡ i = omega (arith, le, most) in
            subst (λ n. get_or (set row (length name) f) n false ≡ matches_first t rest (drop n name)) same
            (get_or-set_same row (length name) f false (omega (arith, long))
            ∙ is ∙ ap (λ b. may_be_empty t && b) (here ∙ ap rest end) ∙ ap (matches_first t rest) (sym end));
      }

  pub passed_more : (at c : ℕ) (e m n f : Bool) → suc at ≤ length name → length row ≡ suc (length name) → drop at name ≡ c ∷ drop (suc at) name →
      n ≡ takes t c e m → f ≡ (n || (may_be_empty t && get_or row at false)) → Passed t rest name (suc at) row e m →
      Passed t rest name at (set row at f) (get_or row at false) n
  passed_more at c e m n f le long split is_n is_f h =
      let ends_here = h.below at (omega arith) in
      let takes_here : n ≡ matches_some t rest (drop at name) =
      is_n ∙ ap₂ (takes t c) h.ends h.more ∙ ap (matches_some t rest) (sym split) in record {
        ends = ends_here;
        more = takes_here;
        below = λ i lt. get_or-set_other row at i f false (omega (arith, lt)) ∙ h.below i (omega (arith, lt));
        above = λ i ge most. ⊎_elim
            (λ later. get_or-set_other row at i f false (omega (arith, later)) ∙ h.above i (omega (arith, later)) most)
            (λ here.
            let same : at ≡ i = omega (arith, ge, here) in
            subst (λ k. get_or (set row at f) k false ≡ matches_first t rest (drop k name)) same
            (get_or-set_same row at f false (omega (arith, long, le)) ∙ is_f ∙ ap₂ (λ a b. a || (may_be_empty t && b)) takes_here ends_here))
            (cases_lt at i);
      }

  pub passed_all : (ends more : Bool) → Passed t rest name zero row ends more → IsRow (matches_first t rest) name row
  passed_all ends more h = record { flag = λ i most. h.above i (omega arith) most }

-- ---- the row of no token

abbrev pub AreOff : List Bool → Type 0
AreOff row = (i : ℕ) → get_or row i false ≡ false

pub off_none : AreOff []
off_none i = refl

pub off_more : (row : List Bool) → AreOff row → AreOff (row ++ false ∷ [])
off_more [] off zero = refl
off_more [] off (suc i) = refl
off_more (b ∷ row) off zero = off zero
off_more (b ∷ row) off (suc i) = off_more row (λ j. off (suc j)) i

last_on : (row : List Bool) (n : ℕ) → n ≡ length row → get_or (row ++ true ∷ []) n false ≡ true
last_on [] zero is = refl
last_on [] (suc n) is = absurd (omega (arith, is))
last_on (b ∷ row) zero is = absurd (omega (arith, is))
last_on (b ∷ row) (suc n) is = last_on row n (omega (arith, is))

before_last_off : (row : List Bool) (n : ℕ) → AreOff row → n < length row → get_or (row ++ true ∷ []) n false ≡ false
before_last_off [] n off lt = absurd (omega (arith, lt))
before_last_off (b ∷ row) zero off lt = off zero
before_last_off (b ∷ row) (suc n) off lt = before_last_off row n (λ j. off (suc j)) (omega (arith, lt))

not_at_end : (name : List ℕ) (i : ℕ) → i < length name → is_end (drop i name) ≡ false
not_at_end name i lt = ap is_end (drop-cons name i 0 lt)

pub end_row : (name : List ℕ) (row : List Bool) → length row ≡ length name → AreOff row → IsRow (matches []) name (row ++ true ∷ [])
unfolding matches
end_row name row same off = record {
  flag = λ i most. ⊎_elim
      (λ before. before_last_off row i off (omega (arith, same, before)) ∙ sym (not_at_end name i before))
      (λ at. last_on row i (omega (arith, same, at, most)) ∙ sym (ap is_end (drop_of_length-le name (omega (arith, at)))))
      (cases_lt i (length name));
}

pub one_token_more : (t : Token) (ts : List Token) (name : List ℕ) (row : List Bool) → IsRow (matches_first t (matches ts)) name row → IsRow (matches (t ∷ ts)) name row
unfolding matches
one_token_more t ts name row h = record { flag = h.flag }

-- ---- parts of lists

-- an item, and what follows it
pub split_at : {A : Type 0} (xs : List A) (i : ℕ) (x : A) → i < length xs → x ≡ get_or xs i x → drop i xs ≡ x ∷ drop (suc i) xs
split_at xs i x lt is = drop-cons xs i x lt ∙ ap (λ y. y ∷ drop (suc i) xs) (sym is)

pub split_first : {A : Type 0} (xs : List A) (x : A) → 0 < length xs → x ≡ get_or xs 0 x → xs ≡ x ∷ take (length xs - 1) (drop 1 xs)
split_first xs x some is = split_at xs 0 x some is ∙ ap (λ ys. x ∷ ys) (sym (take_all (length xs - 1) (drop 1 xs) (omega (arith, length-drop 1 xs))))

split_last : {A : Type 0} (xs : List A) (x : A) → 0 < length xs → x ≡ get_or xs (length xs - 1) x → xs ≡ take (length xs - 1) xs ++ x ∷ []
split_last xs x some is =
    sym (take-append-drop (length xs - 1) xs)
    ∙ ap (λ ys. take (length xs - 1) xs ++ ys)
    (split_at xs (length xs - 1) x (omega (arith, some)) is ∙ ap (λ ys. x ∷ ys) (drop_of_length-le xs {i = suc (length xs - 1)} (omega (arith, some))))

-- ---- a token of one character, at the beginning and at the end

or_false : (b : Bool) → (b || false) ≡ b
or_false true = refl
or_false false = refl

and_false : (b : Bool) → (b && false) ≡ false
and_false true = refl
and_false false = refl

one_first : (s : Set) (ts : List Token) (c : ℕ) (name : List ℕ) → matches (One s ∷ ts) (c ∷ name) ≡ (is_in s c && matches ts name)
unfolding matches
one_first s ts c name = or_false (is_in s c && matches ts name)

-- after this token comes one that matches the last character, or not
abbrev AreBefore : (rest with_last : List ℕ → Bool) (c : ℕ) (b : Bool) → Type 0
AreBefore rest with_last c b = (name : List ℕ) → with_last (name ++ c ∷ []) ≡ (rest name && b)

and_and : (p q b : Bool) → (p && (q && b)) ≡ ((p && q) && b)
and_and true q b = refl
and_and false q b = refl

or_and : (p q b : Bool) → ((p && b) || (q && b)) ≡ ((p || q) && b)
or_and true q true = refl
or_and true true false = refl
or_and true false false = refl
or_and false q b = refl

takes_and : (t : Token) (c : ℕ) (e m b : Bool) → takes t c (e && b) (m && b) ≡ (takes t c e m && b)
takes_and (One s) c e m b = and_and (is_in s c) e b
takes_and (Any s) c e m b = ap (λ x. is_in s c && x) (or_and e m b) ∙ and_and (is_in s c) (e || m) b
takes_and Folders c e m b = ap (λ x. x || (m && b)) (and_and (c == 47) e b) ∙ or_and (c == 47 && e) m b

some_and : (t : Token) (rest with_last : List ℕ → Bool) (c : ℕ) (b : Bool) → AreBefore rest with_last c b → with_last [] ≡ false →
    (name : List ℕ) → matches_some t with_last (name ++ c ∷ []) ≡ (matches_some t rest name && b)
some_and (One s) rest with_last c b h none [] = ap (λ e. is_in s c && e) none ∙ and_false (is_in s c)
some_and (Any s) rest with_last c b h none [] = ap (λ e. is_in s c && (e || false)) none ∙ and_false (is_in s c)
some_and Folders rest with_last c b h none [] = ap (λ e. (c == 47 && e) || false) none ∙ ap (λ e. e || false) (and_false (c == 47))
some_and t rest with_last c b h none (d ∷ name) =
    ap₂ (takes t d) (h name) (some_and t rest with_last c b h none name) ∙ takes_and t d (rest name) (matches_some t rest name) b

first_and : (m p q b : Bool) → ((m && b) || (p && (q && b))) ≡ ((m || (p && q)) && b)
first_and m p q b = ap (λ x. (m && b) || x) (and_and p q b) ∙ or_and m (p && q) b

none_in_none : (s : Set) (ts : List Token) → matches (ts ++ One s ∷ []) [] ≡ false
unfolding matches
none_in_none s [] = refl
none_in_none s (t ∷ ts) = ap (λ e. may_be_empty t && e) (none_in_none s ts) ∙ and_false (may_be_empty t)

more_left : (name : List ℕ) (c : ℕ) → is_end (name ++ c ∷ []) ≡ false
more_left [] c = refl
more_left (d ∷ name) c = refl

and_swap : (a b : Bool) → (a && b) ≡ (b && a)
and_swap true true = refl
and_swap true false = refl
and_swap false true = refl
and_swap false false = refl

one_last : (s : Set) (ts : List Token) (c : ℕ) (name : List ℕ) → matches (ts ++ One s ∷ []) (name ++ c ∷ []) ≡ (matches ts name && is_in s c)
unfolding matches
one_last s [] c [] = or_false (is_in s c && true) ∙ and_swap (is_in s c) true
one_last s [] c (d ∷ name) = or_false (is_in s d && matches [] (name ++ c ∷ [])) ∙ ap (λ e. is_in s d && e) (more_left name c) ∙ and_false (is_in s d)
one_last s (t ∷ ts) c name =
    ap₂ (λ m r. m || (may_be_empty t && r))
    (some_and t (matches ts) (matches (ts ++ One s ∷ [])) c (is_in s c) (λ n. one_last s ts c n) (none_in_none s ts) name)
    (one_last s ts c name)
    ∙ first_and (matches_some t (matches ts) name) (may_be_empty t) (matches ts name) (is_in s c)

pub has_first : (tokens : List code.Token) (token : code.Token) (name : List ℕ) (c : ℕ) (has b : Bool) → nat_lt (length tokens) 1 ≡ false → nat_lt (length name) 1 ≡ false →
    token ≡ get_or tokens 0 token → c ≡ get_or name 0 c → HasAlone (token_of token) c has → has ≡ b →
    matches (tokens_of tokens) name ≡ (b && matches (tokens_of (take (length tokens - 1) (drop 1 tokens))) (take (length name - 1) (drop 1 name)))
has_first tokens token name c has b some most is_token is_c h is =
    let ts = tokens_of (take (length tokens - 1) (drop 1 tokens)) in
    let n = take (length name - 1) (drop 1 name) in
    ap₂ (λ ts n. matches (tokens_of ts) n) (split_first tokens token (ltb-false _ 1 some) is_token) (split_first name c (ltb-false _ 1 most) is_c)
    ∙ ap (λ t. matches (t ∷ ts) (c ∷ n)) h.token ∙ one_first h.set ts c n ∙ ap (λ b. b && matches ts n) (sym h.same ∙ is)

pub has_last : (tokens : List code.Token) (token : code.Token) (name : List ℕ) (c : ℕ) (has b : Bool) → nat_lt (length tokens) 1 ≡ false → nat_lt (length name) 1 ≡ false →
    token ≡ get_or tokens (length tokens - 1) token → c ≡ get_or name (length name - 1) c → HasAlone (token_of token) c has → has ≡ b →
    matches (tokens_of tokens) name ≡ (b && matches (tokens_of (take (length tokens - 1) tokens)) (take (length name - 1) name))
has_last tokens token name c has b some most is_token is_c h is =
    let before = take (length tokens - 1) tokens in
    let ts = tokens_of before in
    let n = take (length name - 1) name in
    ap₂ (λ ts n. matches (tokens_of ts) n) (split_last tokens token (ltb-false _ 1 some) is_token) (split_last name c (ltb-false _ 1 most) is_c)
    ∙ ap (λ ts. matches ts (n ++ c ∷ [])) (map-append token_of before (token ∷ []))
    ∙ ap (λ t. matches (ts ++ t ∷ []) (n ++ c ∷ [])) h.token ∙ one_last h.set ts c n ∙ and_swap (matches ts n) (is_in h.set c) ∙ ap (λ b. b && matches ts n) (sym h.same ∙ is)

-- ---- reading

pub ranges_none : (most : ℕ) (is_first : Bool) → ranges most is_first [] ≡ None
unfolding ranges
ranges_none zero is_first = refl
ranges_none (suc most) is_first = refl

pub ranges_end : (most : ℕ) (is_first : Bool) (c : ℕ) (text : List ℕ) → 0 < most → (c == 93 && not is_first) ≡ true →
    ranges most is_first (c ∷ text) ≡ Some ([], text)
unfolding ranges
ranges_end zero is_first c text some ends = absurd (omega (arith, some))
ranges_end (suc most) is_first c text some ends =
    ap (λ b. if b then Some ([], text) else option_and_then (λ r. option_map (λ rest. (r.0 ∷ rest.0, rest.1)) (ranges most false r.1)) (range (c ∷ text))) ends

-- these ranges before others
abbrev pub put_after : List (ℕ × ℕ) → Option (List (ℕ × ℕ) × List ℕ) → Option (List (ℕ × ℕ) × List ℕ)
put_after old None = None
put_after old (Some rest) = Some (old ++ rest.0, rest.1)

-- the ranges from one on
abbrev pub more_ranges : ℕ → (ℕ × ℕ) × List ℕ → Option (List (ℕ × ℕ) × List ℕ)
more_ranges most r = option_map (λ (rest : List (ℕ × ℕ) × List ℕ). (r.0 ∷ rest.0, rest.1)) (ranges most false r.1)

pub ranges_step : (most : ℕ) (is_first : Bool) (c : ℕ) (text : List ℕ) → 0 < most → (c == 93 && not is_first) ≡ false →
    ranges most is_first (c ∷ text) ≡ option_and_then (more_ranges (most - 1)) (range (c ∷ text))
unfolding ranges
ranges_step zero is_first c text some goes_on = absurd (omega (arith, some))
ranges_step (suc most) is_first c text some goes_on =
    ap (λ b. if b then Some ([], text) else option_and_then (more_ranges most) (range (c ∷ text))) goes_on
    ∙ ap (λ n. option_and_then (more_ranges n) (range (c ∷ text))) (omega arith)

pub after_nothing : (rest : Option (List (ℕ × ℕ) × List ℕ)) → put_after [] rest ≡ rest
after_nothing None = refl
after_nothing (Some rest) = refl

pub after_one_more : (old : List (ℕ × ℕ)) (r : ℕ × ℕ) (rest : Option (List (ℕ × ℕ) × List ℕ)) →
    put_after (old ++ r ∷ []) rest ≡ put_after old (option_map (λ (s : List (ℕ × ℕ) × List ℕ). (r ∷ s.0, s.1)) rest)
after_one_more old r None = refl
after_one_more old r (Some rest) = ap (λ rs. Some (rs, rest.1)) (append_assoc old (r ∷ []) rest.0)

pub read_none : (most : ℕ) (is_path begins : Bool) → read most is_path begins [] ≡ []
unfolding read
read_none zero is_path begins = refl
read_none (suc most) is_path begins = refl

pub read_step : (most : ℕ) (is_path begins : Bool) (c : ℕ) (text : List ℕ) → 0 < most →
    read most is_path begins (c ∷ text) ≡ (first_of is_path begins c text).0 ∷ read (most - 1) is_path (begins_after c (first_of is_path begins c text).0) (first_of is_path begins c text).1
unfolding read
read_step zero is_path begins c text some = absurd (omega (arith, some))
read_step (suc most) is_path begins c text some =
    ap (λ n. (first_of is_path begins c text).0 ∷ read n is_path (begins_after c (first_of is_path begins c text).0) (first_of is_path begins c text).1) (omega arith)

pub nothing_left : (xs : List ℕ) → length xs < 1 → xs ≡ []
nothing_left [] none = refl
nothing_left (x ∷ xs) none = absurd (omega (arith, none))

pub written_all : (new old : List Bool) (n : ℕ) → length old ≡ n → length new ≡ length old → take n (new ++ drop (length new) old) ≡ new
written_all new old n is same =
    ap (λ d. take n (new ++ d)) (drop_of_length-le old (omega (arith, same)))
    ∙ ap (take n) (append-nil new) ∙ take_all n new (omega (arith, is, same))
