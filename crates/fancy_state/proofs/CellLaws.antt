-- The slots and the explicit stack among the cells.
use Rattle.std.proofs.Common.{◌≡◌, ℕ, zero, suc, ◌+◌, ◌-◌, ◌<◌, ◌≤◌, List, [], ◌∷◌, ◌++◌, length, map, take, drop, reverse, replicate, slice_set, slice_index, slice_index_or, ◌==◌, refl, sym, ap, ap₂, ◌∙◌, arith, drop-cons, ne_eqb}
use Rattle.std.specs.List.{range_with_len}
use Rattle.std.proofs.Math.Path.{fun_ext}
use Rattle.std.proofs.Math.Seq.{take-append_seam, get_or-append_seam}
use Rattle.std.proofs.lemmas.Bool.{cond-true, cond-false, eq-eqb}
use Rattle.std.proofs.lemmas.List.{reverse-append, length-reverse, length-replicate, length-append}
use Rattle.std.proofs.lemmas.List.FromFn.{length-map-range_with_len, take-map-range_with_len, get_or-map-range_with_len, map-range_with_len_more}
use Rattle.fancy_meaning.specs.Numbers.{usize_max}
use Rattle.fancy_meaning.specs.MatchState.{put}
use Rattle.fancy_state.specs.OldValues.{Values, values_of, slots_in, stack_in}

-- ---- numbers in a row

same_row : (f g : Values) (i n : ℕ) → ((j : ℕ) → i ≤ j → j < i + n → f j ≡ g j) → map f (range_with_len i n) ≡ map g (range_with_len i n)
same_row f g i zero same = refl
same_row f g i (suc n) same =
    ap₂ ◌∷◌ (same i (omega arith) (omega arith)) (same_row f g (i + 1) n (λ j low high. same j (omega (arith, low)) (omega (arith, high))))

pub put_at : (f : Values) (i v j : ℕ) → j ≡ i → put i v f j ≡ v
put_at f i v j same = cond-true (j == i) v (f j) (eq-eqb j i same)

pub put_off : (f : Values) (i v j : ℕ) → (j ≡ i → ⊥) → put i v f j ≡ f j
put_off f i v j other = cond-false (j == i) v (f j) (ne_eqb j i other)

row_set : (f : Values) (v k i n s : ℕ) → k ≡ i + s → s < n → map (put k v f) (range_with_len i n) ≡ slice_set (map f (range_with_len i n)) s v
row_set f v k i zero s is less = absurd (omega (arith, less))
row_set f v k i (suc n) zero is less =
    ap₂ ◌∷◌ (put_at f k v i (omega (arith, is)))
    (same_row (put k v f) f (i + 1) n (λ j low high. put_off f k v j (λ same. omega (arith, is, low, same))))
row_set f v k i (suc n) (suc s) is less =
    ap₂ ◌∷◌ (put_off f k v i (λ same. omega (arith, is, same)))
    (row_set f v k (i + 1) n s (omega (arith, is)) (omega (arith, less)))

-- the last of equal numbers is set
pub last_of_same : (n : ℕ) → slice_set (replicate (suc n) usize_max) n 0 ≡ replicate n usize_max ++ 0 ∷ []
last_of_same zero = refl
last_of_same (suc n) = ap (λ l. usize_max ∷ l) (last_of_same n)

row_of : (xs : List ℕ) (i n : ℕ) → i + n ≤ length xs → map (values_of xs) (range_with_len i n) ≡ take n (drop i xs)
row_of xs i zero fits = refl
row_of xs i (suc n) fits =
    let here : drop i xs ≡ slice_index_or xs i 0 ∷ drop (suc i) xs = drop-cons xs i 0 (omega (arith, fits)) in
    let next : i + 1 ≡ suc i = omega arith in
    ap (λ l. slice_index_or xs i 0 ∷ l) (row_of xs (i + 1) n (omega (arith, fits)) ∙ ap (λ k. take n (drop k xs)) next)
    ∙ ap (take (suc n)) (sym here)

-- ---- slots

pub slots_of_take : (xs : List ℕ) (n : ℕ) → n ≤ length xs → slots_in n (values_of xs) ≡ take n xs
slots_of_take xs n fits = row_of xs 0 n (omega (arith, fits))

pub length-slots : (n : ℕ) (f : Values) → length (slots_in n f) ≡ n
length-slots n f = length-map-range_with_len f 0 n

pub slots_put : (n : ℕ) (f : Values) (s v : ℕ) → s < n → slots_in n (put s v f) ≡ slice_set (slots_in n f) s v
slots_put n f s v less = row_set f v s 0 n s (omega arith) less

pub slots_above : (n : ℕ) (f : Values) (k v : ℕ) → n ≤ k → slots_in n (put k v f) ≡ slots_in n f
slots_above n f k v above = same_row (put k v f) f 0 n (λ j low high. put_off f k v j (λ same. omega (arith, above, high, same)))

pub slot_at : (n : ℕ) (f : Values) (s : ℕ) → s < n → f s ≡ slice_index (slots_in n f) s
slot_at n f s less = sym (get_or-map-range_with_len f 0 n s s 0 less (omega arith))

pub slots_first : (xs : List ℕ) (n k : ℕ) → k ≤ n → n ≤ length xs → take k xs ≡ take k (slots_in n (values_of xs))
slots_first xs n k less fits =
    sym (slots_of_take xs k (omega (arith, less, fits))) ∙ sym (take-map-range_with_len (values_of xs) 0 n k less)

-- ---- the explicit stack

pub length-stack : (n : ℕ) (f : Values) → length (stack_in n f) ≡ f n
length-stack n f = length-reverse (map f (range_with_len (n + 1) (f n))) ∙ length-map-range_with_len f (n + 1) (f n)

pub stack_below : (n : ℕ) (f : Values) (s v : ℕ) → s < n → stack_in n (put s v f) ≡ stack_in n f
stack_below n f s v less =
    let count : put s v f n ≡ f n = put_off f s v n (λ same. omega (arith, less, same)) in
    ap (λ k. reverse (map (put s v f) (range_with_len (n + 1) k))) count
    ∙ ap reverse (same_row (put s v f) f (n + 1) (f n) (λ j low high. put_off f s v j (λ same. omega (arith, less, low, same))))

-- the cell above the stack's last entry
pub stack_above : (n : ℕ) (f : Values) (k v : ℕ) → k ≡ n + 1 + f n → stack_in n (put k v f) ≡ stack_in n f
stack_above n f k v is =
    let count : put k v f n ≡ f n = put_off f k v n (λ same. omega (arith, is, same)) in
    ap (λ m. reverse (map (put k v f) (range_with_len (n + 1) m))) count
    ∙ ap reverse (same_row (put k v f) f (n + 1) (f n) (λ j low high. put_off f k v j (λ same. omega (arith, is, high, same))))

-- as many entries
stack_counted : (n : ℕ) (f : Values) (count : ℕ) → stack_in n (put n count f) ≡ reverse (map f (range_with_len (n + 1) count))
stack_counted n f count =
    ap (λ m. reverse (map (put n count f) (range_with_len (n + 1) m))) (put_at f n count n refl)
    ∙ ap reverse (same_row (put n count f) f (n + 1) count (λ j low high. put_off f n count j (λ same. omega (arith, low, same))))

row_more : (f : Values) (i n j : ℕ) → i + n ≡ j → reverse (map f (range_with_len i (n + 1))) ≡ f j ∷ reverse (map f (range_with_len i n))
row_more f i n j is = ap reverse (map-range_with_len_more f i n j is) ∙ reverse-append (map f (range_with_len i n)) (f j ∷ [])

pub stack_pushed : (n : ℕ) (f : Values) (k v : ℕ) → k ≡ n + 1 + f n → stack_in n (put n (f n + 1) (put k v f)) ≡ v ∷ stack_in n f
stack_pushed n f k v is =
    let count : put k v f n ≡ f n = put_off f k v n (λ same. omega (arith, is, same)) in
    stack_counted n (put k v f) (f n + 1)
    ∙ row_more (put k v f) (n + 1) (f n) k (sym is)
    ∙ ap₂ ◌∷◌ (put_at f k v k refl) (ap (λ m. reverse (map (put k v f) (range_with_len (n + 1) m))) (sym count) ∙ stack_above n f k v is)

pub stack_popped : (n : ℕ) (f : Values) → 0 < f n → stack_in n f ≡ f (n + f n) ∷ stack_in n (put n (f n - 1) f)
stack_popped n f some =
    let more : f n ≡ f n - 1 + 1 = omega (arith, some) in
    let place : n + 1 + (f n - 1) ≡ n + f n = omega (arith, some) in
    ap (λ m. reverse (map f (range_with_len (n + 1) m))) more
    ∙ row_more f (n + 1) (f n - 1) (n + f n) place
    ∙ ap (λ l. f (n + f n) ∷ l) (sym (stack_counted n f (f n - 1)))

-- ---- new cells

at_end : (xs : List ℕ) (j : ℕ) → slice_index_or (xs ++ 0 ∷ []) j 0 ≡ slice_index_or xs j 0
at_end [] zero = refl
at_end [] (suc j) = refl
at_end (x ∷ xs) zero = refl
at_end (x ∷ xs) (suc j) = at_end xs j

pub one_more_cell : (xs : List ℕ) → values_of (xs ++ 0 ∷ []) ≡ values_of xs
one_more_cell xs = fun_ext (at_end xs)

pub first_count : (n : ℕ) → values_of (replicate n usize_max ++ 0 ∷ []) n ≡ 0
first_count n =
    ap (λ k. slice_index_or (replicate n usize_max ++ 0 ∷ []) k 0) (sym (length-replicate n usize_max)) ∙ get_or-append_seam (replicate n usize_max) 0 [] 0

pub first_slots : (n : ℕ) → slots_in n (values_of (replicate n usize_max ++ 0 ∷ [])) ≡ replicate n usize_max
first_slots n =
    slots_of_take (replicate n usize_max ++ 0 ∷ []) n (omega (arith, length-append (replicate n usize_max) (0 ∷ []), length-replicate n usize_max))
    ∙ ap (λ k. take k (replicate n usize_max ++ 0 ∷ [])) (sym (length-replicate n usize_max)) ∙ take-append_seam (replicate n usize_max) (0 ∷ [])

pub first_stack : (n : ℕ) → stack_in n (values_of (replicate n usize_max ++ 0 ∷ [])) ≡ []
first_stack n = ap (λ k. reverse (map (values_of (replicate n usize_max ++ 0 ∷ [])) (range_with_len (n + 1) k))) (first_count n)
