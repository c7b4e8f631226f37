-- What cells held before they were changed.
use Rattle.std.proofs.Common.{◌≡◌, ℕ, zero, suc, ◌<◌, ◌≤◌, List, [], ◌∷◌, ◌++◌, length, take, drop, slice_set, slice_index_or, if◌then◌else◌, ◌==◌, Bool, true, false, refl, sym, ap, ◌∙◌, arith, ⊎_elim, subst, eq-eqb, drop-cons, true≢false}
use Rattle.std.proofs.Math.Path.{fun_ext}
use Rattle.std.proofs.lemmas.List.{drop-append-le, get_or-set_same, get_or-set_other}
use Rattle.std.proofs.lemmas.Bool.{cond-true}
use Rattle.std.proofs.lemmas.Bool.Decides.{eqb_tells}
use Rattle.fancy_meaning.specs.MatchState.{put}
use Rattle.fancy_state.specs.OldValues.{Values, values_of, old_at, AreInside, IsSettled, Agrees}
use Rattle.fancy_state.specs.declared.old_values.Old.{Old}

pub same_of : (a b : ℕ) → (a == b) ≡ true → a ≡ b
same_of a b is = ⊎_elim (λ h. h.1) (λ h. absurd (true≢false (sym is ∙ h.0))) (eqb_tells a b)

pub set_put : (xs : List ℕ) (i v : ℕ) → i < length xs → values_of (slice_set xs i v) ≡ put i v (values_of xs)
set_put xs i v inside =
    fun_ext (λ j.
    ⊎_elim
    (λ h. rw (h.0, h.1) (get_or-set_same xs i v 0 inside))
    (λ h. rw h.0 (get_or-set_other xs i j v 0 h.1))
    (eqb_tells j i))

pub read_now : (xs : List ℕ) (i v : ℕ) → i < length xs → v ≡ slice_index_or xs i v → v ≡ values_of xs i
read_now [] i v inside is = absurd (omega (arith, inside))
read_now (x ∷ xs) zero v inside is = is
read_now (x ∷ xs) (suc i) v inside is = read_now xs i v (omega (arith, inside)) is

pub old_append : (us vs : List Old) (j now : ℕ) → old_at (us ++ vs) j now ≡ old_at us j (old_at vs j now)
old_append [] vs j now = refl
old_append (u ∷ us) vs j now = ap (λ y. if j == u.cell then u.value else y) (old_append us vs j now)

-- ---- settled cells

settled_on : (u : Old) (us : List Old) (j : ℕ) → IsSettled us j → IsSettled (u ∷ us) j
settled_on u us j settled a b = ap (λ y. if j == u.cell then u.value else y) (settled a b)

pub settled_at : (us : List Old) (k : ℕ) (d : Old) (j : ℕ) → k < length us → (slice_index_or us k d).cell ≡ j → IsSettled (drop k us) j
settled_at us k d j inside same =
    let u = slice_index_or us k d in
    let here : (j == u.cell) ≡ true = eq-eqb j u.cell (sym same) in
    let first : IsSettled (u ∷ drop (suc k) us) j =
    λ a b. cond-true (j == u.cell) u.value (old_at (drop (suc k) us) j a) here ∙ sym (cond-true (j == u.cell) u.value (old_at (drop (suc k) us) j b) here) in
    subst (λ (l : List Old). IsSettled l j) (sym (drop-cons us k d inside)) first

pub settled_drop : (us : List Old) (m k j : ℕ) → m ≤ k → IsSettled (drop k us) j → IsSettled (drop m us) j
settled_drop us zero zero j le settled = settled
settled_drop [] zero (suc k) j le settled = settled
settled_drop (u ∷ us) zero (suc k) j le settled = settled_on u us j (settled_drop us zero k j (omega arith) settled)
settled_drop us (suc m) zero j le settled = absurd (omega (arith, le))
settled_drop [] (suc m) (suc k) j le settled = settled
settled_drop (u ∷ us) (suc m) (suc k) j le settled = settled_drop us m k j (omega (arith, le)) settled

choice : (us : List Old) (j : ℕ) (b : Bool) (v now : ℕ) → (b ≡ true → IsSettled us j) → old_at us j (if b then v else now) ≡ old_at us j now
choice us j true v now settled = settled refl v now
choice us j false v now settled = refl

-- a change of a settled cell
put_settled : (us : List Old) (cell v : ℕ) (f : Values) (j : ℕ) → IsSettled us cell → old_at us j (f j) ≡ old_at us j (put cell v f j)
put_settled us cell v f j settled =
    sym (choice us j (j == cell) v (f j) (λ h. subst (IsSettled us) (sym (same_of j cell h)) settled))

-- an old value of a settled cell can be left out
pub left_out : (us vs : List Old) (e : Old) (j now : ℕ) → IsSettled us e.cell → old_at (us ++ e ∷ vs) j now ≡ old_at (us ++ vs) j now
left_out us vs e j now settled =
    old_append us (e ∷ vs) j now
    ∙ choice us j (j == e.cell) e.value (old_at vs j now) (λ h. subst (IsSettled us) (sym (same_of j e.cell h)) settled)
    ∙ sym (old_append us vs j now)

-- ---- what agrees

pub agrees_still : (log : List Old) (f : Values) (mark cell v : ℕ) → IsSettled (drop mark log) cell → Agrees mark log f log (put cell v f)
agrees_still log f mark cell v settled m le =
    fun_ext (λ j. put_settled (drop m log) cell v f j (settled_drop log m mark cell le settled))

back_now : (e : Old) (v now j : ℕ) → (j ≡ e.cell → e.value ≡ now) → now ≡ old_at (e ∷ []) j (if j == e.cell then v else now)
back_now e v now j is =
    ⊎_elim
    (λ h. sym (rw h.0 (is h.1)))
    (λ h. rw h.0 refl)
    (eqb_tells j e.cell)

-- one more change is logged
pub agrees_logged : (log : List Old) (f : Values) (top : ℕ) (e : Old) (v : ℕ) → top ≤ length log → e.value ≡ f e.cell → Agrees top log f (log ++ e ∷ []) (put e.cell v f)
agrees_logged log f top e v inside is m le =
    fun_ext (λ j.
    ap (old_at (drop m log) j) (back_now e v (f j) j (λ h. is ∙ ap f (sym h)))
    ∙ sym (old_append (drop m log) (e ∷ []) j (put e.cell v f j))
    ∙ ap (λ us. old_at us j (put e.cell v f j)) (sym (drop-append-le m log (e ∷ []) (omega (arith, le, inside)))))

-- the last change is taken back
pub agrees_back : (log : List Old) (f : Values) (top : ℕ) (e : Old) → top ≤ length log → Agrees top (log ++ e ∷ []) f log (put e.cell e.value f)
agrees_back log f top e inside m le =
    fun_ext (λ j.
    ap (λ us. old_at us j (f j)) (drop-append-le m log (e ∷ []) (omega (arith, le, inside)))
    ∙ old_append (drop m log) (e ∷ []) j (f j))

pub agrees_on : (top : ℕ) (a b d : List Old) (f g h : Values) → Agrees top a f b g → Agrees top b g d h → Agrees top a f d h
agrees_on top a b d f g h one two m le = one m le ∙ two m le

-- ---- which cells were changed

pub inside_more : (us : List Old) (r s : ℕ) → r ≤ s → AreInside r us → AreInside s us
inside_more [] r s le inside = tt
inside_more (u ∷ us) r s le inside = (omega (arith, le, inside.0), inside_more us r s le inside.1)

pub inside_append : (us vs : List Old) (r : ℕ) → AreInside r us → AreInside r vs → AreInside r (us ++ vs)
inside_append [] vs r a b = b
inside_append (u ∷ us) vs r a b = (a.0, inside_append us vs r a.1 b)

pub inside_front : (us vs : List Old) (r : ℕ) → AreInside r (us ++ vs) → AreInside r us
inside_front [] vs r inside = tt
inside_front (u ∷ us) vs r inside = (inside.0, inside_front us vs r inside.1)

pub inside_last : (us : List Old) (e : Old) (r : ℕ) → AreInside r (us ++ e ∷ []) → e.cell < r
inside_last [] e r inside = inside.0
inside_last (u ∷ us) e r inside = inside_last us e r inside.1

pub inside_at : (us : List Old) (r k : ℕ) (d : Old) → AreInside r us → k < length us → (slice_index_or us k d).cell < r
inside_at [] r k d inside less = absurd (omega (arith, less))
inside_at (u ∷ us) r zero d inside less = inside.0
inside_at (u ∷ us) r (suc k) d inside less = inside_at us r k d inside.1 (omega (arith, less))

pub inside_set : (us : List Old) (r k : ℕ) (e : Old) → AreInside r us → e.cell < r → AreInside r (slice_set us k e)
inside_set [] r k e inside less = tt
inside_set (u ∷ us) r zero e inside less = (less, inside.1)
inside_set (u ∷ us) r (suc k) e inside less = (inside.0, inside_set us r k e inside.1 less)

pub inside_take : (us : List Old) (r k : ℕ) → AreInside r us → AreInside r (take k us)
inside_take us r zero inside = tt
inside_take [] r (suc k) inside = tt
inside_take (u ∷ us) r (suc k) inside = (inside.0, inside_take us r k inside.1)

pub old_inside : (us : List Old) (r k : ℕ) (e : Old) → AreInside r us → k < length us → e ≡ slice_index_or us k e → e.cell < r
old_inside us r k e inside less is = subst (λ (x : Old). x.cell < r) (sym is) (inside_at us r k e inside less)
