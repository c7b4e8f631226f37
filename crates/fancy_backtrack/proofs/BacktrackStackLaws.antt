-- The last of the choices on a path, and those before it.
use Rattle.std.proofs.Common.{◌≡◌, ◌≤◌, ◌<◌, ◌++◌, ◌∷◌, [], ℕ, zero, suc, List, ◌-◌, flat_map, length, min, take, reverse, slice_get, slice_index_or, slice_set, Contains, IfSome, Option, Some, None, refl, sym, ap, subst, ◌∙◌, append-nil, arith}
use Rattle.std.proofs.lemmas.Grind.{flat_map-append}
use Rattle.std.proofs.lemmas.List.Elements.{Contains-append_left, Contains-append_right}
use Rattle.std.proofs.lemmas.Option.{none-some}
use Rattle.std.proofs.lemmas.List.{length-set, reverse-append, take_min}
use Rattle.fancy_backtrack.specs.BacktrackStack.{choices_in, one_before, run_choices}
use Rattle.fancy_backtrack.specs.declared.backtrack_stack.StackFrame.{StackFrame}
use Rattle.fancy_backtrack.specs.declared.backtrack_stack.Run.{Run}

-- the choices of these runs, the last one first
abbrev pub one_by_one : List Run → List StackFrame
one_by_one runs = flat_map choices_in (reverse runs)

pub one_by_one-last : (runs : List Run) (r : Run) → one_by_one (runs ++ (r ∷ [])) ≡ choices_in r ++ one_by_one runs
one_by_one-last runs r = ap (flat_map choices_in) (reverse-append runs (r ∷ []))

-- one item more than n
one_further : {A : Type 0} (xs : List A) (n : ℕ) (x : A) → n < length xs → x ≡ slice_index_or xs n x → take (suc n) xs ≡ take n xs ++ (x ∷ [])
one_further [] n x within at = absurd (omega (arith, within))
one_further (y ∷ ys) zero x within at = ap (λ z. z ∷ []) (sym at)
one_further (y ∷ ys) (suc n) x within at = ap (λ l. y ∷ l) (one_further ys n x (omega (arith, within)) at)

-- and where the item is written there
one_written : {A : Type 0} (xs : List A) (n : ℕ) (x : A) → n < length xs → take (suc n) (slice_set xs n x) ≡ take n xs ++ (x ∷ [])
one_written [] n x within = absurd (omega (arith, within))
one_written (y ∷ ys) zero x within = refl
one_written (y ∷ ys) (suc n) x within = ap (λ l. y ∷ l) (one_written ys n x (omega (arith, within)))

-- all runs but the last one
up_to_last : (runs : List Run) (len n : ℕ) (r : Run) → min len (length runs) ≡ suc n → r ≡ slice_index_or runs n r →
    one_by_one (take len runs) ≡ choices_in r ++ one_by_one (take n runs)
up_to_last runs len n r long at =
    ap one_by_one (sym (take_min len runs) ∙ ap (λ k. take k runs) long ∙ one_further runs n r (omega (arith, long)) at)
    ∙ one_by_one-last (take n runs) r

-- the last choice of a run that has more is taken off it
pub one_taken : (runs : List Run) (len n : ℕ) (r : Run) (next : StackFrame) → min len (length runs) ≡ suc n → r ≡ slice_index_or runs n r →
    ¬ (r.before ≡ 0) → next ≡ one_before r.choice →
    one_by_one (take len runs) ≡ r.choice ∷ one_by_one (take len (slice_set runs n (record { choice = next; before = r.before - 1 })))
one_taken runs len n r next long at some e =
    up_to_last runs len n r long at
    ∙ ap (λ cs. cs ++ one_by_one (take n runs)) (run_taken r.before r.choice some)
    ∙ ap (λ c. r.choice ∷ run_choices (r.before - 1) c ++ one_by_one (take n runs)) (sym e)
    ∙ sym (ap (λ cs. r.choice ∷ cs) rest)
  where
    less : Run
    less = record { choice = next; before = r.before - 1 }

    run_taken : (before : ℕ) (c : StackFrame) → ¬ (before ≡ 0) → run_choices before c ≡ c ∷ run_choices (before - 1) (one_before c)
    run_taken zero c some = absurd (some refl)
    run_taken (suc k) c some = ap (λ m. c ∷ run_choices m (one_before c)) (omega arith)

    rest : one_by_one (take len (slice_set runs n less)) ≡ choices_in less ++ one_by_one (take n runs)
    rest =
        let same : min len (length (slice_set runs n less)) ≡ suc n = ap (min len) (length-set runs n less) ∙ long in
        ap one_by_one (sym (take_min len (slice_set runs n less)) ∙ ap (λ k. take k (slice_set runs n less)) same
        ∙ one_written runs n less (omega (arith, long)))
        ∙ one_by_one-last (take n runs) less

-- a run that has no more goes
pub run_taken : (runs : List Run) (len n : ℕ) (r : Run) → min len (length runs) ≡ suc n → r ≡ slice_index_or runs n r → r.before ≡ 0 →
    one_by_one (take len runs) ≡ r.choice ∷ one_by_one (take n runs)
run_taken runs len n r long at none =
    up_to_last runs len n r long at ∙ ap (λ k. run_choices k r.choice ++ one_by_one (take n runs)) none
