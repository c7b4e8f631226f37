-- Two pairs are the same exactly if their numbers are.
use Rattle.std.proofs.Common.{◌≡◌, ℕ, Bool, true, false, ◌&&◌, not, if◌then◌else◌, List, [], ◌∷◌, ◌==◌, refl, sym, ap, ◌∙◌}
use Rattle.std.proofs.Math.Bool.{and_assoc}
use Rattle.std.proofs.lemmas.Bool.{false_from_ne_true, true≢false}
use lib.Pointwise.{pointwise, bytes_decides}
use Rattle.fancy_nfa_laws.specs.NfaSearch.{Pair, same_counter, same_pair}
use Rattle.fancy_backtrack.specs.PairKeys.{same_numbers, stayed_number, counter_numbers, key_of}

-- the number of a test is the same exactly if the test is
same_test : (a b rest : Bool) → (stayed_number a == stayed_number b && rest) ≡ ((if a then b else not b) && rest)
same_test true true rest = refl
same_test true false rest = refl
same_test false true rest = refl
same_test false false rest = refl

same_counters : (ts us : List (ℕ × Bool)) → same_numbers (counter_numbers ts) (counter_numbers us) ≡ pointwise same_counter ts us
same_counters [] [] = refl
same_counters [] (u ∷ us) = refl
same_counters (t ∷ ts) [] = refl
same_counters (t ∷ ts) (u ∷ us) =
    ap (λ rest. t.0 == u.0 && (stayed_number t.1 == stayed_number u.1 && rest)) (same_counters ts us)
    ∙ ap (λ rest. t.0 == u.0 && rest) (same_test t.1 u.1 (pointwise same_counter ts us))
    ∙ sym (and_assoc (t.0 == u.0) (if t.1 then u.1 else not u.1) (pointwise same_counter ts us))

pub same_keys : (p r : Pair) → same_numbers (key_of p) (key_of r) ≡ same_pair p r
same_keys p r =
    ap (λ rest. p.at == r.at && (p.place == r.place && rest)) (same_counters p.counters r.counters)
    ∙ sym (and_assoc (p.at == r.at) (p.place == r.place) (pointwise same_counter p.counters r.counters))

turned : (k m : List ℕ) → same_numbers k m ≡ same_numbers m k
turned k m = go (same_numbers k m) refl
  where
    go : (b : Bool) → same_numbers k m ≡ b → b ≡ same_numbers m k
    go true h = sym ((bytes_decides m k).1 (sym ((bytes_decides k m).0 h)))
    go false h =
        sym (false_from_ne_true (same_numbers m k) (λ e. true≢false (sym ((bytes_decides k m).1 (sym ((bytes_decides m k).0 e))) ∙ h)))

-- the key that is looked for first, and the pair that was memoized first
pub same_keys_turned : (p r : Pair) → same_numbers (key_of r) (key_of p) ≡ same_pair p r
same_keys_turned p r = turned (key_of r) (key_of p) ∙ same_keys p r
