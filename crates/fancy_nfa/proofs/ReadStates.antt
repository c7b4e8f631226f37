-- The classes of an NFA's states are read by its option.
use Rattle.std.proofs.Common.{◌≡◌, ℕ, zero, suc, Bool, List, [], ◌∷◌, slice_get, Some, ap, subst}
use Rattle.std.proofs.Math.Bool.{Bool-set}
use Rattle.std.proofs.Math.Logic.{∥∥₁_elim, ∥∥₁_map}
use Rattle.fancy_characters.specs.declared.classes.CharClassMatcher.{CharClassMatcher}
use Rattle.fancy_characters.specs.declared.classes.CharClassMatcher.TheVariants as matcher
use Rattle.fancy_characters.specs.Classes.{class_of}
use Rattle.fancy_meaning.specs.Instr.{Codepoint}
use Rattle.fancy_expr.specs.Each.{Each}
use Rattle.fancy_nfa.specs.declared.nfa_state.CharTest.TheVariants as test
use Rattle.fancy_nfa.specs.declared.nfa_state.NfaState.{NfaState}
use Rattle.fancy_nfa.specs.declared.nfa_state.NfaState.TheVariants as code
use Rattle.fancy_nfa.specs.declared.nfa.Nfa.{Nfa}
use Rattle.fancy_nfa.specs.Views.{IsStateReadBy}
use Rattle.fancy_nfa.specs.Ways.{IsOfNodes}

pub read_at : {X : Type 0} (P : X → Type 0) (l : List X) (i : ℕ) (x : X) → Each P l → slice_get l i ≡ Some x → P x
read_at P [] i x h at = cc
read_at P (y ∷ l) zero x h at = let same : y ≡ x = cc in subst P same h.0
read_at P (y ∷ l) (suc i) x h at = read_at P l i x h.1 at

-- what is read can be told from the class
known_class : (unicode : Bool) (m : CharClassMatcher) →
    ∥ ((inner : List ℕ) × ((casei : Bool) × (class_of m ≡ Codepoint inner casei unicode))) ∥₁ →
    (inner : List ℕ) × ((casei : Bool) × (class_of m ≡ Codepoint inner casei unicode))
known_class unicode (matcher.Codepoint class) h =
    let same : class.unicode ≡ unicode = ∥∥₁_elim h (Bool-set _ _) (λ r. let e = r.1.1 in cc) in
    (class.inner, (class.casei, ap (Codepoint class.inner class.casei) same))
known_class unicode (matcher.Newline u) h = absurd (∥∥₁_elim h (λ x y. elim x [ ]) (λ r. let e = r.1.1 in cc))

known_read : (unicode : Bool) (p : NfaState) → ∥ IsStateReadBy unicode p ∥₁ → IsStateReadBy unicode p
known_read unicode (code.Character (test.Class class)) h = known_class unicode class.value h
known_read unicode (code.Character (test.Any newline crlf)) h = tt
known_read unicode (code.Character (test.One c casei)) h = tt
known_read unicode code.Match h = tt
known_read unicode p h = tt

pub states_read : (f : Nfa) → ∥ IsOfNodes f ∥₁ → (i : ℕ) (p : NfaState) → slice_get f.states.items i ≡ Some p → IsStateReadBy f.unicode p
states_read f h i p at = known_read f.unicode p (∥∥₁_map h (λ t. read_at (IsStateReadBy f.unicode) f.states.items i p t.1.1.reads at))
