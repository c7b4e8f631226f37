-- The name of a group is looked for from one name to the next.
use Rattle.std.proofs.Common.{◌≡◌, ◌==◌, ℕ, true, false, List, ◌∷◌, if◌then◌else◌, string_bytes, String, Vec, Global, ap, ◌∙◌}
use Rattle.std.specs.List.{list_any}
use Rattle.fancy_analysis.specs.Names.{names_of}
use Rattle.fancy_host.specs.Names.{name_in}

abbrev Named : Type 0
Named = String Global × Vec ℕ Global

-- what is still to be looked at has the name that all have
abbrev pub IsLeft : ℕ → List Named → List Named → Type 0
IsLeft g all rest = name_in (names_of rest) g ≡ name_in (names_of all) g

pub named_here : (g : ℕ) (all : List Named) (x : Named) (rest : List Named) → true ≡ list_any (λ n. n == g) x.1.items → IsLeft g all (x ∷ rest) →
    (text : List ℕ) → text ≡ string_bytes x.0 → text ≡ name_in (names_of all) g
named_here g all x rest has left text e = e ∙ ap (λ b. if b then string_bytes x.0 else name_in (names_of rest) g) has ∙ left

pub named_later : (g : ℕ) (all : List Named) (x : Named) (rest : List Named) → false ≡ list_any (λ n. n == g) x.1.items → IsLeft g all (x ∷ rest) →
    IsLeft g all rest
named_later g all x rest has left = ap (λ b. if b then string_bytes x.0 else name_in (names_of rest) g) has ∙ left
