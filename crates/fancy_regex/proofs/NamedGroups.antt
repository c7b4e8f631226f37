-- The name of a group is looked for from one name to the next.
use Rattle.std.proofs.Common.{◌≡◌, ◌==◌, ℕ, true, false, List, ◌∷◌, Some, if◌then◌else◌, string_bytes, String, Vec, Global, ap, ◌∙◌}
use Rattle.std.specs.List.{list_any}
use Rattle.fancy_analysis.specs.Names.{names_of}
use Rattle.fancy_regex.specs.Names.{name_of}

abbrev Named : Type 0
Named = String Global × Vec ℕ Global

-- what is still to be looked at has the name that all have
abbrev pub IsLeft : ℕ → List Named → List Named → Type 0
IsLeft g all rest = name_of (names_of rest) g ≡ name_of (names_of all) g

pub named_here : (g : ℕ) (all : List Named) (x : Named) (rest : List Named) → true ≡ list_any (λ n. n == g) x.1.items → IsLeft g all (x ∷ rest) →
    (text : List ℕ) → text ≡ string_bytes x.0 → Some text ≡ name_of (names_of all) g
named_here g all x rest has left text e =
    ap Some e ∙ ap (λ b. if b then Some (string_bytes x.0) else name_of (names_of rest) g) has ∙ left

pub named_later : (g : ℕ) (all : List Named) (x : Named) (rest : List Named) → false ≡ list_any (λ n. n == g) x.1.items → IsLeft g all (x ∷ rest) →
    IsLeft g all rest
named_later g all x rest has left = ap (λ b. if b then Some (string_bytes x.0) else name_of (names_of rest) g) has ∙ left
