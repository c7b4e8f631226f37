-- A delegate by its parts.
use Rattle.std.proofs.Common.{◌≡◌, ℕ, List, Option, ap, ap₂, ◌∙◌}
use Rattle.fancy_meaning.specs.Instr as plain

pub parts_are : {p q : List ℕ} {f g : plain.Fragment} {r s : Option (ℕ × ℕ)} → p ≡ q → f ≡ g → r ≡ s →
    plain.Instr.Delegate p f r ≡ plain.Instr.Delegate q g s
parts_are {p} {q} {f} {g} {r} {s} same_text same_fragment same_range =
    ap₂ (λ x y. plain.Instr.Delegate x y r) same_text same_fragment ∙ ap (plain.Instr.Delegate q g) same_range
