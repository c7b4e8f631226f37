-- The cases of the call that copies a program.
use Rattle.std.proofs.Common.{◌≡◌, Option, Some, None, sym, ap, ◌∙◌, subst}
use Rattle.fancy_host.specs.declared.outcome.FancyOutcome.{FancyOutcome}
use Rattle.fancy_host.specs.declared.searches.Searcher.{Searcher}
use Rattle.fancy_host.specs.Codes.{memory, no_program}
use Rattle.fancy_host.specs.Hosted.{Clones, coded, compiled, groups, holds_nothing, holds_the_same, lacks_memory, tree_in, tree_of}

module _ (held copy : Option Searcher) (outcome : FancyOutcome) where
  pub copied_nothing : held ≡ None → copy ≡ None → outcome ≡ coded no_program → Clones (tree_of held) (tree_of copy) outcome
  copied_nothing nothing freed is =
      subst (λ m. Clones (tree_of m) (tree_of copy) outcome) (sym nothing)
      (subst (λ m. Clones None (tree_of m) outcome) (sym freed) (subst (Clones None None) (sym is) holds_nothing))

  pub not_copied : (s : Searcher) → held ≡ Some s → copy ≡ None → outcome ≡ coded memory → Clones (tree_of held) (tree_of copy) outcome
  not_copied s there freed is =
      subst (λ m. Clones (tree_of m) (tree_of copy) outcome) (sym there)
      (subst (λ m. Clones (Some (tree_in s)) (tree_of m) outcome) (sym freed) (subst (Clones (Some (tree_in s)) None) (sym is) lacks_memory))

  pub copied_so : (s taken made : Searcher) → held ≡ Some s → taken ≡ s → copy ≡ Some made → tree_in made ≡ tree_in taken →
      outcome ≡ compiled (groups (tree_in made)) → Clones (tree_of held) (tree_of copy) outcome
  copied_so s taken made there is holds same says =
      subst (λ m. Clones (tree_of m) (tree_of copy) outcome) (sym there)
      (subst (λ m. Clones (Some (tree_in s)) (tree_of m) outcome) (sym holds)
      (subst (λ t. Clones (Some t) (Some (tree_in made)) outcome) (same ∙ ap tree_in is)
      (subst (Clones (Some (tree_in made)) (Some (tree_in made))) (sym says) holds_the_same)))
