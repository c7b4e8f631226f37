-- The same for calls, where every node of the whole tree is allowed.
use Rattle.std.proofs.Common.{◌≡◌, ℕ, zero, suc, true, false, if◌then◌else◌, Option, Some, None, refl, subst}
use Rattle.std.specs.Prelude.{nat_lt}
use Rattle.fancy_meaning.specs.Tree.{Tree, Group}
use Rattle.fancy_meaning.specs.Nodes.{nodes, target}
use Rattle.fancy_meaning.specs.OpenCalls.{Depths, opened, call_depth, free_calls}
use Rattle.fancy_meaning.specs.MatchState.{Ways, fails}
use Rattle.fancy_meaning.specs.Ways.{Setting, ways_with, ways_of_target, called, ways}
use Rattle.fancy_delegation.proofs.Items.{IsIn, later}
use Rattle.fancy_delegation.proofs.Nodes.{node_itself, node_below, target_is_body, target_is_whole}
use Rattle.fancy_delegation.proofs.Everywhere.{Everywhere, everywhere_from}
use Rattle.fancy_delegation.proofs.Related.{RelatesWays, ways_related}

module _ (q : Setting) (whole : Tree) (Allowed : Tree → Type 0) (Related : Ways → Ways → Type 0)
    (law : RelatesWays q Allowed Related) (all : (e : Tree) → IsIn e (nodes whole) → Allowed e) where
  -- what stands below a node of the tree
  pub allowed_below : (e : Tree) → IsIn e (nodes whole) → Everywhere Allowed e
  allowed_below e i = everywhere_from Allowed e (λ d j. all d (node_below whole j i))

  -- the body of a call
  target_related : (g : ℕ) (call : ℕ → Ways) (o : Option Tree) → target whole g ≡ o →
      ((h : ℕ) → Related (λ s. call h s) (λ s. call h s)) →
      Related (λ s. ways_of_target q whole g call o s) (λ s. ways_of_target q whole g call o s)
  target_related g call None e calls = law.fail
  target_related zero call (Some b) e calls =
      ways_related q Allowed Related law call call (λ h ok. calls h) b
      (allowed_below b (subst (λ x. IsIn x (nodes whole)) (target_is_whole whole b e) (node_itself whole)))
  target_related (suc g) call (Some b) e calls =
      let i = target_is_body whole g b e in
      law.group (suc g) b (ways_with q call b) (ways_with q call b) (all (Group (suc g) b) i)
      (ways_related q Allowed Related law call call (λ h ok. calls h) b (allowed_below b (node_below whole (later (node_itself b)) i)))

  called_related : (n : ℕ) (depths : Depths) (g : ℕ) → Related (λ s. called q whole n depths g s) (λ s. called q whole n depths g s)
  called_related zero depths g = law.fail
  called_related (suc n) depths g =
      let ih = target_related g (called q whole n (opened g depths)) (target whole g) refl (called_related n (opened g depths)) in
      elim (nat_lt (depths g) call_depth) as (λ v. let f : Ways =
      if v then ways_of_target q whole g (called q whole n (opened g depths)) (target whole g) else fails in
      Related (λ s. f s) (λ s. f s)) [ true ↦ ih | false ↦ law.fail ]

  -- the ways of a part of the tree
  pub all_ways_related : (e : Tree) (depths : Depths) → IsIn e (nodes whole) → Related (ways q whole e depths) (ways q whole e depths)
  all_ways_related e depths i =
      let call = called q whole (free_calls whole depths) depths in
      ways_related q Allowed Related law call call (λ g ok. called_related (free_calls whole depths) depths g) e (allowed_below e i)
