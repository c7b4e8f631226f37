-- Lemmas on calls that are made before anything is taken.
use Rattle.std.proofs.Common.{◌≡◌, ℕ, Bool, true, false, ◌&&◌, List, ap, subst, arith, ◌⊎◌, inl, inr}
use Rattle.std.specs.Prelude.{◌==◌, Contains}
use Rattle.std.specs.List.{list_any}
use Rattle.std.proofs.lemmas.List.Folds.{list_any-from_Any}
use Rattle.fancy_meaning.specs.Tree.{Tree}
use Rattle.fancy_meaning.specs.WellFormed.{is_call}
use Rattle.fancy_meaning.specs.Spots.{Spot, all_spots}
use Rattle.fancy_meaning.specs.Recursion.{Calls, LeadsAtOnce, once, again, IsLeftRecursive}

-- a test that an element passes is passed in the list
pub passed : {X : Type 0} (test : X → Bool) (xs : List X) (x : X) → Contains xs x → test x ≡ true → list_any test xs ≡ true
passed test xs x (k, l, e) t = list_any-from_Any test xs (k, x, l, e, t)

abbrev pub calls_from : ℕ → ℕ → Spot → Bool
calls_from g at s = is_call s.node && (s.owner == g) && (s.position == at)

passes : (s : Spot) (g at : ℕ) → is_call s.node ≡ true → s.owner ≡ g → s.position ≡ at → calls_from g at s ≡ true
passes s g at c o p = grind (arith, c, o, p)

-- nothing is called from there
pub calls_nothing : (whole : Tree) (g at : ℕ) → list_any (calls_from g at) (all_spots whole) ≡ false → {h : ℕ} → ¬ Calls whole g at h
calls_nothing whole g at none c =
    let t = passed (calls_from g at) (all_spots whole) c.spot c.is_there (passes c.spot g at (ap is_call c.is_call) c.owner c.position) in
    cc (t, none)

-- the first of such calls
pub leaves : {whole : Tree} {g h : ℕ} → LeadsAtOnce whole g h → (k : ℕ) × Calls whole g 0 k
leaves (once c) = (_, c)
leaves (again a b) = leaves a

-- from where nothing is called at once, nothing leads into a cycle
pub leads_nowhere : (whole : Tree) (g : ℕ) → list_any (calls_from g 0) (all_spots whole) ≡ false → ¬ IsLeftRecursive whole g
leads_nowhere whole g none r = go r.leads r.cycle
  where
    go : {c : ℕ} → (c ≡ g) ⊎ LeadsAtOnce whole g c → LeadsAtOnce whole c c → ⊥
    go (inl e) l = calls_nothing whole g 0 none (subst (λ x. Calls whole x 0 (leaves l).0) e (leaves l).1)
    go (inr m) l = calls_nothing whole g 0 none (leaves m).1
