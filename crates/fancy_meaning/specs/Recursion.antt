-- Where calls lead: what is reached, what calls itself before it takes anything, and what can end.
use Rattle.std.specs.Prelude.{◌≡◌, ◌≢◌, ℕ, ◌<◌, ◌⊎◌, false, Contains, Some, None}
use Rattle.fancy_meaning.specs.Tree.{Tree, Trees, none, more, parts, Alt, Group, Repeat, Conditional, SubroutineCall}
use Rattle.fancy_meaning.specs.Nodes.{target}
use Rattle.fancy_meaning.specs.Spots.{Spot, all_spots}

-- A call is tracked unless it belongs to no group and stands under a `{0}`.
pub record IsTracked (s : Spot) : Type 0 where
  pub in_group_or_entered : (s.owner ≢ 0) ⊎ (s.is_skipped ≡ false)

-- from one target a tracked call at a position leads to another
pub record Calls (whole : Tree) (from at to : ℕ) : Type 0 where
  pub spot : Spot
  pub is_there : Contains (all_spots whole) spot
  pub is_tracked : IsTracked spot
  pub is_call : spot.node ≡ SubroutineCall to
  pub owner : spot.owner ≡ from
  pub position : spot.position ≡ at

-- a group that stands in no other but in group 0, and under no `{0}`
pub record IsOuter (whole : Tree) (g : ℕ) : Type 0 where
  pub spot : Spot
  pub is_there : Contains (all_spots whole) spot
  pub body : Tree
  pub is_group : spot.node ≡ Group g body
  pub owner : spot.owner ≡ 0
  pub is_entered : spot.is_skipped ≡ false

-- what can be reached
pub data IsReachable (whole : Tree) : ℕ → Type 0 where
  the_whole : IsReachable whole 0
  outer : {g : ℕ} → IsOuter whole g → IsReachable whole g
  by_call : {g h at : ℕ} → IsReachable whole g → Calls whole g at h → IsReachable whole h

-- one call or more, each before anything is taken, lead from one target to another
pub data LeadsAtOnce (whole : Tree) : ℕ → ℕ → Type 0 where
  once : {g h : ℕ} → Calls whole g 0 h → LeadsAtOnce whole g h
  again : {g h k : ℕ} → LeadsAtOnce whole g h → LeadsAtOnce whole h k → LeadsAtOnce whole g k

-- such calls lead from a reachable target into a cycle, on which it may stand itself
pub record IsLeftRecursive (whole : Tree) (n : ℕ) : Type 0 where
  pub is_reachable : IsReachable whole n
  pub on_cycle : ℕ
  pub leads : (on_cycle ≡ n) ⊎ LeadsAtOnce whole n on_cycle
  pub cycle : LeadsAtOnce whole on_cycle on_cycle

-- the least such target
pub record IsLeastLeftRecursive (whole : Tree) (n : ℕ) : Type 0 where
  pub is_one : IsLeftRecursive whole n
  pub least : (m : ℕ) → m < n → ¬ IsLeftRecursive whole m

-- a node that ends where all its children do: every one but these
abbrev pub EndsWithParts : Tree → Type 0
EndsWithParts (Alt es) = ⊥
EndsWithParts (Repeat lo hi greedy e) = ⊥
EndsWithParts (Conditional c t f) = ⊥
EndsWithParts (SubroutineCall g) = ⊥
EndsWithParts e = Unit {0}

-- the parts that can end: the least set that obeys these rules
mutual
  pub data CanEnd (whole : Tree) : Tree → Type 0 where
    ends_with_parts : {e : Tree} → EndsWithParts e → AllEnd whole (parts e) → CanEnd whole e
    one_ends : {es : Trees} → SomeEnds whole es → CanEnd whole (Alt es)
    not_required : {hi : _} {greedy : _} {e : Tree} → CanEnd whole (Repeat 0 hi greedy e)
    body_ends : {lo : ℕ} {hi : _} {greedy : _} {e : Tree} → CanEnd whole e → CanEnd whole (Repeat lo hi greedy e)
    false_branch_ends : {c t f : Tree} → CanEnd whole f → CanEnd whole (Conditional c t f)
    true_branch_ends : {c t f : Tree} → CanEnd whole c → CanEnd whole t → CanEnd whole (Conditional c t f)
    target_ends : {g : ℕ} {e : Tree} → target whole g ≡ Some e → CanEnd whole e → CanEnd whole (SubroutineCall g)
    no_target : {g : ℕ} → target whole g ≡ None → CanEnd whole (SubroutineCall g)

  pub data AllEnd (whole : Tree) : Trees → Type 0 where
    none_left : AllEnd whole none
    and_more : {e : Tree} {es : Trees} → CanEnd whole e → AllEnd whole es → AllEnd whole (more e es)

  pub data SomeEnds (whole : Tree) : Trees → Type 0 where
    this_one : {e : Tree} {es : Trees} → CanEnd whole e → SomeEnds whole (more e es)
    a_later : {e : Tree} {es : Trees} → SomeEnds whole es → SomeEnds whole (more e es)
