-- Where each node stands: in which group, behind how much, and whether it can be entered.
use Rattle.std.specs.Prelude.{ℕ, zero, ◌+◌, Bool, false, ◌||◌, List, [], ◌∷◌, ◌++◌, Option, Some}
use Rattle.fancy_meaning.specs.Tree.{Tree, Trees, none, more, Concat, Alt, Group, LookAround, Repeat, AtomicGroup, DefineGroup, AbsentRepeater, AbsentStopper, AbsentExpression, Conditional}
use Rattle.fancy_meaning.specs.Sizes.{size, saturated}

-- a loop that is not entered, `{0}`
abbrev pub is_never : Option ℕ → Bool
is_never (Some zero) = Bool.true
is_never hi = false

pub record Spot : Type 0 where
  pub node : Tree
  -- the innermost group around it, or 0
  pub owner : ℕ
  -- the least that stands before it in its owner
  pub position : ℕ
  -- a `{0}` stands around it
  pub is_skipped : Bool

-- what stands around the next node
pub record Around : Type 0 where
  pub owner : ℕ
  pub position : ℕ
  pub is_skipped : Bool

abbrev pub spot : Around → Tree → Spot
spot a e = record { node = e; owner = a.owner; position = a.position; is_skipped = a.is_skipped }

module _ (whole : Tree) where
  -- past a node
  abbrev pub past : Tree → Around → Around
  past e a = record a { position = saturated (a.position + (size whole e).least) }

  -- at the start of a group, or of definitions
  abbrev pub in_group : ℕ → Around → Around
  in_group g a = record a { owner = g; position = 0 }

  abbrev pub in_loop : Option ℕ → Around → Around
  in_loop hi a = record a { is_skipped = a.is_skipped || is_never hi }

  -- every node below, in the order of `nodes`
  abbrev mutual
    pub spots : Around → Tree → List Spot
    spots a (Concat es) = spot a (Concat es) ∷ spots_in_turn a es
    spots a (Alt es) = spot a (Alt es) ∷ spots_of_each a es
    spots a (Group g e) = spot a (Group g e) ∷ spots (in_group g a) e
    spots a (LookAround look e) = spot a (LookAround look e) ∷ spots a e
    spots a (Repeat lo hi greedy e) = spot a (Repeat lo hi greedy e) ∷ spots (in_loop hi a) e
    spots a (AtomicGroup e) = spot a (AtomicGroup e) ∷ spots a e
    spots a (DefineGroup e) = spot a (DefineGroup e) ∷ spots (in_group a.owner a) e
    spots a (Conditional c t f) = spot a (Conditional c t f) ∷ (spots a c ++ (spots (past c a) t ++ spots a f))
    spots a (AbsentRepeater e) = spot a (AbsentRepeater e) ∷ spots a e
    spots a (AbsentStopper e) = spot a (AbsentStopper e) ∷ spots a e
    spots a (AbsentExpression x e) = spot a (AbsentExpression x e) ∷ (spots a x ++ spots a e)
    spots a e = spot a e ∷ []

    pub spots_in_turn : Around → Trees → List Spot
    spots_in_turn a none = []
    spots_in_turn a (more e es) = spots a e ++ spots_in_turn (past e a) es

    pub spots_of_each : Around → Trees → List Spot
    spots_of_each a none = []
    spots_of_each a (more e es) = spots a e ++ spots_of_each a es

  -- every node of the tree
  unfoldable pub all_spots : List Spot
  all_spots = spots (record { owner = 0; position = 0; is_skipped = false }) whole
