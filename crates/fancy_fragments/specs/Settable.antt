-- The greatest group that a way of some nodes can set, by the nodes below each.
use Rattle.std.specs.Prelude.{ℕ, suc, max, Bool, true, false, List, [], ◌∷◌, flat_map}
use Rattle.fancy_meaning.specs.Tree.{Tree, Concat, Alt, Group, LookAround, Repeat, AtomicGroup, Conditional}
use Rattle.fancy_meaning.specs.Fits.{is_entered, is_positive, settable_groups}

-- one more than the greatest of these numbers, and 0 of none
abbrev pub above : List ℕ → ℕ
above [] = 0
above (g ∷ gs) = max (suc g) (above gs)

abbrev pub settable_above : List Tree → ℕ
settable_above es = above (flat_map settable_groups es)

-- a way of the node can set what ways of its children can
abbrev pub is_way_in : Tree → Bool
is_way_in (Concat es) = true
is_way_in (Alt es) = true
is_way_in (Group g e) = true
is_way_in (LookAround look e) = is_positive look
is_way_in (Repeat lo hi greedy e) = is_entered lo hi
is_way_in (AtomicGroup e) = true
is_way_in (Conditional c t f) = true
is_way_in e = false

-- one more than the number of the node itself, if it is a group
abbrev pub own_above : Tree → ℕ
own_above (Group g e) = suc g
own_above e = 0
