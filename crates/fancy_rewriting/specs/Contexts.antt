-- A tree with one part left out, and the tree with a part put there.
use Rattle.std.specs.Prelude.{ℕ, Bool, true, false, List, [], ◌∷◌, Option}
use Rattle.fancy_meaning.specs.Tree.{Tree, Trees, none, more, Concat, Alt, Group, LookAround, Repeat, AtomicGroup, DefineGroup, Conditional, AbsentRepeater, AbsentStopper, AbsentExpression, Look, LookBehind}

-- a node with one of its children left out
pub data Frame : Type 0 where
  InConcat InAlt : (before after : Trees) → Frame
  InGroup : (number : ℕ) → Frame
  InLookAround : Look → Frame
  InRepeat : (lo : ℕ) (hi : Option ℕ) (greedy : Bool) → Frame
  InAtomicGroup InDefineGroup : Frame
  InCondition : (true_branch false_branch : Tree) → Frame
  InTrueBranch : (condition false_branch : Tree) → Frame
  InFalseBranch : (condition true_branch : Tree) → Frame
  InAbsentRepeater InAbsentStopper : Frame
  InAbsent : (exp : Tree) → Frame
  InExpression : (absent : Tree) → Frame

-- these trees, and then those
abbrev pub followed_by : Trees → Trees → Trees
followed_by none after = after
followed_by (more e es) after = more e (followed_by es after)

-- the node with this child
abbrev pub around : Frame → Tree → Tree
around (InConcat before after) e = Concat (followed_by before (more e after))
around (InAlt before after) e = Alt (followed_by before (more e after))
around (InGroup g) e = Group g e
around (InLookAround look) e = LookAround look e
around (InRepeat lo hi greedy) e = Repeat lo hi greedy e
around InAtomicGroup e = AtomicGroup e
around InDefineGroup e = DefineGroup e
around (InCondition t f) e = Conditional e t f
around (InTrueBranch c f) e = Conditional c e f
around (InFalseBranch c t) e = Conditional c t e
around InAbsentRepeater e = AbsentRepeater e
around InAbsentStopper e = AbsentStopper e
around (InAbsent exp) e = AbsentExpression e exp
around (InExpression a) e = AbsentExpression a e

-- the nodes around a part, the nearest one first
abbrev pub Context : Type 0
Context = List Frame

-- the tree with this part
abbrev pub filled : Context → Tree → Tree
filled [] e = e
filled (f ∷ fs) e = filled fs (around f e)

abbrev pub is_behind : Frame → Bool
is_behind (InLookAround LookBehind) = true
is_behind f = false

-- the part is the body of a positive look-behind
abbrev pub is_body_of_behind : Context → Bool
is_body_of_behind [] = false
is_body_of_behind (f ∷ fs) = is_behind f
