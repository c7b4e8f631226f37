-- Rounds that go on until one changes nothing, and those in which the sizes of groups are computed.
use Rattle.std.specs.Prelude.{◌≡◌, ℕ, zero, suc, ◌≤◌, Bool, ◌&&◌, ◌==◌, List, Contains, Option, Some, None, is_some, map, if◌then◌else◌}
use Rattle.std.specs.Bool.{beq}
use Rattle.std.specs.Cmp.Lexicographic.{pointwise}
use Rattle.fancy_meaning.specs.Tree.{Tree, Backref, BackrefWithLevel, SubroutineCall}
use Rattle.fancy_meaning.specs.Nodes.{group_count}
use Rattle.fancy_meaning.specs.Sizes.{Size, Known, after_rounds, known_of, next_round, size_of_target}
use Rattle.fancy_expr.specs.declared.expr.Expr.{Expr}
use Rattle.fancy_expr.specs.Views.{tree_of}
use Rattle.fancy_info.specs.Sized.{size_of}
use Rattle.fancy_analysis.specs.declared.rounds.SizeRounds.{SizeRounds}

-- how many rounds change something, of at most so many: the first that changes nothing is the last
abbrev pub rounds_from : {X : Type 0} → (X → X → Bool) → (X → X) → X → ℕ → ℕ
rounds_from same next x zero = 0
rounds_from same next x (suc n) = if same (next x) x then 0 else suc (rounds_from same next (next x) n)

abbrev pub same_size : Size → Size → Bool
same_size a b = (a.least == b.least) && ((a.most == b.most) && beq a.is_const b.is_const)

abbrev pub same_sizes : Known → Known → Bool
same_sizes = pointwise same_size

-- how many of the rounds of the definition change a size, up to the first that changes none
unfoldable pub size_rounds : Tree → ℕ
size_rounds whole = rounds_from same_sizes (next_round whole) (after_rounds whole 0) (group_count whole)

-- what so many rounds at most come to, if they are enough
pub record AreRounds (whole : Tree) (most : ℕ) (r : SizeRounds) : Type 0 where
  pub known : map size_of r.known.items ≡ known_of whole
  pub count : r.count ≡ size_rounds whole
  pub few : r.count ≤ most

-- the number whose size a node takes
abbrev pub named_by : Tree → Option ℕ
named_by (Backref g casei) = Some g
named_by (BackrefWithLevel g level casei) = Some g
named_by (SubroutineCall g) = Some g
named_by e = None

abbrev pub names_one : Expr → Bool
names_one e = is_some (named_by (tree_of e))

-- the numbers that these nodes name have the same sizes by both
abbrev pub Agree : Known → Known → List Expr → Type 0
Agree a b es = (x : Expr) → Contains es x → (g : ℕ) → named_by (tree_of x) ≡ Some g → size_of_target a g ≡ size_of_target b g
