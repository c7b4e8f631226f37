-- Which trees may be handed in. Numbers of the machine are 64 bits wide, and its largest one means that there is no
-- bound.
use Rattle.std.specs.Prelude.{◌≡◌, ℕ, ◌^◌, ◌<◌, ◌≤◌, Bool, true, false, [], All, Contains, IfSome, IsUtf8, FitsSigned, IsTrue, IsFalse, ◌==◌}
use Rattle.std.specs.Char.{IsScalar}
use Rattle.std.specs.Int.{w64}
use Rattle.std.specs.List.{list_any}
use Rattle.fancy_meaning.specs.Numbers.{usize_max}
use Rattle.fancy_meaning.specs.Tree.{Tree, none, Literal, LiteralBytes, Delegate, Alt, Repeat, Backref, BackrefWithLevel, BackrefExists, SubroutineCall, AstNode, UnresolvedCall}
use Rattle.fancy_meaning.specs.Nodes.{nodes, group_count}
use Rattle.fancy_meaning.specs.Options.{ParsedTree}

abbrev pub IsUsize : ℕ → Type 0
IsUsize n = n < 2 ^ 64

-- a count of iterations, below the largest number
abbrev pub IsCount : ℕ → Type 0
IsCount n = n < usize_max

-- An alternation has a branch, a class has a text, a loop's bounds are in order, and each value is one of its type.
abbrev pub IsFine : Tree → Type 0
IsFine (Alt none) = ⊥
IsFine (Delegate [] casei) = ⊥
IsFine (Delegate inner casei) = IsUtf8 inner
IsFine (Repeat lo hi greedy e) = IsCount lo × IfSome hi (λ n. (lo ≤ n) × IsCount n)
IsFine (Literal c casei) = IsScalar c
IsFine (LiteralBytes cs) = All (λ c. c < 2 ^ 8) cs
IsFine (Backref g casei) = IsUsize g
IsFine (BackrefWithLevel g level casei) = IsUsize g × FitsSigned w64 level
IsFine (BackrefExists g level) = IsUsize g × IfSome level (λ l. FitsSigned w64 l)
IsFine (SubroutineCall g) = IsUsize g
IsFine e = Unit {0}

-- so many groups a tree may have
abbrev pub most_groups : ℕ
most_groups = 1_000_000

-- the node is a back reference to group g
abbrev pub refers_back : ℕ → Tree → Bool
refers_back g (Backref h casei) = h == g
refers_back g (BackrefWithLevel h level casei) = h == g
refers_back g e = false

-- the node is a back reference to group g, or asks for it
abbrev pub refers : ℕ → Tree → Bool
refers g (BackrefExists h level) = h == g
refers g e = refers_back g e

abbrev pub is_call : Tree → Bool
is_call (SubroutineCall g) = true
is_call e = false

abbrev pub is_any_call : Tree → Bool
is_any_call (AstNode UnresolvedCall) = true
is_any_call e = is_call e

-- the tree has a node that passes
abbrev pub Has : Tree → (Tree → Bool) → Type 0
Has e test = IsTrue (list_any test (nodes e))

pub record IsWellFormed (p : ParsedTree) : Type 0 where
  pub fine : (e : Tree) → Contains (nodes p.tree) e → IsFine e
  pub groups : p.total_groups ≡ group_count p.tree
  pub not_too_many : p.total_groups ≤ most_groups
  pub calls : Has p.tree is_call → p.contains_subroutines ≡ true
  pub no_calls : IsFalse (list_any is_any_call (nodes p.tree)) → p.contains_subroutines ≡ false
  pub backrefs : (g : ℕ) (casei : Bool) → Contains (nodes p.tree) (Backref g casei) → g ≤ p.total_groups →
      Contains p.backrefs g
  pub only_references : (g : ℕ) → Contains p.backrefs g → Has p.tree (refers g)
  pub out_of_range : IfSome p.out_of_range_backref (λ g. Has p.tree (refers g) × (p.total_groups < g))
