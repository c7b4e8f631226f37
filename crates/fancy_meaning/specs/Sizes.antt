-- How many characters a node takes.
use Rattle.std.specs.Prelude.{ℕ, zero, suc, ◌+◌, ◌*◌, min, max, Bool, true, false, ◌&&◌, List, [], ◌∷◌, length, map, replicate, Option, Some, None, if◌then◌else◌, ◌==◌, slice_index_or}
use Rattle.fancy_meaning.specs.Numbers.{usize_max}
use Rattle.fancy_meaning.specs.Tree.{Tree, Trees, none, more, Any, GeneralNewline, Literal, LiteralBytes, Delegate, Concat, Alt, Group, Repeat, Backref, BackrefWithLevel, AtomicGroup, AbsentRepeater, AbsentExpression, Conditional, SubroutineCall}
use Rattle.fancy_meaning.specs.Nodes.{target, group_count}
use Rattle.fancy_meaning.specs.Places.{range_from}

abbrev pub saturated : ℕ → ℕ
saturated n = min n usize_max

pub record Size : Type 0 where
  pub least : ℕ
  pub most : ℕ
  -- every way takes as many
  pub is_const : Bool

abbrev pub exactly : ℕ → Size
exactly n = record { least = saturated n; most = saturated n; is_const = true }

abbrev pub between : ℕ → ℕ → Size
between least most = record { least = least; most = most; is_const = false }

-- of one after the other
abbrev pub plus : Size → Size → Size
plus a b = record {
  least = saturated (a.least + b.least);
  most = saturated (a.most + b.most);
  is_const = a.is_const && b.is_const;
}

abbrev pub sum_of : List Size → Size
sum_of [] = exactly 0
sum_of (a ∷ rest) = plus a (sum_of rest)

-- of one or the other
abbrev pub either : Size → Size → Size
either a b = record {
  least = min a.least b.least;
  most = max a.most b.most;
  is_const = a.is_const && b.is_const && a.least == b.least;
}

abbrev pub any_of : List Size → Size
any_of [] = exactly 0
any_of (a ∷ []) = a
any_of (a ∷ b ∷ rest) = either a (any_of (b ∷ rest))

-- the greatest size of so many iterations; without either bound there is none
abbrev pub most_times : ℕ → Option ℕ → ℕ
most_times most None = usize_max
most_times most (Some hi) = if most == usize_max then usize_max else saturated (most * hi)

abbrev pub is_exact : ℕ → Option ℕ → Bool
is_exact lo None = false
is_exact lo (Some hi) = lo == hi

abbrev pub times : ℕ → Option ℕ → Size → Size
times lo hi a = record {
  least = saturated (a.least * lo);
  most = most_times a.most hi;
  is_const = a.is_const && is_exact lo hi;
}

-- the sizes of what calls and references name, by number, as far as they are known
abbrev pub Known : Type 0
Known = List Size

abbrev pub unknown : Size
unknown = between 0 usize_max

abbrev pub size_of_target : Known → ℕ → Size
size_of_target known g = slice_index_or known g unknown

-- a reference names a group, and 0 is none
abbrev pub size_of_group : Known → ℕ → Size
size_of_group known zero = unknown
size_of_group known (suc g) = size_of_target known (suc g)

-- a node's size, by what is known
module _ (known : Known) where
  abbrev mutual
    pub size_by : Tree → Size
    size_by (Literal c casei) = exactly 1
    size_by (Any newline crlf) = exactly 1
    size_by (Delegate inner casei) = exactly 1
    size_by (GeneralNewline unicode) = between 1 2
    size_by (LiteralBytes cs) = exactly (length cs)
    size_by (Concat es) = sum_of (each_size es)
    size_by (Alt es) = any_of (each_size es)
    size_by (Repeat lo hi greedy e) = times lo hi (size_by e)
    size_by (Group g e) = size_by e
    size_by (AtomicGroup e) = size_by e
    size_by (Conditional c t f) = either (plus (size_by c) (size_by t)) (size_by f)
    size_by (AbsentRepeater e) = between 0 usize_max
    size_by (AbsentExpression a e) = record (size_by e) { is_const = false }
    size_by (Backref g casei) = size_of_group known g
    size_by (BackrefWithLevel g level casei) = size_of_group known g
    size_by (SubroutineCall g) = size_of_target known g
    -- what takes nothing
    size_by e = exactly 0

    pub each_size : Trees → List Size
    each_size none = []
    each_size (more e es) = size_by e ∷ each_size es

-- one round: the size of each target by what was known before
abbrev pub size_in_round : Known → Option Tree → Size
size_in_round known None = unknown
size_in_round known (Some e) = size_by known e

abbrev pub next_round : Tree → Known → Known
next_round whole known = map (λ g. size_in_round known (target whole g)) (range_from 0 (suc (group_count whole)))

-- what is known after so many rounds
abbrev pub after_rounds : Tree → ℕ → Known
after_rounds whole zero = replicate (suc (group_count whole)) unknown
after_rounds whole (suc n) = next_round whole (after_rounds whole n)

-- what the last round goes by, of as many as there are groups and one more
unfoldable pub known_of : Tree → Known
known_of whole = after_rounds whole (group_count whole)

-- the size of a part of the tree
abbrev pub size : Tree → Tree → Size
size whole e = size_by (known_of whole) e
