-- What is known of nodes that stand together in the tree: the numbers of their groups are below a count, and the groups that
-- they refer to have their pairs.
use Rattle.std.proofs.Common.{◌≡◌, ℕ, zero, suc, ◌+◌, ◌*◌, ◌<◌, ◌≤◌, true, List, [], ◌∷◌, ◌++◌, subst, arith}
use Rattle.fancy_meaning.specs.Tree.{Tree, Trees, none, more, Concat, Alt, Group, LookAround, Repeat, AtomicGroup, DefineGroup, Conditional, AbsentRepeater, AbsentStopper, AbsentExpression}
use Rattle.fancy_meaning.specs.Nodes.{nodes, nodes_of_each}
use Rattle.fancy_meaning.specs.Places.{range_from}
use Rattle.fancy_meaning.specs.WellFormed.{refers}
use Rattle.fancy_laws.proofs.Every.{Every, no_item, item, every_append, every_append_parts}
use Rattle.fancy_laws.proofs.Numbering.{numbers_of, numbers_of_both}

pub range_below : (n k count : ℕ) → n + k ≤ count → Every (λ g. g < count) (range_from n k)
range_below n zero count le = no_item
range_below n (suc k) count le = item (omega (arith, le)) (range_below (suc n) k count (omega (arith, le)))

-- a count of groups' numbers, and of slots
module _ (count slots : ℕ) where
  -- the pair of the group that a node refers to is there
  abbrev pub RefersWithin : Tree → Type 0
  RefersWithin e = (g : ℕ) → refers g e ≡ true → 2 * g + 1 < slots

  pub record Known (es : List Tree) : Type 0 where
    pub numbers : Every (λ g. g < count) (numbers_of es)
    pub references : Every RefersWithin es

  pub known_front : (xs ys : List Tree) → Known (xs ++ ys) → Known xs
  known_front xs ys k = record {
    numbers = (every_append_parts (numbers_of xs) (numbers_of ys) (subst (Every (λ g. g < count)) (numbers_of_both xs ys) k.numbers)).0;
    references = (every_append_parts xs ys k.references).0;
  }

  pub known_back : (xs ys : List Tree) → Known (xs ++ ys) → Known ys
  known_back xs ys k = record {
    numbers = (every_append_parts (numbers_of xs) (numbers_of ys) (subst (Every (λ g. g < count)) (numbers_of_both xs ys) k.numbers)).1;
    references = (every_append_parts xs ys k.references).1;
  }

  -- what stands below a node
  pub known_below : (e : Tree) (under : List Tree) → Known (e ∷ under) → Known under
  known_below e under k = known_back (e ∷ []) under k

  -- ---- each node of a tree

  abbrev pub EachKnown : List Tree → Type 0
  EachKnown es = Every (λ e. Known (nodes e)) es

  mutual
    pub every_known : (e : Tree) → Known (nodes e) → EachKnown (nodes e)
    every_known (Concat es) k = item k (each_known es (known_below (Concat es) (nodes_of_each es) k))
    every_known (Alt es) k = item k (each_known es (known_below (Alt es) (nodes_of_each es) k))
    every_known (Group g e) k = item k (every_known e (known_below (Group g e) (nodes e) k))
    every_known (LookAround look e) k = item k (every_known e (known_below (LookAround look e) (nodes e) k))
    every_known (Repeat lo hi greedy e) k = item k (every_known e (known_below (Repeat lo hi greedy e) (nodes e) k))
    every_known (AtomicGroup e) k = item k (every_known e (known_below (AtomicGroup e) (nodes e) k))
    every_known (DefineGroup e) k = item k (every_known e (known_below (DefineGroup e) (nodes e) k))
    every_known (Conditional c t f) k =
        let below = known_below (Conditional c t f) (nodes c ++ (nodes t ++ nodes f)) k in
        let rest = known_back (nodes c) (nodes t ++ nodes f) below in
        item k
        (every_append (every_known c (known_front (nodes c) (nodes t ++ nodes f) below))
        (every_append (every_known t (known_front (nodes t) (nodes f) rest)) (every_known f (known_back (nodes t) (nodes f) rest))))
    every_known (AbsentRepeater e) k = item k (every_known e (known_below (AbsentRepeater e) (nodes e) k))
    every_known (AbsentStopper e) k = item k (every_known e (known_below (AbsentStopper e) (nodes e) k))
    every_known (AbsentExpression a e) k =
        let below = known_below (AbsentExpression a e) (nodes a ++ nodes e) k in
        item k
        (every_append (every_known a (known_front (nodes a) (nodes e) below)) (every_known e (known_back (nodes a) (nodes e) below)))
    every_known e k = item k no_item

    each_known : (es : Trees) → Known (nodes_of_each es) → EachKnown (nodes_of_each es)
    each_known none k = no_item
    each_known (more e es) k =
        every_append (every_known e (known_front (nodes e) (nodes_of_each es) k)) (each_known es (known_back (nodes e) (nodes_of_each es) k))
