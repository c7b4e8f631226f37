-- The tree with its groups numbered, and with the look-around that each assertion stands in.
use Rattle.std.specs.Prelude.{ℕ, suc, ◌+◌}
use Rattle.fancy_meaning.specs.Tree.{Tree, Trees, none, more, Assert, Concat, Alt, Group, LookAround, Repeat, AtomicGroup, DefineGroup, Conditional, AbsentRepeater, AbsentStopper, AbsentExpression, Look, LookAhead, LookAheadNeg, LookBehind, LookBehindNeg, Within, NoLook, InLookAhead, InLookBehind}
use Rattle.fancy_meaning.specs.Nodes.{group_count}

abbrev pub within : Look → Within
within LookAhead = InLookAhead
within LookAheadNeg = InLookAhead
within LookBehind = InLookBehind
within LookBehindNeg = InLookBehind

-- groups are numbered from n on in the order in which they open
abbrev mutual
  pub numbered_within : Within → ℕ → Tree → Tree
  numbered_within w n (Assert old a) = Assert w a
  numbered_within w n (Concat es) = Concat (each_numbered w n es)
  numbered_within w n (Alt es) = Alt (each_numbered w n es)
  numbered_within w n (Group old e) = Group n (numbered_within w (suc n) e)
  numbered_within w n (LookAround look e) = LookAround look (numbered_within (within look) n e)
  numbered_within w n (Repeat lo hi greedy e) = Repeat lo hi greedy (numbered_within w n e)
  numbered_within w n (AtomicGroup e) = AtomicGroup (numbered_within w n e)
  numbered_within w n (DefineGroup e) = DefineGroup (numbered_within w n e)
  numbered_within w n (Conditional c t f) =
      let at_true = n + group_count c in
      Conditional (numbered_within w n c) (numbered_within w at_true t) (numbered_within w (at_true + group_count t) f)
  numbered_within w n (AbsentRepeater e) = AbsentRepeater (numbered_within w n e)
  numbered_within w n (AbsentStopper e) = AbsentStopper (numbered_within w n e)
  numbered_within w n (AbsentExpression a e) =
      AbsentExpression (numbered_within w n a) (numbered_within w (n + group_count a) e)
  numbered_within w n e = e

  pub each_numbered : Within → ℕ → Trees → Trees
  each_numbered w n none = none
  each_numbered w n (more e es) = more (numbered_within w n e) (each_numbered w (n + group_count e) es)

-- the tree as a whole, its first group with the number n
unfoldable pub numbered : ℕ → Tree → Tree
numbered n e = numbered_within NoLook n e
