-- The ways of an easy node depend neither on where the search began nor on what calls give.
use Rattle.std.proofs.Common.{◌≡◌, ℕ, ◌∷◌, ap, ap₂, refl}
use Rattle.fancy_meaning.specs.Tree.{Tree, Trees, none, more, Empty, Any, Assert, Literal, Delegate, Concat, Alt, Group, Repeat, DefineGroup}
use Rattle.fancy_meaning.specs.Options.{Analysis}
use Rattle.fancy_meaning.specs.Loops.{repeats}
use Rattle.fancy_meaning.specs.MatchState.{Ways, in_order, one_of}
use Rattle.fancy_meaning.specs.Ways.{Setting, captured, ways_with, each_ways}
use Rattle.fancy_delegation.proofs.EasyNodes.{IsEasy, AllEasy, easy_group, easy_repeat, easy_concat, easy_alt, easy_each}

module _ (a : Analysis) (q : Setting) (pos : ℕ) (call call' : ℕ → Ways) where
  abbrev elsewhere : Setting
  elsewhere = record q { pos = pos }

  mutual
    pub same_easy_ways : (e : Tree) → IsEasy a e → ways_with q call e ≡ ways_with elsewhere call' e
    same_easy_ways Empty h = refl
    same_easy_ways (Any newline crlf) h = refl
    same_easy_ways (Literal c casei) h = refl
    same_easy_ways (Delegate inner casei) h = refl
    same_easy_ways (Assert within x) h = refl
    same_easy_ways (DefineGroup e) h = refl
    same_easy_ways (Concat es) h = ap in_order (each_same es (easy_concat a es h))
    same_easy_ways (Alt es) h = ap one_of (each_same es (easy_alt a es h))
    same_easy_ways (Group g e) h = ap (captured g) (same_easy_ways e (easy_group a g e h).1)
    same_easy_ways (Repeat lo hi greedy e) h =
        ap (repeats q.text lo hi greedy) (same_easy_ways e (easy_repeat a lo hi greedy e h))
    same_easy_ways _ h = cc

    each_same : (es : Trees) → AllEasy a es → each_ways q call es ≡ each_ways elsewhere call' es
    each_same none h = refl
    each_same (more e es) h =
        let parts = easy_each a e es h in
        ap₂ (λ w ws. w ∷ ws) (same_easy_ways e parts.0) (each_same es parts.1)
