-- What easy nodes take does not hang on the tree that they are part of, and so neither does how many states are visited.
use Rattle.std.proofs.Common.{◌≡◌, ℕ, ◌+◌, ◌*◌, List, [], ◌∷◌, refl, sym, ap, ap₂, ◌∙◌}
use Rattle.std.specs.Prelude.{sum_by}
use Rattle.std.proofs.lemmas.List.Sums.{sum_by-cons}
use Rattle.fancy_meaning.specs.Tree.{Tree, Trees, none, more, Concat, Alt, Group, Repeat, Backref, BackrefWithLevel, AtomicGroup, AbsentExpression, Conditional, SubroutineCall}
use Rattle.fancy_meaning.specs.Options.{Analysis}
use Rattle.fancy_meaning.specs.Sizes.{Known, known_of, sum_of, any_of, times, size_by, each_size}
use Rattle.fancy_meaning.specs.FragmentStates.{loop_counts, states, states_of_each, fragment_states, visit_bound}
use Rattle.fancy_nfa_laws.specs.FirstWays.{AreEasy}
use Rattle.fancy_delegation.proofs.EasyNodes.{IsEasy, AllEasy, easy_group, easy_repeat, easy_concat, easy_alt, easy_each}

module _ (a : Analysis) where
  module _ (k l : Known) where
    mutual
      size_alike : (e : Tree) → IsEasy a e → size_by k e ≡ size_by l e
      size_alike (Concat es) h = ap sum_of (sizes_alike es (easy_concat a es h))
      size_alike (Alt es) h = ap any_of (sizes_alike es (easy_alt a es h))
      size_alike (Repeat lo hi greedy e) h = ap (times lo hi) (size_alike e (easy_repeat a lo hi greedy e h))
      size_alike (Group g e) h = size_alike e (easy_group a g e h).1
      size_alike (AtomicGroup e) h = cc
      size_alike (Conditional c t f) h = cc
      size_alike (AbsentExpression x e) h = cc
      size_alike (Backref g casei) h = cc
      size_alike (BackrefWithLevel g level casei) h = cc
      size_alike (SubroutineCall g) h = cc
      size_alike e h = refl

      sizes_alike : (es : Trees) → AllEasy a es → each_size k es ≡ each_size l es
      sizes_alike none h = refl
      sizes_alike (more e es) h = let q = easy_each a e es h in ap₂ ◌∷◌ (size_alike e q.0) (sizes_alike es q.1)

  module _ (whole other : Tree) where
    mutual
      states_alike : (e : Tree) → IsEasy a e → states whole e ≡ states other e
      states_alike (Concat es) h = ap (λ n. 1 + n) (each_states_alike es (easy_concat a es h))
      states_alike (Alt es) h = ap (λ n. 1 + n) (each_states_alike es (easy_alt a es h))
      states_alike (Group g e) h = ap (λ n. 1 + n) (states_alike e (easy_group a g e h).1)
      states_alike (Repeat lo hi greedy e) h =
          let q = easy_repeat a lo hi greedy e h in
          ap₂ (λ s n. 1 + loop_counts lo hi s.least * (1 + n)) (size_alike (known_of whole) (known_of other) e q) (states_alike e q)
      states_alike e h = refl

      each_states_alike : (es : Trees) → AllEasy a es → states_of_each whole es ≡ states_of_each other es
      each_states_alike none h = refl
      each_states_alike (more e es) h = let q = easy_each a e es h in ap₂ ◌+◌ (states_alike e q.0) (each_states_alike es q.1)

    sums_alike : (es : List Tree) → AreEasy a es → sum_by (states whole) es ≡ sum_by (states other) es
    sums_alike [] h = refl
    sums_alike (e ∷ es) (easy, fine, rest) =
        sum_by-cons (states whole) e es
        ∙ ap₂ ◌+◌ (states_alike e easy) (sums_alike es rest)
        ∙ sym (sum_by-cons (states other) e es)

    -- the bound is the same in any tree
    pub bound_alike : (es : List Tree) → AreEasy a es → (left : ℕ) → visit_bound whole es left ≡ visit_bound other es left
    unfolding fragment_states
    bound_alike es h left = ap (λ n. (1 + n) * (left + 1)) (sums_alike es h)
