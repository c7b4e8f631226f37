-- A tree's nodes, child by child.
use Rattle.std.proofs.Common.{◌≡◌, ◌∷◌, ◌++◌, refl, sym, ap, append-nil}
use Rattle.fancy_meaning.specs.Tree.{Tree, none, more, parts, Group, LookAround, Repeat, AtomicGroup, DefineGroup, Conditional, AbsentRepeater, AbsentStopper, AbsentExpression}
use Rattle.fancy_meaning.specs.Nodes.{nodes, nodes_of_each}

alone : (e : Tree) → nodes e ≡ nodes_of_each (more e none)
alone e = sym (append-nil (nodes e))

-- the node itself, and those below it
pub nodes-parts : (t : Tree) → nodes t ≡ t ∷ nodes_of_each (parts t)
nodes-parts (Group g e) = ap (λ l. Group g e ∷ l) (alone e)
nodes-parts (LookAround look e) = ap (λ l. LookAround look e ∷ l) (alone e)
nodes-parts (Repeat lo hi greedy e) = ap (λ l. Repeat lo hi greedy e ∷ l) (alone e)
nodes-parts (AtomicGroup e) = ap (λ l. AtomicGroup e ∷ l) (alone e)
nodes-parts (DefineGroup e) = ap (λ l. DefineGroup e ∷ l) (alone e)
nodes-parts (Conditional c t f) = ap (λ l. Conditional c t f ∷ (nodes c ++ (nodes t ++ l))) (alone f)
nodes-parts (AbsentRepeater e) = ap (λ l. AbsentRepeater e ∷ l) (alone e)
nodes-parts (AbsentStopper e) = ap (λ l. AbsentStopper e ∷ l) (alone e)
nodes-parts (AbsentExpression a e) = ap (λ l. AbsentExpression a e ∷ (nodes a ++ l)) (alone e)
nodes-parts t = refl
