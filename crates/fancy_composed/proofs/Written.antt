-- What is written out is a node of the tree.
use Rattle.std.proofs.Common.{◌≡◌, zero, suc, Bool, true, false, ◌||◌, List, [], ◌∷◌, ◌++◌, Contains, Some, None, refl}
use Rattle.std.specs.List.{list_any}
use Rattle.std.proofs.lemmas.List.Elements.{Contains-append_left, Contains-append_right}
use Rattle.fancy_meaning.specs.Tree.{Tree, Trees, none, more, Concat, Alt, Group, LookAround, Repeat, AtomicGroup, Conditional, AbsentRepeater}
use Rattle.fancy_meaning.specs.Nodes.{nodes, nodes_of_each}
use Rattle.fancy_meaning.specs.CompileRefusals.{IsWritten, root, part, callee, IsAmong, here, there, written_parts}
use Rattle.fancy_laws.proofs.Every.{Every, no_item, item, every_contained, every_weaker}
use Rattle.fancy_laws.proofs.NodesBelow.{itself_contained, later_contained, nodes_below, target_is_node}

among_each : (e : Tree) (es : Trees) → IsAmong e es → Contains (nodes_of_each es) e
among_each e (more d es) here = Contains-append_left (nodes e) (nodes_of_each es) e (itself_contained e)
among_each e (more d es) (there m) = Contains-append_right (nodes d) (nodes_of_each es) e (among_each e es m)
among_each e none m = elim m [ ]

only : (d e : Tree) → IsAmong e (more d none) → Contains (nodes d) e
only d e here = itself_contained e
only d e (there m) = elim m [ ]

one_of_three : (c t f e : Tree) → IsAmong e (more c (more t (more f none))) → Contains (nodes c ++ (nodes t ++ nodes f)) e
one_of_three c t f e here = Contains-append_left (nodes e) (nodes t ++ nodes f) e (itself_contained e)
one_of_three c t f e (there here) =
    Contains-append_right (nodes c) (nodes e ++ nodes f) e (Contains-append_left (nodes e) (nodes f) e (itself_contained e))
one_of_three c t f e (there (there m)) =
    Contains-append_right (nodes c) (nodes t ++ nodes f) e (Contains-append_right (nodes t) (nodes f) e (only f e m))

part_contained : (d e : Tree) → IsAmong e (written_parts d) → Contains (nodes d) e
part_contained (Concat es) e m = later_contained (Concat es) (nodes_of_each es) e (among_each e es m)
part_contained (Alt es) e m = later_contained (Alt es) (nodes_of_each es) e (among_each e es m)
part_contained (Group g d) e m = later_contained (Group g d) (nodes d) e (only d e m)
part_contained (LookAround look d) e m = later_contained (LookAround look d) (nodes d) e (only d e m)
part_contained (Repeat lo None greedy d) e m = later_contained (Repeat lo None greedy d) (nodes d) e (only d e m)
part_contained (Repeat lo (Some zero) greedy d) e m = elim m [ ]
part_contained (Repeat lo (Some (suc hi)) greedy d) e m =
    later_contained (Repeat lo (Some (suc hi)) greedy d) (nodes d) e (only d e m)
part_contained (AtomicGroup d) e m = later_contained (AtomicGroup d) (nodes d) e (only d e m)
part_contained (AbsentRepeater d) e m = later_contained (AbsentRepeater d) (nodes d) e (only d e m)
part_contained (Conditional c t f) e m =
    later_contained (Conditional c t f) (nodes c ++ (nodes t ++ nodes f)) e (one_of_three c t f e m)
part_contained d e m = elim m [ ]

pub written_is_node : (whole e : Tree) → IsWritten whole e → Contains (nodes whole) e
written_is_node whole e root = itself_contained whole
written_is_node whole e (part {d = d} wr m) = nodes_below whole d (written_is_node whole d wr) e (part_contained d e m)
written_is_node whole e (callee {g = g} wr t) = target_is_node whole g e t

-- a test that a node passes finds one
pub has_node : (test : Tree → Bool) (e : Tree) (es : List Tree) → Contains es e → test e ≡ true → list_any test es ≡ true
has_node test e es c p = every_contained e (each es) c p
  where
    wider : (v u : Bool) → u ≡ true → (v || u) ≡ true
    wider true u q = refl
    wider false u q = q

    first : (v u : Bool) → v ≡ true → (v || u) ≡ true
    first true u q = refl
    first false u q = cc

    each : (xs : List Tree) → Every (λ x. test x ≡ true → list_any test xs ≡ true) xs
    each [] = no_item
    each (x ∷ xs) =
        item (λ q. first (test x) (list_any test xs) q)
        (every_weaker (λ y f q. wider (test x) (list_any test xs) (f q)) (each xs))
