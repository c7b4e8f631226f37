-- Numbering a tree changes numbers and places alone.
use Rattle.std.proofs.Common.{◌≡◌, ℕ, suc, ◌+◌, Bool, true, false, List, [], ◌∷◌, ◌++◌, length, map, filter_map, refl, sym, ap, ◌∙◌}
use Rattle.std.proofs.lemmas.List.{map-append}
use Rattle.fancy_meaning.specs.Tree.{Tree, Trees, none, more, Assert, Concat, Alt, Group, LookAround, Repeat, AtomicGroup, DefineGroup, Conditional, AbsentRepeater, AbsentStopper, AbsentExpression, Within}
use Rattle.fancy_meaning.specs.Nodes.{nodes, nodes_of_each, as_group, groups, group_count}
use Rattle.fancy_meaning.specs.Numbering.{within, numbered_within, each_numbered}

module _ {X : Type 0} (h : Tree → X) (blind : (w : Within) (n : ℕ) (e : Tree) → h (numbered_within w n e) ≡ h e) where
  put : {x y : X} {l m : List X} → x ≡ y → l ≡ m → x ∷ l ≡ y ∷ m
  put {x} {y} {l} {m} p q = ap (λ z. z ∷ l) p ∙ ap (λ k. y ∷ k) q

  join : (a b c d : List Tree) → map h a ≡ map h c → map h b ≡ map h d → map h (a ++ b) ≡ map h (c ++ d)
  join a b c d p q = map-append h a b ∙ ap (λ l. l ++ map h b) p ∙ ap (λ l. map h c ++ l) q ∙ sym (map-append h c d)

  -- what does not hang on numbers and places is the same of all nodes
  mutual
    pub nodes-numbered : (w : Within) (n : ℕ) (e : Tree) → map h (nodes (numbered_within w n e)) ≡ map h (nodes e)
    nodes-numbered w n (Assert old a) = put (blind w n (Assert old a)) refl
    nodes-numbered w n (Concat es) = put (blind w n (Concat es)) (each-numbered w n es)
    nodes-numbered w n (Alt es) = put (blind w n (Alt es)) (each-numbered w n es)
    nodes-numbered w n (Group old e) = put (blind w n (Group old e)) (nodes-numbered w (suc n) e)
    nodes-numbered w n (LookAround look e) = put (blind w n (LookAround look e)) (nodes-numbered (within look) n e)
    nodes-numbered w n (Repeat lo hi greedy e) = put (blind w n (Repeat lo hi greedy e)) (nodes-numbered w n e)
    nodes-numbered w n (AtomicGroup e) = put (blind w n (AtomicGroup e)) (nodes-numbered w n e)
    nodes-numbered w n (DefineGroup e) = put (blind w n (DefineGroup e)) (nodes-numbered w n e)
    nodes-numbered w n (Conditional c t f) =
        put (blind w n (Conditional c t f))
        (join _ _ _ _ (nodes-numbered w n c) (join _ _ _ _ (nodes-numbered w (n + group_count c) t) (nodes-numbered w (n + group_count c + group_count t) f)))
    nodes-numbered w n (AbsentRepeater e) = put (blind w n (AbsentRepeater e)) (nodes-numbered w n e)
    nodes-numbered w n (AbsentStopper e) = put (blind w n (AbsentStopper e)) (nodes-numbered w n e)
    nodes-numbered w n (AbsentExpression a e) =
        put (blind w n (AbsentExpression a e)) (join _ _ _ _ (nodes-numbered w n a) (nodes-numbered w (n + group_count a) e))
    nodes-numbered w n e = refl

    each-numbered : (w : Within) (n : ℕ) (es : Trees) → map h (nodes_of_each (each_numbered w n es)) ≡ map h (nodes_of_each es)
    each-numbered w n none = refl
    each-numbered w n (more e es) = join _ _ _ _ (nodes-numbered w n e) (each-numbered w (n + group_count e) es)

-- ---- groups

is_group : Tree → Bool
is_group (Group g e) = true
is_group e = false

is_group-numbered : (w : Within) (n : ℕ) (e : Tree) → is_group (numbered_within w n e) ≡ is_group e
unfolding is_group
is_group-numbered w n (Assert old a) = refl
is_group-numbered w n e = refl

true_count : List Bool → ℕ
true_count [] = 0
true_count (true ∷ bs) = suc (true_count bs)
true_count (false ∷ bs) = true_count bs

counted : (es : List Tree) → length (filter_map as_group es) ≡ true_count (map is_group es)
unfolding is_group true_count
counted [] = refl
counted (Group g e ∷ es) = ap suc (counted es)
counted (e ∷ es) = counted es

-- a tree has as many groups as before
pub count-numbered : (w : Within) (n : ℕ) (e : Tree) → group_count (numbered_within w n e) ≡ group_count e
unfolding group_count groups
count-numbered w n e =
    counted (nodes (numbered_within w n e))
    ∙ ap true_count (nodes-numbered is_group is_group-numbered w n e)
    ∙ sym (counted (nodes e))
