-- The nodes of a node of a tree are nodes of the tree.
use Rattle.std.proofs.Common.{◌≡◌, ℕ, zero, suc, true, List, [], ◌∷◌, ◌++◌, Contains, Option, Some, None, ◌==◌, filter_map, refl, sym, ap, ap₂, subst, ◌∙◌, ⊎_elim, arith}
use Rattle.std.proofs.lemmas.Bool.{cond-true, cond-false}
use Rattle.std.proofs.lemmas.Bool.Decides.{eqb_tells}
use Rattle.std.proofs.lemmas.List.Elements.{Contains-append_left, Contains-append_right}
use Rattle.std.proofs.lemmas.Option.{none-some, same_Some}
use Rattle.std.specs.List.{cons_option}
use Rattle.fancy_meaning.specs.Tree.{Tree, Trees, none, more, Concat, Alt, Group, LookAround, Repeat, AtomicGroup, DefineGroup, Conditional, AbsentRepeater, AbsentStopper, AbsentExpression}
use Rattle.fancy_meaning.specs.Nodes.{nodes, nodes_of_each, as_group, groups, body_in, target}
use Rattle.fancy_laws.proofs.Every.{Every, no_item, item, every_append, every_weaker, every_contains, every_contained}

-- all nodes of the tree are in the list
abbrev pub AreAmong : Tree → List Tree → Type 0
AreAmong e among = Every (Contains among) (nodes e)

pub first_contained : {A : Type 0} (x : A) (xs : List A) → Contains (x ∷ xs) x
first_contained x xs = (0, omega arith, refl)

pub later_contained : {A : Type 0} (x : A) (xs : List A) (y : A) → Contains xs y → Contains (x ∷ xs) y
later_contained x xs y c = Contains-append_right (x ∷ []) xs y c

more_among : (among wider : List Tree) → ((x : Tree) → Contains among x → Contains wider x) → {es : List Tree} →
    Every (λ e. AreAmong e among) es → Every (λ e. AreAmong e wider) es
more_among among wider h = every_weaker (λ e below. every_weaker h below)

below : (e : Tree) (under : List Tree) → Every (λ x. AreAmong x under) under → nodes e ≡ e ∷ under →
    Every (λ x. AreAmong x (e ∷ under)) (e ∷ under)
below e under h is =
    item (subst (Every (Contains (e ∷ under))) (sym is) (every_contains (e ∷ under)))
    (more_among under (e ∷ under) (λ x. later_contained e under x) h)

both_among : (xs ys : List Tree) → Every (λ x. AreAmong x xs) xs → Every (λ y. AreAmong y ys) ys →
    Every (λ x. AreAmong x (xs ++ ys)) (xs ++ ys)
both_among xs ys h k =
    every_append (more_among xs (xs ++ ys) (λ x. Contains-append_left xs ys x) h)
    (more_among ys (xs ++ ys) (λ y. Contains-append_right xs ys y) k)

mutual
  pub every_node_below : (e : Tree) → Every (λ x. AreAmong x (nodes e)) (nodes e)
  every_node_below (Concat es) = below (Concat es) (nodes_of_each es) (each_node_below es) refl
  every_node_below (Alt es) = below (Alt es) (nodes_of_each es) (each_node_below es) refl
  every_node_below (Group g e) = below (Group g e) (nodes e) (every_node_below e) refl
  every_node_below (LookAround look e) = below (LookAround look e) (nodes e) (every_node_below e) refl
  every_node_below (Repeat lo hi greedy e) = below (Repeat lo hi greedy e) (nodes e) (every_node_below e) refl
  every_node_below (AtomicGroup e) = below (AtomicGroup e) (nodes e) (every_node_below e) refl
  every_node_below (DefineGroup e) = below (DefineGroup e) (nodes e) (every_node_below e) refl
  every_node_below (Conditional c t f) =
      below (Conditional c t f) (nodes c ++ (nodes t ++ nodes f))
      (both_among (nodes c) (nodes t ++ nodes f) (every_node_below c)
      (both_among (nodes t) (nodes f) (every_node_below t) (every_node_below f))) refl
  every_node_below (AbsentRepeater e) = below (AbsentRepeater e) (nodes e) (every_node_below e) refl
  every_node_below (AbsentStopper e) = below (AbsentStopper e) (nodes e) (every_node_below e) refl
  every_node_below (AbsentExpression a e) =
      below (AbsentExpression a e) (nodes a ++ nodes e)
      (both_among (nodes a) (nodes e) (every_node_below a) (every_node_below e)) refl
  every_node_below e = below e [] no_item refl

  each_node_below : (es : Trees) → Every (λ x. AreAmong x (nodes_of_each es)) (nodes_of_each es)
  each_node_below none = no_item
  each_node_below (more e es) = both_among (nodes e) (nodes_of_each es) (every_node_below e) (each_node_below es)

-- a tree is its own first node
pub itself_contained : (e : Tree) → Contains (nodes e) e
itself_contained (Concat es) = first_contained (Concat es) (nodes_of_each es)
itself_contained (Alt es) = first_contained (Alt es) (nodes_of_each es)
itself_contained (Group g e) = first_contained (Group g e) (nodes e)
itself_contained (LookAround look e) = first_contained (LookAround look e) (nodes e)
itself_contained (Repeat lo hi greedy e) = first_contained (Repeat lo hi greedy e) (nodes e)
itself_contained (AtomicGroup e) = first_contained (AtomicGroup e) (nodes e)
itself_contained (DefineGroup e) = first_contained (DefineGroup e) (nodes e)
itself_contained (Conditional c t f) = first_contained (Conditional c t f) (nodes c ++ (nodes t ++ nodes f))
itself_contained (AbsentRepeater e) = first_contained (AbsentRepeater e) (nodes e)
itself_contained (AbsentStopper e) = first_contained (AbsentStopper e) (nodes e)
itself_contained (AbsentExpression a e) = first_contained (AbsentExpression a e) (nodes a ++ nodes e)
itself_contained e = first_contained e []

pub nodes_below : (whole e : Tree) → Contains (nodes whole) e → (x : Tree) → Contains (nodes e) x → Contains (nodes whole) x
nodes_below whole e c x d = every_contained x (every_contained e (every_node_below whole) c) d

-- each node of the one list is in the other
abbrev pub Includes : List Tree → List Tree → Type 0
Includes all some = (x : Tree) → Contains some x → Contains all x

pub includes_first : (all : List Tree) (e : Tree) (es : List Tree) → Includes all (e ∷ es) → Contains all e
includes_first all e es h = h e (first_contained e es)

pub includes_rest : (all : List Tree) (e : Tree) (es : List Tree) → Includes all (e ∷ es) → Includes all es
includes_rest all e es h x c = h x (later_contained e es x c)

pub includes_left : (all xs ys : List Tree) → Includes all (xs ++ ys) → Includes all xs
includes_left all xs ys h x c = h x (Contains-append_left xs ys x c)

pub includes_right : (all xs ys : List Tree) → Includes all (xs ++ ys) → Includes all ys
includes_right all xs ys h x c = h x (Contains-append_right xs ys x c)

-- ---- groups and targets

-- a group node is among the groups, and each group is a node
pub every_group_is_node : (es : List Tree) → Every (λ h. Contains es (Group h.0 h.1)) (filter_map as_group es)
every_group_is_node [] = no_item
every_group_is_node (e ∷ es) =
    go e (as_group e) refl (every_weaker (λ h c. later_contained e es (Group h.0 h.1) c) (every_group_is_node es))
  where
    is_group : (x : Tree) (h : ℕ × Tree) → as_group x ≡ Some h → x ≡ Group h.0 h.1
    is_group (Group g b) h e = ap (λ p. Group p.0 p.1) (same_Some (g, b) h e)
    is_group x h e = absurd (none-some h e)

    go : (x : Tree) (o : Option (ℕ × Tree)) → as_group x ≡ o → {hs : List (ℕ × Tree)} →
        Every (λ h. Contains (x ∷ es) (Group h.0 h.1)) hs → Every (λ h. Contains (x ∷ es) (Group h.0 h.1)) (cons_option o hs)
    go x None is k = k
    go x (Some h) is k = item (subst (Contains (x ∷ es)) (is_group x h is) (first_contained x es)) k

body_found : (hs : List (ℕ × Tree)) (g : ℕ) (body : Tree) → body_in hs g ≡ Some body → Contains hs (g, body)
body_found [] g body e = absurd (none-some body e)
body_found (h ∷ hs) g body e = ⊎_elim
    (λ (same : (h.0 == g ≡ true) × (h.0 ≡ g)).
    let found : h.1 ≡ body = same_Some h.1 body (sym (cond-true (h.0 == g) (Some h.1) (body_in hs g) same.0) ∙ e) in
    subst (λ p. Contains (h ∷ hs) p) (ap₂ (λ a b. (a, b)) same.1 found) (first_contained h hs))
    (λ other. later_contained h hs (g, body)
    (body_found hs g body (sym (cond-false (h.0 == g) (Some h.1) (body_in hs g) other.0) ∙ e)))
    (eqb_tells h.0 g)

pub group_of_target : (whole : Tree) (g : ℕ) (body : Tree) → target whole (suc g) ≡ Some body →
    Contains (nodes whole) (Group (suc g) body)
unfolding target groups
group_of_target whole g body e =
    every_contained (suc g, body) (every_group_is_node (nodes whole))
    (body_found (filter_map as_group (nodes whole)) (suc g) body e)

-- what a call calls is a node of the tree
pub target_is_node : (whole : Tree) (g : ℕ) (body : Tree) → target whole g ≡ Some body → Contains (nodes whole) body
unfolding target
target_is_node whole zero body e = subst (Contains (nodes whole)) (same_Some whole body e) (itself_contained whole)
target_is_node whole (suc g) body e =
    nodes_below whole (Group (suc g) body) (group_of_target whole g body e) body
    (later_contained (Group (suc g) body) (nodes body) body (itself_contained body))
