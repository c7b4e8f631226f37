-- The nodes of a tree: those below a node of it are its own, and a called group is one of them.
use Rattle.std.proofs.Common.{◌≡◌, ℕ, suc, Bool, true, false, if◌then◌else◌, ◌==◌, List, [], ◌∷◌, ◌++◌, Some, refl, ap, ap₂, subst, ⊎_elim}
use Rattle.std.proofs.lemmas.Bool.{eqb-true}
use Rattle.fancy_meaning.specs.Tree.{Tree, Trees, none, more, Empty, KeepOut, ContinueFromPreviousMatchEnd, AbsentClear, Any, Assert, GeneralNewline, Literal, LiteralBytes, Delegate, Concat, Alt, Group, LookAround, Repeat, Backref, BackrefWithLevel, BackrefExists, AtomicGroup, DefineGroup, AbsentRepeater, AbsentStopper, AbsentExpression, Control, Conditional, SubroutineCall, AstNode}
use Rattle.fancy_meaning.specs.Nodes.{nodes, nodes_of_each, as_group, groups, body_in, target}
use Rattle.fancy_delegation.proofs.Items.{IsIn, first, later, is_in_append_left, is_in_append_right, is_in_append_cases, from_filter_map}

-- a node is the first of its own
pub node_itself : (e : Tree) → IsIn e (nodes e)
node_itself Empty = first
node_itself KeepOut = first
node_itself ContinueFromPreviousMatchEnd = first
node_itself AbsentClear = first
node_itself (Any newline crlf) = first
node_itself (Assert within a) = first
node_itself (GeneralNewline unicode) = first
node_itself (Literal c casei) = first
node_itself (LiteralBytes cs) = first
node_itself (Delegate inner casei) = first
node_itself (Backref g casei) = first
node_itself (BackrefWithLevel g level casei) = first
node_itself (BackrefExists g level) = first
node_itself (Control verb) = first
node_itself (SubroutineCall g) = first
node_itself (AstNode node) = first
node_itself (Group g e) = first
node_itself (LookAround look e) = first
node_itself (Repeat lo hi greedy e) = first
node_itself (AtomicGroup e) = first
node_itself (DefineGroup e) = first
node_itself (AbsentRepeater e) = first
node_itself (AbsentStopper e) = first
node_itself (Concat es) = first
node_itself (Alt es) = first
node_itself (Conditional c t f) = first
node_itself (AbsentExpression a e) = first

first_or : {e d w : Tree} {ws : List Tree} → nodes w ≡ w ∷ ws → (IsIn e ws → IsIn d ws) → IsIn d (nodes e) → IsIn e (w ∷ ws) → IsIn d (w ∷ ws)
first_or {d = d} q k i first = subst (λ l. IsIn d l) q i
first_or q k i (later j) = later (k j)

in_either : {e d : Tree} {xs ys : List Tree} → (IsIn e xs → IsIn d xs) → (IsIn e ys → IsIn d ys) → IsIn e (xs ++ ys) → IsIn d (xs ++ ys)
in_either {xs = xs} {ys = ys} h k i = ⊎_elim (λ j. is_in_append_left ys (h j)) (λ j. is_in_append_right xs (k j)) (is_in_append_cases xs i)

-- what is below a node of the tree is in the tree
mutual
  pub node_below : (w : Tree) {d e : Tree} → IsIn d (nodes e) → IsIn e (nodes w) → IsIn d (nodes w)
  node_below Empty i j = first_or refl (λ n. elim n [ ]) i j
  node_below KeepOut i j = first_or refl (λ n. elim n [ ]) i j
  node_below ContinueFromPreviousMatchEnd i j = first_or refl (λ n. elim n [ ]) i j
  node_below AbsentClear i j = first_or refl (λ n. elim n [ ]) i j
  node_below (Any newline crlf) i j = first_or refl (λ n. elim n [ ]) i j
  node_below (Assert within a) i j = first_or refl (λ n. elim n [ ]) i j
  node_below (GeneralNewline unicode) i j = first_or refl (λ n. elim n [ ]) i j
  node_below (Literal c casei) i j = first_or refl (λ n. elim n [ ]) i j
  node_below (LiteralBytes cs) i j = first_or refl (λ n. elim n [ ]) i j
  node_below (Delegate inner casei) i j = first_or refl (λ n. elim n [ ]) i j
  node_below (Backref g casei) i j = first_or refl (λ n. elim n [ ]) i j
  node_below (BackrefWithLevel g level casei) i j = first_or refl (λ n. elim n [ ]) i j
  node_below (BackrefExists g level) i j = first_or refl (λ n. elim n [ ]) i j
  node_below (Control verb) i j = first_or refl (λ n. elim n [ ]) i j
  node_below (SubroutineCall g) i j = first_or refl (λ n. elim n [ ]) i j
  node_below (AstNode node) i j = first_or refl (λ n. elim n [ ]) i j
  node_below (Group g e) i j = first_or refl (λ n. node_below e i n) i j
  node_below (LookAround look e) i j = first_or refl (λ n. node_below e i n) i j
  node_below (Repeat lo hi greedy e) i j = first_or refl (λ n. node_below e i n) i j
  node_below (AtomicGroup e) i j = first_or refl (λ n. node_below e i n) i j
  node_below (DefineGroup e) i j = first_or refl (λ n. node_below e i n) i j
  node_below (AbsentRepeater e) i j = first_or refl (λ n. node_below e i n) i j
  node_below (AbsentStopper e) i j = first_or refl (λ n. node_below e i n) i j
  node_below (Concat es) i j = first_or refl (λ n. each_below es i n) i j
  node_below (Alt es) i j = first_or refl (λ n. each_below es i n) i j
  node_below (Conditional c t f) i j =
      first_or refl (λ n. in_either (λ m. node_below c i m) (λ m. in_either (λ l. node_below t i l) (λ l. node_below f i l) m) n) i j
  node_below (AbsentExpression a e) i j =
      first_or refl (λ n. in_either (λ m. node_below a i m) (λ m. node_below e i m) n) i j

  each_below : (ws : Trees) {d e : Tree} → IsIn d (nodes e) → IsIn e (nodes_of_each ws) → IsIn d (nodes_of_each ws)
  each_below none i j = elim j [ ]
  each_below (more w ws) i j = in_either (λ n. node_below w i n) (λ n. each_below ws i n) j

-- the body of a group that is found is that of a group in the list
found_body : (hs : List (ℕ × Tree)) (g : ℕ) (b : Tree) → body_in hs g ≡ Some b → IsIn (g, b) hs
found_body [] g b e = cc
found_body (h ∷ hs) g b e = here (h.0 == g) refl e (found_body hs g b)
  where
    here : (v : Bool) → (h.0 == g) ≡ v → (if v then Some h.1 else body_in hs g) ≡ Some b →
        (body_in hs g ≡ Some b → IsIn (g, b) hs) → IsIn (g, b) (h ∷ hs)
    here true q e' ih =
        let number = eqb-true h.0 g q in
        let body : h.1 ≡ b = cc in
        subst (λ x. IsIn x (h ∷ hs)) (ap₂ (λ x y. (x, y)) number body) first
    here false q e' ih = later (ih e')

group_alone : (e : Tree) (g : ℕ) (b : Tree) → as_group e ≡ Some (g, b) → e ≡ Group g b
group_alone (Group h e) g b q = let pair : ◌≡◌ {A = ℕ × Tree} (h, e) (g, b) = cc in ap (λ x. Group x.0 x.1) pair
group_alone Empty g b q = cc
group_alone KeepOut g b q = cc
group_alone ContinueFromPreviousMatchEnd g b q = cc
group_alone AbsentClear g b q = cc
group_alone (Any newline crlf) g b q = cc
group_alone (Assert within a) g b q = cc
group_alone (GeneralNewline unicode) g b q = cc
group_alone (Literal c casei) g b q = cc
group_alone (LiteralBytes cs) g b q = cc
group_alone (Delegate inner casei) g b q = cc
group_alone (Backref h casei) g b q = cc
group_alone (BackrefWithLevel h level casei) g b q = cc
group_alone (BackrefExists h level) g b q = cc
group_alone (Control verb) g b q = cc
group_alone (SubroutineCall h) g b q = cc
group_alone (AstNode node) g b q = cc
group_alone (DefineGroup e) g b q = cc
group_alone (AbsentStopper e) g b q = cc
group_alone (AbsentExpression a e) g b q = cc
group_alone (LookAround look e) g b q = cc
group_alone (Repeat lo hi greedy e) g b q = cc
group_alone (AtomicGroup e) g b q = cc
group_alone (AbsentRepeater e) g b q = cc
group_alone (Concat es) g b q = cc
group_alone (Alt es) g b q = cc
group_alone (Conditional c t f) g b q = cc

pub group_is_node : (whole : Tree) (g : ℕ) (b : Tree) → IsIn (g, b) (groups whole) → IsIn (Group g b) (nodes whole)
unfolding groups
group_is_node whole g b i =
    let found = from_filter_map as_group (nodes whole) i in
    subst (λ e. IsIn e (nodes whole)) (group_alone found.0 g b found.2) found.1

-- what a call of a group calls is the body of that group
pub target_is_body : (whole : Tree) (g : ℕ) (b : Tree) → target whole (suc g) ≡ Some b → IsIn (Group (suc g) b) (nodes whole)
unfolding target
target_is_body whole g b e = group_is_node whole (suc g) b (found_body (groups whole) (suc g) b e)

-- and a call of 0 that of the whole tree
pub target_is_whole : (whole b : Tree) → target whole 0 ≡ Some b → whole ≡ b
unfolding target
target_is_whole whole b e = cc
