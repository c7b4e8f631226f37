-- What holds of a node and of every node below it, outside of definitions.
use Rattle.std.proofs.Common.{◌++◌}
use Rattle.fancy_meaning.specs.Tree.{Tree, Trees, none, more, Empty, KeepOut, ContinueFromPreviousMatchEnd, AbsentClear, Any, Assert, GeneralNewline, Literal, LiteralBytes, Delegate, Concat, Alt, Group, LookAround, Repeat, Backref, BackrefWithLevel, BackrefExists, AtomicGroup, DefineGroup, AbsentRepeater, AbsentStopper, AbsentExpression, Control, Conditional, SubroutineCall, AstNode}
use Rattle.fancy_meaning.specs.Nodes.{nodes, nodes_of_each}
use Rattle.fancy_delegation.proofs.Items.{IsIn, later, is_in_append_left, is_in_append_right}
use Rattle.fancy_delegation.proofs.Nodes.{node_itself}

-- of every node below that a match may come to
abbrev mutual
  pub Below : (Tree → Type 0) → Tree → Type 0
  Below P (Concat es) = EachBelow P es
  Below P (Alt es) = EachBelow P es
  Below P (Group g e) = P e × Below P e
  Below P (LookAround look e) = P e × Below P e
  Below P (Repeat lo hi greedy e) = P e × Below P e
  Below P (AtomicGroup e) = P e × Below P e
  Below P (Conditional c t f) = (P c × Below P c) × (P t × Below P t) × (P f × Below P f)
  Below P (AbsentRepeater e) = P e × Below P e
  Below P e = Unit {0}

  pub EachBelow : (Tree → Type 0) → Trees → Type 0
  EachBelow P none = Unit {0}
  EachBelow P (more e es) = (P e × Below P e) × EachBelow P es

abbrev pub Everywhere : (Tree → Type 0) → Tree → Type 0
Everywhere P e = P e × Below P e

mutual
  below_from : (P : Tree → Type 0) (e : Tree) → ((d : Tree) → IsIn d (nodes e) → P d) → Below P e
  below_from P Empty k = tt
  below_from P KeepOut k = tt
  below_from P ContinueFromPreviousMatchEnd k = tt
  below_from P AbsentClear k = tt
  below_from P (Any newline crlf) k = tt
  below_from P (Assert within a) k = tt
  below_from P (GeneralNewline unicode) k = tt
  below_from P (Literal c casei) k = tt
  below_from P (LiteralBytes cs) k = tt
  below_from P (Delegate inner casei) k = tt
  below_from P (Backref g casei) k = tt
  below_from P (BackrefWithLevel g level casei) k = tt
  below_from P (BackrefExists g level) k = tt
  below_from P (Control verb) k = tt
  below_from P (SubroutineCall g) k = tt
  below_from P (AstNode node) k = tt
  below_from P (DefineGroup e) k = tt
  below_from P (AbsentStopper e) k = tt
  below_from P (AbsentExpression a e) k = tt
  below_from P (Group g e) k = (k e (later (node_itself e)), below_from P e (λ d i. k d (later i)))
  below_from P (LookAround look e) k = (k e (later (node_itself e)), below_from P e (λ d i. k d (later i)))
  below_from P (Repeat lo hi greedy e) k = (k e (later (node_itself e)), below_from P e (λ d i. k d (later i)))
  below_from P (AtomicGroup e) k = (k e (later (node_itself e)), below_from P e (λ d i. k d (later i)))
  below_from P (AbsentRepeater e) k = (k e (later (node_itself e)), below_from P e (λ d i. k d (later i)))
  below_from P (Concat es) k = each_from P es (λ d i. k d (later i))
  below_from P (Alt es) k = each_from P es (λ d i. k d (later i))
  below_from P (Conditional c t f) k =
      let of_c : (d : Tree) → IsIn d (nodes c) → P d = λ d i. k d (later (is_in_append_left (nodes t ++ nodes f) i)) in
      let of_t : (d : Tree) → IsIn d (nodes t) → P d = λ d i. k d (later (is_in_append_right (nodes c) (is_in_append_left (nodes f) i))) in
      let of_f : (d : Tree) → IsIn d (nodes f) → P d = λ d i. k d (later (is_in_append_right (nodes c) (is_in_append_right (nodes t) i))) in
      ((of_c c (node_itself c), below_from P c of_c), (of_t t (node_itself t), below_from P t of_t), (of_f f (node_itself f), below_from P f of_f))

  each_from : (P : Tree → Type 0) (es : Trees) → ((d : Tree) → IsIn d (nodes_of_each es) → P d) → EachBelow P es
  each_from P none k = tt
  each_from P (more e es) k =
      let of_e : (d : Tree) → IsIn d (nodes e) → P d = λ d i. k d (is_in_append_left (nodes_of_each es) i) in
      ((of_e e (node_itself e), below_from P e of_e), each_from P es (λ d i. k d (is_in_append_right (nodes e) i)))

-- what holds of every node of a tree
pub everywhere_from : (P : Tree → Type 0) (e : Tree) → ((d : Tree) → IsIn d (nodes e) → P d) → Everywhere P e
everywhere_from P e k = (k e (node_itself e), below_from P e k)

mutual
  below_weaken : (P Q : Tree → Type 0) → ((e : Tree) → P e → Q e) → (e : Tree) → Below P e → Below Q e
  below_weaken P Q k Empty h = tt
  below_weaken P Q k KeepOut h = tt
  below_weaken P Q k ContinueFromPreviousMatchEnd h = tt
  below_weaken P Q k AbsentClear h = tt
  below_weaken P Q k (Any newline crlf) h = tt
  below_weaken P Q k (Assert within a) h = tt
  below_weaken P Q k (GeneralNewline unicode) h = tt
  below_weaken P Q k (Literal c casei) h = tt
  below_weaken P Q k (LiteralBytes cs) h = tt
  below_weaken P Q k (Delegate inner casei) h = tt
  below_weaken P Q k (Backref g casei) h = tt
  below_weaken P Q k (BackrefWithLevel g level casei) h = tt
  below_weaken P Q k (BackrefExists g level) h = tt
  below_weaken P Q k (Control verb) h = tt
  below_weaken P Q k (SubroutineCall g) h = tt
  below_weaken P Q k (AstNode node) h = tt
  below_weaken P Q k (DefineGroup e) h = tt
  below_weaken P Q k (AbsentStopper e) h = tt
  below_weaken P Q k (AbsentExpression a e) h = tt
  below_weaken P Q k (Group g e) h = (k e h.0, below_weaken P Q k e h.1)
  below_weaken P Q k (LookAround look e) h = (k e h.0, below_weaken P Q k e h.1)
  below_weaken P Q k (Repeat lo hi greedy e) h = (k e h.0, below_weaken P Q k e h.1)
  below_weaken P Q k (AtomicGroup e) h = (k e h.0, below_weaken P Q k e h.1)
  below_weaken P Q k (AbsentRepeater e) h = (k e h.0, below_weaken P Q k e h.1)
  below_weaken P Q k (Concat es) h = each_weaken P Q k es h
  below_weaken P Q k (Alt es) h = each_weaken P Q k es h
  below_weaken P Q k (Conditional c t f) h =
      ((k c (h.0).0, below_weaken P Q k c (h.0).1), (k t (h.1).0, below_weaken P Q k t (h.1).1), (k f (h.2).0, below_weaken P Q k f (h.2).1))

  each_weaken : (P Q : Tree → Type 0) → ((e : Tree) → P e → Q e) → (es : Trees) → EachBelow P es → EachBelow Q es
  each_weaken P Q k none h = tt
  each_weaken P Q k (more e es) h = ((k e (h.0).0, below_weaken P Q k e (h.0).1), each_weaken P Q k es h.1)

pub everywhere_weaken : {P Q : Tree → Type 0} (e : Tree) → ((d : Tree) → P d → Q d) → Everywhere P e → Everywhere Q e
everywhere_weaken {P} {Q} e k h = (k e h.0, below_weaken P Q k e h.1)
