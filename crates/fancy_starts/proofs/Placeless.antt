-- Without `\G` ways do not depend on where the search began.
use Rattle.std.proofs.Common.{◌≡◌, ℕ, zero, suc, Bool, true, false, ◌||◌, if◌then◌else◌, List, [], ◌∷◌, Contains, Option, Some, None, nat_lt, refl, ap, ap₂, ◌∙◌}
use Rattle.std.specs.List.{list_any}
use Rattle.std.proofs.Math.Path.{fun_ext}
use Rattle.std.proofs.lemmas.Bool.{true≢false}
use Rattle.fancy_meaning.specs.Tree.{Tree, Trees, none, more, Empty, KeepOut, ContinueFromPreviousMatchEnd, AbsentClear, Any, Assert, GeneralNewline, Literal, LiteralBytes, Delegate, Concat, Alt, Group, LookAround, Look, Repeat, Backref, BackrefWithLevel, BackrefExists, AtomicGroup, DefineGroup, AbsentRepeater, AbsentStopper, AbsentExpression, Control, Conditional, SubroutineCall, AstNode}
use Rattle.fancy_meaning.specs.Nodes.{nodes, nodes_of_each, target}
use Rattle.fancy_meaning.specs.Marks.{is_continue}
use Rattle.fancy_meaning.specs.OpenCalls.{Depths, opened, call_depth, free_calls}
use Rattle.fancy_meaning.specs.Loops.{repeats}
use Rattle.fancy_meaning.specs.MatchState.{Ways, fails, in_order, one_of}
use Rattle.fancy_meaning.specs.Ways.{Setting, captured, atomic, conditional, looks, absent, ways_with, each_ways, called, captured_by_call, ways_of_target, ways}
use Rattle.fancy_laws.proofs.Every.{Every, no_item, item, every_weaker, every_append_parts, every_contained}
use Rattle.fancy_laws.proofs.NodesBelow.{every_node_below, target_is_node}

-- no node of the list passes the test
pub none_passes : (test : Tree → Bool) (es : List Tree) → list_any test es ≡ false → Every (λ e. test e ≡ false) es
none_passes test [] e = no_item
none_passes test (x ∷ es) e = by_first (test x) refl (none_passes test es) e
  where
    by_first : (v : Bool) → test x ≡ v → (list_any test es ≡ false → Every (λ e. test e ≡ false) es) →
        (v || list_any test es) ≡ false → Every (λ e. test e ≡ false) (x ∷ es)
    by_first true is rest e = absurd (true≢false e)
    by_first false is rest e = item is (rest e)

-- so it is below a node of the tree
pub none_below : (test : Tree → Bool) (whole e : Tree) → Every (λ x. test x ≡ false) (nodes whole) → Contains (nodes whole) e →
    Every (λ x. test x ≡ false) (nodes e)
none_below test whole e h c =
    every_weaker (λ x d. every_contained x h d) (every_contained e (every_node_below whole) c)

abbrev pub IsFree : List Tree → Type 0
IsFree = Every (λ e. is_continue e ≡ false)

module _ (q : Setting) (pos : ℕ) (continued : Bool) where
  -- begun elsewhere
  abbrev other : Setting
  other = record q { pos = pos; continued = continued }

  module _ (call call' : ℕ → Ways) (calls : call ≡ call') where
    -- its ways are the same, and so are those of each look-around of it
    record IsSame (e : Tree) : Type 0 where
      alone : ways_with q call e ≡ ways_with other call' e
      looked : (look : Look) → ways_with q call (LookAround look e) ≡ ways_with other call' (LookAround look e)

    mutual
      same_ways : (e : Tree) → IsFree (nodes e) → IsSame e
      same_ways Empty h = record { alone = refl; looked = λ look. refl }
      same_ways KeepOut h = record { alone = refl; looked = λ look. refl }
      same_ways ContinueFromPreviousMatchEnd (item no_continue h) = absurd (true≢false no_continue)
      same_ways (Any newline crlf) h = record { alone = refl; looked = λ look. refl }
      same_ways (Literal c casei) h = record { alone = refl; looked = λ look. refl }
      same_ways (LiteralBytes cs) h = record { alone = refl; looked = λ look. refl }
      same_ways (Delegate inner casei) h = record { alone = refl; looked = λ look. refl }
      same_ways (GeneralNewline unicode) h = record { alone = refl; looked = λ look. refl }
      same_ways (Assert within a) h = record { alone = refl; looked = λ look. refl }
      same_ways (Backref g casei) h = record { alone = refl; looked = λ look. refl }
      same_ways (BackrefExists g None) h = record { alone = refl; looked = λ look. refl }
      same_ways (BackrefExists g (Some level)) h = record { alone = refl; looked = λ look. refl }
      same_ways (BackrefWithLevel g level casei) h = record { alone = refl; looked = λ look. refl }
      same_ways (Concat es) (item p h) =
          let a = ap in_order (each_same es h) in record { alone = a; looked = λ look. ap (λ w. looks q look (w ∷ [])) a }
      same_ways (Alt es) (item p h) =
          let each = each_same es h in record { alone = ap one_of each; looked = λ look. ap (looks q look) each }
      same_ways (Group g e) (item p h) =
          let a = ap (captured g) (same_ways e h).alone in
          record { alone = a; looked = λ look. ap (λ w. looks q look (w ∷ [])) a }
      same_ways (SubroutineCall g) h =
          let a = ap (λ c. c g) calls in record { alone = a; looked = λ look. ap (λ w. looks q look (w ∷ [])) a }
      same_ways (Repeat lo hi greedy e) (item p h) =
          let a = ap (repeats q.text lo hi greedy) (same_ways e h).alone in
          record { alone = a; looked = λ look. ap (λ w. looks q look (w ∷ [])) a }
      same_ways (LookAround look e) (item p h) =
          let a = (same_ways e h).looked look in
          record { alone = a; looked = λ outer. ap (λ w. looks q outer (w ∷ [])) a }
      same_ways (AtomicGroup e) (item p h) =
          let a = ap atomic (same_ways e h).alone in
          record { alone = a; looked = λ look. ap (λ w. looks q look (w ∷ [])) a }
      same_ways (Conditional c t f) (item p h) =
          let first = every_append_parts (nodes c) _ h in
          let rest = every_append_parts (nodes t) (nodes f) first.1 in
          let a = ap (λ w. conditional w (ways_with q call t) (ways_with q call f)) (same_ways c first.0).alone
          ∙ ap₂ (conditional (ways_with other call' c)) (same_ways t rest.0).alone (same_ways f rest.1).alone in
          record { alone = a; looked = λ look. ap (λ w. looks q look (w ∷ [])) a }
      same_ways (AbsentRepeater e) (item p h) =
          let a = ap (absent q) (same_ways e h).alone in
          record { alone = a; looked = λ look. ap (λ w. looks q look (w ∷ [])) a }
      same_ways (DefineGroup e) h = record { alone = refl; looked = λ look. refl }
      same_ways (Control verb) h = record { alone = refl; looked = λ look. refl }
      same_ways AbsentClear h = record { alone = refl; looked = λ look. refl }
      same_ways (AbsentStopper e) h = record { alone = refl; looked = λ look. refl }
      same_ways (AbsentExpression a e) h = record { alone = refl; looked = λ look. refl }
      same_ways (AstNode node) h = record { alone = refl; looked = λ look. refl }

      each_same : (es : Trees) → IsFree (nodes_of_each es) → each_ways q call es ≡ each_ways other call' es
      each_same none h = refl
      each_same (more e es) h =
          let parts = every_append_parts (nodes e) (nodes_of_each es) h in
          ap₂ (λ w ws. w ∷ ws) (same_ways e parts.0).alone (each_same es parts.1)

  module _ (whole : Tree) (free : IsFree (nodes whole)) where
    same_capture : (g : ℕ) (w v : Ways) → w ≡ v → captured_by_call q whole g w ≡ captured_by_call other whole g v
    same_capture zero w v same = same
    same_capture (suc g) w v same = ap (captured (suc g)) same

    same_target : (g : ℕ) (call call' : ℕ → Ways) → call ≡ call' → (o : Option Tree) → target whole g ≡ o →
        ways_of_target q whole g call o ≡ ways_of_target other whole g call' o
    same_target g call call' calls None is = refl
    same_target g call call' calls (Some body) is =
        same_capture g (ways_with q call body) (ways_with other call' body)
        (same_ways call call' calls body (none_below is_continue whole body free (target_is_node whole g body is))).alone

    same_called : (n : ℕ) (depths : Depths) (g : ℕ) → called q whole n depths g ≡ called other whole n depths g
    same_called zero depths g = refl
    same_called (suc n) depths g =
        ap (λ w. if nat_lt (depths g) call_depth then w else fails)
        (same_target g (called q whole n (opened g depths)) (called other whole n (opened g depths))
        (fun_ext (same_called n (opened g depths))) (target whole g) refl)

    pub placeless : (depths : Depths) → ways q whole whole depths ≡ ways other whole whole depths
    placeless depths =
        (same_ways (called q whole (free_calls whole depths) depths) (called other whole (free_calls whole depths) depths)
        (fun_ext (same_called (free_calls whole depths) depths)) whole free).alone
