-- Without `\K` each way keeps the start that its state has.
use Rattle.std.proofs.Common.{◌≡◌, ℕ, zero, suc, Bool, true, false, if◌then◌else◌, ◌&&◌, ◌==◌, List, [], ◌∷◌, map, Option, Some, None, is_some, nat_eq, nat_lt, option_and_then, refl, ◌∙◌}
use Rattle.std.proofs.lemmas.Bool.{true≢false}
use Rattle.fancy_meaning.specs.Tree.{Tree, Trees, none, more, Empty, KeepOut, ContinueFromPreviousMatchEnd, AbsentClear, Any, Assert, GeneralNewline, Literal, LiteralBytes, Delegate, Concat, Alt, Group, LookAround, Repeat, Backref, BackrefWithLevel, BackrefExists, AtomicGroup, DefineGroup, AbsentRepeater, AbsentStopper, AbsentExpression, Control, Conditional, SubroutineCall, AstNode}
use Rattle.fancy_meaning.specs.Nodes.{nodes, nodes_of_each, target, is_keep_out}
use Rattle.fancy_meaning.specs.OpenCalls.{Depths, opened, call_depth, free_calls}
use Rattle.fancy_meaning.specs.Assertions.{assertion_within}
use Rattle.fancy_meaning.specs.Chars.{literal_takes, any_takes, class_takes}
use Rattle.fancy_meaning.specs.Moves.{past_char, past_chars, past_newline, past_piece}
use Rattle.fancy_meaning.specs.MatchState.{MatchState, Ways, with_span, in_order}
use Rattle.fancy_meaning.specs.Ways.{Setting, ways_with, each_ways, called, captured_by_call, ways_of_target, ways}
use Rattle.fancy_laws.proofs.Every.{Every, no_item, item, every_one, every_flat_map, every_map, every_take, every_weaker, every_append_parts}
use Rattle.fancy_laws.proofs.WaysOf.{every_stays_if, every_moves, every_asserts, every_one_of, every_conditional, every_absent}
use Rattle.fancy_laws.proofs.Looks.{IsLooking, every_look}
use Rattle.fancy_laws.proofs.Loops.{IsIterable, every_repeats}
use Rattle.fancy_laws.proofs.NodesBelow.{target_is_node}
use Rattle.fancy_starts.proofs.Placeless.{none_below}

abbrev pub KeepsStart : MatchState → MatchState → Type 0
KeepsStart s t = t.kept ≡ s.kept

abbrev EachKeeps : Ways → Type 0
EachKeeps w = (s : MatchState) → Every (KeepsStart s) (w s)

abbrev IsFree : List Tree → Type 0
IsFree = Every (λ e. is_keep_out e ≡ false)

iterable : IsIterable (λ s. Unit {0}) KeepsStart (λ n s t. KeepsStart s t)
iterable = record { arrives = λ s t good one. tt; none = λ s good. refl; one_more = λ n s t u good one more. more ∙ one }

looking : (q : Setting) → IsLooking q (λ s. Unit {0}) KeepsStart KeepsStart
looking q = record {
  stays = λ s good. refl;
  restores = λ s t good keeps. keeps;
  goes_back = λ s i good le at. tt;
  comes_here = λ s t i good le at keeps here. keeps;
}

keep_in_order : (ws : List Ways) → Every EachKeeps ws → EachKeeps (in_order ws)
keep_in_order [] h s = every_one refl
keep_in_order (w ∷ ws) (item keeps h) s =
    every_flat_map (in_order ws) (λ t one. every_weaker (λ u more. more ∙ one) (keep_in_order ws h t)) (keeps s)

module _ (q : Setting) where
  module _ (call : ℕ → Ways) (calls : (g : ℕ) → EachKeeps (call g)) where
    mutual
      every_way_keeps : (e : Tree) → IsFree (nodes e) → EachKeeps (ways_with q call e)
      every_way_keeps Empty h s = every_one refl
      every_way_keeps KeepOut (item keep h) s = absurd (true≢false keep)
      every_way_keeps ContinueFromPreviousMatchEnd h s =
          every_stays_if (λ t. q.continued && t.place == q.pos) s (λ e. refl)
      every_way_keeps (Any newline crlf) h s = every_moves q (past_char q.text (any_takes newline crlf)) s (λ i e. refl)
      every_way_keeps (Literal c casei) h s =
          every_moves q (past_char q.text (literal_takes q.unicode c casei)) s (λ i e. refl)
      every_way_keeps (LiteralBytes cs) h s = every_moves q (past_chars q.text (map nat_eq cs)) s (λ i e. refl)
      every_way_keeps (Delegate inner casei) h s =
          every_moves q (past_char q.text (class_takes q.unicode inner casei)) s (λ i e. refl)
      every_way_keeps (GeneralNewline unicode) h s = every_moves q (past_newline q.text unicode) s (λ i e. refl)
      every_way_keeps (Assert within a) h s = every_asserts q (assertion_within within a) s refl refl
      every_way_keeps (Backref g casei) h s =
          every_moves q (λ i. option_and_then (λ span. past_piece q.text q.unicode casei span i) (s.captures g)) s (λ i e. refl)
      every_way_keeps (BackrefExists g None) h s = every_stays_if (λ t. is_some (t.captures g)) s (λ e. refl)
      every_way_keeps (Concat es) (item p h) s = keep_in_order (each_ways q call es) (each_keeps es h) s
      every_way_keeps (Alt es) (item p h) s = every_one_of s (every_weaker (λ w keeps. keeps s) (each_keeps es h))
      every_way_keeps (Group g e) (item p h) s =
          every_map {P = KeepsStart s} (λ t. with_span g (s.place, t.place) t) (λ t keeps. keeps) (every_way_keeps e h s)
      every_way_keeps (SubroutineCall g) h s = calls g s
      every_way_keeps (Repeat lo hi greedy e) (item p h) s =
          every_weaker (λ t c. c.after)
          (every_repeats iterable (ways_with q call e) (λ t good. every_way_keeps e h t) q.text lo hi greedy s tt)
      every_way_keeps (LookAround look e) (item p h) s = every_look (looking q) call look e (λ t good. every_way_keeps e h t) s tt
      every_way_keeps (AtomicGroup e) (item p h) s = every_take 1 (every_way_keeps e h s)
      every_way_keeps (Conditional c t f) (item p h) s =
          let first = every_append_parts (nodes c) _ h in
          let rest = every_append_parts (nodes t) (nodes f) first.1 in
          every_conditional {P = KeepsStart s} (ways_with q call c) (ways_with q call t) (ways_with q call f) s
          (every_way_keeps c first.0 s)
          (λ u one. every_weaker (λ v more. more ∙ one) (every_way_keeps t rest.0 u))
          (every_way_keeps f rest.1 s)
      every_way_keeps (AbsentRepeater e) h s = every_absent q (ways_with q call e) s (λ i le at. refl)
      every_way_keeps (DefineGroup e) h s = every_one refl
      every_way_keeps (Control verb) h s = no_item
      every_way_keeps (BackrefExists g (Some level)) h s = no_item
      every_way_keeps (BackrefWithLevel g level casei) h s = no_item
      every_way_keeps AbsentClear h s = no_item
      every_way_keeps (AbsentStopper e) h s = no_item
      every_way_keeps (AbsentExpression a e) h s = no_item
      every_way_keeps (AstNode node) h s = no_item

      each_keeps : (es : Trees) → IsFree (nodes_of_each es) → Every EachKeeps (each_ways q call es)
      each_keeps none h = no_item
      each_keeps (more e es) h =
          let parts = every_append_parts (nodes e) (nodes_of_each es) h in
          item (every_way_keeps e parts.0) (each_keeps es parts.1)

  module _ (whole : Tree) (free : IsFree (nodes whole)) where
    capture_keeps : (g : ℕ) (body : Ways) → EachKeeps body → EachKeeps (captured_by_call q whole g body)
    capture_keeps zero body h s = h s
    capture_keeps (suc g) body h s =
        every_map {P = KeepsStart s} (λ t. with_span (suc g) (s.place, t.place) t) (λ t keeps. keeps) (h s)

    target_keeps : (g : ℕ) (call : ℕ → Ways) → ((h : ℕ) → EachKeeps (call h)) → (o : Option Tree) → target whole g ≡ o →
        EachKeeps (ways_of_target q whole g call o)
    target_keeps g call calls None is s = no_item
    target_keeps g call calls (Some body) is s =
        capture_keeps g (ways_with q call body)
        (every_way_keeps call calls body (none_below is_keep_out whole body free (target_is_node whole g body is))) s

    called_keeps : (n : ℕ) (depths : Depths) (g : ℕ) → EachKeeps (called q whole n depths g)
    called_keeps zero depths g s = no_item
    called_keeps (suc n) depths g s =
        choose (nat_lt (depths g) call_depth)
        (target_keeps g (called q whole n (opened g depths)) (called_keeps n (opened g depths)) (target whole g) refl)
      where
        choose : (b : Bool) {w : Ways} → EachKeeps w → Every (KeepsStart s) ((if b then w else (λ t. [])) s)
        choose true h = h s
        choose false h = no_item

    pub ways_keep_start : (depths : Depths) (s : MatchState) → Every (KeepsStart s) (ways q whole whole depths s)
    ways_keep_start depths =
        every_way_keeps (called q whole (free_calls whole depths) depths) (called_keeps (free_calls whole depths) depths) whole free
