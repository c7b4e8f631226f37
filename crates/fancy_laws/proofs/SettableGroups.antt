-- A way sets the spans of the groups that its node can set, and of no other.
use Rattle.std.proofs.Common.{◌≡◌, ℕ, zero, suc, Bool, true, false, if◌then◌else◌, List, [], ◌∷◌, ◌++◌, map, flat_map, Contains, Option, Some, None, nat_eq, is_some, ◌&&◌, ◌==◌, ◌⊎◌, inl, inr, ⊎_elim, option_and_then, refl, sym, ap, ◌∙◌, subst, eqb-true}
use Rattle.fancy_meaning.specs.Tree.{Tree, Trees, none, more, Empty, KeepOut, ContinueFromPreviousMatchEnd, AbsentClear, Any, Assert, GeneralNewline, Literal, LiteralBytes, Delegate, Concat, Alt, Group, LookAround, Repeat, Backref, BackrefWithLevel, BackrefExists, AtomicGroup, DefineGroup, AbsentRepeater, AbsentStopper, AbsentExpression, Control, Conditional, SubroutineCall, AstNode, Look, LookAhead, LookAheadNeg, LookBehind, LookBehindNeg}
use Rattle.fancy_meaning.specs.Assertions.{assertion_within}
use Rattle.fancy_meaning.specs.Chars.{literal_takes, any_takes, class_takes}
use Rattle.fancy_meaning.specs.Moves.{past_char, past_chars, past_newline, past_piece}
use Rattle.fancy_meaning.specs.MatchState.{MatchState, Span, Ways, fails, with_span, in_order}
use Rattle.fancy_meaning.specs.Loops.{repeats}
use Rattle.fancy_meaning.specs.Ways.{Setting, ways_with, each_ways}
use Rattle.fancy_meaning.specs.Laws.{SettableGroupsLaw}
use Rattle.fancy_meaning.specs.Fits.{is_entered, is_positive, settable_groups, settable_in_each}
use Rattle.fancy_laws.proofs.Every.{Every, no_item, item, every_one, every_flat_map, every_map, every_take, every_weaker, every_append_parts, every_contained, every_contains}
use Rattle.fancy_laws.proofs.Looks.{IsLooking, every_look}
use Rattle.fancy_laws.proofs.LookLaws.{negative_look_stays}
use Rattle.fancy_laws.proofs.WaysOf.{every_stays_if, every_moves, every_asserts, every_one_of, every_conditional, every_absent}
use Rattle.fancy_laws.proofs.Loops.{IsIterable, every_repeats}

-- `Settable` holds of the groups that can be set
module _ (q : Setting) (Settable : ℕ → Type 0) where
  -- the spans of all other groups are as they were
  abbrev Keeps : MatchState → MatchState → Type 0
  Keeps s t = (g : ℕ) → (t.captures g ≡ s.captures g) ⊎ Settable g

  abbrev EachKeeps : Ways → Type 0
  EachKeeps w = (s : MatchState) → Every (Keeps s) (w s)

  abbrev AreSettable : List ℕ → Type 0
  AreSettable gs = Every Settable gs

  onward : (s t u : MatchState) → Keeps s t → Keeps t u → Keeps s u
  onward s t u a b g = ⊎_elim (λ after. ⊎_elim (λ before. inl (after ∙ before)) inr (a g)) inr (b g)

  sets : (h : ℕ) (span : Span) (s t : MatchState) → Settable h → Keeps s t → Keeps s (with_span h span t)
  sets h span s t can k g = by_number (g == h) refl
    where
      by_number : (b : Bool) → (g == h) ≡ b → ((if b then Some span else t.captures g) ≡ s.captures g) ⊎ Settable g
      by_number true e = inr (subst Settable (sym (eqb-true g h e)) can)
      by_number false e = k g

  iterable : IsIterable (λ s. Unit {0}) Keeps (λ n s t. Keeps s t)
  iterable = record { arrives = λ s t good k. tt; none = λ s good g. inl refl; one_more = λ n s t u good. onward s t u }

  looking : IsLooking q (λ s. Unit {0}) Keeps Keeps
  looking = record {
    stays = λ s good g. inl refl;
    restores = λ s t good k. k;
    goes_back = λ s i good le at. tt;
    comes_here = λ s t i good le at k here. k;
  }

  keep_in_order : (ws : List Ways) → Every EachKeeps ws → EachKeeps (in_order ws)
  keep_in_order [] h s = every_one (λ g. inl refl)
  keep_in_order (w ∷ ws) (item k h) s =
      every_flat_map (in_order ws) (λ t one. every_weaker (λ u. onward s t u one) (keep_in_order ws h t)) (k s)

  keep_loop : (lo : ℕ) (hi : Option ℕ) (greedy : Bool) (body : Ways) (gs : List ℕ) → (AreSettable gs → EachKeeps body) →
      AreSettable (if is_entered lo hi then gs else []) → EachKeeps (repeats q.text lo hi greedy body)
  keep_loop lo hi greedy body gs h can s = by_entry lo hi can
    where
      entered : (l : ℕ) (m : Option ℕ) → AreSettable gs → Every (Keeps s) (repeats q.text l m greedy body s)
      entered l m c = every_weaker (λ t d. d.after) (every_repeats iterable body (λ u good. h c u) q.text l m greedy s tt)

      by_entry : (l : ℕ) (m : Option ℕ) → AreSettable (if is_entered l m then gs else []) → Every (Keeps s) (repeats q.text l m greedy body s)
      by_entry zero (Some zero) c = every_one (λ g. inl refl)
      by_entry zero (Some (suc n)) c = entered zero (Some (suc n)) c
      by_entry zero None c = entered zero None c
      by_entry (suc l) m c = entered (suc l) m c

  keep_look : (look : Look) (e : Tree) → (AreSettable (settable_groups e) → EachKeeps (ways_with q (λ g. fails) e)) →
      AreSettable (if is_positive look then settable_groups e else []) → EachKeeps (ways_with q (λ g. fails) (LookAround look e))
  keep_look LookAhead e h can s = every_look looking (λ g. fails) LookAhead e (λ u good. h can u) s tt
  keep_look LookBehind e h can s = every_look looking (λ g. fails) LookBehind e (λ u good. h can u) s tt
  keep_look LookAheadNeg e h can s =
      every_weaker (λ t is g. inl (ap (λ u. u.captures g) is)) (negative_look_stays q (λ g. fails) LookAheadNeg e s (inl refl))
  keep_look LookBehindNeg e h can s =
      every_weaker (λ t is g. inl (ap (λ u. u.captures g) is)) (negative_look_stays q (λ g. fails) LookBehindNeg e s (inr refl))

  mutual
    each_way_keeps : (e : Tree) → AreSettable (settable_groups e) → EachKeeps (ways_with q (λ g. fails) e)
    each_way_keeps Empty can s = every_one (λ g. inl refl)
    each_way_keeps KeepOut can s = every_one (λ g. inl refl)
    each_way_keeps ContinueFromPreviousMatchEnd can s = every_stays_if (λ t. q.continued && t.place == q.pos) s (λ e g. inl refl)
    each_way_keeps (Any newline crlf) can s = every_moves q (past_char q.text (any_takes newline crlf)) s (λ i e g. inl refl)
    each_way_keeps (Literal c casei) can s = every_moves q (past_char q.text (literal_takes q.unicode c casei)) s (λ i e g. inl refl)
    each_way_keeps (LiteralBytes cs) can s = every_moves q (past_chars q.text (map nat_eq cs)) s (λ i e g. inl refl)
    each_way_keeps (Delegate inner casei) can s =
        every_moves q (past_char q.text (class_takes q.unicode inner casei)) s (λ i e g. inl refl)
    each_way_keeps (GeneralNewline unicode) can s = every_moves q (past_newline q.text unicode) s (λ i e g. inl refl)
    each_way_keeps (Assert within a) can s = every_asserts q (assertion_within within a) s (λ g. inl refl) (λ g. inl refl)
    each_way_keeps (Backref g casei) can s =
        every_moves q (λ i. option_and_then (λ span. past_piece q.text q.unicode casei span i) (s.captures g)) s (λ i e h. inl refl)
    each_way_keeps (BackrefExists g None) can s = every_stays_if (λ t. is_some (t.captures g)) s (λ e h. inl refl)
    each_way_keeps (Concat es) can s = keep_in_order (each_ways q (λ g. fails) es) (each_keeps es can) s
    each_way_keeps (Alt es) can s = every_one_of s (every_weaker (λ w k. k s) (each_keeps es can))
    each_way_keeps (Group h e) (item p can) s =
        every_map {P = Keeps s} (λ t. with_span h (s.place, t.place) t) (λ t. sets h (s.place, t.place) s t p) (each_way_keeps e can s)
    each_way_keeps (SubroutineCall g) can s = no_item
    each_way_keeps (Repeat lo hi greedy e) can s =
        keep_loop lo hi greedy (ways_with q (λ g. fails) e) (settable_groups e) (each_way_keeps e) can s
    each_way_keeps (LookAround look e) can s = keep_look look e (each_way_keeps e) can s
    each_way_keeps (AtomicGroup e) can s = every_take 1 (each_way_keeps e can s)
    each_way_keeps (Conditional c t f) can s =
        let first = every_append_parts (settable_groups c) (settable_groups t ++ settable_groups f) can in
        let rest = every_append_parts (settable_groups t) (settable_groups f) first.1 in
        every_conditional (ways_with q (λ g. fails) c) (ways_with q (λ g. fails) t) (ways_with q (λ g. fails) f) s
        (each_way_keeps c first.0 s)
        (λ u one. every_weaker (λ v. onward s u v one) (each_way_keeps t rest.0 u)) (each_way_keeps f rest.1 s)
    each_way_keeps (AbsentRepeater e) can s = every_absent q (ways_with q (λ g. fails) e) s (λ i le at g. inl refl)
    each_way_keeps (DefineGroup e) can s = every_one (λ g. inl refl)
    each_way_keeps (Control verb) can s = no_item
    each_way_keeps (BackrefExists g (Some level)) can s = no_item
    each_way_keeps (BackrefWithLevel g level casei) can s = no_item
    each_way_keeps AbsentClear can s = no_item
    each_way_keeps (AbsentStopper e) can s = no_item
    each_way_keeps (AbsentExpression a e) can s = no_item
    each_way_keeps (AstNode node) can s = no_item

    each_keeps : (es : Trees) → AreSettable (settable_in_each es) → Every EachKeeps (each_ways q (λ g. fails) es)
    each_keeps none can = no_item
    each_keeps (more e es) can =
        let parts = every_append_parts (settable_groups e) (settable_in_each es) can in
        item (each_way_keeps e parts.0) (each_keeps es parts.1)

  neighbours_keep : (es : List Tree) → AreSettable (flat_map settable_groups es) → Every EachKeeps (map (ways_with q (λ g. fails)) es)
  neighbours_keep [] can = no_item
  neighbours_keep (e ∷ es) can =
      let parts = every_append_parts (settable_groups e) (flat_map settable_groups es) can in
      item (each_way_keeps e parts.0) (neighbours_keep es parts.1)

  pub fragment_keeps : (es : List Tree) → AreSettable (flat_map settable_groups es) → EachKeeps (in_order (map (ways_with q (λ g. fails)) es))
  fragment_keeps es can = keep_in_order (map (ways_with q (λ g. fails)) es) (neighbours_keep es can)

pub settable_groups_law : SettableGroupsLaw
settable_groups_law q es s t g way =
    let gs = flat_map settable_groups es in
    every_contained t (fragment_keeps q (Contains gs) es (every_contains gs) s) way g
