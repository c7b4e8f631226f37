-- What every way of every tree does, from what the moves over text, captures and look-arounds do.
use Rattle.std.proofs.Common.{◌≡◌, ℕ, zero, suc, ◌≤◌, Bool, true, false, List, [], ◌∷◌, map, Option, Some, None, option_and_then, nat_eq, nat_lt, subst, is_some, if◌then◌else◌, ◌&&◌, ◌==◌}
use Rattle.std.proofs.lemmas.Option.{option_and_then_some, same_Some}
use Rattle.fancy_meaning.specs.Tree.{Tree, Trees, none, more, Empty, KeepOut, ContinueFromPreviousMatchEnd, AbsentClear, Any, Assert, GeneralNewline, Literal, LiteralBytes, Delegate, Concat, Alt, Group, LookAround, Repeat, Backref, BackrefWithLevel, BackrefExists, AtomicGroup, DefineGroup, AbsentRepeater, AbsentStopper, AbsentExpression, Control, Conditional, SubroutineCall, AstNode}
use Rattle.fancy_meaning.specs.Nodes.{target}
use Rattle.fancy_meaning.specs.OpenCalls.{Depths, opened, call_depth, free_calls}
use Rattle.fancy_meaning.specs.Places.{is_place}
use Rattle.fancy_meaning.specs.Assertions.{assertion_within}
use Rattle.fancy_meaning.specs.Chars.{literal_takes, any_takes, class_takes}
use Rattle.fancy_meaning.specs.Moves.{past_char, past_chars, past_newline, past_piece}
use Rattle.fancy_meaning.specs.MatchState.{MatchState, Ways, moved_to, with_span, in_order}
use Rattle.fancy_meaning.specs.Ways.{Setting, ways_with, each_ways, called, ways_of_target, captured_by_call, ways}
use Rattle.fancy_laws.proofs.Every.{Every, no_item, item, every_one, every_flat_map, every_map, every_take, every_weaker}
use Rattle.fancy_laws.proofs.Looks.{IsLooking, every_look}
use Rattle.fancy_laws.proofs.WaysOf.{every_stays_if, every_moves, every_asserts, every_one_of, every_conditional, every_absent}
use Rattle.fancy_laws.proofs.Loops.{IsIterable, every_repeats}

-- From a state that is good each step leads to a good one, and these are steps.
pub record IsMotion (q : Setting) (Good : MatchState → Type 0) (Step : MatchState → MatchState → Type 0) : Type 0 where
  pub arrives : (s t : MatchState) → Good s → Step s t → Good t
  pub stays : (s : MatchState) → Good s → Step s s
  pub onward : (s t u : MatchState) → Good s → Step s t → Step t u → Step s u
  pub skip_one : (test : ℕ → Bool) (s : MatchState) (i : ℕ) → Good s → past_char q.text test s.place ≡ Some i →
      Step s (moved_to i s)
  pub past_line : (unicode : Bool) (s : MatchState) (i : ℕ) → Good s → past_newline q.text unicode s.place ≡ Some i →
      Step s (moved_to i s)
  pub past_group : (g : ℕ) (span : _) (casei : Bool) (s : MatchState) (i : ℕ) → Good s → s.captures g ≡ Some span →
      past_piece q.text q.unicode casei span s.place ≡ Some i →
      Step s (moved_to i s)
  pub keeps : (s : MatchState) → Good s → Step s (record s { kept = s.place })
  pub meets_end : (s : MatchState) → Good s → Step s (record s { text_end = true })
  pub captures : (g : ℕ) (s t : MatchState) → Good s → Step s t → Step s (with_span g (s.place, t.place) t)
  pub restores : (s t : MatchState) → Good s → Step s t → Step s (moved_to s.place t)
  pub goes_back : (s : MatchState) (i : ℕ) → Good s → i ≤ s.place → is_place q.text i ≡ true → Good (moved_to i s)
  pub comes_here : (s t : MatchState) (i : ℕ) → Good s → i ≤ s.place → is_place q.text i ≡ true → Step (moved_to i s) t →
      t.place ≡ s.place → Step s t
  pub goes_on : (s : MatchState) (i : ℕ) → Good s → s.place ≤ i → is_place q.text i ≡ true → Step s (moved_to i s)

module _ {q : Setting} {Good : MatchState → Type 0} {Step : MatchState → MatchState → Type 0} (m : IsMotion q Good Step) where
  -- each way is a step
  abbrev pub EachWayIsStep : Ways → Type 0
  EachWayIsStep w = (s : MatchState) → Good s → Every (Step s) (w s)

  iterable : IsIterable Good Step (λ n s t. Step s t)
  iterable = record { arrives = m.arrives; none = m.stays; one_more = λ n s t u good. m.onward s t u good }

  past_many : (tests : List (ℕ → Bool)) (s : MatchState) (i : ℕ) → Good s → past_chars q.text tests s.place ≡ Some i →
      Step s (moved_to i s)
  past_many [] s i good e = subst (λ j. Step s (moved_to j s)) (same_Some _ _ e) (m.stays s good)
  past_many (test ∷ tests) s i good e =
      option_and_then_some (past_chars q.text tests) (past_char q.text test s.place) i e
      (λ j one rest. let step = m.skip_one test s j good one in
      m.onward s (moved_to j s) (moved_to i s) good step
      (past_many tests (moved_to j s) i (m.arrives s (moved_to j s) good step) rest))

  looking : IsLooking q Good Step Step
  looking = record { stays = m.stays; restores = m.restores; goes_back = m.goes_back; comes_here = m.comes_here }

  lead_in_order : (ws : List Ways) → Every EachWayIsStep ws → EachWayIsStep (in_order ws)
  lead_in_order [] h s good = every_one (m.stays s good)
  lead_in_order (w ∷ ws) (item lead h) s good =
      every_flat_map (in_order ws)
      (λ t step. every_weaker (λ u. m.onward s t u good step) (lead_in_order ws h t (m.arrives s t good step)))
      (lead s good)

  module _ (call : ℕ → Ways) (calls : (g : ℕ) → EachWayIsStep (call g)) where
    mutual
      pub every_way_leads : (e : Tree) → EachWayIsStep (ways_with q call e)
      every_way_leads Empty s good = every_one (m.stays s good)
      every_way_leads KeepOut s good = every_one (m.keeps s good)
      every_way_leads ContinueFromPreviousMatchEnd s good =
          every_stays_if (λ t. q.continued && t.place == q.pos) s (λ e. m.stays s good)
      every_way_leads (Any newline crlf) s good =
          every_moves q (past_char q.text (any_takes newline crlf)) s (λ i. m.skip_one (any_takes newline crlf) s i good)
      every_way_leads (Literal c casei) s good =
          every_moves q (past_char q.text (literal_takes q.unicode c casei)) s
          (λ i. m.skip_one (literal_takes q.unicode c casei) s i good)
      every_way_leads (LiteralBytes cs) s good =
          every_moves q (past_chars q.text (map nat_eq cs)) s (λ i. past_many (map nat_eq cs) s i good)
      every_way_leads (Delegate inner casei) s good =
          every_moves q (past_char q.text (class_takes q.unicode inner casei)) s
          (λ i. m.skip_one (class_takes q.unicode inner casei) s i good)
      every_way_leads (GeneralNewline unicode) s good =
          every_moves q (past_newline q.text unicode) s (λ i. m.past_line unicode s i good)
      every_way_leads (Assert within a) s good =
          every_asserts q (assertion_within within a) s (m.stays s good) (m.meets_end s good)
      every_way_leads (Backref g casei) s good =
          every_moves q (λ i. option_and_then (λ span. past_piece q.text q.unicode casei span i) (s.captures g)) s
          (λ i e. option_and_then_some (λ span. past_piece q.text q.unicode casei span s.place) (s.captures g) i e
          (λ span set there. m.past_group g span casei s i good set there))
      every_way_leads (BackrefExists g None) s good = every_stays_if (λ t. is_some (t.captures g)) s (λ e. m.stays s good)
      every_way_leads (Concat es) s good = lead_in_order (each_ways q call es) (each_leads es) s good
      every_way_leads (Alt es) s good = every_one_of s (every_weaker (λ w lead. lead s good) (each_leads es))
      every_way_leads (Group g e) s good =
          every_map {P = Step s} (λ t. with_span g (s.place, t.place) t) (λ t step. m.captures g s t good step)
          (every_way_leads e s good)
      every_way_leads (SubroutineCall g) s good = calls g s good
      every_way_leads (Repeat lo hi greedy e) s good =
          every_weaker (λ t c. c.after)
          (every_repeats iterable (ways_with q call e) (every_way_leads e) q.text lo hi greedy s good)
      every_way_leads (LookAround look e) s good = every_look looking call look e (every_way_leads e) s good
      every_way_leads (AtomicGroup e) s good = every_take 1 (every_way_leads e s good)
      every_way_leads (Conditional c t f) s good =
          every_conditional (ways_with q call c) (ways_with q call t) (ways_with q call f) s (every_way_leads c s good)
          (λ u step. every_weaker (λ v. m.onward s u v good step) (every_way_leads t u (m.arrives s u good step)))
          (every_way_leads f s good)
      every_way_leads (AbsentRepeater e) s good = every_absent q (ways_with q call e) s (λ i le at. m.goes_on s i good le at)
      every_way_leads (DefineGroup e) s good = every_one (m.stays s good)
      every_way_leads (Control verb) s good = no_item
      every_way_leads (BackrefExists g (Some level)) s good = no_item
      every_way_leads (BackrefWithLevel g level casei) s good = no_item
      every_way_leads AbsentClear s good = no_item
      every_way_leads (AbsentStopper e) s good = no_item
      every_way_leads (AbsentExpression a e) s good = no_item
      every_way_leads (AstNode node) s good = no_item

      each_leads : (es : Trees) → Every EachWayIsStep (each_ways q call es)
      each_leads none = no_item
      each_leads (more e es) = item (every_way_leads e) (each_leads es)

  module _ (whole : Tree) where
    lead_captured_by_call : (g : ℕ) (body : Ways) → EachWayIsStep body → EachWayIsStep (captured_by_call q whole g body)
    lead_captured_by_call zero body h s good = h s good
    lead_captured_by_call (suc g) body h s good =
        every_map {P = Step s} (λ t. with_span (suc g) (s.place, t.place) t) (λ t step. m.captures (suc g) s t good step)
        (h s good)

    lead_target : (g : ℕ) (call : ℕ → Ways) → ((h : ℕ) → EachWayIsStep (call h)) → (o : Option Tree) →
        EachWayIsStep (ways_of_target q whole g call o)
    lead_target g call calls None s good = no_item
    lead_target g call calls (Some body) s good =
        lead_captured_by_call g (ways_with q call body) (every_way_leads call calls body) s good

    pub called_leads : (n : ℕ) (depths : Depths) (g : ℕ) → EachWayIsStep (called q whole n depths g)
    called_leads zero depths g s good = no_item
    called_leads (suc n) depths g s good =
        choose (nat_lt (depths g) call_depth)
        (lead_target g (called q whole n (opened g depths)) (called_leads n (opened g depths)) (target whole g))
      where
        choose : (b : Bool) {w : Ways} → EachWayIsStep w → Every (Step s) ((if b then w else (λ t. [])) s)
        choose true h = h s good
        choose false h = no_item

    -- each way of a part of a tree, whatever calls are open
    pub ways_lead : (e : Tree) (depths : Depths) → EachWayIsStep (ways q whole e depths)
    ways_lead e depths =
        every_way_leads (called q whole (free_calls whole depths) depths) (called_leads (free_calls whole depths) depths) e
