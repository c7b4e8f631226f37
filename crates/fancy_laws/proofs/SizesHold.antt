-- The size law, by induction over the calls that may be opened and then over the tree.
use Rattle.std.proofs.Common.{◌≡◌, ℕ, zero, suc, ◌≤◌, inr, Bool, true, false, [], ◌++◌, length, map, Contains, Option, Some, None, IfSome, IsUtf8, if◌then◌else◌, ◌&&◌, ◌==◌, nat_eq, nat_lt, is_some, option_and_then, refl, sym, ◌∙◌, subst, arith}
use Rattle.std.specs.List.{list_any}
use Rattle.std.proofs.lemmas.Bool.{false≢true}
use Rattle.std.proofs.lemmas.List.{length-map}
use Rattle.std.proofs.lemmas.Option.{option_and_then_some}
use Rattle.fancy_meaning.specs.Tree.{Tree, Trees, none, more, Empty, KeepOut, ContinueFromPreviousMatchEnd, AbsentClear, Any, Assert, GeneralNewline, Literal, LiteralBytes, Delegate, Concat, Alt, Group, LookAround, Repeat, Backref, BackrefWithLevel, BackrefExists, AtomicGroup, DefineGroup, AbsentRepeater, AbsentStopper, AbsentExpression, Control, Conditional, SubroutineCall, AstNode}
use Rattle.fancy_meaning.specs.Nodes.{nodes, nodes_of_each, target, is_read, is_keep_out}
use Rattle.fancy_meaning.specs.OpenCalls.{Depths, opened, call_depth, free_calls}
use Rattle.fancy_meaning.specs.Places.{chars_between}
use Rattle.fancy_meaning.specs.Assertions.{assertion_within}
use Rattle.fancy_meaning.specs.Chars.{literal_takes, any_takes, class_takes}
use Rattle.fancy_meaning.specs.Moves.{past_char, past_chars, past_newline, past_piece}
use Rattle.fancy_meaning.specs.MatchState.{MatchState, Ways, with_span, one_of, in_order}
use Rattle.fancy_meaning.specs.Ways.{Setting, moves, ways_with, each_ways, called, ways_of_target, captured_by_call, ways}
use Rattle.fancy_meaning.specs.Sizes.{Size, exactly, between, plus, either, sum_of, any_of, size_of_target, size_of_group, each_size, known_of, size}
use Rattle.fancy_meaning.specs.Premises.{IsSoundFor, IsSoundState, IsSized, Analysed, tree_of, IsText}
use Rattle.fancy_laws.proofs.Every.{Every, no_item, every_one, every_flat_map, every_map, every_take, every_weaker, every_contained}
use Rattle.fancy_laws.proofs.WaysOf.{every_stays_if, every_moves, every_asserts, every_conditional, every_absent}
use Rattle.fancy_laws.proofs.Looks.{every_look}
use Rattle.fancy_laws.proofs.Loops.{every_repeats}
use Rattle.fancy_laws.proofs.Pieces.{past_char_moves, past_chars_moves, past_newline_moves, past_piece_moves}
use Rattle.fancy_laws.proofs.NodesBelow.{target_is_node, nodes_below, Includes, includes_first, includes_rest, includes_left, includes_right}
use Rattle.fancy_laws.proofs.Orderly.{IsOrderly, analysed_is_orderly}
use Rattle.fancy_laws.proofs.SizeRules.{IsBounded, sized_times, sized_exactly, sized_unknown, sized_either_left, sized_either_right}
use Rattle.fancy_laws.proofs.Rounds.{Refines, refines_unknown, sized_refined, target_refines, size_is_bounded}
use Rattle.fancy_laws.proofs.SizedWays.{IsSizedWay, test_passes, reference_reads, stays_there, moved_sound, moves_on, one_then, resized, iterable, looking, captures_sound, alt_more}

module _ (q : Setting) (whole : Tree) (utf8 : IsUtf8 q.text) (orderly : IsOrderly whole) (groups : ℕ → Bool)
    (with_read : (g : ℕ) → is_read whole g ≡ true → groups g ≡ true) where
  -- from a sound state each way has the size
  abbrev HasSize : Size → Ways → Type 0
  HasSize z w = (s : MatchState) → IsSoundFor q whole groups s → Every (IsSizedWay q whole groups z s) (w s)

  group_has_its_size : (g : ℕ) (e : Tree) → Contains (nodes whole) (Group g e) →
      Refines (size whole e) (size_of_group (known_of whole) g)
  group_has_its_size zero e c = refines_unknown (size whole e) (size_is_bounded whole e)
  group_has_its_size (suc g) e c = target_refines whole (suc g) e (orderly.groups g e c)

  keeps_out : Contains (nodes whole) KeepOut → list_any is_keep_out (nodes whole) ≡ true
  keeps_out c = every_contained KeepOut (test_passes is_keep_out (nodes whole)) c refl

  loop_bounds : (lo : ℕ) (hi : Option ℕ) (greedy : Bool) (e : Tree) (k : ℕ) → Contains (nodes whole) (Repeat lo hi greedy e) →
      IfSome hi (λ n. lo ≤ n → k ≤ n) → IfSome hi (λ n. k ≤ n)
  loop_bounds lo None greedy e k c h = tt
  loop_bounds lo (Some hi) greedy e k c h = h (orderly.loops lo hi greedy e c)

  one_char_has_size : (test : ℕ → Bool) → HasSize (exactly 1) (moves q (past_char q.text test))
  one_char_has_size test s is =
      every_moves q (past_char q.text test) s
      (λ i e. moves_on q whole groups (exactly 1) s i 1 is (past_char_moves q.text utf8 test s.place i is.place e) (sized_exactly 1))

  module _ (call : ℕ → Ways) (calls : (g : ℕ) → HasSize (size_of_target (known_of whole) g) (call g)) where
    mutual
      every_way_has_size : (e : Tree) → Includes (nodes whole) (nodes e) → (s : MatchState) → IsSoundFor q whole groups s →
          Every (IsSizedWay q whole groups (size whole e) s) (ways_with q call e s)
      every_way_has_size Empty part s is = every_one (stays_there q whole groups s s refl (λ none. refl) is)
      every_way_has_size KeepOut part s is =
          every_one
          (stays_there q whole groups s (record s { kept = s.place }) refl
          (λ none. absurd (false≢true (sym none ∙ keeps_out (includes_first (nodes whole) KeepOut [] part))))
          (record { place = is.place; spans = is.spans; sizes = is.sizes }))
      every_way_has_size ContinueFromPreviousMatchEnd part s is =
          every_stays_if (λ t. q.continued && t.place == q.pos) s (λ e. stays_there q whole groups s s refl (λ none. refl) is)
      every_way_has_size (Any newline crlf) part s is = one_char_has_size (any_takes newline crlf) s is
      every_way_has_size (Literal c casei) part s is = one_char_has_size (literal_takes q.unicode c casei) s is
      every_way_has_size (LiteralBytes cs) part s is =
          every_moves q (past_chars q.text (map nat_eq cs)) s
          (λ i e. moves_on q whole groups (exactly (length cs)) s i (length (map nat_eq cs)) is
          (past_chars_moves q.text utf8 (map nat_eq cs) s.place i is.place e)
          (subst (IsSized (exactly (length cs))) (sym (length-map cs nat_eq)) (sized_exactly (length cs))))
      every_way_has_size (Delegate inner casei) part s is = one_char_has_size (class_takes q.unicode inner casei) s is
      every_way_has_size (GeneralNewline unicode) part s is =
          every_moves q (past_newline q.text unicode) s
          (λ i e. let m = past_newline_moves q.text utf8 unicode s.place i is.place e in
          moves_on q whole groups (between 1 2) s i m.0 is m.3
          (record { at_least = m.1; at_most = inr m.2; exact = λ const below. absurd (false≢true const) }))
      every_way_has_size (Assert within a) part s is =
          every_asserts q (assertion_within within a) s (stays_there q whole groups s s refl (λ none. refl) is)
          (stays_there q whole groups s (record s { text_end = true }) refl (λ none. refl)
          (record { place = is.place; spans = is.spans; sizes = is.sizes }))
      every_way_has_size (Backref g casei) part s is =
          every_moves q (λ i. option_and_then (λ span. past_piece q.text q.unicode casei span i) (s.captures g)) s
          (λ i e. option_and_then_some (λ span. past_piece q.text q.unicode casei span s.place) (s.captures g) i e
          (λ span set there. moves_on q whole groups (size whole (Backref g casei)) s i _ is
          (past_piece_moves q.text utf8 q.unicode casei span s.place i is.place (is.spans g span set) there)
          (is.sizes g span
          (with_read g (reference_reads whole g casei (includes_first (nodes whole) (Backref g casei) [] part))) set)))
      every_way_has_size (BackrefExists g None) part s is =
          every_stays_if (λ t. is_some (t.captures g)) s (λ e. stays_there q whole groups s s refl (λ none. refl) is)
      every_way_has_size (Concat es) part s is =
          concat_has_size es (includes_rest (nodes whole) (Concat es) (nodes_of_each es) part) s is
      every_way_has_size (Alt es) part s is =
          alt_has_size es (includes_rest (nodes whole) (Alt es) (nodes_of_each es) part) s is
      every_way_has_size (Group g e) part s is =
          every_map (λ t. with_span g (s.place, t.place) t)
          (λ t f. captures_sound q whole groups g (size whole e) s t
          (group_has_its_size g e (includes_first (nodes whole) (Group g e) (nodes e) part)) is f)
          (every_way_has_size e (includes_rest (nodes whole) (Group g e) (nodes e) part) s is)
      every_way_has_size (SubroutineCall g) part s is = calls g s is
      every_way_has_size (Repeat lo hi greedy e) part s is =
          every_weaker
          (λ t c. record {
            on = (c.after).on;
            sound = (c.after).sound;
            sized = sized_times (size whole e) lo hi c.count _ c.at_least
                (loop_bounds lo hi greedy e c.count
                (includes_first (nodes whole) (Repeat lo hi greedy e) (nodes e) part) c.at_most) (c.after).times;
            kept = (c.after).kept;
          })
          (every_repeats (iterable q whole groups (size whole e)) (ways_with q call e)
          (every_way_has_size e (includes_rest (nodes whole) (Repeat lo hi greedy e) (nodes e) part)) q.text lo hi greedy s is)
      every_way_has_size (LookAround look e) part s is =
          every_look (looking q whole groups (size whole e)) call look e
          (every_way_has_size e (includes_rest (nodes whole) (LookAround look e) (nodes e) part)) s is
      every_way_has_size (AtomicGroup e) part s is =
          every_take 1 (every_way_has_size e (includes_rest (nodes whole) (AtomicGroup e) (nodes e) part) s is)
      every_way_has_size (Conditional c t f) part s is =
          let below : Includes (nodes whole) (nodes c ++ (nodes t ++ nodes f)) =
          includes_rest (nodes whole) (Conditional c t f) (nodes c ++ (nodes t ++ nodes f)) part in
          let branches : Includes (nodes whole) (nodes t ++ nodes f) = includes_right (nodes whole) (nodes c) (nodes t ++ nodes f) below in
          let both = plus (size whole c) (size whole t) in
          let plus_bounded : IsBounded both = omega arith in
          every_conditional (ways_with q call c) (ways_with q call t) (ways_with q call f) s
          (every_way_has_size c (includes_left (nodes whole) (nodes c) (nodes t ++ nodes f) below) s is)
          (λ u one. every_weaker
          (λ v two. resized q whole groups both (either both (size whole f)) s v
          (λ n. sized_either_left both (size whole f) n plus_bounded (size_is_bounded whole f))
          (one_then q whole groups (size whole c) (size whole t) s u v one two))
          (every_way_has_size t (includes_left (nodes whole) (nodes t) (nodes f) branches) u one.sound))
          (every_weaker
          (λ v two. resized q whole groups (size whole f) (either both (size whole f)) s v
          (λ n. sized_either_right both (size whole f) n plus_bounded (size_is_bounded whole f)) two)
          (every_way_has_size f (includes_right (nodes whole) (nodes t) (nodes f) branches) s is))
      every_way_has_size (AbsentRepeater e) part s is =
          every_absent q (ways_with q call e) s
          (λ i le at. record { on = le; sound = moved_sound q whole groups s i is at; sized = sized_unknown _; kept = λ none. refl })
      every_way_has_size (DefineGroup e) part s is = every_one (stays_there q whole groups s s refl (λ none. refl) is)
      every_way_has_size (Control verb) part s is = no_item
      every_way_has_size (BackrefExists g (Some level)) part s is = no_item
      every_way_has_size (BackrefWithLevel g level casei) part s is = no_item
      every_way_has_size AbsentClear part s is = no_item
      every_way_has_size (AbsentStopper e) part s is = no_item
      every_way_has_size (AbsentExpression a e) part s is = no_item
      every_way_has_size (AstNode node) part s is = no_item

      concat_has_size : (es : Trees) → Includes (nodes whole) (nodes_of_each es) → (s : MatchState) → IsSoundFor q whole groups s →
          Every (IsSizedWay q whole groups (sum_of (each_size (known_of whole) es)) s) (in_order (each_ways q call es) s)
      concat_has_size none part s is = every_one (stays_there q whole groups s s refl (λ none. refl) is)
      concat_has_size (more e es) part s is =
          every_flat_map (in_order (each_ways q call es))
          (λ t one. every_weaker (λ u two. one_then q whole groups (size whole e) (sum_of (each_size (known_of whole) es)) s t u one two)
          (concat_has_size es (includes_right (nodes whole) (nodes e) (nodes_of_each es) part) t one.sound))
          (every_way_has_size e (includes_left (nodes whole) (nodes e) (nodes_of_each es) part) s is)

      alt_has_size : (es : Trees) → Includes (nodes whole) (nodes_of_each es) → (s : MatchState) → IsSoundFor q whole groups s →
          Every (IsSizedWay q whole groups (any_of (each_size (known_of whole) es)) s) (one_of (each_ways q call es) s)
      alt_has_size none part s is = no_item
      alt_has_size (more e es) part s is =
          alt_more q whole groups call e es s
          (every_way_has_size e (includes_left (nodes whole) (nodes e) (nodes_of_each es) part) s is)
          (alt_has_size es (includes_right (nodes whole) (nodes e) (nodes_of_each es) part) s is)

  -- ---- calls

  target_has_size : (g : ℕ) (call : ℕ → Ways) → ((h : ℕ) → HasSize (size_of_target (known_of whole) h) (call h)) → (body : Tree) →
      target whole g ≡ Some body →
      HasSize (size_of_target (known_of whole) g) (captured_by_call q whole g (ways_with q call body))
  target_has_size zero call calls body e s is =
      every_weaker
      (λ t. resized q whole groups (size whole body) (size_of_target (known_of whole) 0) s t
      (λ n. sized_refined (size whole body) (size_of_target (known_of whole) 0) n (target_refines whole 0 body e)))
      (every_way_has_size call calls body (nodes_below whole body (target_is_node whole 0 body e)) s is)
  target_has_size (suc g) call calls body e s is =
      let refined = target_refines whole (suc g) body e in
      every_map (λ t. with_span (suc g) (s.place, t.place) t)
      (λ t f. resized q whole groups (size whole body) (size_of_target (known_of whole) (suc g)) s
      (with_span (suc g) (s.place, t.place) t)
      (λ n. sized_refined (size whole body) (size_of_target (known_of whole) (suc g)) n refined)
      (captures_sound q whole groups (suc g) (size whole body) s t refined is f))
      (every_way_has_size call calls body (nodes_below whole body (target_is_node whole (suc g) body e)) s is)

  any_target_has_size : (g : ℕ) (call : ℕ → Ways) → ((h : ℕ) → HasSize (size_of_target (known_of whole) h) (call h)) →
      (o : Option Tree) → target whole g ≡ o →
      HasSize (size_of_target (known_of whole) g) (ways_of_target q whole g call o)
  any_target_has_size g call calls None e s is = no_item
  any_target_has_size g call calls (Some body) e s is = target_has_size g call calls body e s is

  called_has_size : (n : ℕ) (depths : Depths) (g : ℕ) → HasSize (size_of_target (known_of whole) g) (called q whole n depths g)
  called_has_size zero depths g s is = no_item
  called_has_size (suc n) depths g s is =
      choose (nat_lt (depths g) call_depth) _
      (any_target_has_size g (called q whole n (opened g depths)) (called_has_size n (opened g depths))
      (target whole g) refl s is)
    where
      choose : (b : Bool) (w : Ways) → Every (IsSizedWay q whole groups (size_of_target (known_of whole) g) s) (w s) →
          Every (IsSizedWay q whole groups (size_of_target (known_of whole) g) s) ((if b then w else (λ t. [])) s)
      choose true w h = h
      choose false w h = no_item

  pub ways_keep_sizes : (e : Tree) (depths : Depths) → Contains (nodes whole) e → (s : MatchState) → IsSoundFor q whole groups s →
      Every (IsSizedWay q whole groups (size whole e) s) (ways q whole e depths s)
  ways_keep_sizes e depths c =
      every_way_has_size (called q whole (free_calls whole depths) depths) (called_has_size (free_calls whole depths) depths) e
      (nodes_below whole e c)

pub ways_have_sizes : (q : Setting) (whole : Tree) → IsUtf8 q.text → IsOrderly whole → (e : Tree) (depths : Depths) →
    Contains (nodes whole) e → (s : MatchState) → IsSoundState q whole s →
    Every (IsSizedWay q whole (is_read whole) (size whole e) s) (ways q whole e depths s)
ways_have_sizes q whole utf8 orderly = ways_keep_sizes q whole utf8 orderly (is_read whole) (λ g read. read)

pub sizes_hold : (q : Setting) (a : Analysed) (e : Tree) (depths : Depths) (s t : MatchState) →
    IsText q.text → Contains (nodes (tree_of a)) e → IsSoundState q (tree_of a) s → Contains (ways q (tree_of a) e depths s) t →
    IsSoundState q (tree_of a) t × IsSized (size (tree_of a) e) (chars_between q.text s.place t.place)
sizes_hold q a e depths s t text c is w =
    let way = every_contained t (ways_have_sizes q (tree_of a) text.utf8 (analysed_is_orderly a) e depths c s is) w in
    (way.sound, way.sized)

-- the same of the spans of all groups
pub span_sizes_hold : (q : Setting) (a : Analysed) (e : Tree) (depths : Depths) (s t : MatchState) →
    IsText q.text → Contains (nodes (tree_of a)) e → IsSoundFor q (tree_of a) (λ g. true) s →
    Contains (ways q (tree_of a) e depths s) t →
    IsSoundFor q (tree_of a) (λ g. true) t
span_sizes_hold q a e depths s t text c is w =
    let every = ways_keep_sizes q (tree_of a) text.utf8 (analysed_is_orderly a) (λ g. true) (λ g read. refl) e depths c s is in
    (every_contained t every w).sound
