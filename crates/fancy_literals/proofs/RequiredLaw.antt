-- A literal that a tree takes is required.
use Rattle.std.proofs.Common.{◌≡◌, inl, inr, ◌+◌, ◌≤◌, ℕ, zero, suc, Bool, true, false, List, [], ◌∷◌, ◌++◌, drop, Some, None, encode_utf8, encode_utf8_all, refl, sym, ap, ap₂, subst, ◌∙◌, arith, append_assoc, eqb-true}
use Rattle.regex_hir.proofs.TextLemmas.{char_at_parts, has_bytes_at_from}
use Rattle.fancy_meaning.specs.Answer.{Search, search_of, ways_from}
use Rattle.fancy_meaning.specs.Chars.{literal_takes}
use Rattle.fancy_meaning.specs.MatchState.{MatchState, Ways, in_order, moved_to, with_span}
use Rattle.fancy_meaning.specs.Moves.{past_char}
use Rattle.fancy_meaning.specs.Nodes.{group_count}
use Rattle.fancy_meaning.specs.Numbering.{each_numbered, numbered, numbered_within, within}
use Rattle.fancy_meaning.specs.OpenCalls.{free_calls, no_calls}
use Rattle.fancy_meaning.specs.Premises.{plan}
use Rattle.fancy_meaning.specs.Tree.{Tree, Trees, none, more, Literal, Concat, Group, Repeat, AtomicGroup, LookAround, LookAhead, LookBehind, Within}
use Rattle.fancy_meaning.specs.Ways.{Setting, called, each_ways, ends_here, ways_with}
use Rattle.fancy_laws.proofs.Continues.{nothing_there}
use Rattle.fancy_laws.proofs.Every.{Every, every_anything, every_flat_map, every_map, every_take, every_weaker}
use Rattle.fancy_laws.proofs.Looks.{has_branches}
use Rattle.fancy_laws.proofs.Motion.{EachWayIsStep, called_leads, every_way_leads}
use Rattle.fancy_laws.proofs.Moves.{past_char_tells}
use Rattle.fancy_laws.proofs.WaysOf.{each_of_one_of, every_ends_here, every_moves, every_one_of}
use Rattle.fancy_literals.proofs.NoAnswer.{no_answer}
use Rattle.fancy_literals.proofs.Onward.{GoesOn, onward_motion, taken_from_first, taken_from_low}
use Rattle.fancy_literals.specs.Required.{IsRequiredOf, LacksFrom, Piece, taken_from}
use Rattle.fancy_literals.specs.Takes.{AmongTaken, BeginWith, Takes, literal}

module _ (q : Setting) (call : ℕ → Ways) where
  -- a way of a literal takes its bytes
  bytes_stand : (c : ℕ) (s : MatchState) →
      Every (λ t. drop s.place q.text ≡ encode_utf8 c ++ drop t.place q.text) (ways_with q call (literal c) s)
  bytes_stand c s =
      every_moves q (past_char q.text (literal_takes q.unicode c false)) s
      (λ i e. let p = past_char_tells q.text (literal_takes q.unicode c false) s.place i e in
      let same : c ≡ p.char = eqb-true c p.char p.passes in
      (char_at_parts q.text s.place p.char p.stands).1
      ∙ ap₂ (λ d j. encode_utf8 d ++ drop j q.text) (sym same) (sym p.to))

  -- and so does one of literals in a row
  row_stands : (cs : List ℕ) (es : Trees) → BeginWith cs es → (s : MatchState) →
      Every (λ t. (rest : List ℕ) × (drop s.place q.text ≡ encode_utf8_all cs ++ rest)) (in_order (each_ways q call es) s)
  row_stands [] es h s = every_anything (in_order (each_ways q call es) s) (λ t. (drop s.place q.text, refl))
  row_stands (c ∷ cs) none h s = absurd h
  row_stands (c ∷ cs) (more e es) h s =
      every_flat_map {P = λ t. drop s.place q.text ≡ encode_utf8 c ++ drop t.place q.text} (in_order (each_ways q call es))
      (λ t here. every_weaker
      (λ u there. (
        there.0,
        here
            ∙ ap (λ l. encode_utf8 c ++ l) there.1
            ∙ sym (append_assoc (encode_utf8 c) (encode_utf8_all cs) there.0),
      ))
      (row_stands cs es h.1 t))
      (subst (λ d. Every (λ t. drop s.place q.text ≡ encode_utf8 c ++ drop t.place q.text) (ways_with q call d s)) (sym h.0)
      (bytes_stand c s))

  -- `all`: where what look-behinds take counts, the whole text lacks it
  module _ (calls : (g : ℕ) → EachWayIsStep (onward_motion q) (call g)) (behind : Bool) (piece : List ℕ) (from : ℕ)
      (all : behind ≡ true → from ≡ 0) (lacks : LacksFrom (Piece piece) q.text from) where
    stands_not : (i : ℕ) (rest : List ℕ) → from ≤ i → drop i q.text ≡ piece ++ rest → ⊥
    stands_not i rest le e = lacks i le (has_bytes_at_from q.text i piece rest e)

    mutual
      no_way : (e : Tree) → Takes behind piece e → (s : MatchState) → from ≤ s.place → Every (λ t. ⊥) (ways_with q call e s)
      no_way (Literal c casei) h s le =
          every_weaker (λ t here. stands_not s.place (drop t.place q.text) le (here ∙ ap (λ l. l ++ drop t.place q.text) h.1))
          (subst (λ b. Every (λ t. drop s.place q.text ≡ encode_utf8 c ++ drop t.place q.text) (ways_with q call (Literal c b) s))
          (sym h.0) (bytes_stand c s))
      no_way (Concat es) h s le = none_among es h s le
      no_way (Group g e) h s le = every_map {P = λ t. ⊥} (λ t. with_span g (s.place, t.place) t) (λ t never. never) (no_way e h s le)
      no_way (AtomicGroup e) h s le = every_take 1 (no_way e h s le)
      no_way (Repeat zero hi greedy e) h s le = absurd (omega (arith, h.0))
      no_way (Repeat (suc n) None greedy e) h s le = every_flat_map {P = λ t. ⊥} _ (λ t never. absurd never) (no_way e h.1 s le)
      no_way (Repeat (suc n) (Some hi) greedy e) h s le = every_flat_map {P = λ t. ⊥} _ (λ t never. absurd never) (no_way e h.1 s le)
      no_way (LookAround LookAhead e) h s le =
          let b = has_branches q call e in
          subst (λ w. Every (λ t. ⊥) (w s)) (sym (b.of_look LookAhead))
          (every_map {P = λ t. ⊥} (moved_to s.place) (λ t never. never) (subst (Every (λ t. ⊥)) (sym (b.in_turn s)) (no_way e h s le)))
      no_way (LookAround LookBehind e) h s le =
          let b = has_branches q call e in
          let none : Every (λ w. (u : MatchState) → Unit {0} → Every (λ t. ⊥) (w u)) b.branches =
          each_of_one_of b.branches (λ u any. subst (Every (λ t. ⊥)) (sym (b.in_turn u)) (no_way e h.1 u (omega (arith, all h.0)))) in
          subst (λ w. Every (λ t. ⊥) (w s)) (sym (b.of_look LookBehind))
          (every_one_of s
          (every_map {P = λ w. (u : MatchState) → Unit {0} → Every (λ t. ⊥) (w u)} {Q = λ w. Every (λ t. ⊥) (w s)} (ends_here q)
          (λ w lead. every_ends_here {P = λ i t. ⊥} q w s (λ i le at. lead (moved_to i s) tt) (λ i t le at never here. never)) none))
      no_way e h s le = absurd h

      none_among : (es : Trees) → AmongTaken behind piece es → (s : MatchState) → from ≤ s.place → Every (λ t. ⊥) (in_order (each_ways q call es) s)
      none_among none h s le = absurd h
      none_among (more e es) (inl b) s le =
          every_weaker (λ t r. stands_not s.place r.0 le (r.1 ∙ ap (λ l. l ++ r.0) b.spelled)) (row_stands b.row (more e es) b.begins s)
      none_among (more e es) (inr (inl h)) s le =
          every_flat_map {P = λ t. ⊥} (in_order (each_ways q call es)) (λ t never. absurd never) (no_way e h s le)
      none_among (more e es) (inr (inr h)) s le =
          every_flat_map {P = GoesOn s} (in_order (each_ways q call es)) (λ t on. none_among es h t (omega (arith, le, on)))
          (every_way_leads (onward_motion q) call calls e s tt)

-- ---- the tree with its groups numbered

module _ (behind : Bool) (piece : List ℕ) where
  begin_numbered : (w : Within) (n : ℕ) (cs : List ℕ) (es : Trees) → BeginWith cs es → BeginWith cs (each_numbered w n es)
  begin_numbered w n [] es h = tt
  begin_numbered w n (c ∷ cs) none h = absurd h
  begin_numbered w n (c ∷ cs) (more e es) h = (ap (numbered_within w n) h.0, begin_numbered w (n + group_count e) cs es h.1)

  mutual
    takes_numbered : (w : Within) (n : ℕ) (e : Tree) → Takes behind piece e → Takes behind piece (numbered_within w n e)
    takes_numbered w n (Literal c casei) h = h
    takes_numbered w n (Concat es) h = among_numbered w n es h
    takes_numbered w n (Group old e) h = takes_numbered w (suc n) e h
    takes_numbered w n (AtomicGroup e) h = takes_numbered w n e h
    takes_numbered w n (Repeat lo hi greedy e) h = (h.0, takes_numbered w n e h.1)
    takes_numbered w n (LookAround LookAhead e) h = takes_numbered (within LookAhead) n e h
    takes_numbered w n (LookAround LookBehind e) h = (h.0, takes_numbered (within LookBehind) n e h.1)
    takes_numbered w n e h = absurd h

    among_numbered : (w : Within) (n : ℕ) (es : Trees) → AmongTaken behind piece es → AmongTaken behind piece (each_numbered w n es)
    among_numbered w n none h = absurd h
    among_numbered w n (more e es) (inl b) =
        inl (record { row = b.row; begins = begin_numbered w n b.row (more e es) b.begins; spelled = b.spelled })
    among_numbered w n (more e es) (inr (inl h)) = inr (inl (takes_numbered w n e h))
    among_numbered w n (more e es) (inr (inr h)) = inr (inr (among_numbered w (n + group_count e) es h))

-- ---- the answer

pub taken_is_required : (piece : List ℕ) (behind unicode : Bool) (e : Tree) → Takes behind piece e → IsRequiredOf (Piece piece) behind unicode e
unfolding numbered
taken_is_required piece behind unicode e h i same options text o lacks =
    let q : Search = search_of (plan i) text o in
    let takes : Takes behind piece (i.parsed).tree = subst (Takes behind piece) (sym same) h in
    no_answer q
    (λ start from. nothing_there (ways_from q start)
    (no_way q.setting (called q.setting q.tree (free_calls q.tree no_calls) no_calls)
    (called_leads (onward_motion q.setting) q.tree (free_calls q.tree no_calls) no_calls)
    behind piece (taken_from behind o) (taken_from_first behind o) lacks q.tree
    (takes_numbered behind piece _ _ (i.parsed).tree takes) _ (omega (arith, taken_from_low behind o, from)))
    (λ t never. never))
