-- Bytes of which a tree takes one are required.
use Rattle.std.proofs.Common.{◌≡◌, inl, inr, ◌+◌, ◌≤◌, ℕ, zero, suc, Bool, true, List, [], ◌∷◌, ◌++◌, encode_utf8, None, Some, sym, ap, subst, ◌∙◌, arith}
use Rattle.std.proofs.lemmas.Bool.{false≢true}
use Rattle.regex_hir.proofs.TextLemmas.{char_at_parts}
use Rattle.fancy_meaning.specs.Answer.{Search, search_of, ways_from}
use Rattle.fancy_meaning.specs.MatchState.{MatchState, Ways, in_order, moved_to, one_of, with_span}
use Rattle.fancy_meaning.specs.Moves.{past_char}
use Rattle.fancy_meaning.specs.Nodes.{group_count}
use Rattle.fancy_meaning.specs.Numbering.{each_numbered, numbered, numbered_within, within}
use Rattle.fancy_meaning.specs.OpenCalls.{free_calls, no_calls}
use Rattle.fancy_meaning.specs.Premises.{plan}
use Rattle.fancy_meaning.specs.Tree.{Tree, Trees, none, more, Literal, Delegate, Concat, Alt, Group, Repeat, AtomicGroup, LookAround, LookAhead, LookBehind, Within}
use Rattle.fancy_meaning.specs.Ways.{Setting, called, each_ways, ends_here, moves, ways_with}
use Rattle.fancy_laws.proofs.Continues.{nothing_there}
use Rattle.fancy_laws.proofs.Every.{Every, no_item, every_append, every_flat_map, every_map, every_take}
use Rattle.fancy_laws.proofs.Looks.{has_branches}
use Rattle.fancy_laws.proofs.Motion.{EachWayIsStep, called_leads, every_way_leads}
use Rattle.fancy_laws.proofs.Moves.{past_char_tells}
use Rattle.fancy_laws.proofs.WaysOf.{each_of_one_of, every_ends_here, every_moves, every_one_of}
use Rattle.fancy_literals.specs.Required.{IsRequiredOf, LacksFrom, OneOf, begins_among, taken_from}
use Rattle.fancy_literals.specs.TakesByte.{BeginAmong, EachTakesByte, OneTakesByte, TakesByte}
use Rattle.fancy_literals.proofs.NoAnswer.{no_answer}
use Rattle.fancy_literals.proofs.Onward.{GoesOn, onward_motion, taken_from_first, taken_from_low}

pub begins_on : (bytes : List Bool) (text rest : List ℕ) → begins_among bytes text ≡ true → begins_among bytes (text ++ rest) ≡ true
begins_on bytes [] rest is = absurd (false≢true is)
begins_on bytes (b ∷ text) rest is = is

-- `all`: where what look-behinds take counts, the whole text lacks them
module _ (q : Setting) (call : ℕ → Ways) (calls : (g : ℕ) → EachWayIsStep (onward_motion q) (call g)) (behind : Bool) (bytes : List Bool) (from : ℕ)
    (all : behind ≡ true → from ≡ 0) (lacks : LacksFrom (OneOf bytes) q.text from) where
  -- a character that begins with none of the bytes is not taken
  no_character : (test : ℕ → Bool) → BeginAmong bytes test → (s : MatchState) → from ≤ s.place → Every (λ t. ⊥) (moves q (past_char q.text test) s)
  no_character test begin s le =
      every_moves q (past_char q.text test) s
      (λ i e. let p = past_char_tells q.text test s.place i e in
      let parts = char_at_parts q.text s.place p.char p.stands in
      lacks s.place le (ap (begins_among bytes) parts.1 ∙ begins_on bytes (encode_utf8 p.char) _ (begin p.char parts.0 p.passes)))

  mutual
    no_way : (e : Tree) → TakesByte q.unicode behind bytes e → (s : MatchState) → from ≤ s.place → Every (λ t. ⊥) (ways_with q call e s)
    no_way (Literal c casei) h s le = no_character _ h s le
    no_way (Delegate inner casei) h s le = no_character _ h s le
    no_way (Concat es) h s le = none_of_one es h s le
    no_way (Alt es) h s le = none_of_each es h s le
    no_way (Group g e) h s le = every_map {P = λ t. ⊥} (λ t. with_span g (s.place, t.place) t) (λ t never. never) (no_way e h s le)
    no_way (AtomicGroup e) h s le = every_take 1 (no_way e h s le)
    no_way (Repeat zero hi greedy e) h s le = absurd (omega (arith, h.0))
    no_way (Repeat (suc n) None greedy e) h s le = every_flat_map {P = λ t. ⊥} _ (λ t never. absurd never) (no_way e h.1 s le)
    no_way (Repeat (suc n) (Some hi) greedy e) h s le = every_flat_map {P = λ t. ⊥} _ (λ t never. absurd never) (no_way e h.1 s le)
    no_way (LookAround LookAhead e) h s le =
        let b = has_branches q call e in
        subst (λ w. Every (λ t. ⊥) (w s)) (sym (b.of_look LookAhead))
        (every_map {P = λ t. ⊥} (moved_to s.place) (λ t never. never) (subst (Every (λ t. ⊥)) (sym (b.in_turn s)) (no_way e h s le)))
    no_way (LookAround LookBehind e) h s le =
        let b = has_branches q call e in
        let none : Every (λ w. (u : MatchState) → Unit {0} → Every (λ t. ⊥) (w u)) b.branches =
        each_of_one_of b.branches (λ u any. subst (Every (λ t. ⊥)) (sym (b.in_turn u)) (no_way e h.1 u (omega (arith, all h.0)))) in
        subst (λ w. Every (λ t. ⊥) (w s)) (sym (b.of_look LookBehind))
        (every_one_of s
        (every_map {P = λ w. (u : MatchState) → Unit {0} → Every (λ t. ⊥) (w u)} {Q = λ w. Every (λ t. ⊥) (w s)} (ends_here q)
        (λ w lead. every_ends_here {P = λ i t. ⊥} q w s (λ i le at. lead (moved_to i s) tt) (λ i t le at never here. never)) none))
    no_way e h s le = absurd h

    none_of_one : (es : Trees) → OneTakesByte q.unicode behind bytes es → (s : MatchState) → from ≤ s.place → Every (λ t. ⊥) (in_order (each_ways q call es) s)
    none_of_one none h s le = absurd h
    none_of_one (more e es) (inl h) s le = every_flat_map {P = λ t. ⊥} (in_order (each_ways q call es)) (λ t never. absurd never) (no_way e h s le)
    none_of_one (more e es) (inr h) s le =
        every_flat_map {P = GoesOn s} (in_order (each_ways q call es)) (λ t on. none_of_one es h t (omega (arith, le, on)))
        (every_way_leads (onward_motion q) call calls e s tt)

    none_of_each : (es : Trees) → EachTakesByte q.unicode behind bytes es → (s : MatchState) → from ≤ s.place → Every (λ t. ⊥) (one_of (each_ways q call es) s)
    none_of_each none h s le = no_item
    none_of_each (more e es) h s le = every_append (no_way e h.0 s le) (none_of_each es h.1 s le)

-- ---- the tree with its groups numbered

module _ (unicode behind : Bool) (bytes : List Bool) where
  mutual
    takes_numbered : (w : Within) (n : ℕ) (e : Tree) → TakesByte unicode behind bytes e → TakesByte unicode behind bytes (numbered_within w n e)
    takes_numbered w n (Literal c casei) h = h
    takes_numbered w n (Delegate inner casei) h = h
    takes_numbered w n (Concat es) h = one_numbered w n es h
    takes_numbered w n (Alt es) h = each_one_numbered w n es h
    takes_numbered w n (Group old e) h = takes_numbered w (suc n) e h
    takes_numbered w n (AtomicGroup e) h = takes_numbered w n e h
    takes_numbered w n (Repeat lo hi greedy e) h = (h.0, takes_numbered w n e h.1)
    takes_numbered w n (LookAround LookAhead e) h = takes_numbered (within LookAhead) n e h
    takes_numbered w n (LookAround LookBehind e) h = (h.0, takes_numbered (within LookBehind) n e h.1)
    takes_numbered w n e h = absurd h

    one_numbered : (w : Within) (n : ℕ) (es : Trees) → OneTakesByte unicode behind bytes es → OneTakesByte unicode behind bytes (each_numbered w n es)
    one_numbered w n none h = absurd h
    one_numbered w n (more e es) (inl h) = inl (takes_numbered w n e h)
    one_numbered w n (more e es) (inr h) = inr (one_numbered w (n + group_count e) es h)

    each_one_numbered : (w : Within) (n : ℕ) (es : Trees) → EachTakesByte unicode behind bytes es → EachTakesByte unicode behind bytes (each_numbered w n es)
    each_one_numbered w n none h = tt
    each_one_numbered w n (more e es) h = (takes_numbered w n e h.0, each_one_numbered w (n + group_count e) es h.1)

pub byte_is_required : (bytes : List Bool) (behind unicode : Bool) (e : Tree) → TakesByte unicode behind bytes e →
    IsRequiredOf (OneOf bytes) behind unicode e
unfolding numbered
byte_is_required bytes behind unicode e h i same options text o lacks =
    let q : Search = search_of (plan i) text o in
    let here : TakesByte (i.options).unicode behind bytes (i.parsed).tree =
    subst (λ u. TakesByte u behind bytes (i.parsed).tree) (sym options) (subst (TakesByte unicode behind bytes) (sym same) h) in
    no_answer q
    (λ start from. nothing_there (ways_from q start)
    (no_way q.setting (called q.setting q.tree (free_calls q.tree no_calls) no_calls)
    (called_leads (onward_motion q.setting) q.tree (free_calls q.tree no_calls) no_calls)
    behind bytes (taken_from behind o) (taken_from_first behind o) lacks q.tree
    (takes_numbered (i.options).unicode behind bytes _ _ (i.parsed).tree here) _ (omega (arith, taken_from_low behind o, from)))
    (λ t never. never))
