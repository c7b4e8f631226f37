-- Every way of an easy node goes forward in the text, and it moves where the node takes something.
use Rattle.std.proofs.Common.{◌≡◌, ℕ, ◌+◌, ◌*◌, ◌<◌, ◌≤◌, min, Bool, true, false, ◌&&◌, ◌||◌, length, ◌==◌, ◌⊎◌, inl, inr, ⊎_elim, refl, sym, ap, ◌∙◌, arith, mul-le-mul, eq-eqb, eqb-true}
use Rattle.std.proofs.lemmas.Bool.{true≢false, and_parts, and_cases, or_parts, or_cases, ne_eqb, eqb-false, cases_lt}
use Rattle.std.proofs.lemmas.Str.{len_utf8_bounds}
use Rattle.fancy_meaning.specs.Tree.{Tree, Trees, none, more, Empty, Any, Assert, Literal, Delegate, Concat, Alt, Group, Repeat, DefineGroup}
use Rattle.fancy_meaning.specs.Sizes.{saturated, size}
use Rattle.fancy_meaning.specs.Options.{Analysis}
use Rattle.fancy_meaning.specs.Hard.{is_hard, any_hard}
use Rattle.fancy_meaning.specs.Chars.{literal_takes, any_takes, class_takes}
use Rattle.fancy_meaning.specs.Moves.{past_char}
use Rattle.fancy_meaning.specs.MatchState.{MatchState, Ways, with_span, and_then, in_order, one_of, fails}
use Rattle.fancy_meaning.specs.Ways.{Setting, moves, each_ways}
use Rattle.fancy_laws.proofs.Every.{Every, no_item, every_append, every_flat_map, every_map, every_weaker}
use Rattle.fancy_laws.proofs.WaysOf.{every_moves}
use Rattle.fancy_laws.proofs.Loops.{IsIterable, every_repeats}
use Rattle.fancy_laws.proofs.Moves.{past_char_tells, past_char_fits}
use Rattle.fancy_laws.proofs.Forward.{forward_motion}
use Rattle.fancy_laws.proofs.Motion.{every_way_leads}
use Rattle.fancy_delegation.proofs.EasyNodes.{easy_group, easy_repeat, easy_concat, easy_alt, easy_each}
use Rattle.fancy_nfa_laws.proofs.Tasks.{may_be_empty, plain_ways, TakesSomething}

-- ---- when sums and products of sizes are 0

is_none_where : (b : Bool) (k : ℕ) → (b ≡ true → k ≡ 0) → (b ≡ false → 0 < k) → (k == 0) ≡ b
is_none_where true k h g = eq-eqb k 0 (h refl)
is_none_where false k h g = let some = g refl in ne_eqb k 0 (λ e. omega (arith, some, e))

-- a number that the test finds to be 0, or not
none_at : (n : ℕ) → (n == 0) ≡ true → n ≡ 0
none_at n e = eqb-true n 0 e

some_at : (n : ℕ) → (n == 0) ≡ false → 0 < n
some_at n e = elim (cases_lt 0 n) [
  | inl lt ↦ lt
  | inr le ↦ absurd (eqb-false n 0 e (omega (arith, le)))
]

pub none_of_sum : (n m : ℕ) → (saturated (n + m) == 0) ≡ (n == 0) && (m == 0)
none_of_sum n m =
    is_none_where ((n == 0) && (m == 0)) (saturated (n + m))
    (λ e. let p = and_parts (n == 0) (m == 0) e in
    let first = none_at n p.0 in
    let second = none_at m p.1 in
    omega (arith, first, second))
    (λ e. ⊎_elim (λ z. let first = some_at n z in omega (arith, first)) (λ z. let second = some_at m z in omega (arith, second))
    (and_cases (n == 0) (m == 0) e))

pub none_of_either : (n m : ℕ) → (min n m == 0) ≡ (n == 0) || (m == 0)
none_of_either n m =
    is_none_where ((n == 0) || (m == 0)) (min n m)
    (λ e. ⊎_elim (λ z. let first = none_at n z in omega (arith, first)) (λ z. let second = none_at m z in omega (arith, second))
    (or_cases (n == 0) (m == 0) e))
    (λ e. let p = or_parts (n == 0) (m == 0) e in
    let first = some_at n p.0 in
    let second = some_at m p.1 in
    omega (arith, first, second))

no_product : (n m : ℕ) → (n ≡ 0) ⊎ (m ≡ 0) → saturated (n * m) ≡ 0
no_product n m (inl e) = ap (λ k. saturated (k * m)) e ∙ omega arith
no_product n m (inr e) = ap (λ k. saturated (n * k)) e ∙ omega arith

pub none_of_times : (n lo : ℕ) → (saturated (n * lo) == 0) ≡ (n == 0) || (lo == 0)
none_of_times n lo =
    is_none_where ((n == 0) || (lo == 0)) (saturated (n * lo))
    (λ e. no_product n lo (⊎_elim (λ z. inl (none_at n z)) (λ z. inr (none_at lo z)) (or_cases (n == 0) (lo == 0) e)))
    (λ e. let p = or_parts (n == 0) (lo == 0) e in
    let some : 1 * 1 ≤ n * lo = mul-le-mul (some_at n p.0) (some_at lo p.1) in
    omega (arith, some))

-- ---- each way goes forward

module _ (q : Setting) where
  abbrev pub Forward : MatchState → MatchState → Type 0
  Forward s t = (s.place ≤ t.place) × (t.place ≤ length q.text)

  abbrev pub Moves : MatchState → MatchState → Type 0
  Moves s t = (s.place < t.place) × (t.place ≤ length q.text)

  abbrev EachWay : (MatchState → MatchState → Type 0) → Ways → Type 0
  EachWay Step w = (s : MatchState) → s.place ≤ length q.text → Every (Step s) (w s)

module _ (a : Analysis) (q : Setting) where
  pub goes_forward : (e : Tree) → EachWay q (Forward q) (plain_ways a q e)
  goes_forward e s within =
      every_weaker (λ t h. (h.on, h.within)) (every_way_leads (forward_motion q) (λ g. fails) (λ g t h. no_item) e s within)

  nodes_go_forward : (es : Trees) → EachWay q (Forward q) (in_order (each_ways q (λ g. fails) es))
  nodes_go_forward es s within = goes_forward (Concat es) s within

  one_char_moves : (test : ℕ → Bool) → EachWay q (Moves q) (moves q (past_char q.text test))
  one_char_moves test s within =
      every_moves q (past_char q.text test) s
      (λ i e. let there = past_char_tells q.text test s.place i e in
      let some = (len_utf8_bounds there.char).0 in
      (omega (arith, there.to, some), (past_char_fits q.text test s.place i e).1))

  -- so many iterations, each of which moves
  moving : IsIterable (λ s. s.place ≤ length q.text) (Moves q) (λ n s t. (s.place + n ≤ t.place) × (t.place ≤ length q.text))
  moving = record {
    arrives = λ s t good one. one.1;
    none = λ s good. (omega arith, good);
    one_more = λ n s t u good one rest. let first = one.0 in let frames = rest.0 in (omega (arith, first, frames), rest.1);
  }

  in_turn_moves : (f g : Ways) → EachWay q (Forward q) f → EachWay q (Moves q) g → EachWay q (Moves q) (and_then f g)
  in_turn_moves f g first frames s within =
      every_flat_map {Q = Moves q s} g
      (λ t on. every_weaker (λ u h. (let there = on.0 in let more = h.0 in omega (arith, there, more), h.1)) (frames t on.1)) (first s within)

  in_turn_moved : (f g : Ways) → EachWay q (Moves q) f → EachWay q (Forward q) g → EachWay q (Moves q) (and_then f g)
  in_turn_moved f g first frames s within =
      every_flat_map {Q = Moves q s} g
      (λ t on. every_weaker (λ u h. (let there = on.0 in let more = h.0 in omega (arith, there, more), h.1)) (frames t on.1)) (first s within)

  mutual
    -- where a node takes something, each of its ways moves
    pub node_moves : (e : Tree) → is_hard a e ≡ false → TakesSomething a e → EachWay q (Moves q) (plain_ways a q e)
    node_moves Empty h some s within = absurd (true≢false some)
    node_moves (DefineGroup e) h some s within = absurd (true≢false some)
    node_moves (Assert within x) h some s inside = absurd (true≢false some)
    node_moves (Any newline crlf) h some s within = one_char_moves (any_takes newline crlf) s within
    node_moves (Literal c casei) h some s within = one_char_moves (literal_takes q.unicode c casei) s within
    node_moves (Delegate inner casei) h some s within = one_char_moves (class_takes q.unicode inner casei) s within
    node_moves (Group g e) h some s within =
        every_map {Q = Moves q s} (λ t. with_span g (s.place, t.place) t) (λ t m. m)
        (node_moves e (easy_group a g e h).1 some s within)
    node_moves (Concat es) h some s within = nodes_move es (easy_concat a es h) some s within
    node_moves (Alt es) h some s within = branches_move es (easy_alt a es h) some s within
    node_moves (Repeat lo hi greedy e) h some s within =
        let parts = or_parts (may_be_empty a e) (lo == 0) (sym (none_of_times (size a.tree e).least lo) ∙ some) in
        let least = some_at lo parts.1 in
        every_weaker
        (λ t c. (let count = c.at_least in let there = (c.after).0 in omega (arith, least, count, there), (c.after).1))
        (every_repeats moving (plain_ways a q e) (node_moves e (easy_repeat a lo hi greedy e h) parts.0) q.text lo hi greedy s within)
    node_moves e h some s within = cc

    nodes_move : (es : Trees) → any_hard a es ≡ false → TakesSomething a (Concat es) →
        EachWay q (Moves q) (in_order (each_ways q (λ g. fails) es))
    nodes_move none h some s within = absurd (true≢false some)
    nodes_move (more e es) h some s within =
        let parts = easy_each a e es h in
        ⊎_elim
        (λ (z : TakesSomething a e).
        in_turn_moved (plain_ways a q e) (in_order (each_ways q (λ g. fails) es)) (node_moves e parts.0 z) (nodes_go_forward es) s within)
        (λ (z : TakesSomething a (Concat es)).
        in_turn_moves (plain_ways a q e) (in_order (each_ways q (λ g. fails) es)) (goes_forward e) (nodes_move es parts.1 z) s within)
        (and_cases (may_be_empty a e) (may_be_empty a (Concat es))
        (sym (none_of_sum (size a.tree e).least (size a.tree (Concat es)).least) ∙ some))

    branches_move : (es : Trees) → any_hard a es ≡ false → TakesSomething a (Alt es) →
        EachWay q (Moves q) (one_of (each_ways q (λ g. fails) es))
    branches_move none h some s within = no_item
    branches_move (more e none) h some s within =
        every_append (node_moves e (easy_each a e none h).0 some s within) no_item
    branches_move (more e (more f es)) h some s within =
        let parts = easy_each a e (more f es) h in
        let each = or_parts (may_be_empty a e) (may_be_empty a (Alt (more f es)))
        (sym (none_of_either (size a.tree e).least (size a.tree (Alt (more f es))).least) ∙ some) in
        every_append (node_moves e parts.0 each.0 s within) (branches_move (more f es) parts.1 each.1 s within)
