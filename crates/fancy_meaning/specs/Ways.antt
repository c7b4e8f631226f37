-- What a tree means: the ways of each node. Beside a construct stands an example: a tree as docs/MEANING.md writes it,
-- a text, and the places of the tree's ways from 0, in order. `WaysOfNodes` of `fancy_examples` computes them.
use Rattle.std.specs.Prelude.{ℕ, zero, suc, Bool, true, ◌&&◌, not, List, [], ◌∷◌, map, take, reverse, filter, flat_map, Option, Some, None, is_some, if◌then◌else◌, ◌==◌, nat_eq, nat_lt, option_and_then}
use Rattle.fancy_meaning.specs.Tree.{Tree, Trees, none, more, Empty, KeepOut, ContinueFromPreviousMatchEnd, AbsentClear, Any, Assert, GeneralNewline, Literal, LiteralBytes, Delegate, Concat, Alt, Group, LookAround, Repeat, Backref, BackrefWithLevel, BackrefExists, AtomicGroup, DefineGroup, AbsentRepeater, AbsentStopper, AbsentExpression, Control, Conditional, SubroutineCall, AstNode, Look, LookAhead, LookAheadNeg, LookBehind, LookBehindNeg, Assertion}
use Rattle.fancy_meaning.specs.Nodes.{target}
use Rattle.fancy_meaning.specs.OpenCalls.{Depths, opened, call_depth, free_calls}
use Rattle.fancy_meaning.specs.Places.{places_from, places_back}
use Rattle.fancy_meaning.specs.Chars.{literal_takes, any_takes, class_takes}
use Rattle.fancy_meaning.specs.Assertions.{holds, assertion_within, is_of_end}
use Rattle.fancy_meaning.specs.Moves.{Move, past_char, past_chars, past_newline, past_piece}
use Rattle.fancy_meaning.specs.MatchState.{MatchState, Ways, stays, fails, stays_if, in_order, one_of, preferred, has_way, moved_to, with_span}
use Rattle.fancy_meaning.specs.Loops.{repeats}

-- what a node's ways depend on besides the state
pub record Setting : Type 0 where
  pub text : List ℕ
  -- where the search begins, and whether the match before ended there
  pub pos : ℕ
  pub continued : Bool
  pub unicode : Bool

-- ---- a node of each kind, from the ways of its parts

-- the group's span is set at its close
-- `(grp "a")` on ab: 1, where group 1 has the span 0 to 1
abbrev pub captured : ℕ → Ways → Ways
captured g body s = map (λ t. with_span g (s.place, t.place) t) (body s)

-- one way for each way of the body, the place restored
-- `(ahead (alt "a" "ab"))` on ab: 0, 0
abbrev pub ahead : Ways → Ways
ahead body s = map (moved_to s.place) (body s)

-- the unchanged state, where there is no way
-- `(nahead "a")` on b: 0; on a: none
abbrev pub unless : Ways → Ways
unless body = stays_if (λ s. not (has_way body s))

-- the first way alone
-- `(atom (alt "a" "ab"))` on ab: 1
abbrev pub atomic : Ways → Ways
atomic body s = take 1 (body s)

-- the true branch from the condition's first way, or else the false branch
-- `(if "a" "b" "c")` on ab: 2; on c: 1
abbrev pub conditional : Ways → Ways → Ways → Ways
conditional c t f s = go (preferred c s)
  where
    go : Option MatchState → List MatchState
    go None = f s
    go (Some s') = t s'

-- up to and with the first that passes
abbrev pub take_through : (ℕ → Bool) → List ℕ → List ℕ
take_through test [] = []
take_through test (i ∷ is) = i ∷ (if test i then [] else take_through test is)

module _ (q : Setting) where
  -- the state after the move, if there is one
  -- `"a"` on ab: 1
  abbrev pub moves : Move → Ways
  moves move s = go (move s.place)
    where
      go : Option ℕ → List MatchState
      go None = []
      go (Some i) = moved_to i s ∷ []

  -- an assertion of the text's end leaves its mark
  -- `(cat "a" end)` on a: 1, with the mark
  abbrev pub asserts : Assertion → Ways
  asserts a s =
      let met = if is_of_end a then record s { text_end = true } else s in
      if holds q.text s.place q.unicode a then met ∷ [] else []

  -- what the group captured, once more
  -- `(cat (grp (alt "a" "ab")) (ref 1))` on abab: 4
  abbrev pub repeats_group : ℕ → Bool → Ways
  repeats_group g casei s =
      moves (λ i. option_and_then (λ span. past_piece q.text q.unicode casei span i) (s.captures g)) s

  -- the ways that end here, from the nearest place back
  -- `(cat "aa" (behind (rep 1 * "a")))` on aa: 2, 2
  abbrev pub ends_here : Ways → Ways
  ends_here body s =
      flat_map (λ i. filter (λ t. t.place == s.place) (body (moved_to i s))) (places_back q.text s.place)

  -- a look-around, of a body with these branches
  -- `(cat "a" (nbehind "b"))` on a: 1
  abbrev pub looks : Look → List Ways → Ways
  looks LookAhead branches = ahead (one_of branches)
  looks LookAheadNeg branches = unless (one_of branches)
  looks LookBehind branches = one_of (map ends_here branches)
  looks LookBehindNeg branches = unless (one_of (map ends_here branches))

  -- each place from the first where X has a way, or the end, back to here
  -- `(absent "b")` on aab: 2, 1, 0
  abbrev pub absent : Ways → Ways
  absent x s =
      map (λ i. moved_to i s) (reverse (take_through (λ i. has_way x (moved_to i s)) (places_from q.text s.place)))

  -- ---- every node, where `call g` is what a call of g gives
  module _ (call : ℕ → Ways) where
    abbrev mutual
      pub ways_with : Tree → Ways
      ways_with Empty = stays
      ways_with (Any newline crlf) = moves (past_char q.text (any_takes newline crlf))
      ways_with (Literal c casei) = moves (past_char q.text (literal_takes q.unicode c casei))
      ways_with (LiteralBytes cs) = moves (past_chars q.text (map nat_eq cs))
      ways_with (Delegate inner casei) = moves (past_char q.text (class_takes q.unicode inner casei))
      -- `nl` on CR LF: 2
      ways_with (GeneralNewline unicode) = moves (past_newline q.text unicode)
      ways_with (Assert within a) = asserts (assertion_within within a)
      -- `cont` on a, where the match before ended at 0: 0
      ways_with ContinueFromPreviousMatchEnd = stays_if (λ s. q.continued && s.place == q.pos)
      -- `(cat "a" keep)` on a: 1, kept from 1
      ways_with KeepOut = λ s. record s { kept = s.place } ∷ []
      ways_with (Backref g casei) = repeats_group g casei
      -- `(cat (rep 0 1 (grp "a")) (has 1))` on a: 1
      ways_with (BackrefExists g None) = stays_if (λ s. is_some (s.captures g))
      -- `(cat (alt "a" "ab") (alt "b" "bc"))` on abc: 2, 3
      ways_with (Concat es) = in_order (each_ways es)
      -- `(alt "a" "ab")` on ab: 1, 2
      ways_with (Alt es) = one_of (each_ways es)
      ways_with (Group g e) = captured g (ways_with e)
      -- `(cat (grp "a") (call 1))` on aa: 2, where group 1 has the span 1 to 2
      ways_with (SubroutineCall g) = call g
      -- `(rep 0 * "a")` on aa: 2, 1, 0; `(lazy 0 * "a")`: 0, 1, 2
      ways_with (Repeat lo hi greedy e) = repeats q.text lo hi greedy (ways_with e)
      ways_with (LookAround look (Alt es)) = looks look (each_ways es)
      ways_with (LookAround look e) = looks look (ways_with e ∷ [])
      ways_with (AtomicGroup e) = atomic (ways_with e)
      ways_with (Conditional c t f) = conditional (ways_with c) (ways_with t) (ways_with f)
      ways_with (AbsentRepeater e) = absent (ways_with e)
      -- `(define "a")` on a: 0
      ways_with (DefineGroup e) = stays
      -- `Fail`, and what is refused
      ways_with (Control verb) = fails
      ways_with (BackrefExists g (Some level)) = fails
      ways_with (BackrefWithLevel g level casei) = fails
      ways_with AbsentClear = fails
      ways_with (AbsentStopper e) = fails
      ways_with (AbsentExpression a e) = fails
      ways_with (AstNode node) = fails

      pub each_ways : Trees → List Ways
      each_ways none = []
      each_ways (more e es) = ways_with e ∷ each_ways es

  -- ---- calls: a group's number stands for its body, and 0 for the whole tree
  module _ (whole : Tree) where
    -- only a group has a span
    abbrev pub captured_by_call : ℕ → Ways → Ways
    captured_by_call zero body = body
    captured_by_call (suc g) body = captured (suc g) body

    abbrev pub ways_of_target : ℕ → (ℕ → Ways) → Option Tree → Ways
    ways_of_target g call None = fails
    ways_of_target g call (Some body) = captured_by_call g (ways_with call body)

    -- what a call gives where these calls are open, and at most n more may be opened
    abbrev pub called : ℕ → Depths → ℕ → Ways
    called zero depths g = fails
    called (suc n) depths g =
        if nat_lt (depths g) call_depth then ways_of_target g (called n (opened g depths)) (target whole g) else fails

    -- The ways of a part of the tree, where these calls are open: `CallLaw` says what a call gives without a count.
    abbrev pub ways : Tree → Depths → Ways
    ways e depths = ways_with (called (free_calls whole depths) depths) e
