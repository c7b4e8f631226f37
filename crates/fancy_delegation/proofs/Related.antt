-- Two families of ways that are related wherever those of the parts are: an induction over trees and calls, stated once.
use Rattle.std.proofs.Common.{◌≡◌, ℕ, Bool, ◌&&◌, ◌==◌, List, [], ◌∷◌, ◌++◌, map, Option, Some, None, is_some, refl, sym, subst₂}
use Rattle.std.specs.Prelude.{nat_eq}
use Rattle.fancy_meaning.specs.Tree.{Tree, Trees, none, more, Empty, KeepOut, ContinueFromPreviousMatchEnd, AbsentClear, Any, Assert, GeneralNewline, Literal, LiteralBytes, Delegate, Concat, Alt, Group, LookAround, Repeat, Backref, BackrefWithLevel, BackrefExists, AtomicGroup, DefineGroup, AbsentRepeater, AbsentStopper, AbsentExpression, Control, Conditional, SubroutineCall, AstNode, Look, LookAhead, LookAheadNeg, LookBehind, LookBehindNeg, Within, Assertion}
use Rattle.fancy_meaning.specs.Assertions.{assertion_within}
use Rattle.fancy_meaning.specs.Chars.{literal_takes, any_takes, class_takes}
use Rattle.fancy_meaning.specs.Moves.{Move, past_char, past_chars, past_newline}
use Rattle.fancy_meaning.specs.MatchState.{Ways, stays, fails, stays_if, and_then, in_order, one_of}
use Rattle.fancy_meaning.specs.Loops.{repeats}
use Rattle.fancy_meaning.specs.Ways.{Setting, captured, ahead, unless, atomic, conditional, moves, asserts, repeats_group, ends_here, looks, absent, ways_with, each_ways}
use Rattle.fancy_delegation.proofs.Everywhere.{Below, EachBelow, Everywhere}

-- a move of the definitions that takes characters of the text
pub data IsTake (q : Setting) : Move → Type 0 where
  one_char : (test : ℕ → Bool) → IsTake q (past_char q.text test)
  some_chars : (tests : List (ℕ → Bool)) → IsTake q (past_chars q.text tests)
  a_newline : (unicode : Bool) → IsTake q (past_newline q.text unicode)

-- the branches of a look-around with this body
abbrev pub branch_ways : Setting → (ℕ → Ways) → Tree → List Ways
branch_ways q call (Alt es) = each_ways q call es
branch_ways q call e = ways_with q call e ∷ []

pub look_ways : (q : Setting) (call : ℕ → Ways) (look : Look) (e : Tree) → ways_with q call (LookAround look e) ≡ looks q look (branch_ways q call e)
look_ways q call look Empty = refl
look_ways q call look KeepOut = refl
look_ways q call look ContinueFromPreviousMatchEnd = refl
look_ways q call look AbsentClear = refl
look_ways q call look (Any newline crlf) = refl
look_ways q call look (Assert within a) = refl
look_ways q call look (GeneralNewline unicode) = refl
look_ways q call look (Literal c casei) = refl
look_ways q call look (LiteralBytes cs) = refl
look_ways q call look (Delegate inner casei) = refl
look_ways q call look (Backref g casei) = refl
look_ways q call look (BackrefWithLevel g level casei) = refl
look_ways q call look (BackrefExists g level) = refl
look_ways q call look (Control verb) = refl
look_ways q call look (SubroutineCall g) = refl
look_ways q call look (AstNode node) = refl
look_ways q call look (DefineGroup e) = refl
look_ways q call look (AbsentStopper e) = refl
look_ways q call look (AbsentExpression a e) = refl
look_ways q call look (Group g e) = refl
look_ways q call look (LookAround other e) = refl
look_ways q call look (Repeat lo hi greedy e) = refl
look_ways q call look (AtomicGroup e) = refl
look_ways q call look (AbsentRepeater e) = refl
look_ways q call look (Concat es) = refl
look_ways q call look (Alt es) = refl
look_ways q call look (Conditional c t f) = refl

-- as many ways, related in turn
pub data EachRelated (Related : Ways → Ways → Type 0) : List Ways → List Ways → Type 0 where
  no_branch : EachRelated Related [] []
  branch : {w w' : Ways} {ws ws' : List Ways} → Related w w' → EachRelated Related ws ws' → EachRelated Related (w ∷ ws) (w' ∷ ws')

-- Each construct relates its ways where those of its parts are related; of some nodes only where they are allowed.
pub record RelatesWays (q : Setting) (Allowed : Tree → Type 0) (Related : Ways → Ways → Type 0) : Type 0 where
  pub stay : Related stays stays
  pub fail : Related fails fails
  pub take : (move : Move) → IsTake q move → Related (moves q move) (moves q move)
  pub assertion : (w : Within) (a : Assertion) → Allowed (Assert w a) → Related (asserts q (assertion_within w a)) (asserts q (assertion_within w a))
  pub continue_here : Allowed ContinueFromPreviousMatchEnd →
      Related (stays_if (λ s. q.continued && s.place == q.pos)) (stays_if (λ s. q.continued && s.place == q.pos))
  pub keep_out : Allowed KeepOut → Related (λ s. record s { kept = s.place } ∷ []) (λ s. record s { kept = s.place } ∷ [])
  pub reference : (g : ℕ) (casei : Bool) → Allowed (Backref g casei) → Related (repeats_group q g casei) (repeats_group q g casei)
  pub existence : (g : ℕ) → Allowed (BackrefExists g None) → Related (stays_if (λ s. is_some (s.captures g))) (stays_if (λ s. is_some (s.captures g)))
  pub next : (w w' v v' : Ways) → Related w w' → Related v v' → Related (and_then w v) (and_then w' v')
  pub or_else : (w w' v v' : Ways) → Related w w' → Related v v' → Related (λ s. w s ++ v s) (λ s. w' s ++ v' s)
  pub group : (g : ℕ) (e : Tree) (w w' : Ways) → Allowed (Group g e) → Related w w' → Related (captured g w) (captured g w')
  pub loop : (lo : ℕ) (hi : Option ℕ) (greedy : Bool) (w w' : Ways) → Related w w' →
      Related (repeats q.text lo hi greedy w) (repeats q.text lo hi greedy w')
  pub look_ahead : (w w' : Ways) → Related w w' → Related (ahead w) (ahead w')
  pub negated : (w w' : Ways) → Related w w' → Related (unless w) (unless w')
  pub look_behind : (w w' : Ways) → Related w w' → Related (ends_here q w) (ends_here q w')
  pub atom : (w w' : Ways) → Related w w' → Related (atomic w) (atomic w')
  pub choice : (c c' t t' f f' : Ways) → Related c c' → Related t t' → Related f f' → Related (conditional c t f) (conditional c' t' f')
  pub absence : (w w' : Ways) → Related w w' → Related (absent q w) (absent q w')

module _ (q : Setting) (Allowed : Tree → Type 0) (Related : Ways → Ways → Type 0) (law : RelatesWays q Allowed Related) where
  all_in_order : {ws ws' : List Ways} → EachRelated Related ws ws' → Related (in_order ws) (in_order ws')
  all_in_order no_branch = law.stay
  all_in_order (branch {w = w} {w' = w'} {ws = ws} {ws' = ws'} h hs) = law.next w w' (in_order ws) (in_order ws') h (all_in_order hs)

  each_in_turn : {ws ws' : List Ways} → EachRelated Related ws ws' → Related (one_of ws) (one_of ws')
  each_in_turn no_branch = law.fail
  each_in_turn (branch {w = w} {w' = w'} {ws = ws} {ws' = ws'} h hs) = law.or_else w w' (one_of ws) (one_of ws') h (each_in_turn hs)

  each_behind : {ws ws' : List Ways} → EachRelated Related ws ws' → EachRelated Related (map (ends_here q) ws) (map (ends_here q) ws')
  each_behind no_branch = no_branch
  each_behind (branch {w = w} {w' = w'} h hs) = branch (law.look_behind w w' h) (each_behind hs)

  look_related : (look : Look) {ws ws' : List Ways} → EachRelated Related ws ws' → Related (looks q look ws) (looks q look ws')
  look_related LookAhead {ws} {ws'} h = law.look_ahead (one_of ws) (one_of ws') (each_in_turn h)
  look_related LookAheadNeg {ws} {ws'} h = law.negated (one_of ws) (one_of ws') (each_in_turn h)
  look_related LookBehind h = each_in_turn (each_behind h)
  look_related LookBehindNeg {ws} {ws'} h =
      law.negated (one_of (map (ends_here q) ws)) (one_of (map (ends_here q) ws')) (each_in_turn (each_behind h))

  abbrev Pair : (call call' : ℕ → Ways) → Tree → Type 0
  Pair call call' e = Related (ways_with q call e) (ways_with q call' e) × EachRelated Related (branch_ways q call e) (branch_ways q call' e)

  alone : {w w' : Ways} → Related w w' → Related w w' × EachRelated Related (w ∷ []) (w' ∷ [])
  alone r = (r, branch r no_branch)

  -- where calls that are allowed are related
  module _ (call call' : ℕ → Ways) (calls : (g : ℕ) → Allowed (SubroutineCall g) → Related (λ s. call g s) (λ s. call' g s)) where
    mutual
      pairs_of : (e : Tree) → Allowed e → Below Allowed e → Pair call call' e
      pairs_of Empty ok k = alone law.stay
      pairs_of (Any newline crlf) ok k = alone (law.take (past_char q.text (any_takes newline crlf)) (one_char (any_takes newline crlf)))
      pairs_of (Literal c casei) ok k =
          alone
          (law.take (past_char q.text (literal_takes q.unicode c casei)) (one_char (literal_takes q.unicode c casei)))
      pairs_of (LiteralBytes cs) ok k = alone (law.take (past_chars q.text (map nat_eq cs)) (some_chars (map nat_eq cs)))
      pairs_of (Delegate inner casei) ok k =
          alone
          (law.take (past_char q.text (class_takes q.unicode inner casei))
          (one_char (class_takes q.unicode inner casei)))
      pairs_of (GeneralNewline unicode) ok k = alone (law.take (past_newline q.text unicode) (a_newline unicode))
      pairs_of (Assert within a) ok k = alone (law.assertion within a ok)
      pairs_of ContinueFromPreviousMatchEnd ok k = alone (law.continue_here ok)
      pairs_of KeepOut ok k = alone (law.keep_out ok)
      pairs_of (Backref g casei) ok k = alone (law.reference g casei ok)
      pairs_of (BackrefExists g None) ok k = alone (law.existence g ok)
      pairs_of (Concat es) ok k = alone (all_in_order (each_pairs es k))
      pairs_of (Alt es) ok k = let h = each_pairs es k in (each_in_turn h, h)
      pairs_of (Group g e) ok k = alone (law.group g e (ways_with q call e) (ways_with q call' e) ok (pairs_of e k.0 k.1).0)
      pairs_of (SubroutineCall g) ok k = alone (calls g ok)
      pairs_of (Repeat lo hi greedy e) ok k = alone (law.loop lo hi greedy (ways_with q call e) (ways_with q call' e) (pairs_of e k.0 k.1).0)
      pairs_of (LookAround look e) ok k =
          alone (subst₂ Related (sym (look_ways q call look e)) (sym (look_ways q call' look e)) (look_related look (pairs_of e k.0 k.1).1))
      pairs_of (AtomicGroup e) ok k = alone (law.atom (ways_with q call e) (ways_with q call' e) (pairs_of e k.0 k.1).0)
      pairs_of (Conditional c t f) ok k =
          alone
          (law.choice (ways_with q call c) (ways_with q call' c) (ways_with q call t) (ways_with q call' t)
          (ways_with q call f) (ways_with q call' f)
          (pairs_of c (k.0).0 (k.0).1).0 (pairs_of t (k.1).0 (k.1).1).0 (pairs_of f (k.2).0 (k.2).1).0)
      pairs_of (AbsentRepeater e) ok k = alone (law.absence (ways_with q call e) (ways_with q call' e) (pairs_of e k.0 k.1).0)
      pairs_of (DefineGroup e) ok k = alone law.stay
      pairs_of (Control verb) ok k = alone law.fail
      pairs_of (BackrefExists g (Some level)) ok k = alone law.fail
      pairs_of (BackrefWithLevel g level casei) ok k = alone law.fail
      pairs_of AbsentClear ok k = alone law.fail
      pairs_of (AbsentStopper e) ok k = alone law.fail
      pairs_of (AbsentExpression a e) ok k = alone law.fail
      pairs_of (AstNode node) ok k = alone law.fail

      each_pairs : (es : Trees) → EachBelow Allowed es → EachRelated Related (each_ways q call es) (each_ways q call' es)
      each_pairs none k = no_branch
      each_pairs (more e es) k = branch (pairs_of e (k.0).0 (k.0).1).0 (each_pairs es k.1)

    -- the ways of a node
    pub ways_related : (e : Tree) → Everywhere Allowed e → Related (ways_with q call e) (ways_with q call' e)
    ways_related e k = (pairs_of e k.0 k.1).0
