-- That a part of a tree may be replaced by one with equal ways, and which parts have equal ways, as types.
use Rattle.std.specs.Prelude.{◌≡◌, ◌≢◌, ℕ, Bool, true, Some}
use Rattle.fancy_meaning.specs.Tree.{Tree, Trees, none, more, Concat, Alt, LookAround, LookBehind, Repeat}
use Rattle.fancy_meaning.specs.Nodes.{groups}
use Rattle.fancy_meaning.specs.OpenCalls.{Depths}
use Rattle.fancy_meaning.specs.MatchState.{MatchState, Ways}
use Rattle.fancy_meaning.specs.Ways.{Setting, ways_with, ways}
use Rattle.fancy_meaning.specs.Answer.{Search, answer}
use Rattle.fancy_rewriting.specs.Contexts.{Context, followed_by, filled, is_body_of_behind}

-- Two parts have equal ways there. A positive look-behind goes by the branches of an alternation, each from the nearest
-- place back: where the parts are its body, the look-behinds of both have equal ways too.
pub record HaveEqualWays (w : Tree → Ways) (c : Context) (e f : Tree) : Type 0 where
  pub alone : (s : MatchState) → w e s ≡ w f s
  pub behind : is_body_of_behind c ≡ true → (s : MatchState) →
      w (LookAround LookBehind e) s ≡ w (LookAround LookBehind f) s

-- Within one tree, and where the same calls are open: then so have the parts around them.
abbrev pub PartsMayBeReplaced : Type 0
PartsMayBeReplaced = (q : Setting) (whole : Tree) (depths : Depths) (c : Context) (e f : Tree) →
    let w : Tree → Ways = λ x. ways q whole x depths in
    HaveEqualWays w c e f → (s : MatchState) → w (filled c e) s ≡ w (filled c f) s

-- Replaced in the whole tree, whose groups calls name: where the parts have equal ways whatever calls give, and the
-- same groups, each search has the same answer.
abbrev pub AnswersKeepUnderReplacement : Type 0
AnswersKeepUnderReplacement = (q : Search) (c : Context) (e f : Tree) → groups e ≡ groups f →
    ((call : ℕ → Ways) → HaveEqualWays (ways_with q.setting call) c e f) →
    answer (record q { tree = filled c e }) ≡ answer (record q { tree = filled c f })

-- ---- rules

abbrev pub IsNoAlternation : Tree → Type 0
IsNoAlternation e = (es : Trees) → e ≢ Alt es

-- the one may be written as the other
pub data Rewrites : Tree → Tree → Type 0 where
  concat_of_one : (e : Tree) → Rewrites (Concat (more e none)) e
  alternation_of_one : (e : Tree) → Rewrites (Alt (more e none)) e
  once : (greedy : Bool) (e : Tree) → Rewrites (Repeat 1 (Some 1) greedy e) e
  nested_concat : (before es after : Trees) →
      Rewrites (Concat (followed_by before (more (Concat es) after))) (Concat (followed_by before (followed_by es after)))
  nested_alternation : (before es after : Trees) →
      Rewrites (Alt (followed_by before (more (Alt es) after))) (Alt (followed_by before (followed_by es after)))

-- whatever calls give, each rule keeps the ways
abbrev pub RulesKeepWays : Type 0
RulesKeepWays = (q : Setting) (call : ℕ → Ways) (e f : Tree) (s : MatchState) → Rewrites e f →
    ways_with q call e s ≡ ways_with q call f s

-- A rule keeps the answer of each search, at every part of the tree; where that is the body of a positive look-behind,
-- if it becomes no alternation.
abbrev pub RulesKeepAnswers : Type 0
RulesKeepAnswers = (q : Search) (c : Context) (e f : Tree) → Rewrites e f →
    (is_body_of_behind c ≡ true → IsNoAlternation f) →
    answer (record q { tree = filled c e }) ≡ answer (record q { tree = filled c f })
