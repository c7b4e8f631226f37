-- What is around parts with equal ways has equal ways.
use Rattle.std.proofs.Common.{◌≡◌, ℕ, true, [], ◌∷◌, refl, sym, ap, ◌∙◌}
use Rattle.std.proofs.Math.Path.{fun_ext}
use Rattle.fancy_meaning.specs.Tree.{Tree, Trees, none, more, LookAround, LookAhead, LookAheadNeg, LookBehind, LookBehindNeg}
use Rattle.fancy_meaning.specs.Loops.{repeats}
use Rattle.fancy_meaning.specs.MatchState.{Ways, in_order, one_of}
use Rattle.fancy_meaning.specs.Ways.{Setting, captured, ahead, unless, atomic, conditional, looks, ends_here, absent, ways_with, each_ways}
use Rattle.fancy_rewriting.specs.Contexts.{Frame, InConcat, InAlt, InGroup, InLookAround, InRepeat, InAtomicGroup, InDefineGroup, InCondition, InTrueBranch, InFalseBranch, InAbsentRepeater, InAbsentStopper, InAbsent, InExpression, followed_by, around, Context, filled, is_behind, is_body_of_behind}
use Rattle.fancy_rewriting.specs.Rewriting.{HaveEqualWays}
use Rattle.fancy_rewriting.proofs.Behind.{ahead_of, not_ahead_of, not_behind_of}

module _ (q : Setting) (call : ℕ → Ways) where
  abbrev pub Same : Tree → Tree → Type 0
  Same e f = ways_with q call e ≡ ways_with q call f

  abbrev pub SameBehind : Tree → Tree → Type 0
  SameBehind e f = Same (LookAround LookBehind e) (LookAround LookBehind f)

  among : (e f : Tree) → Same e f → (before after : Trees) →
      each_ways q call (followed_by before (more e after)) ≡ each_ways q call (followed_by before (more f after))
  among e f same none after = ap (λ w. w ∷ each_ways q call after) same
  among e f same (more b bs) after = ap (λ ws. ways_with q call b ∷ ws) (among e f same bs after)

  -- around two parts with equal ways
  pub same_around : (g : Frame) (e f : Tree) → Same e f → (is_behind g ≡ true → SameBehind e f) → Same (around g e) (around g f)
  same_around (InConcat before after) e f same behind = ap in_order (among e f same before after)
  same_around (InAlt before after) e f same behind = ap one_of (among e f same before after)
  same_around (InGroup n) e f same behind = ap (captured n) same
  same_around (InLookAround LookAhead) e f same behind = ahead_of q call e ∙ ap ahead same ∙ sym (ahead_of q call f)
  same_around (InLookAround LookAheadNeg) e f same behind = not_ahead_of q call e ∙ ap unless same ∙ sym (not_ahead_of q call f)
  same_around (InLookAround LookBehind) e f same behind = behind refl
  same_around (InLookAround LookBehindNeg) e f same behind =
      not_behind_of q call e ∙ ap (λ w. unless (ends_here q w)) same ∙ sym (not_behind_of q call f)
  same_around (InRepeat lo hi greedy) e f same behind = ap (repeats q.text lo hi greedy) same
  same_around InAtomicGroup e f same behind = ap atomic same
  same_around InDefineGroup e f same behind = refl
  same_around (InCondition t u) e f same behind = ap (λ w. conditional w (ways_with q call t) (ways_with q call u)) same
  same_around (InTrueBranch c u) e f same behind = ap (λ w. conditional (ways_with q call c) w (ways_with q call u)) same
  same_around (InFalseBranch c t) e f same behind = ap (λ w. conditional (ways_with q call c) (ways_with q call t) w) same
  same_around InAbsentRepeater e f same behind = ap (absent q) same
  same_around InAbsentStopper e f same behind = refl
  same_around (InAbsent exp) e f same behind = refl
  same_around (InExpression a) e f same behind = refl

  -- a look-behind of one branch
  abbrev behind_one : Ways → Ways
  behind_one w = looks q LookBehind (w ∷ [])

  -- and the look-behind of what is around them: an alternation by its branches, all else by its ways
  pub same_behind : (g : Frame) (e f : Tree) → Same e f → Same (around g e) (around g f) → SameBehind (around g e) (around g f)
  same_behind (InConcat before after) e f same out = ap behind_one out
  same_behind (InAlt before after) e f same out = ap (looks q LookBehind) (among e f same before after)
  same_behind (InGroup n) e f same out = ap behind_one out
  same_behind (InLookAround look) e f same out = ap behind_one out
  same_behind (InRepeat lo hi greedy) e f same out = ap behind_one out
  same_behind InAtomicGroup e f same out = ap behind_one out
  same_behind InDefineGroup e f same out = ap behind_one out
  same_behind (InCondition t u) e f same out = ap behind_one out
  same_behind (InTrueBranch c u) e f same out = ap behind_one out
  same_behind (InFalseBranch c t) e f same out = ap behind_one out
  same_behind InAbsentRepeater e f same out = ap behind_one out
  same_behind InAbsentStopper e f same out = ap behind_one out
  same_behind (InAbsent exp) e f same out = ap behind_one out
  same_behind (InExpression a) e f same out = ap behind_one out

  pub same_filled : (c : Context) (e f : Tree) → Same e f → (is_body_of_behind c ≡ true → SameBehind e f) → Same (filled c e) (filled c f)
  same_filled [] e f same behind = same
  same_filled (g ∷ gs) e f same behind =
      let out = same_around g e f same behind in
      same_filled gs (around g e) (around g f) out (λ is. same_behind g e f same out)

  pub replaced : (c : Context) (e f : Tree) → HaveEqualWays (ways_with q call) c e f → Same (filled c e) (filled c f)
  replaced c e f h = same_filled c e f (fun_ext h.alone) (λ is. fun_ext (h.behind is))
