-- A tree that begins with the text's start, or where the match before ended, has ways from there alone.
use Rattle.std.proofs.Common.{◌≡◌, ℕ, ◌⊎◌, inl, inr, true, ◌&&◌, ◌==◌, if◌then◌else◌, Contains, refl, eqb-true}
use Rattle.std.proofs.lemmas.Bool.{and_parts, false≢true}
use Rattle.fancy_meaning.specs.Tree.{Tree, more, Assert, Within, NoLook, InLookAhead, InLookBehind, StartText, ContinueFromPreviousMatchEnd, Concat}
use Rattle.fancy_meaning.specs.Numbering.{numbered_within, numbered}
use Rattle.fancy_meaning.specs.Options.{AnalysisOptions, analysis_of}
use Rattle.fancy_meaning.specs.OpenCalls.{Depths, free_calls}
use Rattle.fancy_meaning.specs.Assertions.{holds}
use Rattle.fancy_meaning.specs.MatchState.{MatchState, Ways, in_order}
use Rattle.fancy_meaning.specs.Ways.{Setting, asserts, ways_with, each_ways, called, ways}
use Rattle.fancy_meaning.specs.Laws.{is_anchor, can_be_anchored}
use Rattle.fancy_laws.proofs.Every.{Every, no_item, every_one, every_if, every_flat_map, every_anything, every_contained}
use Rattle.fancy_laws.proofs.WaysOf.{every_stays_if}

module _ (q : Setting) (call : ℕ → Ways) where
  abbrev IsAnchored : MatchState → Type 0
  IsAnchored s = (s.place ≡ 0) ⊎ ((q.continued ≡ true) × (s.place ≡ q.pos))

  at_text_start : (s : MatchState) → Every (λ t. IsAnchored s) (asserts q StartText s)
  unfolding holds
  at_text_start s = every_if (s.place == 0) (λ e. every_one (inl (eqb-true s.place 0 e))) (λ e. no_item)

  every_anchor : (e : Tree) (s : MatchState) → is_anchor e ≡ true → Every (λ t. IsAnchored s) (ways_with q call e s)
  every_anchor (Assert NoLook StartText) s is = at_text_start s
  every_anchor (Assert InLookAhead StartText) s is = at_text_start s
  every_anchor (Assert InLookBehind StartText) s is = at_text_start s
  every_anchor ContinueFromPreviousMatchEnd s is =
      every_stays_if (λ t. q.continued && t.place == q.pos) s
      (λ e. let p = and_parts q.continued (s.place == q.pos) e in inr (p.0, eqb-true s.place q.pos p.1))
  every_anchor e s is = absurd (false≢true is)

  every_anchored : (e : Tree) (s : MatchState) → can_be_anchored e ≡ true → Every (λ t. IsAnchored s) (ways_with q call e s)
  every_anchored (Concat (more e es)) s is =
      every_flat_map {P = λ t. IsAnchored s} (in_order (each_ways q call es))
      (λ t at. every_anything (in_order (each_ways q call es) t) (λ u. at)) (every_anchor e s is)
  every_anchored (Assert within StartText) s is = every_anchor (Assert within StartText) s refl
  every_anchored e s is = absurd (false≢true is)

-- ---- numbering keeps what a tree begins with

anchor_numbered : (w : Within) (n : ℕ) (e : Tree) → is_anchor e ≡ true → is_anchor (numbered_within w n e) ≡ true
anchor_numbered w n (Assert old StartText) is = refl
anchor_numbered w n ContinueFromPreviousMatchEnd is = refl
anchor_numbered w n e is = absurd (false≢true is)

anchored_numbered : (w : Within) (n : ℕ) (e : Tree) → can_be_anchored e ≡ true → can_be_anchored (numbered_within w n e) ≡ true
anchored_numbered w n (Concat (more e es)) is = anchor_numbered w n e is
anchored_numbered w n (Assert old StartText) is = refl
anchored_numbered w n e is = absurd (false≢true is)

pub anchored_ways : (q : Setting) (parsed : Tree) (options : AnalysisOptions) (depths : Depths) (s t : MatchState) →
    can_be_anchored parsed ≡ true → let whole = (analysis_of parsed options).tree in Contains (ways q whole whole depths s) t →
    (s.place ≡ 0) ⊎ ((q.continued ≡ true) × (s.place ≡ q.pos))
unfolding numbered
anchored_ways q parsed options depths s t is c =
    let first = if options.explicit_capture_group_0 then 0 else 1 in
    let whole = numbered_within NoLook first parsed in
    every_contained t
    (every_anchored q (called q whole (free_calls whole depths) depths) whole s (anchored_numbered NoLook first parsed is)) c
