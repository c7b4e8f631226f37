-- What the theorems ask of trees, options, texts and states.
use Rattle.std.specs.Prelude.{◌≡◌, ℕ, ◌<◌, ◌≤◌, ◌⊎◌, Bool, true, false, List, length, Option, Some, IsTrue, IsUtf8}
use Rattle.fancy_meaning.specs.Tree.{Tree}
use Rattle.fancy_meaning.specs.Nodes.{is_read}
use Rattle.fancy_meaning.specs.Places.{is_place, chars_between}
use Rattle.fancy_meaning.specs.MatchState.{MatchState, Span}
use Rattle.fancy_meaning.specs.Ways.{Setting}
use Rattle.fancy_meaning.specs.Numbers.{usize_max}
use Rattle.fancy_meaning.specs.Options.{ParsedTree, AnalysisOptions, Analysis, CompileOptions, Plan, analysis_of, plan_of, RunOptions}
use Rattle.fancy_meaning.specs.Sizes.{Size, size_of_group, known_of}
use Rattle.fancy_meaning.specs.WellFormed.{IsWellFormed}
use Rattle.fancy_meaning.specs.AnalysisRefusals.{CompileError, AnalysisRefuses}
use Rattle.fancy_meaning.specs.CompileRefusals.{CompileRefuses}

-- a tree that may be handed in, and the options of its analysis
pub record Analysed : Type 0 where
  pub parsed : ParsedTree
  pub options : AnalysisOptions
  pub well_formed : IsWellFormed parsed

abbrev pub analysis : Analysed → Analysis
analysis a = analysis_of (a.parsed).tree a.options

-- the tree with its groups numbered
abbrev pub tree_of : Analysed → Tree
tree_of a = (analysis a).tree

-- a tree and options that are given to `analyze` and `compile`
pub record Input : Type 0 where
  pub parsed : ParsedTree
  pub analysis : AnalysisOptions
  pub options : CompileOptions

abbrev pub plan : Input → Plan
plan i = plan_of (i.parsed).tree i.analysis i.options

-- The tree is well-formed, no case to refuse it holds where its program has so many instructions, and its program can
-- be run.
pub record IsAccepted (i : Input) (instructions : ℕ) : Type 0 where
  pub well_formed : IsWellFormed i.parsed
  -- the option of `compile` is set only on a tree analysed with it
  pub same_end_text : (i.options).end_text ≡ true → (i.analysis).end_text ≡ true
  pub analysed : (error : CompileError) → ¬ AnalysisRefuses i.parsed i.analysis error
  pub compiled : (error : CompileError) → ¬ CompileRefuses (plan i) instructions error
  pub implicit_group_0 : (i.analysis).explicit_capture_group_0 ≡ false

-- a text in UTF-8 that fits the memory
pub record IsText (text : List ℕ) : Type 0 where
  pub utf8 : IsUtf8 text
  pub fits : length text < usize_max

-- a run on the text may be made with these options
pub record IsFit (i : Input) (text : List ℕ) (o : RunOptions) : Type 0 where
  pub is_text : IsText text
  pub pos : IsTrue (is_place text o.pos)
  pub not_empty : o.not_empty ≡ true → (i.analysis).find_not_empty ≡ true
  pub longest : o.leftmost_longest ≡ true → (i.analysis).leftmost_longest ≡ true

-- so many characters are within the size
pub record IsSized (z : Size) (n : ℕ) : Type 0 where
  pub at_least : z.least ≤ n
  pub at_most : (z.most ≡ usize_max) ⊎ (n ≤ z.most)
  pub exact : z.is_const ≡ true → z.least < usize_max → n ≡ z.least

-- the span lies between two places of the text, in order
pub record IsSpan (text : List ℕ) (span : Span) : Type 0 where
  pub from : IsTrue (is_place text span.0)
  pub to : IsTrue (is_place text span.1)
  pub in_order : span.0 ≤ span.1

-- each span that is set does
abbrev pub HasSpans : List ℕ → (ℕ → Option Span) → Type 0
HasSpans text captures = (g : ℕ) (span : Span) → captures g ≡ Some span → IsSpan text span

-- It stands at a place of the text, every span lies between two places in order, and those of these groups keep the
-- sizes of their groups.
pub record IsSoundFor (q : Setting) (whole : Tree) (sized : ℕ → Bool) (s : MatchState) : Type 0 where
  pub place : IsTrue (is_place q.text s.place)
  pub spans : HasSpans q.text s.captures
  pub sizes : (g : ℕ) (span : Span) → sized g ≡ true → s.captures g ≡ Some span →
      IsSized (size_of_group (known_of whole) g) (chars_between q.text span.0 span.1)

-- so it is for the groups that are read
abbrev pub IsSoundState : Setting → Tree → MatchState → Type 0
IsSoundState q whole = IsSoundFor q whole (is_read whole)
