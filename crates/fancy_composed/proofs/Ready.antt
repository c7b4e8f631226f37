-- What is known of the tree of an accepted plan.
use Rattle.std.proofs.Common.{◌≡◌, ℕ, suc, ◌<◌, ◌≤◌, Bool, true, false, Contains, Some}
use Rattle.fancy_meaning.specs.Tree.{Tree, Group, BackrefWithLevel, AbsentRepeater, AstNode}
use Rattle.fancy_meaning.specs.Nodes.{nodes, group_count, target}
use Rattle.fancy_meaning.specs.OpenCalls.{Depths, opened, call_depth, free_calls}
use Rattle.fancy_meaning.specs.Places.{chars_between}
use Rattle.fancy_meaning.specs.MatchState.{MatchState}
use Rattle.fancy_meaning.specs.Ways.{ways}
use Rattle.fancy_meaning.specs.Sizes.{size}
use Rattle.fancy_meaning.specs.Code.{Code}
use Rattle.fancy_meaning.specs.Constructs.{absent_code}
use Rattle.fancy_meaning.specs.Layout.{absent_repeater_code}
use Rattle.fancy_meaning.specs.AnalysisRefusals.{CompileError}
use Rattle.fancy_meaning.specs.CompileRefusals.{IsWritten, RefusesNode}
use Rattle.fancy_meaning.specs.WellFormed.{IsFine, refers}
use Rattle.fancy_meaning.specs.Premises.{IsSized}
use Rattle.fancy_meaning.specs.Marks.{has_marked_continue, is_marked_group}
use Rattle.fancy_composed.proofs.Continuations.{Ground}
use Rattle.fancy_composed.proofs.Parts.{Sound, setting, whole}
use Rattle.fancy_composed.proofs.Branches.{never}

-- the analysis refuses what is not resolved, and references with a level
abbrev pub IsResolved : Tree → Type 0
IsResolved (BackrefWithLevel g level casei) = ⊥
IsResolved (AstNode node) = ⊥
IsResolved e = Unit {0}

pub record Ready (w : Ground) : Type 0 where
  pub there : (e : Tree) → IsWritten (whole w) e → Contains (nodes (whole w)) e
  pub fine : (e : Tree) → Contains (nodes (whole w)) e → IsFine e
  pub resolved : (e : Tree) → Contains (nodes (whole w)) e → IsResolved e
  pub group : (g : ℕ) (e : Tree) → Contains (nodes (whole w)) (Group g e) → (0 < g) × (g ≤ group_count (whole w))
  pub reference : (e : Tree) (g : ℕ) → Contains (nodes (whole w)) e → refers g e ≡ true → (0 < g) × (g ≤ group_count (whole w))
  pub allowed : (e : Tree) (error : CompileError) → IsWritten (whole w) e → ¬ RefusesNode w.plan e error
  pub repeater : (e : Tree) (code : Bool → Code) → IsWritten (whole w) (AbsentRepeater e) →
      absent_repeater_code w.plan never e code ≡ absent_code (code false)
  pub leads : (e : Tree) (depths : Depths) (s t : MatchState) → Contains (nodes (whole w)) e → Sound w s →
      Contains (ways (setting w) (whole w) e depths s) t →
      Sound w t × (s.place ≤ t.place) × IsSized (size (whole w) e) (chars_between (w.task).text s.place t.place)
  pub number : (g : ℕ) (e : Tree) → target (whole w) (suc g) ≡ Some e → suc g ≤ group_count (whole w)
  pub opens : (g : ℕ) (e : Tree) (depths : Depths) → target (whole w) g ≡ Some e → depths g < call_depth →
      free_calls (whole w) depths ≡ suc (free_calls (whole w) (opened g depths))
  pub begins : (g : ℕ) (e : Tree) → target (whole w) (suc g) ≡ Some e → is_marked_group (whole w) (suc g) ≡ true →
      has_marked_continue (whole w) e ≡ true → has_marked_continue (whole w) (whole w) ≡ true
