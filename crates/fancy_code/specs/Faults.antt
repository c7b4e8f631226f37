-- Why nodes that are written out are refused.
use Rattle.std.specs.Prelude.{◌≡◌, ℕ, Bool, ◌<◌, ◌⊎◌, List, [], ◌∷◌, Some, IsTrue}
use Rattle.fancy_meaning.specs.Tree.{Tree, Delegate, SubroutineCall}
use Rattle.fancy_meaning.specs.Nodes.{target}
use Rattle.fancy_meaning.specs.OpenCalls.{Depths, opened, call_depth}
use Rattle.fancy_meaning.specs.Options.{Plan}
use Rattle.fancy_code.specs.Sites.{Site}
use Rattle.fancy_code.specs.Nesting.{NestsOver}
use Rattle.fancy_meaning.specs.AnalysisRefusals as plain
use Rattle.fancy_meaning.specs.CompileRefusals.{IsAmong, written_parts, RefusesNode}
use Rattle.fancy_code.specs.Kinds.{is_out_of_range}

-- the node is written out with the other, where these calls are calls
pub data IsBelow (whole : Tree) : Depths → Tree → Tree → Type 0 where
  itself : {calls : Depths} {e : Tree} → IsBelow whole calls e e
  below : {calls : Depths} {d c e : Tree} → IsAmong c (written_parts d) → IsBelow whole calls c e
      → IsBelow whole calls d e
  through : {calls : Depths} {g : ℕ} {body e : Tree} → calls g < call_depth → target whole g ≡ Some body →
      IsBelow whole (opened g calls) body e → IsBelow whole calls (SubroutineCall g) e

module _ (p : Plan) where
  -- the error with which a node is refused by itself
  pub data Rejects : Tree → plain.CompileError → Type 0 where
    refused : {e : Tree} {x : plain.CompileError} → RefusesNode p e x → Rejects e x
    out_of_range : {e : Tree} → IsTrue (is_out_of_range e) → Rejects e plain.FeatureNotYetSupported

  -- with which it may be refused
  pub data MayReject : Tree → plain.CompileError → Type 0 where
    rejected : {e : Tree} {x : plain.CompileError} → Rejects e x → MayReject e x
    too_big : {inner : List ℕ} {casei : Bool} → MayReject (Delegate inner casei) (plain.ClassTooBig inner)

-- why nodes are refused: with this error, or since they nest deeper than has room
pub data Refusal : Type 0 where
  refused_as : plain.CompileError → Refusal
  too_deep : Refusal

module _ (p : Site) where
  -- no node that is written out with this one is refused by itself
  abbrev pub RefusesNone : Tree → Type 0
  RefusesNone e = (d : Tree) → IsBelow p.analysis.tree p.depths e d → (x : plain.CompileError) → ¬ Rejects p.plan d x

  -- more nodes stand in one another, this one outermost, than there is room for
  abbrev pub IsTooDeep : Tree → Type 0
  IsTooDeep e = NestsOver p.analysis.tree p.depths p.room e

  -- there is room for each of them
  abbrev pub StayWithin : List Tree → Type 0
  StayWithin [] = Unit {0}
  StayWithin (e ∷ es) = (¬ IsTooDeep e) × StayWithin es

  abbrev pub IsCompilable : Tree → Type 0
  IsCompilable e = RefusesNone e × (¬ IsTooDeep e)

  abbrev pub AreCompilable : List Tree → Type 0
  AreCompilable [] = Unit {0}
  AreCompilable (e ∷ es) = IsCompilable e × AreCompilable es

  -- a node that is written out with this one may be refused by itself
  pub record HasRefused (e : Tree) (x : plain.CompileError) : Type 0 where
    pub node : Tree
    pub is_below : IsBelow p.analysis.tree p.depths e node
    pub rejects : MayReject p.plan node x

  abbrev pub IsRejected : Tree → Refusal → Type 0
  IsRejected e (refused_as x) = HasRefused e x
  IsRejected e too_deep = IsTooDeep e

  -- one of these is
  abbrev pub HasRejected : List Tree → Refusal → Type 0
  HasRejected [] x = ⊥
  HasRejected (e ∷ es) x = IsRejected e x ⊎ HasRejected es x
