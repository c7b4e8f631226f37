-- When a tree that was analysed is not compiled, and as what.
use Rattle.std.specs.Prelude.{◌≡◌, ◌≢◌, ℕ, ◌<◌, Bool, false, true, List, Some, None, IsTrue, IsFalse}
use Rattle.std.specs.List.{list_any}
use Rattle.fancy_meaning.specs.Tree.{Tree, Trees, none, more, parts, Delegate, Alt, LookAround, Repeat, BackrefExists, DefineGroup, AbsentRepeater, AbsentStopper, AbsentExpression, Control, SubroutineCall, Look, LookAhead, LookAheadNeg, LookBehind, LookBehindNeg, Verb, Fail}
use Rattle.fancy_meaning.specs.Nodes.{nodes, target, is_absent}
use Rattle.fancy_meaning.specs.Chars.{is_class}
use Rattle.fancy_meaning.specs.Options.{Plan, Unicode}
use Rattle.fancy_meaning.specs.Sizes.{size}
use Rattle.fancy_meaning.specs.Hard.{is_hard}
use Rattle.fancy_meaning.specs.Spots.{is_never}
use Rattle.fancy_meaning.specs.AnalysisRefusals.{CompileError, FeatureNotYetSupported, VariableLookBehindRequiresFeature, SubroutineCallTargetNotFound, PatternTooComplex, InnerError}

-- ---- what is written out

-- the children that are written out with a node
abbrev pub written_parts : Tree → Trees
written_parts (DefineGroup e) = none
written_parts (Repeat lo hi greedy e) = if_entered (is_never hi) e
  where
    if_entered : Bool → Tree → Trees
    if_entered true e = none
    if_entered false e = more e none
-- these are refused
written_parts (AbsentStopper e) = none
written_parts (AbsentExpression a e) = none
written_parts e = parts e

-- a child of a node
pub data IsAmong (e : Tree) : Trees → Type 0 where
  here : {es : Trees} → IsAmong e (more e es)
  there : {d : Tree} {es : Trees} → IsAmong e es → IsAmong e (more d es)

-- the part is written out
pub data IsWritten (whole : Tree) : Tree → Type 0 where
  root : IsWritten whole whole
  part : {d e : Tree} → IsWritten whole d → IsAmong e (written_parts d) → IsWritten whole e
  callee : {g : ℕ} {e : Tree} → IsWritten whole (SubroutineCall g) → target whole g ≡ Some e → IsWritten whole e

-- ---- what is refused

abbrev pub is_behind : Look → Bool
is_behind LookAhead = false
is_behind LookAheadNeg = false
is_behind LookBehind = true
is_behind LookBehindNeg = true

-- of what the lookbehinds are taken: an alternation's branches, or the body
abbrev pub branches_of : Tree → Trees
branches_of (Alt es) = es
branches_of e = more e none

module _ (p : Plan) where
  abbrev pub HasConstantSize : Tree → Type 0
  HasConstantSize e = IsTrue (size p.analysis.tree e).is_const

  -- neither the body nor each branch of it has a constant size
  pub record IsVariableLookbehind (look : Look) (body : Tree) : Type 0 where
    pub is_lookbehind : IsTrue (is_behind look)
    pub body_varies : ¬ HasConstantSize body
    pub branch : Tree
    pub is_branch : IsAmong branch (branches_of body)
    pub branch_varies : ¬ HasConstantSize branch

  -- the error with which a node that is written out is refused
  pub data RefusesNode : Tree → CompileError → Type 0 where
    existence_with_level : {g : ℕ} {level : _} → RefusesNode (BackrefExists g (Some level)) FeatureNotYetSupported
    control_verb : {verb : Verb} → verb ≢ Fail → RefusesNode (Control verb) FeatureNotYetSupported
    absent_in_hard_repeater : {e : Tree} → IsTrue (is_hard p.analysis e) → IsTrue (list_any is_absent (nodes e)) →
        RefusesNode (AbsentRepeater e) FeatureNotYetSupported
    absent_other : {e : Tree} → IsTrue (is_absent e) → ((d : Tree) → e ≢ AbsentRepeater d) →
        RefusesNode e FeatureNotYetSupported
    variable_lookbehind : {look : Look} {e : Tree} → IsVariableLookbehind look e →
        RefusesNode (LookAround look e) VariableLookBehindRequiresFeature
    missing_group : {g : ℕ} → target p.analysis.tree g ≡ None →
        RefusesNode (SubroutineCall g) SubroutineCallTargetNotFound
    no_class : {inner : List ℕ} {casei : Bool} → IsFalse (is_class p.unicode inner casei) →
        RefusesNode (Delegate inner casei) (InnerError inner)

  -- The error with which `compile` refuses, where the program would have so many instructions.
  pub data CompileRefuses (instructions : ℕ) : CompileError → Type 0 where
    refused_node : {e : Tree} {error : CompileError} → IsWritten p.analysis.tree e → RefusesNode e error →
        CompileRefuses instructions error
    too_long : {most : ℕ} → p.max_prog_size ≡ Some most → most < instructions →
        CompileRefuses instructions PatternTooComplex
    bytes_mode : p.bytes_mode ≢ Unicode → CompileRefuses instructions FeatureNotYetSupported

  -- a class text with which `compile` may refuse besides, where `regex` finds it too big
  abbrev pub MayBeTooBig : List ℕ → Type 0
  MayBeTooBig inner = (casei : Bool) × IsWritten p.analysis.tree (Delegate inner casei)
