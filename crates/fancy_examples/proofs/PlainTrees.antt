-- Trees of sequences, alternations, groups, loops, letters and dots: `compile` refuses none of them for a node.
use Rattle.std.proofs.Common.{◌≡◌, zero, suc, Bool, true, false, ◌&&◌, Some, None}
use Rattle.std.proofs.lemmas.Bool.{and_parts}
use Rattle.fancy_meaning.specs.Tree.{Tree, Trees, none, more, Empty, KeepOut, ContinueFromPreviousMatchEnd, Any, Assert, GeneralNewline, Literal, LiteralBytes, Delegate, Concat, Alt, Group, LookAround, Repeat, Backref, BackrefWithLevel, BackrefExists, AtomicGroup, DefineGroup, Control, Conditional, SubroutineCall, AbsentRepeater, AbsentStopper, AbsentExpression, AbsentClear, AstNode}
use Rattle.fancy_meaning.specs.Options.{Plan}
use Rattle.fancy_meaning.specs.Nodes.{is_absent}
use Rattle.fancy_meaning.specs.AnalysisRefusals.{CompileError}
use Rattle.fancy_meaning.specs.CompileRefusals.{IsWritten, root, part, callee, IsAmong, here, there, written_parts, RefusesNode, existence_with_level, control_verb, absent_in_hard_repeater, absent_other, variable_lookbehind, missing_group, no_class}

abbrev mutual
  pub is_plain : Tree → Bool
  is_plain Empty = true
  is_plain (Literal c casei) = true
  is_plain (Any newline crlf) = true
  is_plain (Concat es) = are_plain es
  is_plain (Alt es) = are_plain es
  is_plain (Group g e) = is_plain e
  is_plain (Repeat lo hi greedy e) = is_plain e
  is_plain e = false

  pub are_plain : Trees → Bool
  are_plain none = true
  are_plain (more e es) = is_plain e && are_plain es

pub none_among : {e : Tree} → IsAmong e none → ⊥
none_among a = elim a [ ]

among : {e : Tree} {es : Trees} → IsAmong e es → are_plain es ≡ true → is_plain e ≡ true
among (here {es}) t = (and_parts _ (are_plain es) t).0
among (there {d} {es} a) t = among a (and_parts (is_plain d) (are_plain es) t).1

only : {e d : Tree} → IsAmong e (more d none) → is_plain d ≡ true → is_plain e ≡ true
only here t = t
only (there a) t = absurd (none_among a)

child : (d : Tree) {e : Tree} → IsAmong e (written_parts d) → is_plain d ≡ true → is_plain e ≡ true
child (Concat es) a t = among a t
child (Alt es) a t = among a t
child (Group g e) a t = only a t
child (Repeat lo None greedy e) a t = only a t
child (Repeat lo (Some zero) greedy e) a t = absurd (none_among a)
child (Repeat lo (Some (suc hi)) greedy e) a t = only a t
child Empty a t = absurd (none_among a)
child (Literal c casei) a t = absurd (none_among a)
child (Any newline crlf) a t = absurd (none_among a)
child KeepOut a t = cc (t)
child ContinueFromPreviousMatchEnd a t = cc (t)
child (Assert w x) a t = cc (t)
child (GeneralNewline unicode) a t = cc (t)
child (LiteralBytes cs) a t = cc (t)
child (Delegate inner casei) a t = cc (t)
child (LookAround look e) a t = cc (t)
child (Backref g casei) a t = cc (t)
child (BackrefWithLevel g level casei) a t = cc (t)
child (BackrefExists g level) a t = cc (t)
child (AtomicGroup e) a t = cc (t)
child (DefineGroup e) a t = cc (t)
child (Control verb) a t = cc (t)
child (Conditional c d f) a t = cc (t)
child (SubroutineCall g) a t = cc (t)
child (AbsentRepeater e) a t = cc (t)
child (AbsentStopper e) a t = cc (t)
child (AbsentExpression x e) a t = cc (t)
child AbsentClear a t = cc (t)
child (AstNode node) a t = cc (t)

-- all that is written out of a plain tree is plain
pub written_is_plain : {whole e : Tree} → is_plain whole ≡ true → IsWritten whole e → is_plain e ≡ true
written_is_plain t root = t
written_is_plain t (part {d} w a) = child d a (written_is_plain t w)
written_is_plain t (callee w r) = cc (written_is_plain t w)

absent_is_not_plain : (e : Tree) → is_absent e ≡ true → is_plain e ≡ true → ⊥
absent_is_not_plain (AbsentRepeater e) a t = cc (t)
absent_is_not_plain (AbsentStopper e) a t = cc (t)
absent_is_not_plain (AbsentExpression x e) a t = cc (t)
absent_is_not_plain AbsentClear a t = cc (t)
absent_is_not_plain (Concat es) a t = cc (a)
absent_is_not_plain (Alt es) a t = cc (a)
absent_is_not_plain (Group g e) a t = cc (a)
absent_is_not_plain (Repeat lo hi greedy e) a t = cc (a)
absent_is_not_plain Empty a t = cc (a)
absent_is_not_plain (Literal c casei) a t = cc (a)
absent_is_not_plain (Any newline crlf) a t = cc (a)
absent_is_not_plain KeepOut a t = cc (a)
absent_is_not_plain ContinueFromPreviousMatchEnd a t = cc (a)
absent_is_not_plain (Assert w x) a t = cc (a)
absent_is_not_plain (GeneralNewline unicode) a t = cc (a)
absent_is_not_plain (LiteralBytes cs) a t = cc (a)
absent_is_not_plain (Delegate inner casei) a t = cc (a)
absent_is_not_plain (LookAround look e) a t = cc (a)
absent_is_not_plain (Backref g casei) a t = cc (a)
absent_is_not_plain (BackrefWithLevel g level casei) a t = cc (a)
absent_is_not_plain (BackrefExists g level) a t = cc (a)
absent_is_not_plain (AtomicGroup e) a t = cc (a)
absent_is_not_plain (DefineGroup e) a t = cc (a)
absent_is_not_plain (Control verb) a t = cc (a)
absent_is_not_plain (Conditional c d f) a t = cc (a)
absent_is_not_plain (SubroutineCall g) a t = cc (a)
absent_is_not_plain (AstNode node) a t = cc (a)

pub plain_is_not_refused : {p : Plan} {e : Tree} {error : CompileError} → is_plain e ≡ true → ¬ RefusesNode p e error
plain_is_not_refused t existence_with_level = cc (t)
plain_is_not_refused t (control_verb v) = cc (t)
plain_is_not_refused t (absent_in_hard_repeater h a) = cc (t)
plain_is_not_refused t (absent_other {e} a v) = absent_is_not_plain e a t
plain_is_not_refused t (variable_lookbehind v) = cc (t)
plain_is_not_refused t (missing_group r) = cc (t)
plain_is_not_refused t (no_class c) = cc (t)
