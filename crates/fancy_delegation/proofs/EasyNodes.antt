-- Easy nodes: all below them are easy too, and so they read nothing, call nothing and have no group that is read.
use Rattle.std.proofs.Common.{◌≡◌, ◌≢◌, ℕ, Bool, false, ◌||◌, Option, refl}
use Rattle.std.proofs.lemmas.Bool.{or_parts}
use Rattle.fancy_meaning.specs.Tree.{Tree, Trees, none, more, parts, Empty, KeepOut, ContinueFromPreviousMatchEnd, AbsentClear, Any, Assert, GeneralNewline, Literal, LiteralBytes, Delegate, Concat, Alt, Group, LookAround, Repeat, Backref, BackrefWithLevel, BackrefExists, AtomicGroup, DefineGroup, AbsentRepeater, AbsentStopper, AbsentExpression, Control, Conditional, SubroutineCall, AstNode}
use Rattle.fancy_meaning.specs.Nodes.{is_read}
use Rattle.fancy_meaning.specs.Options.{Analysis}
use Rattle.fancy_meaning.specs.Hard.{is_hard, any_hard, is_hard_by_size}
use Rattle.fancy_meaning.specs.CompileRefusals.{IsAmong, here, there}
use Rattle.fancy_meaning.specs.Theorems.{IsPartOf, itself, below, EasyHasNoReadGroup}
use Rattle.fancy_delegation.proofs.Everywhere.{Below, EachBelow, Everywhere, everywhere_weaken}
use Rattle.fancy_delegation.proofs.Alike.{ReadsOnly}

abbrev pub IsEasy : Analysis → Tree → Type 0
IsEasy a e = is_hard a e ≡ false

-- every one of these
abbrev pub AllEasy : Analysis → Trees → Type 0
AllEasy a es = any_hard a es ≡ false

-- of what an easy node is made
pub easy_group : (a : Analysis) (g : ℕ) (e : Tree) → IsEasy a (Group g e) → (is_read a.tree g ≡ false) × IsEasy a e
easy_group a g e h =
    or_parts (is_read a.tree g) (is_hard a e) (or_parts (is_read a.tree g || is_hard a e) (is_hard_by_size a (Group g e)) h).0

pub easy_repeat : (a : Analysis) (lo : ℕ) (hi : Option ℕ) (greedy : Bool) (e : Tree) → IsEasy a (Repeat lo hi greedy e) → IsEasy a e
easy_repeat a lo hi greedy e h = (or_parts (is_hard a e) (is_hard_by_size a (Repeat lo hi greedy e)) h).0

pub easy_concat : (a : Analysis) (es : Trees) → IsEasy a (Concat es) → AllEasy a es
easy_concat a es h = (or_parts (any_hard a es) (is_hard_by_size a (Concat es)) h).0

pub easy_alt : (a : Analysis) (es : Trees) → IsEasy a (Alt es) → AllEasy a es
easy_alt a es h = (or_parts (any_hard a es) (is_hard_by_size a (Alt es)) h).0

pub easy_each : (a : Analysis) (e : Tree) (es : Trees) → AllEasy a (more e es) → IsEasy a e × AllEasy a es
easy_each a e es h = or_parts (is_hard a e) (any_hard a es) h

mutual
  easy_below : (a : Analysis) (e : Tree) → IsEasy a e → Below (IsEasy a) e
  easy_below a Empty h = tt
  easy_below a (Any newline crlf) h = tt
  easy_below a (Assert within x) h = tt
  easy_below a (Literal c casei) h = tt
  easy_below a (Delegate inner casei) h = tt
  easy_below a (DefineGroup e) h = tt
  easy_below a KeepOut h = cc
  easy_below a ContinueFromPreviousMatchEnd h = cc
  easy_below a AbsentClear h = cc
  easy_below a (GeneralNewline unicode) h = cc
  easy_below a (LiteralBytes cs) h = cc
  easy_below a (Backref g casei) h = cc
  easy_below a (BackrefWithLevel g level casei) h = cc
  easy_below a (BackrefExists g level) h = cc
  easy_below a (Control verb) h = cc
  easy_below a (SubroutineCall g) h = cc
  easy_below a (AstNode node) h = cc
  easy_below a (AbsentStopper e) h = cc
  easy_below a (AbsentExpression x e) h = cc
  easy_below a (LookAround look e) h = cc
  easy_below a (AtomicGroup e) h = cc
  easy_below a (AbsentRepeater e) h = cc
  easy_below a (Conditional c t f) h = cc
  easy_below a (Group g e) h = let q = (easy_group a g e h).1 in (q, easy_below a e q)
  easy_below a (Repeat lo hi greedy e) h = let q = easy_repeat a lo hi greedy e h in (q, easy_below a e q)
  easy_below a (Concat es) h = each_easy_below a es (easy_concat a es h)
  easy_below a (Alt es) h = each_easy_below a es (easy_alt a es h)

  each_easy_below : (a : Analysis) (es : Trees) → AllEasy a es → EachBelow (IsEasy a) es
  each_easy_below a none h = tt
  each_easy_below a (more e es) h = let q = easy_each a e es h in ((q.0, easy_below a e q.0), each_easy_below a es q.1)

pub easy_everywhere : (a : Analysis) (e : Tree) → IsEasy a e → Everywhere (IsEasy a) e
easy_everywhere a e h = (h, easy_below a e h)

abbrev pub NoGroup : ℕ → Type 0
NoGroup g = ⊥

-- an easy node itself reads nothing, and is no call
easy_reads : (a : Analysis) (e : Tree) → IsEasy a e → ReadsOnly NoGroup NoGroup e
easy_reads a Empty h = tt
easy_reads a KeepOut h = tt
easy_reads a ContinueFromPreviousMatchEnd h = tt
easy_reads a AbsentClear h = tt
easy_reads a (Any newline crlf) h = tt
easy_reads a (Assert within x) h = tt
easy_reads a (GeneralNewline unicode) h = tt
easy_reads a (Literal c casei) h = tt
easy_reads a (LiteralBytes cs) h = tt
easy_reads a (Delegate inner casei) h = tt
easy_reads a (BackrefWithLevel g level casei) h = tt
easy_reads a (Control verb) h = tt
easy_reads a (AstNode node) h = tt
easy_reads a (DefineGroup e) h = tt
easy_reads a (AbsentStopper e) h = tt
easy_reads a (AbsentExpression x e) h = tt
easy_reads a (Group g e) h = tt
easy_reads a (LookAround look e) h = tt
easy_reads a (Repeat lo hi greedy e) h = tt
easy_reads a (AtomicGroup e) h = tt
easy_reads a (AbsentRepeater e) h = tt
easy_reads a (Concat es) h = tt
easy_reads a (Alt es) h = tt
easy_reads a (Conditional c t f) h = tt
easy_reads a (Backref g casei) h = cc
easy_reads a (BackrefExists g level) h = cc
easy_reads a (SubroutineCall g) h = cc

pub easy_reads_nothing : (a : Analysis) (e : Tree) → IsEasy a e → Everywhere (ReadsOnly NoGroup NoGroup) e
easy_reads_nothing a e h = everywhere_weaken e (easy_reads a) (easy_everywhere a e h)

-- ---- parts of an easy node

among_easy : (a : Analysis) (es : Trees) {c : Tree} → AllEasy a es → IsAmong c es → IsEasy a c
among_easy a none h i = elim i [ ]
among_easy a (more e es) h here = (easy_each a e es h).0
among_easy a (more e es) h (there i) = among_easy a es (easy_each a e es h).1 i

among_one : (a : Analysis) (e : Tree) {c : Tree} → IsEasy a e → IsAmong c (more e none) → IsEasy a c
among_one a e h here = h
among_one a e h (there i) = elim i [ ]

child_easy : (a : Analysis) (d : Tree) {c : Tree} → IsEasy a d → ((b : Tree) → d ≢ DefineGroup b) → IsAmong c (parts d) → IsEasy a c
child_easy a Empty h n i = elim i [ ]
child_easy a (Any newline crlf) h n i = elim i [ ]
child_easy a (Assert within x) h n i = elim i [ ]
child_easy a (Literal c casei) h n i = elim i [ ]
child_easy a (Delegate inner casei) h n i = elim i [ ]
child_easy a (DefineGroup e) h n i = absurd (n e refl)
child_easy a KeepOut h n i = cc
child_easy a ContinueFromPreviousMatchEnd h n i = cc
child_easy a AbsentClear h n i = cc
child_easy a (GeneralNewline unicode) h n i = cc
child_easy a (LiteralBytes cs) h n i = cc
child_easy a (Backref g casei) h n i = cc
child_easy a (BackrefWithLevel g level casei) h n i = cc
child_easy a (BackrefExists g level) h n i = cc
child_easy a (Control verb) h n i = cc
child_easy a (SubroutineCall g) h n i = cc
child_easy a (AstNode node) h n i = cc
child_easy a (AbsentStopper e) h n i = cc
child_easy a (AbsentExpression x e) h n i = cc
child_easy a (LookAround look e) h n i = cc
child_easy a (AtomicGroup e) h n i = cc
child_easy a (AbsentRepeater e) h n i = cc
child_easy a (Conditional c t f) h n i = cc
child_easy a (Group g e) h n i = among_one a e (easy_group a g e h).1 i
child_easy a (Repeat lo hi greedy e) h n i = among_one a e (easy_repeat a lo hi greedy e h) i
child_easy a (Concat es) h n i = among_easy a es (easy_concat a es h) i
child_easy a (Alt es) h n i = among_easy a es (easy_alt a es h) i

pub part_easy : (a : Analysis) {e d : Tree} → IsEasy a e → IsPartOf e d → IsEasy a d
part_easy a h itself = h
part_easy a h (below {d = d} part n i) = child_easy a d (part_easy a h part) n i

pub easy_has_no_read_group : EasyHasNoReadGroup
easy_has_no_read_group p e body g h part = (easy_group p.analysis g body (part_easy p.analysis h part)).0
