-- Ways respect the key.
use Rattle.std.proofs.Common.{◌≡◌, ℕ, Some, refl}
use Rattle.fancy_meaning.specs.Tree.{Tree, Empty, KeepOut, ContinueFromPreviousMatchEnd, AbsentClear, Any, Assert, GeneralNewline, Literal, LiteralBytes, Delegate, Concat, Alt, Group, LookAround, Repeat, Backref, BackrefWithLevel, BackrefExists, AtomicGroup, DefineGroup, AbsentRepeater, AbsentStopper, AbsentExpression, Control, Conditional, SubroutineCall, AstNode}
use Rattle.fancy_meaning.specs.Nodes.{nodes, read_by, read_groups}
use Rattle.fancy_meaning.specs.OpenCalls.{Depths}
use Rattle.fancy_meaning.specs.Ways.{Setting, ways}
use Rattle.fancy_meaning.specs.Options.{Plan}
use Rattle.fancy_meaning.specs.Keys.{key}
use Rattle.fancy_meaning.specs.Theorems.{WaysRespectTheKey}
use Rattle.fancy_delegation.proofs.Items.{IsIn, is_in_contained, is_in_filter_map}
use Rattle.fancy_delegation.proofs.Pairwise.{pairs_equal}
use Rattle.fancy_delegation.proofs.Reduced.{Same}
use Rattle.fancy_delegation.proofs.AlikeLoops.{WaysAlike}
use Rattle.fancy_delegation.proofs.Alike.{ReadsOnly, relates_alike}
use Rattle.fancy_delegation.proofs.Calls.{all_ways_related}
use Rattle.fancy_delegation.proofs.KeyParts.{ReadIn, key_goes_along}

abbrev AnyCall : ℕ → Type 0
AnyCall g = Unit {0}

reads_by : (IsRead : ℕ → Type 0) (e : Tree) → ((g : ℕ) → read_by e ≡ Some g → IsRead g) → ReadsOnly IsRead AnyCall e
reads_by IsRead (Backref g casei) k = k g refl
reads_by IsRead (BackrefExists g level) k = k g refl
reads_by IsRead Empty k = tt
reads_by IsRead KeepOut k = tt
reads_by IsRead ContinueFromPreviousMatchEnd k = tt
reads_by IsRead AbsentClear k = tt
reads_by IsRead (Any newline crlf) k = tt
reads_by IsRead (Assert within a) k = tt
reads_by IsRead (GeneralNewline unicode) k = tt
reads_by IsRead (Literal c casei) k = tt
reads_by IsRead (LiteralBytes cs) k = tt
reads_by IsRead (Delegate inner casei) k = tt
reads_by IsRead (BackrefWithLevel h level casei) k = tt
reads_by IsRead (Control verb) k = tt
reads_by IsRead (SubroutineCall h) k = tt
reads_by IsRead (AstNode node) k = tt
reads_by IsRead (DefineGroup e) k = tt
reads_by IsRead (AbsentStopper e) k = tt
reads_by IsRead (AbsentExpression a e) k = tt
reads_by IsRead (LookAround look e) k = tt
reads_by IsRead (Repeat lo hi greedy e) k = tt
reads_by IsRead (AtomicGroup e) k = tt
reads_by IsRead (AbsentRepeater e) k = tt
reads_by IsRead (Concat es) k = tt
reads_by IsRead (Alt es) k = tt
reads_by IsRead (Conditional c t f) k = tt
reads_by IsRead (Group g e) k = tt

-- every node of the tree reads only what is read in the tree
pub reads_in_tree : (whole e : Tree) → IsIn e (nodes whole) → ReadsOnly (λ g. IsIn g (read_groups whole)) AnyCall e
unfolding read_groups
reads_in_tree whole e i = reads_by (λ g. IsIn g (read_groups whole)) e (λ g r. is_in_filter_map read_by i r)

-- from two states of one key, ways of one key, item by item
pub ways_alike : (p : Plan) (q : Setting) (e : Tree) (depths : Depths) → IsIn e (nodes p.analysis.tree) →
    WaysAlike (Same (key p)) (ways q p.analysis.tree e depths) (ways q p.analysis.tree e depths)
ways_alike p q e depths i =
    all_ways_related q p.analysis.tree (ReadsOnly (ReadIn p) AnyCall) (WaysAlike (Same (key p)))
    (relates_alike q (Same (key p)) (ReadIn p) AnyCall (key_goes_along p))
    (reads_in_tree p.analysis.tree) e depths i

pub ways_respect_the_key : WaysRespectTheKey
ways_respect_the_key p q e depths c s t same =
    pairs_equal (key p) (key p) (λ x y r. r) (ways_alike p q e depths (is_in_contained (nodes p.analysis.tree) e c) s t same)
