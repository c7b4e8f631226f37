-- Laws of what a tree means, as types.
use Rattle.std.specs.Prelude.{◌≡◌, ◌≢◌, ℕ, suc, ◌+◌, ◌-◌, ◌<◌, ◌≤◌, ◌⊎◌, Bool, true, false, if◌then◌else◌, List, [], ◌∷◌, length, map, flat_map, Contains, Some, None, IfSome, IsTrue}
use Rattle.fancy_meaning.specs.Tree.{Tree, more, Trees, children, parts, Assert, StartText, ContinueFromPreviousMatchEnd, Concat, Alt, LookAround, LookAhead, LookAheadNeg, LookBehind, LookBehindNeg, Repeat, Backref, AtomicGroup, SubroutineCall}
use Rattle.fancy_meaning.specs.Nodes.{nodes, target}
use Rattle.fancy_meaning.specs.OpenCalls.{Depths, opened, call_depth}
use Rattle.fancy_meaning.specs.Places.{is_place, chars_between}
use Rattle.fancy_meaning.specs.MatchState.{MatchState, moved_to, fails, in_order, Span}
use Rattle.fancy_meaning.specs.Loops.{prefer, if_moved}
use Rattle.fancy_meaning.specs.Ways.{Setting, ends_here, ways_with, captured_by_call, ways}
use Rattle.fancy_meaning.specs.Answer.{Search, ways_from, answer}
use Rattle.fancy_meaning.specs.Options.{AnalysisOptions, analysis_of}
use Rattle.fancy_meaning.specs.Numbers.{usize_max}
use Rattle.fancy_meaning.specs.Sizes.{size}
use Rattle.fancy_meaning.specs.Fits.{settable_groups}
use Rattle.fancy_meaning.specs.Premises.{Analysed, tree_of, IsText, IsSpan, IsSized, IsSoundState, HasSpans, IsSoundFor}
use Rattle.fancy_meaning.specs.Marks.{passes_mark, marked_nodes, first_marked_nodes, has_marked_continue}

-- ---- loops and calls, without a count

-- With none required, an unbounded loop goes on by a way of its body, and by one that moves nothing it is left; or it
-- stops. Greedy it goes on first, lazy it stops first.
abbrev pub LoopLaw : Type 0
LoopLaw = (q : Setting) (whole body : Tree) (depths : Depths) (greedy : Bool) (s : MatchState) →
    s.place ≤ length q.text →
    let loop = ways q whole (Repeat 0 None greedy body) depths in
    loop s ≡ prefer greedy (flat_map (if_moved s loop) (ways q whole body depths s)) (s ∷ [])

-- where an iteration is required: the body, and the loop with one less required
abbrev pub RequiredLaw : Type 0
RequiredLaw = (q : Setting) (whole body : Tree) (depths : Depths) (lo : ℕ) (greedy : Bool) (s : MatchState) →
    ways q whole (Repeat (suc lo) None greedy body) depths s
    ≡ flat_map (ways q whole (Repeat lo None greedy body) depths) (ways q whole body depths s)

-- A call has the ways of its target with one call more open, where it is not open so often already.
abbrev pub CallLaw : Type 0
CallLaw = (q : Setting) (whole body : Tree) (depths : Depths) (g : ℕ) (s : MatchState) →
    target whole g ≡ Some body → depths g < call_depth →
    ways q whole (SubroutineCall g) depths s ≡ captured_by_call q whole g (ways q whole body (opened g depths)) s

-- a call has no way where its target is open so often, or is not there
abbrev pub RefusedCallLaw : Type 0
RefusedCallLaw = (q : Setting) (whole : Tree) (depths : Depths) (g : ℕ) (s : MatchState) →
    (target whole g ≡ None) ⊎ (call_depth ≤ depths g) →
    ways q whole (SubroutineCall g) depths s ≡ []

-- ---- what users rely on

abbrev pub AtomicHasOneWay : Type 0
AtomicHasOneWay = (q : Setting) (whole e : Tree) (depths : Depths) (s : MatchState) →
    length (ways q whole (AtomicGroup e) depths s) ≤ 1

-- the unchanged state, or none
abbrev pub NegativeLookChangesNothing : Type 0
NegativeLookChangesNothing = (q : Setting) (whole e : Tree) (depths : Depths) (s t : MatchState) →
    Contains (ways q whole (LookAround LookAheadNeg e) depths s) t
    ⊎ Contains (ways q whole (LookAround LookBehindNeg e) depths s) t →
    t ≡ s

-- a way for each way of the body, with the place restored
abbrev pub AheadHasWaysOfBody : Type 0
AheadHasWaysOfBody = (q : Setting) (whole e : Tree) (depths : Depths) (s : MatchState) →
    ways q whole (LookAround LookAhead e) depths s ≡ map (moved_to s.place) (ways q whole e depths s)

-- a way for each way of the body that ends here, from the nearest place back
abbrev pub BehindHasWaysOfBody : Type 0
BehindHasWaysOfBody = (q : Setting) (whole e : Tree) (depths : Depths) (s : MatchState) → ((es : Trees) → e ≢ Alt es) →
    ways q whole (LookAround LookBehind e) depths s ≡ ends_here q (ways q whole e depths) s

-- and of an alternation the same for each branch in turn
abbrev pub BehindGoesByBranches : Type 0
BehindGoesByBranches = (q : Setting) (whole : Tree) (es : Trees) (depths : Depths) (s : MatchState) →
    ways q whole (LookAround LookBehind (Alt es)) depths s
    ≡ flat_map (λ e. ends_here q (ways q whole e depths) s) (children es)

-- each pair is unset in both, or two places of the text in order
abbrev pub ArePairs : List ℕ → List ℕ → Type 0
ArePairs text [] = Unit {0}
ArePairs text (i ∷ []) = ⊥
ArePairs text (i ∷ j ∷ rest) = (((i ≡ usize_max) × (j ≡ usize_max)) ⊎ IsSpan text (i, j)) × ArePairs text rest

abbrev pub AnswersArePairs : Type 0
AnswersArePairs = (q : Search) → IsText q.text → IsTrue (is_place q.text q.pos) → IfSome (answer q) (ArePairs q.text)

-- ---- spans

-- Where every span lies between two places of the text, in order, each way keeps it so, and leads from place to place.
abbrev pub SpanLaw : Type 0
SpanLaw = (q : Setting) (whole e : Tree) (depths : Depths) (s t : MatchState) → IsText q.text →
    IsTrue (is_place q.text s.place) → HasSpans q.text s.captures → Contains (ways q whole e depths s) t →
    IsTrue (is_place q.text t.place) × HasSpans q.text t.captures

-- There a back reference reads a span in order, and its way takes as many bytes as the span has.
abbrev pub ReferenceLaw : Type 0
ReferenceLaw = (q : Setting) (whole : Tree) (depths : Depths) (g : ℕ) (casei : Bool) (s t : MatchState) →
    HasSpans q.text s.captures → Contains (ways q whole (Backref g casei) depths s) t →
    (span : Span) × (s.captures g ≡ Some span) × (span.0 ≤ span.1) × (t ≡ moved_to (s.place + (span.1 - span.0)) s)

-- A way of a fragment leaves the span of each group as it was, but for those that its nodes can set.
abbrev pub SettableGroupsLaw : Type 0
SettableGroupsLaw = (q : Setting) (es : List Tree) (s t : MatchState) (g : ℕ) →
    Contains (in_order (map (ways_with q (λ h. fails)) es) s) t →
    (t.captures g ≡ s.captures g) ⊎ Contains (flat_map settable_groups es) g

-- ---- sizes

-- From a sound state each way of a part takes as many characters as its size allows, and is sound.
abbrev pub SizeLaw : Type 0
SizeLaw = (q : Setting) (a : Analysed) (e : Tree) (depths : Depths) (s t : MatchState) →
    let whole = tree_of a in
    IsText q.text → Contains (nodes whole) e → IsSoundState q whole s → Contains (ways q whole e depths s) t →
    IsSoundState q whole t × IsSized (size whole e) (chars_between q.text s.place t.place)

-- From a sound state whose spans all keep the sizes of their groups, read or not, each way leads to such a state.
abbrev pub SpanSizeLaw : Type 0
SpanSizeLaw = (q : Setting) (a : Analysed) (e : Tree) (depths : Depths) (s t : MatchState) →
    let whole = tree_of a in
    IsText q.text → Contains (nodes whole) e → IsSoundFor q whole (λ g. true) s → Contains (ways q whole e depths s) t →
    IsSoundFor q whole (λ g. true) t

-- ---- where a match can begin

-- the tree begins with the text's start, or where the match before ended
abbrev pub is_anchor : Tree → Bool
is_anchor (Assert within StartText) = true
is_anchor ContinueFromPreviousMatchEnd = true
is_anchor e = false

abbrev pub is_start_text : Tree → Bool
is_start_text (Assert within StartText) = true
is_start_text e = false

-- what `can_compile_as_anchored` answers of a tree as it is handed in
abbrev pub can_be_anchored : Tree → Bool
can_be_anchored (Concat (more e es)) = is_anchor e
can_be_anchored e = is_start_text e

-- Then the tree, its groups numbered, has a way only at the text's start or where the match before ended.
abbrev pub AnchorLaw : Type 0
AnchorLaw = (q : Setting) (parsed : Tree) (options : AnalysisOptions) (depths : Depths) (s t : MatchState) →
    let whole = (analysis_of parsed options).tree in
    can_be_anchored parsed ≡ true → Contains (ways q whole whole depths s) t →
    (s.place ≡ 0) ⊎ ((q.continued ≡ true) × (s.place ≡ q.pos))

-- ---- what is marked

-- The marked nodes of a part are the part, and where it passes its mark on those of its children.
abbrev pub MarkLaw : Type 0
MarkLaw = (whole e : Tree) →
    marked_nodes whole e ≡ e ∷ (if passes_mark e then first_marked_nodes whole (parts e) else [])

-- Where a `\G` is marked, no other start has a way.
abbrev pub ContinueLaw : Type 0
ContinueLaw = (q : Search) (a : Analysed) (start : ℕ) → q.tree ≡ tree_of a → IsText q.text →
    IsTrue (is_place q.text start) → has_marked_continue q.tree q.tree ≡ true → start ≢ q.pos →
    ways_from q start ≡ []
