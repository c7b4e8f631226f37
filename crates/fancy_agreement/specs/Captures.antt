-- The same law with captures: the first way that is taken is the kit's match, with what each group wrote.
use Rattle.std.specs.Prelude.{◌≡◌, ◌≤◌, ◌<◌, ◌+◌, ◌*◌, ℕ, suc, min, Bool, true, false, List, [], ◌∷◌, length, flat_map, Option, Some, None, option_map}
use Rattle.regex_hir.specs.Re.{Re, Rest, Trace, group, attempt}
use Rattle.regex_hir.specs.Reads.{always_reads}
use Rattle.regex_hir.specs.Meaning.{alt_all, cat_all, repeat}
use Rattle.regex_hir.specs.Find.{Match, find_str, slot_of}
use Rattle.fancy_meaning.specs.Tree.{Alt, Concat, Group, Repeat, Tree, Within, trees}
use Rattle.fancy_meaning.specs.Nodes.{group_count}
use Rattle.fancy_meaning.specs.Places.{range_from}
use Rattle.fancy_meaning.specs.MatchState.{MatchState, Span, Ways, put}
use Rattle.fancy_meaning.specs.Numbering.{numbered, numbered_within}
use Rattle.fancy_meaning.specs.Ways.{Setting, ways_with}
use Rattle.fancy_meaning.specs.Answer.{Search, answer, span_numbers}
use Rattle.fancy_agreement.specs.First.{first_some}

-- ---- slots: a group n starts at 2n and ends at 2n + 1

abbrev pub Slots : Type 0
Slots = ℕ → Option ℕ

abbrev pub pair : Option ℕ → Option ℕ → Option Span
pair None j = None
pair (Some i) None = None
pair (Some i) (Some j) = Some (i, j)

abbrev pub span_in : Slots → ℕ → Option Span
span_in slots g = pair (slots (2 * g)) (slots (2 * g + 1))

-- what the slots hold after these writes
abbrev pub after_writes : List (ℕ × ℕ) → Slots → Slots
after_writes [] slots = slots
after_writes (w ∷ ws) slots = after_writes ws (put w.0 (Some w.1) slots)

-- ---- the law

-- The slots hold the spans of the groups that are not open, in a state of an attempt from this place.
pub record Holds (from : ℕ) (open_groups : ℕ → Bool) (s : MatchState) (slots : Slots) : Type 0 where
  pub kept : s.kept ≡ from
  pub on : from ≤ s.place
  pub spans : (g : ℕ) → open_groups g ≡ false → s.captures g ≡ span_in slots g

-- the same starts of groups that are open
abbrev pub SameStarts : (open_groups : ℕ → Bool) → Slots → Slots → Type 0
SameStarts open_groups old new = (g : ℕ) → open_groups g ≡ true → new (2 * g) ≡ old (2 * g)

-- the trace tells of the state: where the match starts and ends, and each span
pub record Tells (from : ℕ) (slots : Slots) (t : Trace) (u : MatchState) : Type 0 where
  pub start : min u.kept u.place ≡ from
  pub end : t.end ≡ u.place
  pub spans : (g : ℕ) → u.captures g ≡ span_in (after_writes t.writes slots) g

-- both fail, or both succeed and the one tells of the other
abbrev pub Agree : (from : ℕ) → Slots → Option Trace → Option MatchState → Type 0
Agree from slots None None = Unit {0}
Agree from slots None (Some u) = ⊥
Agree from slots (Some t) None = ⊥
Agree from slots (Some t) (Some u) = Tells from slots t u

-- where a way of the pattern's node may end
pub record Ends (text : List ℕ) (re : Re) (s t : MatchState) : Type 0 where
  pub on : s.place ≤ t.place
  pub within : t.place ≤ length text
  pub moved : always_reads re ≡ true → s.place < t.place

-- The kit's match of the pattern and the first way agree, whatever follows, where what follows agrees.
abbrev pub TakesFirstCaptures : (text : List ℕ) (open_groups : ℕ → Bool) → Re → Ways → Type 0
TakesFirstCaptures text open_groups re ways = (from : ℕ) (s : MatchState) (slots : Slots) (k : Rest) (next : MatchState → Option MatchState) →
    s.place ≤ length text → Holds from open_groups s slots →
    ((t : MatchState) (new : Slots) → Ends text re s t → Holds from open_groups t new → SameStarts open_groups slots new →
    Agree from new (k t.place) (next t)) →
    Agree from slots (attempt text re k s.place) (first_some next (ways s))

-- no group from n on is open
abbrev pub OpenBelow : ℕ → (ℕ → Bool) → Type 0
OpenBelow n open_groups = (g : ℕ) → open_groups g ≡ true → g < n

-- of a node whose first group has the number n, in each text, whatever it stands in and what calls give
pub record Captures (unicode : Bool) (n : ℕ) (e : Tree) (re : Re) : Type 0 where
  pub at : (w : Within) (q : Setting) (call : ℕ → Ways) (open_groups : ℕ → Bool) → q.unicode ≡ unicode → OpenBelow n open_groups →
      TakesFirstCaptures q.text open_groups re (ways_with q call (numbered_within w n e))

-- of nodes, each with a pattern of its own, numbered one after the other
abbrev pub AreCaptured : (unicode : Bool) → ℕ → List Tree → List Re → Type 0
AreCaptured unicode n [] [] = Unit {0}
AreCaptured unicode n [] (re ∷ res) = ⊥
AreCaptured unicode n (e ∷ es) [] = ⊥
AreCaptured unicode n (e ∷ es) (re ∷ res) = Captures unicode n e re × AreCaptured unicode (n + group_count e) es res

-- ---- answers

-- the numbers that are answered for a match of the kit: its span, and those of the groups from 1 to n
abbrev pub numbers_of : ℕ → Match → List ℕ
numbers_of n m =
    m.start ∷ m.trace.end ∷ flat_map (λ g. span_numbers (pair (slot_of m (2 * g)) (slot_of m (2 * g + 1)))) (range_from 1 n)

-- a search for the first way from the earliest start, with no more asked
pub record IsPlain (q : Search) : Type 0 where
  pub any_start : q.anchored ≡ false
  pub empty_too : q.not_empty ≡ false
  pub any_end : q.end_text ≡ false
  pub first_way : q.leftmost_longest ≡ false

-- Where a pattern stands for the tree, the kit's leftmost match is the answer.
abbrev pub MatchIsAnswer : Type 0
MatchIsAnswer = (q : Search) (e : Tree) (re : Re) → IsPlain q → q.tree ≡ numbered 1 e → Captures q.unicode 1 e re →
    answer q ≡ option_map (numbers_of (group_count q.tree)) (find_str re q.text q.pos)

-- the same of loops, where the loop is bounded or its body always reads
abbrev pub LoopsCapture : Type 0
LoopsCapture = (u : Bool) (n lo : ℕ) (hi : Option ℕ) (greedy : Bool) (e : Tree) (re : Re) → Captures u n e re →
    (hi ≡ None → always_reads re ≡ true) → Captures u n (Repeat lo hi greedy e) (repeat lo hi greedy re)

abbrev pub GroupsCapture : Type 0
GroupsCapture = (u : Bool) (n g : ℕ) (e : Tree) (re : Re) → Captures u (suc n) e re → Captures u n (Group g e) (group n re)

abbrev pub SequencesCapture : Type 0
SequencesCapture = (u : Bool) (n : ℕ) (es : List Tree) (res : List Re) → AreCaptured u n es res →
    Captures u n (Concat (trees es)) (cat_all res)

abbrev pub AlternationsCapture : Type 0
AlternationsCapture = (u : Bool) (n : ℕ) (es : List Tree) (res : List Re) → AreCaptured u n es res →
    Captures u n (Alt (trees es)) (alt_all res)
