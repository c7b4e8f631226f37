-- Which bytes may be before the places where the ways of a node begin or end.
use Rattle.std.specs.Prelude.{◌≡◌, ℕ, Bool, true, ◌||◌, All, List, if◌then◌else◌, nat_le}
use Rattle.std.specs.Option.{option_map_or}
use Rattle.regex_hir.specs.Text.{byte_before}
use Rattle.fancy_meaning.specs.MatchState.{MatchState, Ways, in_order, one_of}
use Rattle.fancy_meaning.specs.Numbering.{each_numbered, numbered_within}
use Rattle.fancy_meaning.specs.Tree.{Tree, Trees, Within}
use Rattle.fancy_meaning.specs.Ways.{Setting, each_ways, ways_with}
use Rattle.fancy_literals.specs.ByteSets.{is_in}
use Rattle.fancy_literals.specs.Opens.{Giver}
use Rattle.fancy_literals.specs.declared.before.Before.{Before}

-- the byte is in the set, or it is no byte
abbrev pub may_be : (bytes : List Bool) → ℕ → Bool
may_be bytes byte = is_in bytes byte || nat_le 256 byte

-- this may be before the place of the text
abbrev pub follows : Before → (text : List ℕ) → (place : ℕ) → Bool
follows before text place = option_map_or (may_be before.bytes) (byte_before text place) before.at_start

-- what may be before a place, may be before it by the second too
pub record Admits (before larger : Before) : Type 0 where
  pub bytes : (byte : ℕ) → may_be before.bytes byte ≡ true → may_be larger.bytes byte ≡ true
  pub at_start : before.at_start ≡ true → larger.at_start ≡ true

-- `at_end`: where the ways end, and else where they begin
module _ (unicode at_end : Bool) (before : Before) where
  -- so it is for each way that is given
  abbrev pub EachFollows : Giver → Type 0
  EachFollows give = (q : Setting) (call : ℕ → Ways) (w : Within) (n : ℕ) (s : MatchState) → q.unicode ≡ unicode →
      All (λ t. follows before q.text (if at_end then t.place else s.place) ≡ true) (give q call w n s)

  -- each way of the node
  abbrev pub IsBefore : Tree → Type 0
  IsBefore e = EachFollows (λ q call w n. ways_with q call (numbered_within w n e))

  -- each way of the nodes one after the other
  abbrev pub IsBeforeInOrder : Trees → Type 0
  IsBeforeInOrder es = EachFollows (λ q call w n. in_order (each_ways q call (each_numbered w n es)))

  -- each way of one of the nodes
  abbrev pub IsBeforeEach : Trees → Type 0
  IsBeforeEach es = EachFollows (λ q call w n. one_of (each_ways q call (each_numbered w n es)))

-- each way of the node ends where it begins
abbrev pub StaysHere : Tree → Type 0
StaysHere e = (q : Setting) (call : ℕ → Ways) (w : Within) (n : ℕ) (s : MatchState) →
    All (λ t. t.place ≡ s.place) (ways_with q call (numbered_within w n e) s)
