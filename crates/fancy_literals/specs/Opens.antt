-- With which bytes the ways of a node begin.
use Rattle.std.specs.Prelude.{◌≡◌, ◌⊎◌, ℕ, Bool, true, false, All, List, drop, slice_index_or}
use Rattle.fancy_meaning.specs.MatchState.{MatchState, Ways, in_order, one_of}
use Rattle.fancy_meaning.specs.Numbering.{each_numbered, numbered_within}
use Rattle.fancy_meaning.specs.Tree.{Tree, Trees, Within}
use Rattle.fancy_meaning.specs.Ways.{Setting, each_ways, ways_with}
use Rattle.fancy_literals.specs.Required.{begins_among}
use Rattle.fancy_literals.specs.declared.firsts.Opening.{Opening}
use Rattle.fancy_literals.specs.declared.firsts.Opening.TheVariants as opening

-- the second set has each byte of the first
abbrev pub Grows : (bytes larger : List Bool) → Type 0
Grows bytes larger = (byte : ℕ) → slice_index_or bytes byte false ≡ true → slice_index_or larger byte false ≡ true

-- the text goes on with a byte of the set from the first state, or nothing was taken, where that may be
abbrev pub BeginsOrStays : (stays : Bool) → (bytes : List Bool) → (text : List ℕ) → MatchState → MatchState → Type 0
BeginsOrStays stays bytes text s t = (begins_among bytes (drop s.place text) ≡ true) ⊎ ((stays ≡ true) × (t.place ≡ s.place))

-- what gives ways, by the text, what a call gives, the look-around around it, and the number of the next group
abbrev pub Giver : Type 0
Giver = (q : Setting) → (call : ℕ → Ways) → Within → (group : ℕ) → Ways

module _ (unicode stays : Bool) (bytes : List Bool) where
  -- so it is for each way that is given
  abbrev pub EachOpens : Giver → Type 0
  EachOpens give = (q : Setting) (call : ℕ → Ways) (w : Within) (n : ℕ) (s : MatchState) → q.unicode ≡ unicode →
      All (BeginsOrStays stays bytes q.text s) (give q call w n s)

  -- each way of the node
  abbrev pub Opens : Tree → Type 0
  Opens e = EachOpens (λ q call w n. ways_with q call (numbered_within w n e))

  -- each way of the nodes one after the other
  abbrev pub OpensInOrder : Trees → Type 0
  OpensInOrder es = EachOpens (λ q call w n. in_order (each_ways q call (each_numbered w n es)))

  -- each way of one of the nodes
  abbrev pub OpensEach : Trees → Type 0
  OpensEach es = EachOpens (λ q call w n. one_of (each_ways q call (each_numbered w n es)))

-- what an opening says of a node
abbrev pub OpensBy : (unicode : Bool) → Opening → (bytes : List Bool) → Tree → Type 0
OpensBy unicode opening.Unknown bytes e = Unit {0}
OpensBy unicode opening.Stays bytes e = Opens unicode true bytes e
OpensBy unicode opening.Begins bytes e = Opens unicode false bytes e

-- of nodes one after the other
abbrev pub OpensInOrderBy : (unicode : Bool) → Opening → (bytes : List Bool) → Trees → Type 0
OpensInOrderBy unicode opening.Unknown bytes es = Unit {0}
OpensInOrderBy unicode opening.Stays bytes es = OpensInOrder unicode true bytes es
OpensInOrderBy unicode opening.Begins bytes es = OpensInOrder unicode false bytes es

-- of each of the nodes
abbrev pub OpensEachBy : (unicode : Bool) → Opening → (bytes : List Bool) → Trees → Type 0
OpensEachBy unicode opening.Unknown bytes es = Unit {0}
OpensEachBy unicode opening.Stays bytes es = OpensEach unicode true bytes es
OpensEachBy unicode opening.Begins bytes es = OpensEach unicode false bytes es
