-- With which literal the ways of a node begin.
use Rattle.std.specs.Prelude.{◌≡◌, ◌+◌, ◌++◌, ℕ, Bool, true, All, List, length}
use Rattle.regex_hir.specs.Text.{has_bytes_at}
use Rattle.fancy_meaning.specs.MatchState.{MatchState, Ways, in_order}
use Rattle.fancy_meaning.specs.Numbering.{each_numbered, numbered_within}
use Rattle.fancy_meaning.specs.Tree.{Tree, Trees, Within}
use Rattle.fancy_meaning.specs.Ways.{Setting, each_ways, ways_with}
use Rattle.fancy_literals.specs.Opens.{Giver}

-- From the first state the text goes on with the literal. `whole`: and the second state is at its end.
abbrev pub LeadsBy : (literal : List ℕ) → (whole : Bool) → (text : List ℕ) → MatchState → MatchState → Type 0
LeadsBy literal whole text s t = (has_bytes_at text s.place literal ≡ true) × (whole ≡ true → t.place ≡ s.place + length literal)

-- a literal was added by which each way leads that is given
pub record Adds (old new : List ℕ) (whole : Bool) (give : Giver) : Type 0 where
  pub literal : List ℕ
  pub added : new ≡ old ++ literal
  pub leads : (q : Setting) (call : ℕ → Ways) (w : Within) (n : ℕ) (s : MatchState) → All (LeadsBy literal whole q.text s) (give q call w n s)

-- each way of the node
abbrev pub AddsOf : (old new : List ℕ) → (whole : Bool) → Tree → Type 0
AddsOf old new whole e = Adds old new whole (λ q call w n. ways_with q call (numbered_within w n e))

-- each way of the nodes one after the other
abbrev pub AddsInOrder : (old new : List ℕ) → (whole : Bool) → Trees → Type 0
AddsInOrder old new whole es = Adds old new whole (λ q call w n. in_order (each_ways q call (each_numbered w n es)))
