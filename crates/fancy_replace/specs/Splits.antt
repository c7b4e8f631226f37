-- What clauses see of the pieces of a text that are left.
use Rattle.std.specs.Prelude.{◌≡◌, ◌<◌, ◌-◌, ◌⊎◌, ℕ, suc, false, IfErr, IfSome, List, [], ◌∷◌, map, take, Option, Some, None, Result, Ok, Err, if◌then◌else◌}
use Rattle.std.specs.Borrow.{MutBor}
use Rattle.fancy_meaning.specs.Options as plain
use Rattle.fancy_meaning.specs.Premises.{Input, plan}
use Rattle.fancy_expr.specs.declared.error.Error.{Error}
use Rattle.fancy_steps.specs.SearchLimits.{EndsBy}
use Rattle.fancy_matches.specs.Listing.{ComesTo, PiecesJoin, all_matches, all_spans, at_start, in_turn, part}
use Rattle.fancy_matches.specs.Matchers.{FailsBy, IsNoLimitWhereEasy, IsRegexOf, IsSame, passed_in, cursor_of}
use Rattle.fancy_matches.specs.declared.matcher.Matcher.{Matcher}
use Rattle.fancy_replace.specs.Pieces.{at_most_pieces, pieces_between}
use Rattle.fancy_replace.specs.Steps.{IsAhead, cuts_left, places_left}
use Rattle.fancy_replace.specs.declared.pieces.Pieces.{Pieces}
use Rattle.fancy_replace.specs.declared.pieces.Split.{Split}

-- how many items are left at most
abbrev pub pieces_remaining : Pieces → ℕ
pieces_remaining s = if s.has_ended then 0 else suc (places_left s.cuts)

-- the text that is split
abbrev pub text_of : Pieces → List ℕ
text_of s = s.cuts.text.now

-- it has not ended: the list of its matches goes on from here
abbrev pub IsOpen : Pieces → Type 0
IsOpen s = s.has_ended ≡ false

module _ (i : Input) (o : plain.RunOptions) where
  abbrev pub pieces_left : Pieces → List (List ℕ)
  pieces_left s = if s.has_ended then [] else pieces_between (text_of s) s.cuts.from (cuts_left i o s.cuts)

  -- A call gives the next piece, and unless that was the last, the list of matches comes by one match to where it then
  -- stands; or none, where none is left; or an error that a search answers which the list comes to before its next match,
  -- and then the pieces have ended.
  abbrev pub StepsToPiece : {P : Type 0} → (P → List ℕ) → Pieces → Option (Result P Error) → Pieces → Type 0
  StepsToPiece shown s None t = (pieces_left s ≡ []) × (pieces_left t ≡ [])
  StepsToPiece shown s (Some (Ok piece)) t =
      (pieces_left s ≡ shown piece ∷ pieces_left t)
      × (IsOpen t → (m : List ℕ) ×
      ComesTo (plan i) (text_of s) o (cursor_of s.cuts.cursor) (m ∷ []) (cursor_of t.cuts.cursor))
  StepsToPiece shown s (Some (Err e)) t =
      FailsBy i (text_of s) o (cursor_of s.cuts.cursor) e × (pieces_left t ≡ [])

-- The search for a piece passed no limit inside easy parts, or answers `Memory`; or none was made, and the matcher is as it
-- was.
abbrev pub StaysInPiece : {P : Type 0} → Matcher → Option (Result P Error) → Matcher → Type 0
StaysInPiece r (Some (Err e)) q = EndsBy e (passed_in q)
StaysInPiece r item q = (passed_in q ≡ None) ⊎ (q ≡ r)

-- so it steps by this matcher, whatever that was compiled from, and text and matcher stay
pub record GivesPiece {P : Type 0} (shown : P → List ℕ) (r : Matcher) (s : Pieces) (item : Option (Result P Error)) (q : Matcher)
    (t : Pieces) : Type 0 where
  pub steps : (i : Input) (o : plain.RunOptions) → IsRegexOf i (text_of s) o r → StepsToPiece i o shown s item t
  pub easy : IfSome item (λ found. IfErr found (IsNoLimitWhereEasy r (text_of s)))
  pub within : text_of t ≡ text_of s
  pub same : IsSame r q
  pub stays : StaysInPiece r item q

-- what is left to its matcher lies ahead
abbrev pub CanGoOn : Matcher → Pieces → Type 0
CanGoOn r s = IsAhead r s.cuts

-- over this text, before the first match, all these pieces are left to the matcher
pub record HasPieces (r : Matcher) (text : List ℕ) (all : Input → plain.RunOptions → List (List ℕ)) (s : Pieces) :
    Type 0 where
  pub pieces : (i : Input) (o : plain.RunOptions) → IsRegexOf i text o r → pieces_left i o s ≡ all i o
  pub within : text_of s ≡ text
  pub first : cursor_of s.cuts.cursor ≡ at_start
  pub can : CanGoOn r s

-- ---- iterators

-- it holds this matcher, and all these pieces of the text are left
pub record BeginsSplit (r : MutBor Matcher) (text : List ℕ) (all : Input → plain.RunOptions → List (List ℕ)) (s : Split) :
    Type 0 where
  pub matcher : s.matcher.now ≡ r.now
  pub name : s.matcher.ghost_name ≡ r.ghost_name
  pub pieces : HasPieces r.now text all s.pieces
  pub can : CanGoOn s.matcher.now s.pieces

-- so a call of the iterator steps, and its matcher is lent by the same caller
pub record NextPiece {P : Type 0} (shown : P → List ℕ) (s : Split) (item : Option (Result P Error)) (t : Split) : Type 0 where
  pub gives : GivesPiece shown s.matcher.now s.pieces item t.matcher.now t.pieces
  pub name : t.matcher.ghost_name ≡ s.matcher.ghost_name

-- ---- the pieces of a whole text

-- all pieces of the text
abbrev pub all_pieces : List ℕ → Input → plain.RunOptions → List (List ℕ)
all_pieces text i o = pieces_between text 0 (all_matches (plan i) text o)

-- at most so many
abbrev pub most_pieces : List ℕ → ℕ → Input → plain.RunOptions → List (List ℕ)
most_pieces text limit i o = at_most_pieces text limit (all_matches (plan i) text o)

-- these pieces and the matches in turn are the text
abbrev pub PiecesAndMatchesJoin : Matcher → List ℕ → Type 0
PiecesAndMatchesJoin r text =
    (i : Input) (o : plain.RunOptions) → IsRegexOf i text o r → PiecesJoin text (all_spans (plan i) text o)

-- and at most so many of them, with the matches between them
abbrev pub MostPiecesJoin : Matcher → List ℕ → ℕ → Type 0
MostPiecesJoin r text limit =
    (i : Input) (o : plain.RunOptions) → IsRegexOf i text o r → 0 < limit →
    in_turn (most_pieces text limit i o) (map (part text) (take (limit - 1) (all_spans (plan i) text o))) ≡ text
