-- In a text in UTF-8 each way of every node from a place ends at a place, with spans between places.
use Rattle.std.proofs.Common.{◌≡◌, ℕ, ◌≤◌, ◌⊎◌, inl, inr, ⊎_elim, true, List, Option, Some, IsTrue, IsUtf8, ◌==◌, sym, ◌∙◌, subst, arith}
use Rattle.std.proofs.lemmas.Bool.{cond-true, cond-false}
use Rattle.std.proofs.lemmas.Bool.Decides.{eqb_tells}
use Rattle.std.proofs.lemmas.Option.{none-some, same_Some}
use Rattle.fancy_meaning.specs.Tree.{Tree}
use Rattle.fancy_meaning.specs.OpenCalls.{Depths}
use Rattle.fancy_meaning.specs.Places.{is_place}
use Rattle.fancy_meaning.specs.MatchState.{MatchState, Span, put, first_state}
use Rattle.fancy_meaning.specs.Premises.{IsSpan, HasSpans}
use Rattle.fancy_meaning.specs.Ways.{Setting, ways}
use Rattle.fancy_laws.proofs.Every.{Every}
use Rattle.fancy_laws.proofs.Pieces.{past_char_moves, past_newline_moves, past_piece_moves}
use Rattle.fancy_laws.proofs.Motion.{IsMotion, ways_lead}

-- a span that is set by `put` is the new one, or was set before
pub put_tells : (captures : ℕ → Option Span) (g : ℕ) (new : Span) (h : ℕ) (span : Span) →
    put g (Some new) captures h ≡ Some span →
    ((h ≡ g) × (new ≡ span)) ⊎ (captures h ≡ Some span)
put_tells captures g new h span e = ⊎_elim
    (λ same. inl (same.1, same_Some new span (sym (cond-true (h == g) (Some new) (captures h) same.0) ∙ e)))
    (λ other. inr (sym (cond-false (h == g) (Some new) (captures h) other.0) ∙ e))
    (eqb_tells h g)

pub spans_with : (text : List ℕ) (captures : ℕ → Option Span) (g : ℕ) (new : Span) → HasSpans text captures → IsSpan text new →
    HasSpans text (put g (Some new) captures)
spans_with text captures g new has is h span e =
    ⊎_elim (λ (here : (h ≡ g) × (new ≡ span)). subst (IsSpan text) here.1 is) (λ before. has h span before)
    (put_tells captures g new h span e)

-- `Kept` is what is known of the kept start
pub record StandsAtPlaces (text : List ℕ) (Kept : ℕ → Type 0) (s : MatchState) : Type 0 where
  pub place : IsTrue (is_place text s.place)
  pub spans : HasSpans text s.captures
  pub kept : Kept s.kept

pub record GoesByPlaces (text : List ℕ) (Kept : ℕ → Type 0) (s t : MatchState) : Type 0 where
  pub on : s.place ≤ t.place
  pub there : StandsAtPlaces text Kept t

moves_to : (text : List ℕ) (Kept : ℕ → Type 0) (s : MatchState) (i : ℕ) → StandsAtPlaces text Kept s → s.place ≤ i →
    is_place text i ≡ true →
    GoesByPlaces text Kept s (record s { place = i })
moves_to text Kept s i good le at = record { on = le; there = record { place = at; spans = good.spans; kept = good.kept } }

pub place_motion : (q : Setting) → IsUtf8 q.text → (Kept : ℕ → Type 0) → ((i : ℕ) → is_place q.text i ≡ true → Kept i) →
    IsMotion q (StandsAtPlaces q.text Kept) (GoesByPlaces q.text Kept)
place_motion q utf8 Kept kept_there = record {
  arrives = λ s t good step. step.there;
  stays = λ s good. record { on = omega arith; there = good };
  onward = λ s t u good one two. record { on = omega (arith, one.on, two.on); there = two.there };
  skip_one = λ test s i good e.
      let m = past_char_moves q.text utf8 test s.place i good.place e in
      moves_to q.text Kept s i good m.on m.to;
  past_line = λ unicode s i good e.
      let m = past_newline_moves q.text utf8 unicode s.place i good.place e in
      moves_to q.text Kept s i good (m.3).on (m.3).to;
  past_group = λ g span casei s i good set e.
      let m = past_piece_moves q.text utf8 q.unicode casei span s.place i good.place (good.spans g span set) e in
      moves_to q.text Kept s i good m.on m.to;
  keeps = λ s good.
      record { on = omega arith; there = record { place = good.place; spans = good.spans; kept = kept_there s.place good.place } };
  meets_end = λ s good. record { on = omega arith; there = record { place = good.place; spans = good.spans; kept = good.kept } };
  captures = λ g s t good step. record {
    on = step.on;
    there = record {
      place = (step.there).place;
      spans = spans_with q.text t.captures g (s.place, t.place) (step.there).spans
          (record { from = good.place; to = (step.there).place; in_order = step.on });
      kept = (step.there).kept;
    };
  };
  restores = λ s t good step. record {
    on = omega arith;
    there = record { place = good.place; spans = (step.there).spans; kept = (step.there).kept };
  };
  goes_back = λ s i good le at. record { place = at; spans = good.spans; kept = good.kept };
  comes_here = λ s t i good le at step here. record { on = omega (arith, here); there = step.there };
  goes_on = λ s i good le at. moves_to q.text Kept s i good le at;
}

module _ (q : Setting) (utf8 : IsUtf8 q.text) (whole e : Tree) (depths : Depths) (s : MatchState) where
  abbrev KeptAtPlace : ℕ → Type 0
  KeptAtPlace i = IsTrue (is_place q.text i)

  pub ways_go_by_places : StandsAtPlaces q.text KeptAtPlace s → Every (GoesByPlaces q.text KeptAtPlace s) (ways q whole e depths s)
  ways_go_by_places = ways_lead (place_motion q utf8 KeptAtPlace (λ i at. at)) whole e depths s

  -- the spans alone
  pub ways_keep_spans : IsTrue (is_place q.text s.place) → HasSpans q.text s.captures →
      Every (GoesByPlaces q.text (λ i. Unit {0}) s) (ways q whole e depths s)
  ways_keep_spans at spans =
      ways_lead (place_motion q utf8 (λ i. Unit {0}) (λ i at. tt)) whole e depths s (record { place = at; spans = spans; kept = tt })

-- an attempt begins at places
pub first_stands : (text : List ℕ) (start : ℕ) → is_place text start ≡ true →
    StandsAtPlaces text (λ i. IsTrue (is_place text i)) (first_state start)
first_stands text start at = record { place = at; spans = λ g span e. absurd (none-some span e); kept = at }
