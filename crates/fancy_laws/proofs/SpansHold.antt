-- Each way keeps every span between two places in order, and a back reference takes as many bytes as its span has.
use Rattle.std.proofs.Common.{◌≡◌, ℕ, ◌+◌, ◌-◌, ◌≤◌, ⊎_elim, Bool, List, length, drop, Contains, Some, IsTrue, slice_range, option_and_then, ap, ◌∙◌, arith, length-drop}
use Rattle.std.proofs.lemmas.List.{length-take-le}
use Rattle.std.proofs.lemmas.Option.{option_and_then_some}
use Rattle.fancy_meaning.specs.Tree.{Tree, Backref}
use Rattle.fancy_meaning.specs.OpenCalls.{Depths}
use Rattle.fancy_meaning.specs.Places.{is_place}
use Rattle.fancy_meaning.specs.Moves.{past_piece}
use Rattle.fancy_meaning.specs.MatchState.{MatchState, Span, moved_to}
use Rattle.fancy_meaning.specs.Ways.{Setting, ways}
use Rattle.fancy_meaning.specs.Premises.{IsText, IsSpan, HasSpans}
use Rattle.fancy_laws.proofs.Every.{every_contained}
use Rattle.fancy_laws.proofs.WaysOf.{every_moves}
use Rattle.fancy_laws.proofs.Moves.{is_place_parts, past_piece_tells}
use Rattle.fancy_laws.proofs.AtPlaces.{ways_keep_spans}

pub spans_hold : (q : Setting) (whole e : Tree) (depths : Depths) (s t : MatchState) → IsText q.text →
    IsTrue (is_place q.text s.place) → HasSpans q.text s.captures → Contains (ways q whole e depths s) t →
    IsTrue (is_place q.text t.place) × HasSpans q.text t.captures
spans_hold q whole e depths s t text at spans c =
    let way = every_contained t (ways_keep_spans q text.utf8 whole e depths s at spans) c in
    ((way.there).place, (way.there).spans)

-- a piece between two places has as many bytes as there are from one to the other
piece_is_as_long : (text : List ℕ) (span : Span) → IsSpan text span →
    length (slice_range text span.0 span.1) ≡ span.1 - span.0
piece_is_as_long text span is =
    length-take-le (span.1 - span.0) (drop span.0 text)
    (omega (arith, length-drop span.0 text, (is_place_parts text span.1 is.to).0))

past_piece_takes : (text : List ℕ) (unicode casei : Bool) (span : Span) (i j : ℕ) → IsSpan text span →
    past_piece text unicode casei span i ≡ Some j → j ≡ i + (span.1 - span.0)
past_piece_takes text unicode casei span i j is e =
    ⊎_elim (λ b. b.to ∙ ap (λ n. i + n) (piece_is_as_long text span is)) (λ f. f.to) (past_piece_tells text unicode casei span i j e)

-- where a back reference has led
abbrev IsRead : MatchState → ℕ → MatchState → Type 0
IsRead s g t =
    (span : Span) × (s.captures g ≡ Some span) × (span.0 ≤ span.1) × (t ≡ moved_to (s.place + (span.1 - span.0)) s)

pub reference_reads_a_span : (q : Setting) (whole : Tree) (depths : Depths) (g : ℕ) (casei : Bool) (s t : MatchState) →
    HasSpans q.text s.captures → Contains (ways q whole (Backref g casei) depths s) t → IsRead s g t
reference_reads_a_span q whole depths g casei s t spans c =
    every_contained {P = IsRead s g} t
    (every_moves q (λ i. option_and_then (λ span. past_piece q.text q.unicode casei span i) (s.captures g)) s
    (λ i e. option_and_then_some (λ span. past_piece q.text q.unicode casei span s.place) (s.captures g) i e
    (λ span set there.
    let is = spans g span set in
    (span, set, is.in_order, ap (λ k. moved_to k s) (past_piece_takes q.text q.unicode casei span s.place i is there)))))
    c
