-- What two states of one key have in common.
use Rattle.std.proofs.Common.{◌≡◌, ℕ, Bool, true, false, not, ◌&&◌, if◌then◌else◌, ◌==◌, List, [], ◌∷◌, ◌++◌, Option, Some, None, refl, sym, ap, ap₂, ◌∙◌}
use Rattle.fancy_meaning.specs.Nodes.{read_groups}
use Rattle.fancy_meaning.specs.MatchState.{MatchState, Span, moved_to, with_span}
use Rattle.fancy_meaning.specs.Options.{Plan}
use Rattle.fancy_meaning.specs.Keys.{bit, span_key, spans_key, key_with, key, easy_end, easy_key}
use Rattle.fancy_delegation.proofs.Items.{IsIn, first, later}
use Rattle.fancy_delegation.proofs.Reduced.{Same}
use Rattle.fancy_delegation.proofs.Alike.{GoesAlong}

-- the group is read somewhere in the tree
abbrev pub ReadIn : Plan → ℕ → Type 0
ReadIn p g = IsIn g (read_groups p.analysis.tree)

-- the kept start, the flag where it counts, and the spans that are read
pub record Agree (p : Plan) (s t : MatchState) : Type 0 where
  pub kept : s.kept ≡ t.kept
  pub flag : (p.end_text && s.text_end) ≡ (p.end_text && t.text_end)
  pub spans : (g : ℕ) → ReadIn p g → s.captures g ≡ t.captures g

pub bit_tells : (a b : Bool) → bit a ≡ bit b → a ≡ b
bit_tells true true e = refl
bit_tells false false e = refl
bit_tells true false e = cc
bit_tells false true e = cc

span_tells : (o o' : Option Span) (rest rest' : List ℕ) → span_key o ++ rest ≡ span_key o' ++ rest' → (o ≡ o') × (rest ≡ rest')
span_tells None None rest rest' e = (refl, cc)
span_tells (Some (i, j)) (Some (i', j')) rest rest' e =
    let from : i ≡ i' = cc in
    let to : j ≡ j' = cc in
    (ap₂ (λ a b. Some (a, b)) from to, cc)
span_tells None (Some (i, j)) rest rest' e = cc
span_tells (Some (i, j)) None rest rest' e = cc

spans_tell : (groups : List ℕ) (s t : MatchState) → spans_key groups s ≡ spans_key groups t → (g : ℕ) → IsIn g groups → s.captures g ≡ t.captures g
spans_tell [] s t e g i = elim i [ ]
spans_tell (h ∷ groups) s t e g first = (span_tells (s.captures h) (t.captures h) (spans_key groups s) (spans_key groups t) e).0
spans_tell (h ∷ groups) s t e g (later i) =
    spans_tell groups s t (span_tells (s.captures h) (t.captures h) (spans_key groups s) (spans_key groups t) e).1 g i

spans_from : (groups : List ℕ) (s t : MatchState) → ((g : ℕ) → IsIn g groups → s.captures g ≡ t.captures g) → spans_key groups s ≡ spans_key groups t
spans_from [] s t k = refl
spans_from (h ∷ groups) s t k = ap₂ (λ o rest. span_key o ++ rest) (k h first) (spans_from groups s t (λ g i. k g (later i)))

module _ (p : Plan) where
  tells : (end end' : ℕ) (s t : MatchState) → key_with end p.end_text (read_groups p.analysis.tree) s
      ≡ key_with end' p.end_text (read_groups p.analysis.tree) t → (end ≡ end') × Agree p s t
  tells end end' s t e =
      let rest : spans_key (read_groups p.analysis.tree) s ≡ spans_key (read_groups p.analysis.tree) t = cc in
      let flag : bit (p.end_text && s.text_end) ≡ bit (p.end_text && t.text_end) = cc in (
        cc,
        record {
          kept = cc;
          flag = bit_tells (p.end_text && s.text_end) (p.end_text && t.text_end) flag;
          spans =
              spans_tell (read_groups p.analysis.tree) s t rest;
        },
      )

  gives : (end end' : ℕ) (s t : MatchState) → end ≡ end' → Agree p s t →
      key_with end p.end_text (read_groups p.analysis.tree) s ≡ key_with end' p.end_text (read_groups p.analysis.tree) t
  gives end end' s t e a =
      ap₂ (λ x rest. x ∷ rest) e
      (ap₂ (λ x rest. x ∷ rest) a.kept
      (ap₂ (λ x rest. bit x ∷ rest) a.flag (spans_from (read_groups p.analysis.tree) s t a.spans)))

  -- in a hard context also the end
  pub key_tells : (s t : MatchState) → Same (key p) s t → (s.place ≡ t.place) × Agree p s t
  unfolding key
  key_tells s t e = tells s.place t.place s t e

  pub key_gives : (s t : MatchState) → s.place ≡ t.place → Agree p s t → Same (key p) s t
  unfolding key
  key_gives s t e a = gives s.place t.place s t e a

  -- where a match has to take something, whether the state is at another place
  abbrev pub moved_from : ℕ → MatchState → Bool
  moved_from from s = p.analysis.find_not_empty && not (s.place == from)

  -- what counts of the end in an easy context, by whether the longest match is asked for
  abbrev end_by : Bool → ℕ → MatchState → ℕ
  end_by longest from s = if longest then s.place else bit (moved_from from s)

  -- it tells whether the state is at another place, and the place where the longest match is asked for
  pub moved_by_end : (from : ℕ) (s t : MatchState) → easy_end p from s ≡ easy_end p from t → moved_from from s ≡ moved_from from t
  moved_by_end from s t e = by_option p.analysis.leftmost_longest e
    where
      by_option : (v : Bool) → end_by v from s ≡ end_by v from t → moved_from from s ≡ moved_from from t
      by_option true same = ap (λ i. p.analysis.find_not_empty && not (i == from)) same
      by_option false same = bit_tells (moved_from from s) (moved_from from t) same

  pub place_by_end : p.analysis.leftmost_longest ≡ true → (from : ℕ) (s t : MatchState) → easy_end p from s ≡ easy_end p from t →
      s.place ≡ t.place
  place_by_end on from s t e = sym (ap (λ v. end_by v from s) on) ∙ e ∙ ap (λ v. end_by v from t) on

  -- the end counts alike where both are given
  pub end_by_parts : (from : ℕ) (s t : MatchState) → (p.analysis.leftmost_longest ≡ true → s.place ≡ t.place) →
      moved_from from s ≡ moved_from from t → easy_end p from s ≡ easy_end p from t
  end_by_parts from s t places moves = by_option p.analysis.leftmost_longest places
    where
      by_option : (v : Bool) → (v ≡ true → s.place ≡ t.place) → end_by v from s ≡ end_by v from t
      by_option true same = same refl
      by_option false same = ap bit moves

  pub easy_key_tells : (from : ℕ) (s t : MatchState) → Same (easy_key p from) s t → (easy_end p from s ≡ easy_end p from t) × Agree p s t
  unfolding easy_key
  easy_key_tells from s t e = tells (easy_end p from s) (easy_end p from t) s t e

  pub easy_key_gives : (from : ℕ) (s t : MatchState) → easy_end p from s ≡ easy_end p from t → Agree p s t → Same (easy_key p from) s t
  unfolding easy_key
  easy_key_gives from s t e a = gives (easy_end p from s) (easy_end p from t) s t e a

  -- the key tells more than the easy key
  pub easy_is_coarser : (from : ℕ) (s t : MatchState) → Same (key p) s t → Same (easy_key p from) s t
  easy_is_coarser from s t e =
      let both = key_tells s t e in
      easy_key_gives from s t
      (end_by_parts from s t (λ on. both.0) (ap (λ i. p.analysis.find_not_empty && not (i == from)) both.0)) both.1

  -- a span that is set alike in both
  pub agree_with_span : (g : ℕ) (span span' : Span) (s t : MatchState) → span ≡ span' → Agree p s t →
      Agree p (with_span g span s) (with_span g span' t)
  agree_with_span g span span' s t e a = record {
    kept = a.kept;
    flag = a.flag;
    spans = λ i r. ap₂ (λ o c. if i == g then Some o else c) e (a.spans i r);
  }

  pub key_goes_along : GoesAlong (Same (key p)) (ReadIn p)
  key_goes_along = record {
    place = λ s t e. (key_tells s t e).0;
    to_place =
        λ s t i e. let a = (key_tells s t e).1 in
        key_gives (moved_to i s) (moved_to i t) refl (record { kept = a.kept; flag = a.flag; spans = a.spans });
    spans = λ g from s t e.
        let both = key_tells s t e in
        key_gives (with_span g (from, s.place) s) (with_span g (from, t.place) t) both.0
        (agree_with_span g (from, s.place) (from, t.place) s t (ap (λ i. (from, i)) both.0) both.1);
    keeps = λ s t e.
        let both = key_tells s t e in
        key_gives (record s { kept = s.place }) (record t { kept = t.place }) both.0
        (record { kept = both.0; flag = (both.1).flag; spans = (both.1).spans });
    flags = λ s t e.
        let both = key_tells s t e in
        key_gives (record s { text_end = true }) (record t { text_end = true }) both.0
        (record { kept = (both.1).kept; flag = refl; spans = (both.1).spans });
    read = λ g i s t e. ((key_tells s t e).1).spans g i;
  }
