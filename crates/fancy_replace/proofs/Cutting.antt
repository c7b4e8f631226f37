-- The next match of a text lies ahead of the last one, and after it lie all others.
use Rattle.std.proofs.Common.{◌≡◌, ◌≤◌, ◌-◌, ℕ, zero, suc, List, [], ◌∷◌, map, take, Option, Some, None, Result, Ok, Err, option_map, true, refl, sym, ap, ap₂, ◌∙◌, subst, arith, ne_eqb, ◌==◌, ◌⊎◌, inl, inr, ⊎_elim, if◌then◌else◌}
use Rattle.std.proofs.Math.Logic.{∥∥₁_elim}
use Rattle.std.proofs.Props.{props}
use Rattle.std.specs.Coded.{le_prop}
use Rattle.fancy_meaning.specs.MatchState.{Span}
use Rattle.fancy_meaning.specs.Options as plain
use Rattle.fancy_meaning.specs.Places.{is_place}
use Rattle.fancy_meaning.specs.Premises.{Input, IsText, plan}
use Rattle.fancy_expr.specs.declared.error.Error.{Error}
use Rattle.fancy_search.specs.Searches.{IsCompiledFrom}
use Rattle.fancy_steps.specs.Outcomes.{first_pair}
use Rattle.fancy_matches.specs.Listing.{AreApart, ComesTo, Cursor, all_matches}
use Rattle.fancy_matches.specs.Matchers.{FailsBy, GivesCaptures, IsRegexOf, captures_text, compiled_of, left_of, numbers_in, options_in, passed_in, cursor_of}
use Rattle.fancy_matches.specs.declared.found.Captures.{Captures}
use Rattle.fancy_matches.specs.declared.matcher.Matcher.{Matcher}
use Rattle.fancy_matches.proofs.Lists.{matches_apart}
use Rattle.fancy_replace.specs.Pieces.{at_most_pieces, pieces_between, take_limit}
use Rattle.fancy_replace.specs.Steps.{AreAhead, HasAllCuts, IsAhead, IsNextCut, StaysInCut, all_left, cuts_left, rest_of}
use Rattle.fancy_replace.specs.declared.cuts.Cut.{Cut}
use Rattle.fancy_replace.specs.declared.cuts.Cuts.{Cuts}

-- ---- a whole list lies ahead of the text's start

abbrev last_or_start : Option ℕ → ℕ
last_or_start None = 0
last_or_start (Some last) = last

ahead_of_apart : (text : List ℕ) (last : Option ℕ) (spans : List Span) → AreApart text last spans → AreAhead text (last_or_start last) spans
ahead_of_apart text last [] apart = tt
ahead_of_apart text None (span ∷ spans) (past, (is, apart)) = (omega arith, (is, ahead_of_apart text (Some span.1) spans apart))
ahead_of_apart text (Some last) (span ∷ spans) (past, (is, apart)) = (past.0, (is, ahead_of_apart text (Some span.1) spans apart))

pub all_ahead : (i : Input) (text : List ℕ) (o : plain.RunOptions) → IsText text → AreAhead text 0 (map first_pair (all_matches (plan i) text o))
all_ahead i text o is = ahead_of_apart text None _ (matches_apart (plan i) text o is)

-- ---- within a limit

pub take_limit-cons : (limit : Option ℕ) (m : List ℕ) (ms : List (List ℕ)) → ¬ (limit ≡ Some 0) →
    take_limit limit (m ∷ ms) ≡ m ∷ take_limit (option_map (λ n. n - 1) limit) ms
take_limit-cons None m ms some = refl
take_limit-cons (Some zero) m ms some = absurd (some refl)
take_limit-cons (Some (suc n)) m ms some = ap (λ k. m ∷ take k ms) (omega arith)

take_limit-nil : (limit : Option ℕ) → take_limit {A = List ℕ} limit [] ≡ []
take_limit-nil None = refl
take_limit-nil (Some zero) = refl
take_limit-nil (Some (suc n)) = refl

-- no match is left, whatever the limit
pub no_cuts : (i : Input) (o : plain.RunOptions) (s : Cuts) → all_left i o s ≡ [] → cuts_left i o s ≡ []
no_cuts i o s none = ap (take_limit s.limit) none ∙ take_limit-nil s.limit

-- ---- the limits inside easy parts

pub is_spent : (limit : Option ℕ) → (limit ≡ Some 0) ⊎ (¬ (limit ≡ Some 0))
is_spent None = inr (λ e. cc)
is_spent (Some zero) = inl refl
is_spent (Some (suc n)) = inr (λ e. cc)

-- where no match is left, a search passed none of them or there was no search
pub stays_last : (s : Cuts) (r q : Matcher) → StaysInCut s (Ok None) q → (s.limit ≡ Some 0 → q ≡ r) → (passed_in q ≡ None) ⊎ (q ≡ r)
stays_last s r q stays spent = ⊎_elim (λ e. inr (spent e)) (λ some. inl (stays some)) (is_spent s.limit)

-- ---- a step

-- what a search answered where the text was gone through so far
module _ (r : Matcher) (s : Cuts) (ahead : IsAhead r s) (found : Option (Result Captures Error)) (t : Cursor)
    (list : (i : Input) (o : plain.RunOptions) → IsRegexOf i s.text.now o r → GivesCaptures i s.text.now o (cursor_of s.cursor) found t) where
  abbrev text : List ℕ
  text = s.text.now

  module _ (c : Captures) (is : found ≡ Some (Ok c)) where
    steps : (i : Input) (o : plain.RunOptions) → IsRegexOf i text o r → GivesCaptures i text o (cursor_of s.cursor) (Some (Ok c)) t
    steps i o h = subst (λ x. GivesCaptures i text o (cursor_of s.cursor) x t) is (list i o h)

    numbers_are : (i : Input) (o : plain.RunOptions) (h : IsRegexOf i text o r) → (steps i o h).numbers ≡ numbers_in c
    numbers_are i o h = sym (ap (λ (p : List ℕ × List ℕ). p.1) (steps i o h).shows)

    pub next_comes : (i : Input) (o : plain.RunOptions) → IsRegexOf i text o r →
        ComesTo (plan i) text o (cursor_of s.cursor) (numbers_in c ∷ []) t
    next_comes i o h =
        subst (λ m. ComesTo (plan i) text o (cursor_of s.cursor) (m ∷ []) t) (numbers_are i o h) (steps i o h).comes

    pub next_is : (i : Input) (o : plain.RunOptions) → IsRegexOf i text o r →
        left_of i text o (cursor_of s.cursor) ≡ numbers_in c ∷ left_of i text o t
    next_is i o h = (steps i o h).left ∙ ap (λ m. m ∷ left_of i text o t) (numbers_are i o h)

    pub next_text : (i : Input) (o : plain.RunOptions) → IsRegexOf i text o r → captures_text c ≡ text
    next_text i o h = ap (λ (p : List ℕ × List ℕ). p.0) (steps i o h).shows

    parts : (i : Input) (o : plain.RunOptions) → IsRegexOf i text o r →
        AreAhead text s.from (first_pair (numbers_in c) ∷ map first_pair (left_of i text o t))
    parts i o h = subst (λ ms. AreAhead text s.from (map first_pair ms)) (next_is i o h) (ahead.spans i o h)

    pub rest_ahead : (i : Input) (o : plain.RunOptions) → IsRegexOf i text o r →
        AreAhead text (first_pair (numbers_in c)).1 (map first_pair (left_of i text o t))
    rest_ahead i o h = (parts i o h).1.1

    of_source : (i : Input) → IsCompiledFrom i (compiled_of r) → IsRegexOf i text (options_in r text) r
    of_source i compiled = record { compiled = compiled; options = refl }

    pub next_begins : s.from ≤ (first_pair (numbers_in c)).0
    next_begins = ∥∥₁_elim r.source le_prop (λ i. (parts i.0 (options_in r text) (of_source i.0 i.1)).0)

    pub next_starts_at_place : is_place text (first_pair (numbers_in c)).0 ≡ true
    next_starts_at_place =
        ∥∥₁_elim r.source (Prim.hlevel props) (λ i. (parts i.0 (options_in r text) (of_source i.0 i.1)).1.0.from)

    pub next_ends_at_place : is_place text (first_pair (numbers_in c)).1 ≡ true
    next_ends_at_place =
        ∥∥₁_elim r.source (Prim.hlevel props) (λ i. (parts i.0 (options_in r text) (of_source i.0 i.1)).1.0.to)

  module _ (e : Error) (is : found ≡ Some (Err e)) (i : Input) (o : plain.RunOptions) (of : IsRegexOf i text o r) where
    failed : FailsBy i text o (cursor_of s.cursor) e × (left_of i text o t ≡ [])
    failed = subst (λ x. GivesCaptures i text o (cursor_of s.cursor) x t) is (list i o of)

    pub fails : FailsBy i text o (cursor_of s.cursor) e
    fails = failed.0

    pub none_ahead : AreAhead text s.from (map first_pair (left_of i text o t))
    none_ahead = subst (λ ms. AreAhead text s.from (map first_pair ms)) (sym failed.1) tt

-- ---- the pieces that are left

pub cuts_next : (i : Input) (o : plain.RunOptions) (s : Cuts) (c : Cut) (t : Cuts) → IsNextCut i o s c t →
    cuts_left i o s ≡ numbers_in c.captures ∷ cuts_left i o t
cuts_next i o s c t h =
    ap (take_limit s.limit) h.found ∙ take_limit-cons s.limit (numbers_in c.captures) (left_of i t.text.now o (cursor_of t.cursor)) h.within_limit
    ∙ ap (λ limit. numbers_in c.captures ∷ take_limit limit (left_of i t.text.now o (cursor_of t.cursor))) (sym h.limit)

pub piece_next : (i : Input) (o : plain.RunOptions) (s : Cuts) (c : Cut) (t : Cuts) → t.text.now ≡ s.text.now → IsNextCut i o s c t →
    pieces_between s.text.now s.from (cuts_left i o s) ≡ c.piece.now ∷ pieces_between t.text.now t.from (cuts_left i o t)
piece_next i o s c t within h =
    ap (pieces_between s.text.now s.from) (cuts_next i o s c t h)
    ∙ ap₂ (λ piece pieces. piece ∷ pieces) (sym h.piece) (ap₂ (λ text from. pieces_between text from (cuts_left i o t)) (sym within) (sym h.from))

pub piece_last : (i : Input) (o : plain.RunOptions) (s t : Cuts) → t.text.now ≡ s.text.now → (cuts_left i o s ≡ []) × (t.from ≡ s.from) →
    pieces_between s.text.now s.from (cuts_left i o s) ≡ rest_of t ∷ []
piece_last i o s t within h =
    ap (pieces_between s.text.now s.from) h.0 ∙ ap₂ (λ text from. pieces_between text from []) (sym within) (sym h.1)

pub first_pieces : (i : Input) (o : plain.RunOptions) (text : List ℕ) (most : Option ℕ) (s : Cuts) → HasAllCuts text most s →
    pieces_between s.text.now s.from (cuts_left i o s) ≡ pieces_between text 0 (take_limit most (all_matches (plan i) text o))
first_pieces i o text most s h =
    ap₂ (λ t from. pieces_between t from (take_limit s.limit (left_of i t o (cursor_of s.cursor)))) h.within h.from
    ∙ ap₂ (λ limit from. pieces_between text 0 (take_limit limit (left_of i text o from))) h.limit h.first

pub pieces_within : (text : List ℕ) (limit cuts : ℕ) (ms : List (List ℕ)) → cuts ≡ limit - 1 →
    (if limit == 0 then [] else pieces_between text 0 (take cuts ms)) ≡ at_most_pieces text limit ms
pieces_within text zero cuts ms e = refl
pieces_within text (suc n) cuts ms e =
    ap (λ b. if b then [] else pieces_between text 0 (take cuts ms)) (ne_eqb (suc n) 0 (λ z. absurd (omega (arith, z))))
    ∙ ap (λ k. pieces_between text 0 (take k ms)) (omega (arith, e))
