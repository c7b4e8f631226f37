-- A replacement goes on from match to match.
use Rattle.std.proofs.Common.{IfErr, Result, Ok, Err, ◌≡◌, ◌≤◌, ◌<◌, ◌-◌, ℕ, zero, suc, Bool, true, false, List, [], ◌∷◌, ◌++◌, length, take, map, Option, Some, None, option_map, ⊎_elim, refl, sym, ap, ap₂, ◌∙◌, subst, arith, ne_eqb, append_assoc, append-nil, if◌then◌else◌, slice_range}
use Rattle.std.proofs.lemmas.Bool.{cases_lt}
use Rattle.std.proofs.lemmas.Option.{none-some}
use Rattle.std.proofs.lemmas.List.{drop_all, length-append, length-take-le, take-map, take_at}
use Rattle.std.proofs.lemmas.List.Folds.{drop_split}
use Rattle.fancy_meaning.specs.Options as plain
use Rattle.fancy_meaning.specs.Premises.{Input, IsText, plan}
use Rattle.fancy_expr.specs.declared.error.Error.{Error}
use Rattle.fancy_steps.specs.Outcomes.{first_pair}
use Rattle.fancy_steps.specs.SearchLimits.{EndsBy}
use Rattle.fancy_matches.specs.Listing.{AreApart, ComesTo, PiecesJoin, all_matches, all_spans, at_start, in_turn, part, stays}
use Rattle.fancy_matches.specs.Matchers.{FailsBy, IsNoLimitWhereEasy, IsRegexOf, IsSame, captures_text, left_of, numbers_in, passed_in, cursor_of}
use Rattle.fancy_matches.specs.declared.matcher.Matcher.{Matcher}
use Rattle.fancy_replace.specs.Pieces.{IsBelow, as_limit, pieces_between, rewrite, take_limit}
use Rattle.fancy_replace.specs.Replacements.{FailsAfter, KeepsBefore, WritesMatch, to_replace}
use Rattle.fancy_replace.specs.Splits.{most_pieces}
use Rattle.fancy_replace.specs.Steps.{HasAllCuts, IsAhead, IsNextCut, NextCut, StaysInCut, StepsToCut, cuts_left, rest_of}
use Rattle.fancy_replace.specs.declared.cuts.Cut.{Cut}
use Rattle.fancy_replace.specs.declared.cuts.Cuts.{Cuts}
use Rattle.fancy_laws.proofs.Moves.{is_place_parts}
use Rattle.fancy_matches.proofs.Easy.{easy_of_same}
use Rattle.fancy_matches.proofs.Lists.{comes_more, matches_apart, spans_join}
use Rattle.fancy_matches.proofs.Stepping.{of_same, same_twice}
use Rattle.fancy_replace.proofs.Cutting.{is_spent, take_limit-cons}

abbrev left_in : Input → plain.RunOptions → List ℕ → Cuts → List (List ℕ)
left_in i o text s = take_limit s.limit (left_of i text o (cursor_of s.cursor))

-- pieces and what is written in turn, from where a text was gone through to
abbrev rest_rewrite : (List ℕ → List ℕ) → List ℕ → ℕ → List (List ℕ) → List ℕ
rest_rewrite replacement text from ms = in_turn (pieces_between text from ms) (map replacement ms)

-- these of the matches to be replaced were gone through, and what was written goes on to the whole
pub record IsDone (i : Input) (o : plain.RunOptions) (text : List ℕ) (most : Option ℕ) (replacement : List ℕ → List ℕ)
    (s : Cuts) (out : List ℕ) (is_same : Bool) : Type 0 where
  pub gone : List (List ℕ)
  pub comes : ComesTo (plan i) text o at_start gone (cursor_of s.cursor)
  pub limit : s.limit ≡ option_map (λ n. n - length gone) most
  pub value : out ++ rest_rewrite replacement text s.from (left_in i o text s) ≡ rewrite replacement text (to_replace i o text most)
  pub fresh : is_same ≡ true → left_in i o text s ≡ to_replace i o text most
  pub some : is_same ≡ false → ¬ (to_replace i o text most ≡ [])

-- the matcher is of the same tree, and a search was made where no more are to be
pub record GoesOn (r q : Matcher) (text : List ℕ) (most : Option ℕ) (replacement : List ℕ → List ℕ) (s : Cuts)
    (out : List ℕ) (is_same : Bool) : Type 0 where
  pub same : IsSame r q
  pub within : s.text.now ≡ text
  pub ahead : IsAhead q s
  pub searched : s.limit ≡ Some 0 → passed_in q ≡ None
  pub done : (i : Input) (o : plain.RunOptions) → IsRegexOf i text o r → IsDone i o text most replacement s out is_same

less_none : (most : Option ℕ) → most ≡ option_map (λ n. n - 0) most
less_none None = refl
less_none (Some n) = ap Some (omega arith)

less_more : (most : Option ℕ) (count : ℕ) → option_map (λ n. n - 1) (option_map (λ n. n - count) most) ≡ option_map (λ n. n - suc count) most
less_more None count = refl
less_more (Some n) count = ap Some (omega arith)

below_limit : (most limit : Option ℕ) (count : ℕ) → limit ≡ option_map (λ n. n - count) most → ¬ (limit ≡ Some 0) → IsBelow most count
below_limit None limit count e some = tt
below_limit (Some n) limit count e some =
    ⊎_elim (λ lt. lt) (λ le. absurd (some (e ∙ ap Some (omega (arith, le))))) (cases_lt count n)

-- ---- at the start

-- at least one match is looked for
as_limit_some : (limit : ℕ) → ¬ (as_limit limit ≡ Some 0)
as_limit_some zero e = none-some 0 e
as_limit_some (suc n) e =
    let is : as_limit (suc n) ≡ Some (suc n) = ap (λ b. if b then None else Some (suc n)) (ne_eqb (suc n) 0 (λ z. absurd (omega (arith, z)))) in
    let both : Some (suc n) ≡ Some 0 = sym is ∙ e in cc

pub at_first : (r : Matcher) (text : List ℕ) (limit : ℕ) (replacement : List ℕ → List ℕ) (s : Cuts) (out : List ℕ) →
    HasAllCuts text (as_limit limit) s → out ≡ [] → GoesOn r r text (as_limit limit) replacement s out true
at_first r text limit replacement s out h none = let most = as_limit limit in record {
  same = (refl, refl);
  within = h.within;
  ahead = h.ahead r;
  searched = λ e. absurd (as_limit_some limit (sym h.limit ∙ e));
  done = λ i o of.
      let all : left_of i text o (cursor_of s.cursor) ≡ all_matches (plan i) text o = ap (left_of i text o) h.first in
      let left : left_in i o text s ≡ to_replace i o text most = ap₂ take_limit h.limit all in
      record {
        gone = [];
        comes = subst (λ t. ComesTo (plan i) text o at_start [] t) (sym h.first) stays;
        limit = h.limit ∙ less_none most;
        value = ap₂ (λ x n. x ++ rest_rewrite replacement text n (left_in i o text s)) none h.from ∙ ap (rest_rewrite replacement text 0) left;
        fresh = λ _. left;
        some = λ e. cc;
      };
}

-- ---- a match

module _ (i : Input) (o : plain.RunOptions) (text : List ℕ) (most : Option ℕ) (write : List ℕ → List ℕ → List ℕ) (s t : Cuts) (c : Cut)
    (out : List ℕ) (is_same : Bool)
    (at : s.text.now ≡ text) (to : t.text.now ≡ text) (next : IsNextCut i o s c t) (done : IsDone i o text most (write text) s out is_same) where
  abbrev m : List ℕ
  m = numbers_in c.captures

  found : left_of i text o (cursor_of s.cursor) ≡ m ∷ left_of i text o (cursor_of t.cursor)
  found =
      ap (λ x. left_of i x o (cursor_of s.cursor)) (sym at) ∙ next.found
      ∙ ap (λ x. m ∷ left_of i x o (cursor_of t.cursor)) to

  is_left : left_in i o text s ≡ m ∷ left_in i o text t
  is_left =
      ap (take_limit s.limit) found ∙ take_limit-cons s.limit m (left_of i text o (cursor_of t.cursor)) next.within_limit
      ∙ ap (λ limit. m ∷ take_limit limit (left_of i text o (cursor_of t.cursor))) (sym next.limit)

  piece_is : c.piece.now ≡ slice_range text s.from (first_pair m).0
  piece_is = next.piece ∙ ap (λ x. slice_range x s.from (first_pair m).0) at

  some_to_replace : (b : Bool) → is_same ≡ b → to_replace i o text most ≡ [] → ⊥
  some_to_replace false e empty = done.some e empty
  some_to_replace true e empty = let both : m ∷ left_in i o text t ≡ [] = sym is_left ∙ done.fresh e ∙ empty in cc

  further : (new : List ℕ) → new ≡ out ++ (c.piece.now ++ write (captures_text c.captures) m) → IsDone i o text most (write text) t new false
  further new e =
      let rest = rest_rewrite (write text) text t.from (left_in i o text t) in
      record {
        gone = done.gone ++ m ∷ [];
        comes =
            comes_more (plan i) text o done.comes
            (subst (λ x. ComesTo (plan i) x o (cursor_of s.cursor) (m ∷ []) (cursor_of t.cursor)) at next.comes);
        limit =
            next.limit ∙ ap (option_map (λ n. n - 1)) done.limit ∙ less_more most (length done.gone)
            ∙ ap (λ k. option_map (λ n. n - k) most) (omega (arith, length-append done.gone (m ∷ [])));
        value =
            ap (λ x. x ++ rest) (e ∙ ap (λ x. out ++ (c.piece.now ++ write x m)) (next.text ∙ at)) ∙ (simp append_assoc)
            ∙ ap₂ (λ piece n. out ++ (piece ++ (write text m ++ rest_rewrite (write text) text n (left_in i o text t)))) piece_is next.from
            ∙ ap (λ ms. out ++ rest_rewrite (write text) text s.from ms) (sym is_left) ∙ done.value;
        fresh = λ no. cc;
        some = λ _ empty. some_to_replace is_same refl empty;
      }

-- ---- at the end

module _ (i : Input) (o : plain.RunOptions) (text : List ℕ) (most : Option ℕ) (replacement : List ℕ → List ℕ) (s t : Cuts)
    (out : List ℕ) (is_same : Bool) (at : s.text.now ≡ text) (to : t.text.now ≡ text) (none : (cuts_left i o s ≡ []) × (t.from ≡ s.from))
    (done : IsDone i o text most replacement s out is_same) where
  none_left : left_in i o text s ≡ []
  none_left = ap (λ x. take_limit s.limit (left_of i x o (cursor_of s.cursor))) (sym at) ∙ none.0

  none_to_replace : is_same ≡ true → to_replace i o text most ≡ []
  none_to_replace e = sym (done.fresh e) ∙ none_left

  ends : (new rest : List ℕ) → new ≡ out ++ rest → rest ≡ rest_of t → new ≡ rewrite replacement text (to_replace i o text most)
  ends new rest e is =
      e ∙ ap (λ x. out ++ x) is ∙ ap₂ (λ x n. out ++ slice_range x n (length x)) to none.1 ∙ (simp append-nil)
      ∙ ap (λ ms. out ++ rest_rewrite replacement text s.from ms) (sym none_left) ∙ done.value

-- with no match to be replaced the text is as it was
pub rewrite-none : (text : List ℕ) (replacement : List ℕ → List ℕ) (ms : List (List ℕ)) → ms ≡ [] → text ≡ rewrite replacement text ms
rewrite-none text replacement ms e =
    drop_split text 0 (length text) (omega arith)
    ∙ ap (λ rest. slice_range text 0 (length text) ++ rest) (drop_all (length text) text (omega arith))
    ∙ ap (rewrite replacement text) (sym e)

-- ---- an error

fails_after : (i : Input) (o : plain.RunOptions) (text : List ℕ) (most : Option ℕ) (replacement : List ℕ → List ℕ) (s : Cuts)
    (out : List ℕ) (is_same : Bool) (e : Error) →
    s.text.now ≡ text → (¬ (s.limit ≡ Some 0)) × FailsBy i s.text.now o (cursor_of s.cursor) e → IsDone i o text most replacement s out is_same →
    FailsAfter i o text most e
fails_after i o text most replacement s out is_same e at h done =
    let fails = subst (λ x. FailsBy i x o (cursor_of s.cursor) e) at h.1 in
    record {
      gone = done.gone;
      below = below_limit most s.limit (length done.gone) done.limit h.0;
      cursor = fails.cursor;
      comes = subst (λ ms. ComesTo (plan i) text o at_start ms fails.cursor) (append-nil done.gone)
          (comes_more (plan i) text o done.comes fails.comes);
      fails = fails.fails;
    }

-- ---- a call for the next match

module _ (r q p : Matcher) (text : List ℕ) (most : Option ℕ) (write : List ℕ → List ℕ → List ℕ) (s t : Cuts) (out : List ℕ) (is_same : Bool)
    (so_far : GoesOn r q text most (write text) s out is_same) (found : Result (Option Cut) Error) (next : NextCut q s found p t) where
  to : t.text.now ≡ text
  to = next.within ∙ so_far.within

  steps : (x : Result (Option Cut) Error) → found ≡ x → (i : Input) (o : plain.RunOptions) → IsRegexOf i text o r → StepsToCut i o s x t
  steps x is i o of = subst (λ y. StepsToCut i o s y t) is
      (next.steps i o (subst (λ u. IsRegexOf i u o q) (sym so_far.within) (of_same r q i text o so_far.same of)))

  -- a match, and what is written for it
  pub goes_on : (c : Cut) → found ≡ Ok (Some c) → IsAhead p t → (new : List ℕ) →
      new ≡ out ++ (c.piece.now ++ write (captures_text c.captures) (numbers_in c.captures)) → GoesOn r p text most (write text) t new false
  goes_on c is ahead new e = record {
    same = same_twice r q p so_far.same next.same;
    within = to;
    ahead = ahead;
    searched = λ _. subst (λ x. StaysInCut s x p) is next.stays;
    done = λ i o of. further i o text most write s t c out is_same so_far.within to (steps _ is i o of) (so_far.done i o of) new e;
  }

  pub next_fails : (e : Error) → found ≡ Err e → (i : Input) (o : plain.RunOptions) → IsRegexOf i text o r → FailsAfter i o text most e
  next_fails e is i o of = fails_after i o text most (write text) s out is_same e so_far.within (steps _ is i o of) (so_far.done i o of)

  pub next_easy : (e : Error) → found ≡ Err e → IsNoLimitWhereEasy r text e
  next_easy e is =
      easy_of_same r q text e so_far.same
      (subst (λ u. IsNoLimitWhereEasy q u e) so_far.within (subst (λ x. IfErr x (IsNoLimitWhereEasy q s.text.now)) is next.easy))

  pub next_stays : (e : Error) → found ≡ Err e → EndsBy e (passed_in p)
  next_stays e is = subst (λ x. StaysInCut s x p) is next.stays

  pub last_stays : found ≡ Ok None → passed_in p ≡ None
  last_stays is =
      ⊎_elim (λ e. ap passed_in (next.spent e) ∙ so_far.searched e) (subst (λ x. StaysInCut s x p) is next.stays) (is_spent s.limit)

  -- no match is left
  module _ (is : found ≡ Ok None) (i : Input) (o : plain.RunOptions) (of : IsRegexOf i text o r) where
    pub none_replaced : is_same ≡ true → to_replace i o text most ≡ []
    none_replaced =
        none_to_replace i o text most (write text) s t out is_same so_far.within to (steps _ is i o of) (so_far.done i o of)

    pub new_text : (new rest : List ℕ) → new ≡ out ++ rest → rest ≡ rest_of t → new ≡ rewrite (write text) text (to_replace i o text most)
    new_text = ends i o text most (write text) s t out is_same so_far.within to (steps _ is i o of) (so_far.done i o of)

    pub some_replaced : is_same ≡ false → ¬ (to_replace i o text most ≡ [])
    some_replaced = (so_far.done i o of).some

-- ---- the first matches lie apart too, so they join with the pieces between them

apart_take : (text : List ℕ) (last : Option ℕ) (n : ℕ) (ms : List (List ℕ)) → AreApart text last (map first_pair ms) →
    AreApart text last (map first_pair (take n ms))
apart_take text last zero ms apart = tt
apart_take text last (suc n) [] apart = tt
apart_take text last (suc n) (m ∷ ms) apart = (apart.0, (apart.1.0, apart_take text (Some (first_pair m).1) n ms apart.1.1))

apart_limit : (text : List ℕ) (limit : Option ℕ) (ms : List (List ℕ)) → AreApart text None (map first_pair ms) →
    AreApart text None (map first_pair (take_limit limit ms))
apart_limit text None ms apart = apart
apart_limit text (Some n) ms apart = apart_take text None n ms apart

limit_joins : (i : Input) (o : plain.RunOptions) (text : List ℕ) (limit : Option ℕ) → IsText text →
    PiecesJoin text (map first_pair (to_replace i o text limit))
limit_joins i o text limit is =
    let all = all_matches (plan i) text o in
    spans_join text (map first_pair (take_limit limit all)) (apart_limit text limit all (matches_apart (plan i) text o is))

pub most_join : (i : Input) (o : plain.RunOptions) (text : List ℕ) (limit : ℕ) → IsText text → 0 < limit →
    in_turn (most_pieces text limit i o) (map (part text) (take (limit - 1) (all_spans (plan i) text o))) ≡ text
most_join i o text zero is some = absurd (omega (arith, some))
most_join i o text (suc n) is some =
    let all = all_matches (plan i) text o in
    ap (λ k. in_turn (pieces_between text 0 (take n all)) (map (part text) (take k (map first_pair all)))) (omega arith)
    ∙ ap (λ spans. in_turn (pieces_between text 0 (take n all)) (map (part text) spans)) (take-map first_pair n all)
    ∙ limit_joins i o text (Some n) is

-- ---- each match in the place of itself

each_itself : (text : List ℕ) (replacement : List ℕ → List ℕ → List ℕ) → WritesMatch replacement text → (ms : List (List ℕ)) →
    map (replacement text) ms ≡ map (part text) (map first_pair ms)
each_itself text replacement w [] = refl
each_itself text replacement w (m ∷ ms) = ap₂ (λ x rest. x ∷ rest) (w m) (each_itself text replacement w ms)

pub itself : (i : Input) (o : plain.RunOptions) (text : List ℕ) (limit : Option ℕ) (write : List ℕ → List ℕ → List ℕ) → IsText text →
    WritesMatch write text → rewrite (write text) text (to_replace i o text limit) ≡ text
itself i o text limit write is w =
    let ms = to_replace i o text limit in
    ap (in_turn (pieces_between text 0 ms)) (each_itself text write w ms) ∙ limit_joins i o text limit is

-- ---- what is before the first match

begins_so : (text : List ℕ) (start : ℕ) (rest : List ℕ) → start ≤ length text → take start (slice_range text 0 start ++ rest) ≡ take start text
begins_so text start rest within =
    let same : start - 0 ≡ start = omega arith in
    ap (λ n. take start (take n text ++ rest)) same ∙ take_at (take start text) rest start (length-take-le start text within)

first_within : (text : List ℕ) (first : List ℕ) (others : List (List ℕ)) → AreApart text None (map first_pair (first ∷ others)) →
    (first_pair first).0 ≤ length text
first_within text first others apart = (is_place_parts text (first_pair first).0 apart.1.0.from).0

rewrite_begins : (text : List ℕ) (write : List ℕ → List ℕ) (limit : Option ℕ) (first : List ℕ) (others : List (List ℕ)) →
    (first_pair first).0 ≤ length text →
    take (first_pair first).0 (rewrite write text (take_limit limit (first ∷ others))) ≡ take (first_pair first).0 text
rewrite_begins text write None first others within =
    begins_so text (first_pair first).0 (write first ++ rest_rewrite write text (first_pair first).1 others) within
rewrite_begins text write (Some zero) first others within = ap (take (first_pair first).0) (sym (rewrite-none text write [] refl))
rewrite_begins text write (Some (suc n)) first others within =
    begins_so text (first_pair first).0 (write first ++ rest_rewrite write text (first_pair first).1 (take n others)) within

pub before : (i : Input) (o : plain.RunOptions) (text : List ℕ) (limit : Option ℕ) (write : List ℕ → List ℕ → List ℕ) → IsText text →
    KeepsBefore i o text (rewrite (write text) text (to_replace i o text limit))
before i o text limit write is first others e =
    let apart = subst (λ ms. AreApart text None (map first_pair ms)) e (matches_apart (plan i) text o is) in
    ap (λ ms. take (first_pair first).0 (rewrite (write text) text (take_limit limit ms))) e
    ∙ rewrite_begins text (write text) limit first others (first_within text first others apart)
