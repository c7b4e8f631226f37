-- How the rows of a list are written one after the other.
use Rattle.std.proofs.Common.{◌≡◌, ℕ, zero, suc, ◌+◌, ◌<◌, ◌≤◌, All, List, [], ◌∷◌, ◌++◌, length, drop, take, set, get_or, Option, Some, None, Result, Ok, Err, map, refl, sym, ap, ap₂, ◌∙◌, subst, arith, drop-cons, drop-drop, append_assoc, append-nil, length-append}
use Rattle.std.proofs.Math.Logic.{∥∥₁_elim}
use Rattle.std.proofs.Math.Seq.{drop-append_seam, set-append_seam, take-append-add, take-append_seam}
use Rattle.std.proofs.Props.{props}
use Rattle.std.proofs.lemmas.List.{flat_map_more, length-drop, map-append, take_all}
use Rattle.std.proofs.lemmas.List.Elements.{All-append, All-nil}
use Rattle.fancy_meaning.specs.Options.{RunOptions}
use Rattle.fancy_meaning.specs.Premises.{Input, IsText, plan}
use Rattle.fancy_expr.specs.declared.error.Error.{Error}
use Rattle.fancy_steps.specs.SearchLimits.{EndsBy}
use Rattle.fancy_steps.specs.declared.search_limits.SearchLimit.{SearchLimit}
use Rattle.fancy_search.specs.Searches.{HasSource, IsCompiledFrom}
use Rattle.fancy_search.specs.declared.search.Compiled.{Compiled}
use Rattle.fancy_matches.specs.Listing.{ComesTo, Cursor, stays}
use Rattle.fancy_matches.specs.Matchers.{StepsBy}
use Rattle.fancy_matches.proofs.Lists.{comes_left, comes_more}
use Rattle.fancy_host.specs.declared.outcome.FancyOutcome.{FancyOutcome}
use Rattle.fancy_host.specs.declared.tree.CompiledTree.{CompiledTree}
use Rattle.fancy_host.specs.Codes.{no_match, ok}
use Rattle.fancy_host.specs.Hosted.{coded, compiled_of, failure_by, over, over_from, with_count}
use Rattle.fancy_host.specs.Lists.{ComesBy, Form, Stops, Writes, fails, has_ended, is_full, numbers_of, row_of, width_of, writes}
use Rattle.fancy_host.proofs.Widths.{first_is_wide, row_is_wide}

-- ---- numbers over what is there

pub over_is : {X : Type 0} (new old : List X) → length new ≤ length old → over new old ≡ new ++ drop (length new) old
over_is new old fits = ap (λ xs. xs ++ drop (length new) old) (take_all (length old) new fits)

pub over_more : (new old : List ℕ) (x : ℕ) → length new < length old → set (over new old) (length new) x ≡ over (new ++ x ∷ []) old
over_more new old x fits =
    let before : length new ≤ length old = omega (arith, fits) in
    let more : length (new ++ x ∷ []) ≡ suc (length new) = omega (arith, length-append new (x ∷ [])) in
    let after : length (new ++ x ∷ []) ≤ length old = omega (arith, more, fits) in
    ap (λ xs. set xs (length new) x) (over_is new old before ∙ ap (λ ys. new ++ ys) (drop-cons old (length new) 0 fits))
    ∙ set-append_seam new (get_or old (length new) 0) (drop (suc (length new)) old) x
    ∙ sym (append_assoc new (x ∷ []) (drop (suc (length new)) old))
    ∙ ap (λ n. (new ++ x ∷ []) ++ drop n old) (sym more)
    ∙ sym (over_is (new ++ x ∷ []) old after)

-- what is written behind what was written
pub over_then : (new more old : List ℕ) → length new ≤ length old → over_from (length new) more (over new old) ≡ over (new ++ more) old
over_then new more old fits =
    let rest = drop (length new) old in
    let long : length old ≡ length new + length rest = omega (arith, length-drop (length new) old, fits) in
    let both : length (new ++ more) ≡ length new + length more = length-append new more in
    ap (over_from (length new) more) (over_is new old fits)
    ∙ ap₂ (λ front back. front ++ over more back) (take-append_seam new rest) (drop-append_seam new rest)
    ∙ ap (λ ys. new ++ (take (length rest) more ++ ys)) (drop-drop (length more) (length new) old)
    ∙ sym (append_assoc new (take (length rest) more) (drop (length new + length more) old))
    ∙ ap (λ xs. xs ++ drop (length new + length more) old) (sym (take-append-add new more (length rest)) ∙ ap (λ n. take n (new ++ more)) (sym long))
    ∙ ap (λ n. take (length old) (new ++ more) ++ drop n old) (sym both)

all_one : (P : List ℕ → Type 0) (x : List ℕ) → P x → (k : ℕ) (d : List ℕ) → k < 1 → P (get_or (x ∷ []) k d)
all_one P x h zero d one = h
all_one P x h (suc k) d one = absurd (omega (arith, one))

-- ---- steps of the loop

module _ (form : Form) (width : ℕ) (c : Compiled) (text : List ℕ) (o : RunOptions) where
  -- so many rows are written, up to this place, by which the list came from `from` to `to`
  pub record Written (from : Cursor) (old : List ℕ) (count at : ℕ) (to : Cursor) (new : List ℕ) : Type 0 where
    pub rows : List (List ℕ)
    pub counts : length rows ≡ count
    pub ends : length (numbers_of rows) ≡ at
    pub within : at ≤ length old
    pub few : count ≤ at
    pub wide : All (λ row. length row ≡ width) rows
    pub comes : ComesBy form width c text o from rows to
    pub are : new ≡ over (numbers_of rows) old

  pub none_written : (from : Cursor) (old : List ℕ) → Written from old 0 0 from old
  none_written from old = record {
    rows = [];
    counts = refl;
    ends = refl;
    within = omega arith;
    few = omega arith;
    wide = All-nil (λ row. length row ≡ width);
    comes = λ i h. ([], (refl, stays));
    are = sym (over_is [] old (omega arith));
  }

  then_by : (from at to : Cursor) (xs ys : List (List ℕ)) → ComesBy form width c text o from xs at → ComesBy form width c text o at ys to →
      ComesBy form width c text o from (xs ++ ys) to
  then_by from at to xs ys one two i h =
      let a = one i h in
      let b = two i h in (
        a.0 ++ b.0,
        (map-append (row_of form) a.0 b.0 ∙ ap₂ (λ us vs. us ++ vs) a.1.0 b.1.0, comes_more (plan i) text o a.1.1 b.1.1),
      )

  -- where a search for the next match came to
  module _ (is : IsText text) (from : Cursor) (old : List ℕ) (n place : ℕ) (at to : Cursor) (new : List ℕ) (w : Written from old n place at new)
      {A B : Type 0} (show : A → B) (seen : List ℕ → B)
      (result : Result (Option A) Error)
      (steps : (i : Input) → IsCompiledFrom i c → StepsBy i text o show seen at result to) where
    steps_so : (r : Result (Option A) Error) → result ≡ r → (i : Input) → IsCompiledFrom i c → StepsBy i text o show seen at r to
    steps_so r was i h = subst (λ x. StepsBy i text o show seen at x to) was (steps i h)

    -- a match was found, and this is its row
    module _ (x : A) (was : result ≡ Ok (Some x)) (row : List ℕ) (tells : (numbers : List ℕ) → show x ≡ seen numbers → row ≡ row_of form numbers) where
      by_one : ComesBy form width c text o at (row ∷ []) to
      by_one i h =
          let one = steps_so (Ok (Some x)) was i h in
          (one.numbers ∷ [], (ap (λ r. r ∷ []) (sym (tells one.numbers one.shows)), one.comes))

      pub is_wide : (s : CompiledTree) → compiled_of s ≡ c → width ≡ width_of form s → HasSource c → length row ≡ width
      is_wide s of wide source =
          ∥∥₁_elim source (Prim.hlevel props) (λ i.
          let one = steps_so (Ok (Some x)) was i.0 i.1 in
          let sized = first_is_wide (plan i.0) text o is one.comes in
          ap length (tells one.numbers one.shows)
          ∙ row_is_wide form s i.0 (subst (IsCompiledFrom i.0) (sym of) i.1) one.numbers sized ∙ sym wide)

      pub one_written : length row ≡ width → 0 < width → place + width ≤ length old → (newer : List ℕ) → newer ≡ over_from place row new →
          Written from old (n + 1) (place + width) to newer
      one_written long wide fits newer is_so =
          let rows = w.rows ++ row ∷ [] in
          let numbers : numbers_of w.rows ++ row ≡ numbers_of rows = flat_map_more (λ (r : List ℕ). r) [] w.rows row in
          let more = length-append (numbers_of w.rows) row in
          let same = ap length numbers in
          record {
            rows = rows;
            counts = omega (arith, length-append w.rows (row ∷ []), w.counts);
            ends = omega (arith, more, same, w.ends, long);
            within = fits;
            few = let few = w.few in omega (arith, few, wide);
            wide = All-append (λ r. length r ≡ width) w.rows (row ∷ []) w.wide (all_one (λ r. length r ≡ width) row long);
            comes = then_by from at to w.rows (row ∷ []) w.comes by_one;
            are =
                is_so ∙ ap₂ (λ k xs. over_from k row xs) (sym w.ends) w.are
                ∙ over_then (numbers_of w.rows) row old (let within = w.within in let ends = w.ends in omega (arith, ends, within))
                ∙ ap (λ xs. over xs old) numbers;
          }

    pub stops_ended : (passed : Option SearchLimit) → passed ≡ None → result ≡ Ok None →
        Stops form width c text o passed (length old) from w.rows to (coded no_match)
    stops_ended passed none_passed was =
        has_ended
        (λ i h. let a = w.comes i h in
        let none = (steps_so (Ok None) was i h).0 in
        ap (map (row_of form)) (comes_left (plan i) text o is a.1.1 ∙ ap (λ rest. a.0 ++ rest) none ∙ append-nil a.0) ∙ a.1.0)
        (λ i h. ap (map (row_of form)) (steps_so (Ok None) was i h).1)
        none_passed

    pub stops_failed : (passed : Option SearchLimit) (e : Error) → EndsBy e passed → result ≡ Err e →
        Stops form width c text o passed (length old) from w.rows to (failure_by passed e)
    stops_failed passed e ends was =
        fails e
        (λ i h. let a = w.comes i h in (
          a.0,
          (
            a.1.0,
            subst (λ ms. ComesTo (plan i) text o from ms to) (append-nil a.0)
                (comes_more (plan i) text o a.1.1 (steps_so (Err e) was i h).0),
          ),
        ))
        (λ i h. (steps_so (Err e) was i h).1)
        ends

  module _ (from : Cursor) (old : List ℕ) (n place : ℕ) (at to : Cursor) (new : List ℕ) (w : Written from old n place at new) where
    pub stops_full : (passed : Option SearchLimit) → passed ≡ None → length old < place + width →
        Stops form width c text o passed (length old) from w.rows at (coded ok)
    stops_full passed none_passed full = is_full (let ends = w.ends in omega (arith, ends, full)) w.comes none_passed

    pub writes_so : (passed : Option SearchLimit) (reason outcome : FancyOutcome) →
        Stops form width c text o passed (length old) from w.rows to reason →
        outcome ≡ with_count n reason → Writes form width c text o passed from old to new outcome
    writes_so passed reason outcome stop is =
        subst (λ xs. Writes form width c text o passed from old to xs outcome) (sym w.are)
        (subst (λ x. Writes form width c text o passed from old to (over (numbers_of w.rows) old) x) (ap (λ k. with_count k reason) w.counts ∙ sym is)
        (writes w.rows w.wide (let within = w.within in let ends = w.ends in omega (arith, ends, within)) stop))
