-- A count of all matches goes on from match to match.
use Rattle.std.proofs.Common.{◌≡◌, ◌≤◌, ℕ, suc, List, [], ◌∷◌, ◌++◌, length, Option, Some, None, Result, Ok, Err, refl, sym, ap, ◌∙◌, subst, arith, append-nil}
use Rattle.std.proofs.Math.Logic.{∥∥₁_elim}
use Rattle.std.proofs.lemmas.List.{length-append}
use Rattle.std.specs.Coded.{le_prop}
use Rattle.fancy_meaning.specs.Numbers.{usize_max}
use Rattle.fancy_meaning.specs.Options as plain
use Rattle.fancy_meaning.specs.Premises.{Input, IsText, plan}
use Rattle.fancy_expr.specs.declared.error.Error.{Error}
use Rattle.fancy_matches.specs.Listing.{ComesTo, Cursor, at_start, left, stays}
use Rattle.fancy_matches.specs.Matchers.{Counts, GivesMatch, IsNoLimitWhereEasy, IsRegexOf, IsSame, Iteration, compiled_of, options_in}
use Rattle.fancy_matches.specs.declared.found.Match.{Match}
use Rattle.fancy_matches.specs.declared.matcher.Matcher.{Matcher}
use Rattle.fancy_matches.proofs.Easy.{easy_of_same}
use Rattle.fancy_matches.proofs.Lists.{all_most, comes_left, comes_more}
use Rattle.fancy_matches.proofs.Stepping.{of_same, same_twice}

-- by so many matches the list of a matcher came to where it stands
pub record Counted (i : Input) (text : List ℕ) (o : plain.RunOptions) (count : ℕ) (s : Cursor) : Type 0 where
  pub gone : List (List ℕ)
  pub counts : length gone ≡ count
  pub comes : ComesTo (plan i) text o at_start gone s

pub record HasCounted (r : Matcher) (text : List ℕ) (count : ℕ) (s : Iteration) : Type 0 where
  pub same : IsSame r s.matcher.now
  pub within : s.text ≡ text
  pub so_far : (i : Input) (o : plain.RunOptions) → IsRegexOf i text o r → Counted i text o count s.cursor

pub none_counted : (r : Matcher) (text : List ℕ) (s : Iteration) → s.matcher.now ≡ r → s.text ≡ text → s.cursor ≡ at_start →
    HasCounted r text 0 s
none_counted r text s is within first = record {
  same = (ap compiled_of is, ap (λ (x : Matcher). x.options) is);
  within = within;
  so_far = λ i o h. record { gone = []; counts = refl; comes = subst (λ t. ComesTo (plan i) text o at_start [] t) (sym first) stays };
}

module _ (r : Matcher) (text : List ℕ) (is : IsText text) (count : ℕ) (s t : Iteration) (so_far : HasCounted r text count s)
    (item : Option (Result Match Error))
    (gives : (i : Input) (o : plain.RunOptions) → IsRegexOf i s.text o s.matcher.now → GivesMatch i s.text o s.cursor item t.cursor) where
  gives_so : (x : Option (Result Match Error)) → item ≡ x → (i : Input) (o : plain.RunOptions) → IsRegexOf i text o r →
      GivesMatch i text o s.cursor x t.cursor
  gives_so x was i o h =
      subst (λ y. GivesMatch i text o s.cursor y t.cursor) was
      (subst (λ u. GivesMatch i u o s.cursor item t.cursor) so_far.within
      (gives i o (subst (λ u. IsRegexOf i u o s.matcher.now) (sym so_far.within) (of_same r s.matcher.now i text o so_far.same h))))

  module _ (m : Match) (was : item ≡ Some (Ok m)) where
    next : (i : Input) (o : plain.RunOptions) → IsRegexOf i text o r → Counted i text o (suc count) t.cursor
    next i o h =
        let before = so_far.so_far i o h in
        let one = gives_so (Some (Ok m)) was i o h in
        record {
          gone = before.gone ++ one.numbers ∷ [];
          counts = omega (arith, before.counts, length-append before.gone (one.numbers ∷ []));
          comes = comes_more (plan i) text o before.comes one.comes;
        }

    pub goes_on : (n : ℕ) → n ≡ suc count → t.text ≡ s.text → IsSame s.matcher.now t.matcher.now → HasCounted r text n t
    goes_on n more within same = record {
      same = same_twice r s.matcher.now t.matcher.now so_far.same same;
      within = within ∙ so_far.within;
      so_far = λ i o h. subst (λ k. Counted i text o k t.cursor) (sym more) (next i o h);
    }

    -- there are no more matches than places
    pub fits : suc count ≤ usize_max
    fits =
        ∥∥₁_elim r.source le_prop (λ of.
        let o = options_in r text in
        let h = next of.0 o (record { compiled = of.1; options = refl }) in
        let all = ap (λ (xs : List (List ℕ)). length xs) (comes_left (plan of.0) text o is h.comes) in
        let most = all_most (plan of.0) text o is in
        let small = is.fits in
        omega (arith, all, most, small, h.counts, length-append h.gone (left (plan of.0) text o t.cursor)))

  pub all_counted : item ≡ None → (i : Input) (o : plain.RunOptions) → IsRegexOf i text o r → Counts i text o (Ok count)
  all_counted was i o h =
      let before = so_far.so_far i o h in
      sym before.counts
      ∙ ap (λ (xs : List (List ℕ)). length xs)
      (sym (comes_left (plan i) text o is before.comes ∙ ap (λ rest. before.gone ++ rest) (gives_so None was i o h).0 ∙ append-nil before.gone))

  pub count_fails : (e : Error) → item ≡ Some (Err e) → (i : Input) (o : plain.RunOptions) → IsRegexOf i text o r → Counts i text o (Err e)
  count_fails e was i o h =
      let before = so_far.so_far i o h in
      let fails = (gives_so (Some (Err e)) was i o h).0 in
      record {
        gone = before.gone ++ [];
        cursor = fails.cursor;
        comes = comes_more (plan i) text o before.comes fails.comes;
        fails = fails.fails;
      }

  pub count_easy : (e : Error) → IsNoLimitWhereEasy s.matcher.now s.text e → IsNoLimitWhereEasy r text e
  count_easy e h = easy_of_same r s.matcher.now text e so_far.same (subst (λ u. IsNoLimitWhereEasy s.matcher.now u e) so_far.within h)
