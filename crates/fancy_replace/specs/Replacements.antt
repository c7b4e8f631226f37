-- The text after a replacement, and why there is none.
use Rattle.std.specs.Prelude.{◌≡◌, ◌≢◌, ◌⊎◌, ℕ, Bool, true, false, List, [], ◌∷◌, length, take, IfErr, IfOk, MatchResult, Option, Result, Ok, Err}
use Rattle.std.specs.Cow.{cow_str_bytes, IsOwnedStr}
use Rattle.std.specs.declared.alloc.Global.{Global}
use Rattle.std.specs.declared.borrow.CowStr.{CowStr}
use Rattle.fancy_meaning.specs.Options as plain
use Rattle.fancy_meaning.specs.Premises.{Input, plan}
use Rattle.fancy_expr.specs.declared.error.Error.{Error}
use Rattle.fancy_expr.specs.declared.error.Error.TheVariants.{Memory}
use Rattle.fancy_steps.specs.Outcomes.{first_pair}
use Rattle.fancy_matches.specs.Listing.{ComesTo, Cursor, all_matches, at_start, part}
use Rattle.fancy_matches.specs.Matchers.{FailsAt, IsNoLimitWhereEasy, IsRegexOf, IsSame, StaysIn}
use Rattle.fancy_matches.specs.declared.matcher.Matcher.{Matcher}
use Rattle.fancy_replace.specs.Outputs.{Grows}
use Rattle.fancy_replace.specs.Pieces.{IsBelow, rewrite, take_limit}

module _ (i : Input) (o : plain.RunOptions) (text : List ℕ) (limit : Option ℕ) where
  -- the matches that are to be replaced
  abbrev pub to_replace : List (List ℕ)
  to_replace = take_limit limit (all_matches (plan i) text o)

  -- After matches that are fewer than the limit, a search that the list comes to before its next match answers this error.
  pub record FailsAfter (e : Error) : Type 0 where
    pub gone : List (List ℕ)
    pub below : IsBelow limit (length gone)
    pub cursor : Cursor
    pub comes : ComesTo (plan i) text o at_start gone cursor
    pub fails : FailsAt i text o cursor e

  -- The text with what is written for each of these matches in its place, and the text itself where there is none; or
  -- an error that a search answered, or want of memory.
  abbrev pub Replaces : (List ℕ → List ℕ → List ℕ) → Result (CowStr Global) Error → Type 0
  Replaces replacement (Ok v) =
      (cow_str_bytes v ≡ rewrite (replacement text) text to_replace) × (to_replace ≡ [] → ¬ (IsOwnedStr v))
  Replaces replacement (Err e) = FailsAfter e ⊎ (e ≡ Memory)

-- an output grew by the text with what is written for each match, or nothing was to be replaced and it grew by nothing
abbrev pub AppendsReplaced : {O : Type 0} → (O → ℕ → List ℕ → Type 0) → O → Input → plain.RunOptions → List ℕ → Option ℕ →
    (List ℕ → List ℕ → List ℕ) → Bool → O → Type 0
AppendsReplaced holds out i o text limit write true new =
    (to_replace i o text limit ≢ []) × Grows holds out (rewrite (write text) text (to_replace i o text limit)) new
AppendsReplaced holds out i o text limit write false new = (to_replace i o text limit ≡ []) × Grows holds out [] new

-- what is written for each match is the match itself
abbrev pub WritesMatch : (List ℕ → List ℕ → List ℕ) → List ℕ → Type 0
WritesMatch replacement text = (numbers : List ℕ) → replacement text numbers ≡ part text (first_pair numbers)

-- what is before the first match is as it was
abbrev pub KeepsBefore : Input → plain.RunOptions → List ℕ → List ℕ → Type 0
KeepsBefore i o text new =
    (first : List ℕ) (others : List (List ℕ)) → all_matches (plan i) text o ≡ first ∷ others →
    take (first_pair first).0 new ≡ take (first_pair first).0 text

-- A replacement of the first so many matches of a matcher, or of all, by what is written for each, answered this, and left
-- the matcher so.
pub record IsReplacement (r : Matcher) (text : List ℕ) (limit : Option ℕ) (write : List ℕ → List ℕ → List ℕ)
    (result : Result (CowStr Global) Error) (q : Matcher) : Type 0 where
  pub promise : (i : Input) (o : plain.RunOptions) → IsRegexOf i text o r → Replaces i o text limit write result
  pub before : (i : Input) (o : plain.RunOptions) → IsRegexOf i text o r →
      IfOk result (λ v. KeepsBefore i o text (cow_str_bytes v))
  -- each match in its own place leaves the text as it was
  pub itself : (i : Input) (o : plain.RunOptions) → IsRegexOf i text o r → WritesMatch write text →
      IfOk result (λ v. cow_str_bytes v ≡ text)
  pub easy : IfErr result (IsNoLimitWhereEasy r text)
  pub same : IsSame r q
  -- its last search passed no limit inside easy parts, or `Memory` is answered
  pub stays : StaysIn result q

-- The same, appended to an output that holds texts so. The answer says whether a match was replaced, and nothing is appended
-- where none was.
pub record IsReplacedInto {O : Type 0} (holds : O → ℕ → List ℕ → Type 0) (r : Matcher) (text : List ℕ) (limit : Option ℕ)
    (write : List ℕ → List ℕ → List ℕ) (out : O) (result : Result Bool Error) (q : Matcher) (new : O) : Type 0 where
  pub promise : (i : Input) (o : plain.RunOptions) → IsRegexOf i text o r → MatchResult result
      (λ is_replaced. AppendsReplaced holds out i o text limit write is_replaced new)
      (λ e. FailsAfter i o text limit e ⊎ (e ≡ Memory))
  pub easy : IfErr result (IsNoLimitWhereEasy r text)
  pub same : IsSame r q
  pub stays : StaysIn result q
