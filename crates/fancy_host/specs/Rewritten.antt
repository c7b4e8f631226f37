-- What a host is answered that asks for a text with matches replaced.
use Rattle.std.specs.Prelude.{◌≡◌, ◌≤◌, ◌<◌, ◌-◌, ◌==◌, ◌⊎◌, ℕ, Bool, IsFalse, IsTrue, IsUtf8, List, length, min, Option, None, Some, if◌then◌else◌}
use Rattle.std.specs.Str.Lossy.{utf8_valid_len}
use Rattle.fancy_meaning.specs.Numbers.{usize_max}
use Rattle.fancy_meaning.specs.Options.{RunOptions}
use Rattle.fancy_meaning.specs.Premises.{Input}
use Rattle.fancy_expr.specs.declared.error.Error.{Error}
use Rattle.fancy_expr.specs.declared.error.Error.TheVariants.{Memory}
use Rattle.fancy_search.specs.declared.search.Compiled.{Compiled}
use Rattle.fancy_search.specs.Searches.{IsCompiledFrom}
use Rattle.fancy_steps.specs.SearchLimits.{EndsBy}
use Rattle.fancy_steps.specs.declared.search_limits.SearchLimit.{SearchLimit}
use Rattle.fancy_replace.specs.Outputs.{Holds}
use Rattle.fancy_replace.specs.Pieces.{as_limit, rewrite}
use Rattle.fancy_replace.specs.Reading.{expansion}
use Rattle.fancy_replace.specs.Replacements.{FailsAfter, to_replace}
use Rattle.fancy_replace.specs.declared.output.BoundedText.{BoundedText}
use Rattle.fancy_host.specs.declared.options.FancyOptions.{FancyOptions}
use Rattle.fancy_host.specs.declared.outcome.FancyOutcome.{FancyOutcome}
use Rattle.fancy_host.specs.declared.tree.CompiledTree.{CompiledTree}
use Rattle.fancy_host.specs.Codes.{no_room, ok, unfit}
use Rattle.fancy_host.specs.Hosted.{IsNoSearch, IsSearch, coded, compiled_of, ended, failure_by, names_of, not_utf8, with_count}
use Rattle.fancy_host.specs.Lists.{list_fits, listing}

-- how many matches are replaced at most: 0 is no limit, and no text has so many matches as a word counts
abbrev pub most_of : ℕ → ℕ
most_of limit = if limit == 0 then usize_max else limit

-- What is written in the place of a match, by the text and the numbers of its groups: the replacement as it stands, or
-- what it says as a template.
abbrev pub writing : CompiledTree → Bool → List ℕ → List ℕ → List ℕ → List ℕ
writing t is_literal replacement =
    if is_literal then (λ text numbers. replacement) else expansion (names_of t) replacement

-- a tree that is compiled, a text, the options of all searches, how many matches are replaced, and what is written for
-- each
module _ (c : Compiled) (text : List ℕ) (o : RunOptions) (limit : Option ℕ) where
  -- the text with what is written for each of these matches in its place
  abbrev pub IsRewritten : (List ℕ → List ℕ → List ℕ) → List ℕ → Type 0
  IsRewritten write new = (i : Input) → IsCompiledFrom i c → new ≡ rewrite (write text) text (to_replace i o text limit)

  -- a search for one of these matches answers this error, as is promised, or memory is wanted
  abbrev pub FailsToRewrite : Error → Type 0
  FailsToRewrite e = ((i : Input) → IsCompiledFrom i c → FailsAfter i o text limit e) ⊎ (e ≡ Memory)

  -- as much of that text is kept as there is room for so many bytes, and all of its bytes are counted
  pub record HoldsRewritten (write : List ℕ → List ℕ → List ℕ) (room : ℕ) (kept : BoundedText) : Type 0 where
    pub new : List ℕ
    pub is : IsRewritten write new
    pub holds : Holds kept room new

-- for how many bytes of a text there is room with a zero at its end
abbrev pub text_room : List ℕ → ℕ
text_room old = length old - 1

-- What is written of a new text, and the outcome: as much as there is room for, with a zero at its end, and how many bytes
-- all of it has. There is room exactly where it fits with the zero.
pub data WritesNew (new old : List ℕ) : List ℕ → FancyOutcome → Type 0 where
  written : length new < length old → WritesNew new old (ended new old) (with_count (length new) (coded ok))
  has_no_room : length old ≤ length new →
      WritesNew new old (ended new old) (with_count (min usize_max (length new)) (coded no_room))

-- What a program writes of the new text, and the outcome, where the delegates of the last search passed this limit, or
-- none: it is unfit exactly where the options do not fit the program, and a limit of the delegates is told exactly where it
-- was passed.
pub data Replaces (t : CompiledTree) (text : List ℕ) (o : FancyOptions) (passed : Option SearchLimit) (limit : ℕ)
    (write : List ℕ → List ℕ → List ℕ) (old : List ℕ) : List ℕ → FancyOutcome → Type 0 where
  does_not_fit : IsFalse (list_fits t text o) → Replaces t text o passed limit write old old (coded unfit)
  replaced : {after : List ℕ} {outcome : FancyOutcome} → IsTrue (list_fits t text o) → (new : List ℕ) →
      IsRewritten (compiled_of t) text (listing o text) (as_limit limit) write new → WritesNew new old after outcome →
      passed ≡ None → Replaces t text o passed limit write old after outcome
  fails : IsTrue (list_fits t text o) → (e : Error) →
      FailsToRewrite (compiled_of t) text (listing o text) (as_limit limit) e → EndsBy e passed →
      Replaces t text o passed limit write old old (failure_by passed e)

-- what is replaced by a program that may hold no tree, in bytes that may be no text, by bytes that may be none
pub data ReplacesIn (text : List ℕ) (o : FancyOptions) (passed : Option SearchLimit) (limit : ℕ) (is_literal : Bool)
    (replacement old : List ℕ) : Option CompiledTree → List ℕ → FancyOutcome → Type 0 where
  unsearched : {held : Option CompiledTree} {outcome : FancyOutcome} → IsNoSearch text o held outcome →
      ReplacesIn text o passed limit is_literal replacement old held old outcome
  by_no_text : {held : Option CompiledTree} → IsSearch text o held → ¬ IsUtf8 replacement →
      ReplacesIn text o passed limit is_literal replacement old held old (not_utf8 (utf8_valid_len replacement))
  found : {t : CompiledTree} {new : List ℕ} {outcome : FancyOutcome} → IsSearch text o (Some t) → IsUtf8 replacement →
      Replaces t text o passed limit (writing t is_literal replacement) old new outcome →
      ReplacesIn text o passed limit is_literal replacement old (Some t) new outcome
