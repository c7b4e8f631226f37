-- What outcomes say as sentences for a reader, and why a pattern has no program.
use Rattle.std.specs.Prelude.{◌≡◌, ◌==◌, ◌⊎◌, ℕ, IsTrue, IsUtf8, List, [], ◌∷◌, ◌++◌, chars, codes, decimal, length, slice_index_or, string_bytes, unwrap_or, Some, if◌then◌else◌}
use Rattle.fancy_meaning.specs.Numbers.{usize_max}
use Rattle.fancy_expr.specs.declared.error.Error.{Error}
use Rattle.fancy_expr.specs.declared.error.Error.TheVariants as error
use Rattle.fancy_expr.specs.declared.error.CompileError.{CompileError}
use Rattle.fancy_expr.specs.declared.expr.ExprTree.{ExprTree}
use Rattle.fancy_faults.specs.Faults.{IsFaultOf}
use Rattle.fancy_faults.specs.declared.fault.Fault.{Fault}
use Rattle.fancy_pattern.specs.Spelling as spelling
use Rattle.fancy_pattern.specs.declared.error.PatternError.{PatternError}
use Rattle.fancy_search.specs.declared.search.Compiled.{Compiled}
use Rattle.fancy_search.specs.Searches.{IsCompiledFrom, IsNestedOver, IsRefusedAs}
use Rattle.fancy_host.specs.declared.options.FancyOptions.{FancyOptions}
use Rattle.fancy_host.specs.declared.outcome.FancyOutcome.{FancyOutcome}
use Rattle.fancy_host.specs.Codes.{memory}
use Rattle.fancy_host.specs.Hosted.{ExceedsAnalysisLimit, IsNoText, IsRead, IsUnanalysed, analysis, asked_of, ended, failure, has_size, parsing, pattern, pattern_failure}

-- the sentence of each code, from 0 up
abbrev pub sentences : List (List ℕ)
sentences =
    codes "there is no error"
    ∷ codes "nothing matches"
    ∷ codes "nothing was compiled"
    ∷ codes "the bytes are no UTF-8"
    ∷ codes "the options do not fit the text, or what was compiled"
    ∷ codes "out of memory"
    ∷ codes "the tree cannot be read"
    ∷ codes "too many branches failed"
    ∷ codes "too many branches were held"
    ∷ codes "too many instructions were executed"
    ∷ codes "if groups have names, references use the names"
    ∷ codes "this is not supported"
    ∷ codes "a call names a group that does not exist"
    ∷ codes "a reference names a group that does not exist"
    ∷ codes "there is no group"
    ∷ codes "a group calls itself before it matches a character"
    ∷ codes "the recursion never ends"
    ∷ codes "the body of a look-behind has no fixed length"
    ∷ codes "a class is invalid"
    ∷ codes "a class is too big"
    ∷ codes "the program exceeds its limit of instructions"
    ∷ codes "parentheses nest deeper than the limit"
    ∷ codes "the tree nests deeper than the limit"
    ∷ codes "a parenthesis is not closed: expected `)`"
    ∷ codes "this `)` closes no parenthesis"
    ∷ codes "the counts of a repetition are out of order or too large"
    ∷ codes "the pattern ends with a backslash: expected a character after it"
    ∷ codes "there is no escape with this letter"
    ∷ codes "a property has no name, or its `}` is missing"
    ∷ codes "expected a hexadecimal digit, or `}` after one to eight of them"
    ∷ codes "there is no character with this number"
    ∷ codes "a class is not closed: expected `]`"
    ∷ codes "this is not a flag: expected one of `imsxRUu`"
    ∷ codes "the flag `u` cannot be cleared"
    ∷ codes "this is not a group name: expected a letter, `_` or a number, and then what closes it"
    ∷ codes "several groups have this name, so it cannot be called, or more than 100 have it, so it cannot be referred to"
    ∷ codes "the number is too large"
    ∷ codes "there is nothing to repeat before this quantifier"
    ∷ codes "this is not a verb, or there are more than a million groups"
    ∷ codes "the options have the size of another version"
    ∷ codes "there is no room for the text"
    ∷ codes "too many states were visited"
    ∷ codes "too much memory was held"
    ∷ codes "the analysis of the pattern exceeds its limit"
    ∷ []

abbrev pub sentence_of : ℕ → List ℕ
sentence_of code = slice_index_or sentences code (codes "no error has this code")

-- where it is, if it is at a byte
abbrev pub at_byte : ℕ → List ℕ
at_byte byte = if byte == usize_max then [] else codes "at byte " ++ (decimal byte ++ codes ": ")

-- which group it is, if it is of one
abbrev pub of_group : ℕ → List ℕ
of_group group = if group == usize_max then [] else codes " " ++ decimal group

-- what an outcome says
abbrev pub message : FancyOutcome → List ℕ
message o = at_byte o.byte ++ (sentence_of o.code ++ of_group o.group)

-- what is said of a refusal of this pattern: where the piece is that is refused, if it is one, and why
pub record IsRefusal (o : FancyOptions) (pattern : List ℕ) (refused : CompileError) (text : List ℕ) : Type 0 where
  pub fault : Fault
  pub is : IsFaultOf (parsing o) (analysis o) pattern refused fault
  pub whole : text ≡ at_byte (unwrap_or fault.at usize_max) ++ string_bytes fault.message

-- what is said of an error of a pattern that was read
abbrev pub IsExplanation : FancyOptions → List ℕ → Error → List ℕ → Type 0
IsExplanation o bytes (error.CompileError refused) text = IsRefusal o bytes refused text
IsExplanation o bytes e text = text ≡ message (failure e)

-- why these bytes have no program as a pattern; an empty text where they have one
pub data Explains (bytes : List ℕ) (o : FancyOptions) : List ℕ → Type 0 where
  spells_no_text : {outcome : FancyOutcome} → IsNoText bytes o outcome → Explains bytes o (message outcome)
  unspelled : IsTrue (has_size o) → IsUtf8 bytes → (e : PatternError) → spelling.IsError (parsing o) (chars bytes) e →
      Explains bytes o (message (pattern_failure e))
  unanalysed : {outcome : FancyOutcome} → IsTrue (has_size o) → IsUtf8 bytes → (t : ExprTree) → IsRead (pattern bytes) o t →
      IsUnanalysed t o outcome → Explains bytes o (message outcome)
  refused : IsTrue (has_size o) → IsUtf8 bytes → (t : ExprTree) (e : Error) → IsRead (pattern bytes) o t →
      ¬ ExceedsAnalysisLimit t o → IsRefusedAs (asked_of t o) (Some o.max_nesting) e → {text : List ℕ} →
      IsExplanation o bytes e text → Explains bytes o text
  has_program : IsTrue (has_size o) → IsUtf8 bytes → (t : ExprTree) (c : Compiled) → IsRead (pattern bytes) o t →
      ¬ ExceedsAnalysisLimit t o → IsCompiledFrom (asked_of t o) c → ¬ IsNestedOver (asked_of t o) (Some o.max_nesting) →
      Explains bytes o []

-- A text that is right, or that memory for it ran out, is written over what is there, and so many bytes are all of it.
abbrev pub WritesText : (List ℕ → Type 0) → List ℕ → ℕ → List ℕ → Type 0
WritesText IsRight old count new =
    (text : List ℕ) × ((IsRight text ⊎ (text ≡ sentence_of memory)) × ((count ≡ length text) × (new ≡ ended text old)))

abbrev pub IsMessage : FancyOutcome → List ℕ → Type 0
IsMessage o text = text ≡ message o
