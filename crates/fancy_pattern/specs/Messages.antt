-- What is said of a pattern that cannot be read.
use Rattle.std.specs.Prelude.{◌++◌, ℕ, List, codes, decimal}
use Rattle.fancy_tokens.specs.declared.error.ErrorKind.{ErrorKind}
use Rattle.fancy_tokens.specs.declared.error.ErrorKind.TheVariants as kind
use Rattle.fancy_pattern.specs.declared.error.PatternError.{PatternError}
use Rattle.fancy_pattern.specs.declared.error.PatternError.TheVariants.{Memory, Parse}

-- what stands at a fault, and what was wanted
abbrev pub kind_text : ErrorKind → List ℕ
kind_text kind.UnclosedOpenParen = codes "a parenthesis is not closed: expected `)`"
kind_text kind.UnopenedCloseParen = codes "this `)` closes no parenthesis"
kind_text kind.InvalidRepeat = codes "the counts of a repetition are out of order or too large"
kind_text kind.RecursionExceeded = codes "parentheses nest deeper than 250"
kind_text kind.TrailingBackslash = codes "the pattern ends with a backslash: expected a character after it"
kind_text kind.InvalidEscape = codes "there is no escape with this letter"
kind_text kind.UnclosedUnicodeName = codes "a property has no name, or its `}` is missing"
kind_text kind.InvalidHex = codes "expected a hexadecimal digit, or `}` after one to eight of them"
kind_text kind.InvalidCodepointValue = codes "there is no character with this number"
kind_text kind.InvalidClass = codes "a class is not closed: expected `]`"
kind_text kind.UnknownFlag = codes "this is not a flag: expected one of `imsxRUu`"
kind_text kind.NonUnicodeUnsupported = codes "the flag `u` cannot be cleared"
kind_text kind.InvalidGroupName = codes "this is not a group name: expected a letter, `_` or a number, and then what closes it"
kind_text kind.InvalidGroupNameBackref =
    codes "several groups have this name, so it cannot be called, or more than 100 have it, so it cannot be referred to"
kind_text kind.InvalidBackref = codes "the number is too large"
kind_text kind.TargetNotRepeatable = codes "there is nothing to repeat before this quantifier"
kind_text kind.GeneralParseError = codes "this is not a verb, or there are more than a million groups"

-- the byte of the fault, and what is wrong there; or that there is no memory
abbrev pub error_text : PatternError → List ℕ
error_text (Parse at kind) = codes "at byte " ++ (decimal at ++ (codes ": " ++ kind_text kind))
error_text Memory = codes "out of memory"
