-- What the program does: which line it writes on which stream, and with which status.
use Rattle.std.specs.Prelude.{◌≡◌, ◌<◌, ◌≤◌, ℕ, Bool, List, length, Option, Some, None, Result, Ok, Err, string_bytes, if◌then◌else◌}
use Rattle.std.specs.declared.vec.Vec.{Vec}
use Rattle.std.specs.declared.string.String.{String}
use Rattle.std.specs.declared.alloc.Global.{Global}
use Rattle.fancy_notation.specs.Depth.{depth}
use Rattle.fancy_notation.specs.Described.{IsDescribed}
use Rattle.fancy_notation.specs.Grammar.{IsSpelled}
use Rattle.fancy_notation.specs.Lexing.{tokens_of}
use Rattle.fancy_notation.specs.Reading.{IsFault}
use Rattle.fancy_expr.specs.declared.error.Error.{Error}
use Rattle.fancy_expr.specs.declared.error.Error.TheVariants as error
use Rattle.fancy_expr.specs.declared.expr.ExprTree.{ExprTree}
use Rattle.fancy_expr.specs.Sound.{IsWellFormedTree}
use Rattle.fancy_expr.specs.Views.{tree_of}
use Rattle.fancy_command.specs.declared.command.Question.{Question}
use Rattle.fancy_command.specs.Arguments as line
use Rattle.fancy_command.specs.Arguments.{Text, question_of, analysis, compilation, running, most_nesting}
use Rattle.fancy_command.specs.Printing.{answer_line, depth_line, error_line, usage_line}
use Rattle.fancy_search.specs.Searches.{PromisesWithin, input_of}
use Rattle.fancy_command.specs.Writing.{Writes}

abbrev pub asked : Question → line.Question
asked q = record { tree = q.tree.now; text = q.text.now; arguments = q.arguments }

-- the tree that a text spells
abbrev pub IsRead : Text → ExprTree → Type 0
IsRead text t = IsSpelled (tokens_of text) (tree_of t.expr) × IsDescribed t × IsWellFormedTree t

-- the text spells no tree, or memory ran out
abbrev pub IsFaultOf : Text → Error → Type 0
IsFaultOf text e = IsFault (length text) (tokens_of text) e

-- TREE cannot be read, or the search for the tree that it spells answers as is promised
pub data AnswersTo (q : line.Question) : Result (Option (Vec ℕ Global)) Error → Type 0 where
  unread : {e : Error} → IsFaultOf q.tree e → AnswersTo q (Err e)
  searched : {answer : Result (Option (Vec ℕ Global)) Error} {t : ExprTree} → IsRead q.tree t →
      PromisesWithin (input_of t (analysis q.arguments) (compilation q.arguments)) (Some most_nesting) q.text
      (running q.arguments) answer →
      AnswersTo q answer

-- the line of the answer, or why there is none
abbrev pub Shows : line.Question → Result (String Global) Error → Type 0
Shows q (Ok shown) = (answer : Option (Vec ℕ Global)) × AnswersTo q (Ok answer) × (string_bytes shown ≡ answer_line answer)
Shows q (Err e) = AnswersTo q (Err e)

pub data Stream : Type 0 where
  StandardOutput StandardError : Stream

-- how deep TREE may nest
abbrev pub most_depth : ℕ
most_depth = 1_000

-- the line that words are answered with, the stream that it is written on, and the status once it is written
pub data Reports (words : List Text) : Stream → Text → ℕ → Type 0 where
  misused : question_of words ≡ None → Reports words StandardError usage_line 2
  too_deep : {q : line.Question} → question_of words ≡ Some q → most_depth < depth q.tree →
      Reports words StandardOutput depth_line 1
  answered : {q : line.Question} {answer : Option (Vec ℕ Global)} → question_of words ≡ Some q →
      depth q.tree ≤ most_depth → AnswersTo q (Ok answer) → Reports words StandardOutput (answer_line answer) 0
  refused : {q : line.Question} {e : Error} → question_of words ≡ Some q → depth q.tree ≤ most_depth →
      AnswersTo q (Err e) → Reports words StandardOutput (error_line e) 1

-- where a write failed the status is 3
abbrev pub status_after : Bool → ℕ → ℕ
status_after written status = if written then status else 3

-- the error was written by its name, or as want of memory, with this status
pub data WritesError (out out' : Option Text) (e : Error) : ℕ → Type 0 where
  by_name : {written : Bool} → Writes out out' (error_line e) written → WritesError out out' e (status_after written 1)
  as_memory : {written : Bool} → Writes out out' (error_line error.Memory) written →
      WritesError out out' e (status_after written 1)

-- What these words make the program write on standard output and standard error, from what either held to what it
-- holds, and the status.
pub data Performs (words : List Text) (out out' err err' : Option Text) : ℕ → Type 0 where
  on_output : {text : Text} {status : ℕ} {written : Bool} → Reports words StandardOutput text status →
      Writes out out' text written → err' ≡ err → Performs words out out' err err' (status_after written status)
  on_error : {text : Text} {status : ℕ} {written : Bool} → Reports words StandardError text status →
      Writes err err' text written → out' ≡ out → Performs words out out' err err' (status_after written status)
