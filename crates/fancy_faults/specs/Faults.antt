-- The fault of a pattern that is refused: its place and its sentence.
use Rattle.std.specs.Prelude.{◌≡◌, ℕ, List, chars, string_bytes, Option, None, option_map, option_and_then, slice_get}
use Rattle.fancy_expr.specs.Exprs.{exprs}
use Rattle.fancy_expr.specs.declared.error.CompileError.{CompileError}
use Rattle.fancy_expr.specs.declared.error.CompileError.TheVariants as refusal
use Rattle.fancy_expr.specs.declared.expr.ExprTree.{ExprTree}
use Rattle.fancy_info.specs.declared.context.AnalyzeContext.{AnalyzeContext}
use Rattle.fancy_pattern.specs.Spelling.{IsError, IsTreeOf}
use Rattle.fancy_pattern.specs.declared.error.PatternError.TheVariants as of_parser
use Rattle.fancy_pattern.specs.declared.options.ParseOptions.{ParseOptions}
use Rattle.fancy_faults.specs.Blame.{IsBlamed}
use Rattle.fancy_faults.specs.Leaves.{AreLeafSpans, leaves_before}
use Rattle.fancy_faults.specs.Words.{Says}
use Rattle.fancy_faults.specs.declared.fault.Fault.{Fault}
use Rattle.fancy_faults.specs.declared.fault.TreeFault.{TreeFault}

-- the sentence is that of the node that is blamed, and so many leaves with a span are before it
pub record IsTreeFault (t : ExprTree) (context : AnalyzeContext) (refused : CompileError)
    (fault : TreeFault) : Type 0 where
  pub node : Option ℕ
  pub blamed : IsBlamed t context refused node
  pub leaf : fault.leaf ≡ option_map (leaves_before (exprs t.expr)) node
  pub says : Says refused (option_and_then (slice_get (exprs t.expr)) node) (string_bytes fault.message)

-- where the leaf with this index begins
abbrev pub start_of : List (ℕ × ℕ) → Option ℕ → Option ℕ
start_of spans leaf = option_map (λ span. span.0) (option_and_then (slice_get spans) leaf)

-- The place is where this leaf begins. That a name is wanted in place of a number is said of some leaf, or of none.
abbrev pub IsPlace : CompileError → List (ℕ × ℕ) → Option ℕ → Option ℕ → Type 0
IsPlace refusal.NamedBackrefOnly spans leaf at = (other : Option ℕ) × (at ≡ start_of spans other)
IsPlace refused spans leaf at = at ≡ start_of spans leaf

-- the fault of a tree that the pattern spells
pub record IsFaultIn (t : ExprTree) (parsing : ParseOptions) (context : AnalyzeContext) (pattern : List ℕ)
    (refused : CompileError) (fault : Fault) : Type 0 where
  pub leaf : Option ℕ
  pub of_tree : IsTreeFault t context refused (record { leaf = leaf; message = fault.message })
  pub spans : List (ℕ × ℕ)
  pub of_leaves : AreLeafSpans parsing pattern spans
  pub place : IsPlace refused spans leaf fault.at

-- why the pattern is refused, and where; a pattern that cannot be read has no node
pub data IsFaultOf (parsing : ParseOptions) (context : AnalyzeContext) (pattern : List ℕ) (refused : CompileError)
    : Fault → Type 0 where
  in_tree : (t : ExprTree) → IsTreeOf parsing (chars pattern) t → {fault : Fault} →
      IsFaultIn t parsing context pattern refused fault → IsFaultOf parsing context pattern refused fault
  unread : {at : ℕ} {kind : _} → IsError parsing (chars pattern) (of_parser.Parse at kind) → {fault : Fault} →
      fault.at ≡ None → Says refused None (string_bytes fault.message) → IsFaultOf parsing context pattern refused fault
