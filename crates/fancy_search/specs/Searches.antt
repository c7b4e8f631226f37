-- The promise filled in for a search of the code: its input, its program, its reply, and what it was compiled from.
use Rattle.std.specs.Prelude.{◌≡◌, ◌≤◌, [], ◌∷◌, ℕ, Bool, true, false, ◌&&◌, ◌||◌, not, IfSome, List, Option, option_map, length, Result, Ok, Err}
use Rattle.std.specs.declared.vec.Vec.{Vec}
use Rattle.std.specs.declared.alloc.Global.{Global}
use Rattle.fancy_meaning.specs.Answer.{answer, search_of}
use Rattle.fancy_meaning.specs.Options as plain
use Rattle.fancy_meaning.specs.Places.{is_place}
use Rattle.fancy_meaning.specs.Sizes.{size}
use Rattle.fancy_meaning.specs.Config.{Outcome, BacktrackLimitExceeded, StackOverflow, StepLimitExceeded}
use Rattle.fancy_meaning.specs.Instr as plain_program
use Rattle.fancy_meaning.specs.Machine as machine
use Rattle.fancy_meaning.specs.WellFormed.{IsWellFormed}
use Rattle.fancy_meaning.specs.AnalysisRefusals.{CompileError, AnalysisRefuses}
use Rattle.fancy_meaning.specs.CompileRefusals.{CompileRefuses}
use Rattle.fancy_meaning.specs.Layout.{layout}
use Rattle.fancy_meaning.specs.Premises.{Input, plan, IsAccepted}
use Rattle.fancy_meaning.specs.Promise.{Limit, Backtracks, Branches, Instructions, Reply, Found, Refused, Passed, OutOfMemory, IsRefused, Promise}
use Rattle.fancy_expr.specs.declared.error.Error.{Error}
use Rattle.fancy_expr.specs.declared.error.Error.TheVariants as error
use Rattle.fancy_expr.specs.declared.error.RuntimeError.{RuntimeError}
use Rattle.fancy_expr.specs.declared.error.RuntimeError.TheVariants as limit
use Rattle.fancy_expr.specs.declared.expr.ExprTree.{ExprTree}
use Rattle.fancy_expr.specs.Views.{parsed_of, tree_of}
use Rattle.fancy_info.specs.declared.context.AnalyzeContext.{AnalyzeContext}
use Rattle.fancy_info.specs.Infos.{analysis_options_of}
use Rattle.fancy_steps.specs.Outcomes.{first_pair}
use Rattle.fancy_vm.specs.Bounds.{IfLimit, MayPass}
use Rattle.fancy_vm.specs.Means.{numbers_of}
use Rattle.fancy_program.specs.declared.insn.Prog.{Prog}
use Rattle.fancy_program.specs.Programs.{prog_of}
use Rattle.fancy_compile.specs.declared.options.CompileOptions.{CompileOptions}
use Rattle.fancy_compile.specs.Compiled.{compile_options_of, IsNestedOver as plan_nests_over}
use Rattle.fancy_expr.specs.Errors.{error_of}
use Rattle.fancy_search.specs.Needs.{IsNeededIn}
use Rattle.fancy_search.specs.Copies.{trees_in}
use Rattle.fancy_literals.specs.Starts.{AreStartsOf}
use Rattle.fancy_search.specs.declared.candidates.Candidates.{Candidates}
use Rattle.fancy_search.specs.declared.candidates.Candidates.TheVariants as candidates
use Rattle.fancy_starts.specs.Matches.{has_continue}
use Rattle.fancy_search.specs.declared.common.Common.{Common}
use Rattle.fancy_search.specs.declared.search.Compiled.{Compiled}
use Rattle.fancy_search.specs.declared.search.SearchOptions.{SearchOptions}

-- a tree that is handed in, with the options of its analysis and of the compiler
abbrev pub input_of : ExprTree → AnalyzeContext → CompileOptions → Input
input_of t context options = record {
  parsed = parsed_of t;
  analysis = analysis_options_of context;
  options = compile_options_of options;
}

-- the end-of-text option of the compiler is set only with that of the analysis
abbrev pub options_fit : AnalyzeContext → CompileOptions → Bool
options_fit context options =
    not options.disallow_empty_match_at_eof_after_newline || context.disallow_empty_match_at_eof_after_newline

-- The options fit each other, group 0 is implicit, the search begins at a place of the text, and only where the analysis
-- knew of it a match has to take something, or the longest one is asked for.
abbrev pub search_fits : SearchOptions → List ℕ → Bool
search_fits o text =
    options_fit o.analysis o.compilation && not (o.analysis).explicit_capture_group_0 && is_place text (o.run).pos
    && (not (o.run).not_empty || (o.analysis).find_not_empty) && (not (o.run).leftmost_longest || (o.analysis).leftmost_longest)

-- what a tree was compiled to
abbrev pub program : Compiled → Prog
program compiled = compiled.prog

-- the program of a tree and its options
abbrev pub program_of : Input → plain_program.Prog
program_of i = layout (plan i)

abbrev pub instructions_of : Input → ℕ
instructions_of i = length (program_of i).body

abbrev pub limit_of : RuntimeError → Limit
limit_of limit.BacktrackLimitExceeded = Backtracks
limit_of limit.StackOverflow = Branches
limit_of limit.StepLimitExceeded = Instructions

abbrev pub outcome_of : Limit → Outcome
outcome_of Backtracks = BacktrackLimitExceeded
outcome_of Branches = StackOverflow
outcome_of Instructions = StepLimitExceeded

module _ (i : Input) where
  -- a run of the tree's program on the text passes the limit
  abbrev pub Passes : List ℕ → plain.RunOptions → Limit → Type 0
  Passes text o l = machine.run (record { program = program_of i; text = text; options = o }) ≡ outcome_of l

  -- this reply is one that is promised
  abbrev pub MayReply : List ℕ → plain.RunOptions → Reply → Type 0
  MayReply text o reply = Promise i (instructions_of i) (Passes text o) text o reply

  -- a search of the text answers as is promised
  abbrev pub Promises : List ℕ → plain.RunOptions → Result (Option (Vec ℕ Global)) Error → Type 0
  Promises text o (Ok found) = MayReply text o (Found (numbers_of found))
  Promises text o (Err (error.CompileError e)) = MayReply text o (Refused (error_of e))
  Promises text o (Err (error.RuntimeError e)) = MayReply text o (Passed (limit_of e))
  Promises text o (Err error.Memory) = MayReply text o OutOfMemory
  Promises text o (Err (error.TreeFault at)) = ⊥
  Promises text o (Err error.NestLimitExceeded) = ⊥

  -- more nodes of the tree stand in one another, where they are written out, than the limit allows
  abbrev pub IsNestedOver : Option ℕ → Type 0
  IsNestedOver max_nesting = plan_nests_over (plan i) max_nesting

  -- a search that compiles the tree first, with this limit of nesting, answers as is promised
  abbrev pub PromisesWithin : Option ℕ → List ℕ → plain.RunOptions → Result (Option (Vec ℕ Global)) Error → Type 0
  PromisesWithin max_nesting text o (Err error.NestLimitExceeded) = IsNestedOver max_nesting
  PromisesWithin max_nesting text o result = Promises text o result

  -- where a search was made, to its end or to a limit that it passed, the tree stands within this limit of nesting
  abbrev pub IsMadeWithin : Option ℕ → Result (Option (Vec ℕ Global)) Error → Type 0
  IsMadeWithin max_nesting (Ok found) = ¬ IsNestedOver max_nesting
  IsMadeWithin max_nesting (Err (error.RuntimeError e)) = ¬ IsNestedOver max_nesting
  IsMadeWithin max_nesting (Err e) = Unit {0}

  -- where the whole tree is easy, a limit is answered only if it is below its bound
  abbrev pub Bounds : List ℕ → plain.RunOptions → Result (Option (Vec ℕ Global)) Error → Type 0
  Bounds text o result = IfLimit result (MayPass i text o)

  -- a search that answers the first pair of the numbers alone does so as is promised, and a limit only below its bound
  abbrev pub PromisesPair : List ℕ → plain.RunOptions → Result (Option (ℕ × ℕ)) Error → Type 0
  PromisesPair text o (Ok found) =
      IsAccepted i (instructions_of i) × (found ≡ option_map first_pair (answer (search_of (plan i) text o)))
  PromisesPair text o (Err e) = Promises text o (Err e) × Bounds text o (Err e)

  -- It is the tree, and searches for it are for the first match at any start.
  pub record IsCopied (c : Common) : Type 0 where
    pub tree : trees_in c ≡ (i.parsed).tree ∷ []
    pub unicode : c.unicode ≡ (i.options).unicode
    pub any_start : (i.options).anchored ≡ false
    pub any_end : (i.options).end_text ≡ false
    pub implicit : (i.analysis).explicit_capture_group_0 ≡ false

  -- no match begins elsewhere
  abbrev pub AreAllOf : Candidates → Type 0
  AreAllOf candidates.Everywhere = Unit {0}
  AreAllOf (candidates.At s) = AreStartsOf s (i.options).unicode (i.parsed).tree

  -- No match begins elsewhere, and no search depends on where it begins.
  pub record BeginsAt (c : Candidates) : Type 0 where
    pub all : AreAllOf c
    pub any_start : (i.options).anchored ≡ false
    pub no_continue : has_continue (plan i).analysis.tree ≡ false

  -- the tree is refused with the error, with this limit of nesting, or memory was
  abbrev pub IsRefusedAs : Option ℕ → Error → Type 0
  IsRefusedAs max_nesting (error.CompileError e) = IsRefused i (instructions_of i) (error_of e)
  IsRefusedAs max_nesting (error.RuntimeError e) = ⊥
  IsRefusedAs max_nesting error.Memory = Unit {0}
  IsRefusedAs max_nesting (error.TreeFault at) = ⊥
  IsRefusedAs max_nesting error.NestLimitExceeded = IsNestedOver max_nesting

  -- What was compiled is the program of the tree, which is well-formed, and no case to refuse it holds, whether group 0 is
  -- implicit or explicit.
  pub record IsCompiledFrom (compiled : Compiled) : Type 0 where
    pub well_formed : IsWellFormed i.parsed
    -- the option of `compile` is set only on a tree analysed with it
    pub same_end_text : (i.options).end_text ≡ true → (i.analysis).end_text ≡ true
    pub analysable : (error : CompileError) → ¬ AnalysisRefuses i.parsed i.analysis error
    pub compilable : (error : CompileError) → ¬ CompileRefuses (plan i) (instructions_of i) error
    pub program : prog_of (program compiled) ≡ program_of i
    -- each way of the tree takes as many characters
    pub least : compiled.min_size ≤ (size (plan i).analysis.tree (plan i).analysis.tree).least
    -- what it keeps for engines is the tree
    pub common : IfSome compiled.common IsCopied
    -- each match takes what it looks for
    pub needed : IfSome compiled.needed (IsNeededIn i)
    -- its matches begin at its candidates
    pub candidates : IfSome compiled.candidates BeginsAt

-- it was compiled from some tree
abbrev pub HasSource : Compiled → Type 0
HasSource compiled = ∥ ((i : Input) × IsCompiledFrom i compiled) ∥₁
