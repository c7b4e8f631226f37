-- What compiling answers.
use Rattle.std.specs.Prelude.{◌≡◌, ℕ, List, ◌≤◌, true, [], ◌∷◌, length, Option, None, Result, Ok, Err}
use Rattle.std.specs.Option.{ForSome}
use Rattle.fancy_meaning.specs.Options as plain
use Rattle.fancy_meaning.specs.Options.{Analysis, Plan}
use Rattle.fancy_meaning.specs.Premises.{Analysed, analysis}
use Rattle.fancy_meaning.specs.AnalysisRefusals as refusal
use Rattle.fancy_meaning.specs.AnalysisRefusals.{AnalysisRefuses}
use Rattle.fancy_meaning.specs.CompileRefusals.{CompileRefuses, MayBeTooBig}
use Rattle.fancy_meaning.specs.Layout.{first_fresh, layout, program_code}
use Rattle.fancy_program.specs.Programs.{prog_of}
use Rattle.fancy_program.specs.declared.insn.Prog.{Prog}
use Rattle.fancy_expr.specs.declared.error.Error.{Error}
use Rattle.fancy_expr.specs.declared.error.Error.TheVariants as error
use Rattle.fancy_info.specs.declared.info.Info.{Info}
use Rattle.fancy_info.specs.Infos.{IsRoot}
use Rattle.fancy_compile.specs.declared.options.BytesMode.{BytesMode}
use Rattle.fancy_compile.specs.declared.options.BytesMode.TheVariants as code
use Rattle.fancy_compile.specs.declared.options.CompileOptions.{CompileOptions}
use Rattle.fancy_code.specs.Drafts.{Draft, Writes, is_easy}
use Rattle.fancy_code.specs.Nesting.{NestsOver}
use Rattle.fancy_code.specs.Sites.{top}
use Rattle.fancy_meaning.specs.OpenCalls.{no_calls}
use Rattle.fancy_expr.specs.Errors.{error_of}

abbrev pub mode_of : BytesMode → plain.BytesMode
mode_of code.Ascii = plain.Ascii
mode_of code.Unicode = plain.Unicode
mode_of code.UnicodeBytes = plain.UnicodeBytes

abbrev pub compile_options_of : CompileOptions → plain.CompileOptions
compile_options_of o = record {
  anchored = o.anchored;
  end_text = o.disallow_empty_match_at_eof_after_newline;
  bytes_mode = mode_of o.bytes_mode;
  unicode = o.unicode;
  max_prog_size = o.max_prog_size;
}

-- an analysed tree, compiled so
abbrev pub plan_with : Analysed → CompileOptions → Plan
plan_with a o = record { analysis = analysis a; options = compile_options_of o }

-- the root is what the analysis answered, which did not refuse the tree,
-- and the end-of-text option is set only where it was set there
pub record MayCompile (a : Analysed) (i : Info) (o : CompileOptions) : Type 0 where
  pub root : IsRoot (analysis a) i
  pub accepted : (error : refusal.CompileError) → ¬ AnalysisRefuses a.parsed a.options error
  pub end_text : o.disallow_empty_match_at_eof_after_newline ≡ true → ((analysis a).options).end_text ≡ true

module _ (p : Plan) where
  -- how many instructions the program has
  abbrev pub program_size : ℕ
  program_size = length (layout p).body

  abbrev pub Refuses : refusal.CompileError → Type 0
  Refuses x = CompileRefuses p program_size x

  -- refused, or a class text that `regex` finds too big
  pub data MayAnswer : refusal.CompileError → Type 0 where
    refuses : {x : refusal.CompileError} → Refuses x → MayAnswer x
    too_big : {inner : List ℕ} → MayBeTooBig p inner → MayAnswer (refusal.ClassTooBig inner)

-- compiled where at most so many nodes may stand in one another
module _ (p : Plan) (max_nesting : Option ℕ) where
  -- more do, where they are written out
  abbrev pub IsNestedOver : Type 0
  IsNestedOver = NestsOver p.analysis.tree no_calls max_nesting p.analysis.tree

  pub record IsCompiled (prog : Prog) : Type 0 where
    pub layout : prog_of prog ≡ layout p
    pub within : ¬ IsNestedOver
    pub small : ForSome p.max_prog_size (λ most. program_size p ≤ most)
    pub not_refused : (x : refusal.CompileError) → ¬ Refuses p x

  abbrev pub Compiles : Result Prog Error → Type 0
  Compiles (Ok prog) = IsCompiled prog
  Compiles (Err (error.CompileError x)) = MayAnswer p (error_of x)
  Compiles (Err error.Memory) = Unit {0}
  Compiles (Err (error.RuntimeError x)) = ⊥
  Compiles (Err (error.TreeFault at)) = ⊥
  Compiles (Err error.NestLimitExceeded) = IsNestedOver

  -- the whole program was written, from nothing
  abbrev pub IsWritingOf : Draft → Type 0
  IsWritingOf t =
      Writes (top p max_nesting) (program_code p (is_easy p.analysis)) (p.analysis.tree ∷ [])
      (record { instrs = []; fresh = first_fresh p; limit = p.max_prog_size; fault = None }) t
