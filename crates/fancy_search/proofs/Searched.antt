-- A search by the engine's calls answers as is promised.
use Rattle.std.proofs.Common.{[], ◌∷◌, ◌≡◌, ℕ, Bool, true, false, not, ◌&&◌, ◌||◌, List, length, Option, Some, None, Result, Ok, Err, refl, sym, ap, ◌∙◌, subst, le-leb, arith}
use Rattle.std.specs.Prelude.{IfOk, IfSome, IsUtf8}
use Rattle.std.specs.declared.vec.Vec.{Vec}
use Rattle.std.specs.declared.alloc.Global.{Global}
use Rattle.std.proofs.lemmas.Bool.{and_parts, and_from}
use Rattle.std.proofs.lemmas.Option.{IfSome_then}
use Rattle.std.proofs.lemmas.Str.{IsCharBoundary-start}
use Rattle.std.specs.Str.{IsCharBoundary}
use Rattle.regex.proofs.Utf8Lemmas.{test_of_IsCharBoundary}
use Rattle.fancy_meaning.specs.Answer.{answer, search_of}
use Rattle.fancy_meaning.specs.Instr as plain_program
use Rattle.fancy_meaning.specs.Layout.{layout}
use Rattle.fancy_meaning.specs.Machine as machine
use Rattle.fancy_meaning.specs.Fits.{run_fits}
use Rattle.fancy_meaning.specs.Places.{is_place}
use Rattle.fancy_meaning.specs.Options.{AnalysisOptions}
use Rattle.fancy_meaning.specs.Premises.{Analysed, Input, analysis, plan, tree_of as analysed_tree, IsAccepted}
use Rattle.fancy_meaning.specs.Sizes.{Size, size}
use Rattle.fancy_meaning.specs.Promise.{IsRefused, by_analysis, by_compiler, by_regex}
use Rattle.fancy_expr.specs.declared.error.Error.{Error}
use Rattle.fancy_expr.specs.declared.error.Error.TheVariants as error
use Rattle.fancy_expr.specs.declared.error.RuntimeError.{RuntimeError}
use Rattle.fancy_expr.specs.declared.error.RuntimeError.TheVariants as limit
use Rattle.fancy_expr.specs.declared.expr.ExprTree.{ExprTree}
use Rattle.fancy_expr.specs.Sound.{IsWellFormedTree}
use Rattle.fancy_expr.specs.Views.{parsed_of, tree_of}
use Rattle.fancy_info.specs.declared.context.AnalyzeContext.{AnalyzeContext}
use Rattle.fancy_info.specs.declared.info.Info.{Info}
use Rattle.fancy_analysis.specs.Analyses.{IsAnalysisOf, IsRefusedAs}
use Rattle.fancy_info.specs.Infos.{analysis_options_of, info_size}
use Rattle.fancy_program.proofs.FitsLaws.{run_implicit}
use Rattle.fancy_program.specs.declared.insn.Prog.{Prog}
use Rattle.fancy_steps.specs.declared.options.RunOptions.{RunOptions}
use Rattle.fancy_vm.specs.Means.{IsMeaning, numbers_of}
use Rattle.fancy_steps.specs.Outcomes.{RunAnswers}
use Rattle.fancy_steps.specs.Stops.{outcome_of}
use Rattle.fancy_program.specs.Programs.{prog_of}
use Rattle.fancy_steps.specs.Tasks.{task_of, options_of as run_options_of}
use Rattle.fancy_compile.specs.declared.options.CompileOptions.{CompileOptions}
use Rattle.fancy_compile.proofs.Known.{size_known}
use Rattle.fancy_compile.proofs.Roots.{root_known}
use Rattle.fancy_compile.specs.Compiled.{Compiles, MayAnswer, MayCompile, plan_with, refuses, too_big}
use Rattle.fancy_search.specs.Copies.{IsCopyOf}
use Rattle.fancy_search.specs.Needs.{IsNeededBy, IsNeededIn}
use Rattle.fancy_search.specs.declared.common.Common.{Common}
use Rattle.fancy_search.specs.declared.needed.Needed.{Needed}
use Rattle.fancy_search.specs.declared.search.Compiled.{Compiled}
use Rattle.fancy_search.specs.Searches as searches
use Rattle.fancy_search.specs.declared.search.SearchOptions.{SearchOptions}
use Rattle.fancy_search.specs.declared.candidates.Candidates.{Candidates}
use Rattle.fancy_search.specs.Searches.{BeginsAt, IsCompiledFrom, IsCopied, IsMadeWithin, IsNestedOver, Promises, PromisesWithin, input_of, limit_of, program, program_of, instructions_of, options_fit, search_fits}

-- where a character begins or the text ends, the test for a place says yes
pub place_of : (text : List ℕ) (i : ℕ) → IsCharBoundary text i → is_place text i ≡ true
place_of text i h = and_from _ _ (le-leb _ _ h.0) (test_of_IsCharBoundary text i h)

implied : (b c : Bool) → (not b || c) ≡ true → b ≡ true → c ≡ true
implied true c h e = h
implied false c h e = cc

none_of : (b : Bool) → not b ≡ true → b ≡ false
none_of true e = cc
none_of false e = refl

module _ (t : ExprTree) (context : AnalyzeContext) (o : CompileOptions) (ok : IsWellFormedTree t) (fits : options_fit context o ≡ true) where
  abbrev pub analysed : Analysed
  analysed = record { parsed = parsed_of t; options = analysis_options_of context; well_formed = ok.0 }

  abbrev input : Input
  input = input_of t context o

  same_end_text : o.disallow_empty_match_at_eof_after_newline ≡ true → context.disallow_empty_match_at_eof_after_newline ≡ true
  same_end_text = implied _ _ fits

  pub may_compile : (i : Info) → IsAnalysisOf t (analysis_options_of context) i → MayCompile analysed i o
  may_compile i h = record { root = h.root; accepted = h.accepted; end_text = same_end_text }

  -- the refusal of the analysis
  pub analysis_refused : (e : Error) → IsRefusedAs (parsed_of t) (analysis_options_of context) e → searches.IsRefusedAs input o.max_nesting e
  analysis_refused (error.CompileError e) h = by_analysis h
  analysis_refused (error.RuntimeError e) h = h
  analysis_refused error.Memory h = h
  analysis_refused (error.TreeFault at) h = h
  analysis_refused error.NestLimitExceeded h = absurd h

  may_answer : {e : _} → MayAnswer (plan input) e → IsRefused input (instructions_of input) e
  may_answer (refuses h) = by_compiler h
  may_answer (too_big h) = by_regex h

  -- the refusal of the compiler
  pub compiler_refused : (e : Error) → Compiles (plan_with analysed o) o.max_nesting (Err e) → searches.IsRefusedAs input o.max_nesting e
  compiler_refused (error.CompileError e) h = may_answer h
  compiler_refused (error.RuntimeError e) h = h
  compiler_refused error.Memory h = h
  compiler_refused (error.TreeFault at) h = h
  compiler_refused error.NestLimitExceeded h = h

  -- so is what is kept of the tree for engines
  copied : (i : Info) → IsAnalysisOf t (analysis_options_of context) i → (common : Option Common) → IfSome common (IsCopyOf i o) →
      IfSome common (IsCopied input)
  copied i h None is = tt
  copied i h (Some common) is = record {
    tree = is.tree ∙ ap (λ e. tree_of e ∷ []) h.expr;
    unicode = is.unicode;
    any_start = is.any_start;
    any_end = is.any_end;
    implicit = sym (ap (λ (x : AnalysisOptions). x.explicit_capture_group_0) ((h.root).node).options) ∙ is.implicit;
  }

  pub compiled_from : (i : Info) (prog : Prog) (least : ℕ) (common : Option Common) (needed : Option Needed) (candidates : Option Candidates) →
      least ≡ (info_size i).least →
      IsAnalysisOf t (analysis_options_of context) i → Compiles (plan_with analysed o) o.max_nesting (Ok prog) → IfSome common (IsCopyOf i o) →
      IfSome needed (IsNeededBy o.unicode (tree_of t.expr)) → IfSome candidates (BeginsAt input) →
      IsCompiledFrom input
      (record { prog = prog; min_size = least; common = common; needed = needed; candidates = candidates })
  compiled_from i prog least common needed candidates is h compiled copy takes begins = record {
    well_formed = ok.0;
    same_end_text = same_end_text;
    analysable = h.accepted;
    compilable = compiled.not_refused;
    program = compiled.layout;
    least =
        let whole = analysed_tree analysed in
        let same = is ∙ ap (λ (z : Size). z.least)
        (size_known i (analysis analysed) (root_known analysed i h.root) ∙ ap (size whole) (h.root).tree) in
        omega (arith, same);
    common = copied i h common copy;
    needed = IfSome_then needed takes (λ n of. of input refl refl);
    candidates = begins;
  }

-- where group 0 is implicit, the tree is accepted
pub accepted_of : (i : Input) (compiled : Compiled) → IsCompiledFrom i compiled → (i.analysis).explicit_capture_group_0 ≡ false →
    IsAccepted i (instructions_of i)
accepted_of i compiled from implicit = record {
  well_formed = from.well_formed;
  same_end_text = from.same_end_text;
  analysed = from.analysable;
  compiled = from.compilable;
  implicit_group_0 = implicit;
}

passes_of : (l : RuntimeError) → outcome_of l ≡ searches.outcome_of (limit_of l)
passes_of limit.BacktrackLimitExceeded = refl
passes_of limit.StackOverflow = refl
passes_of limit.StepLimitExceeded = refl

module _ (i : Input) (compiled : Compiled) (text : List ℕ) (o : RunOptions) (from : IsCompiledFrom i compiled)
    (fits : run_fits (task_of (program compiled) text o) ≡ true) where
  abbrev prog : plain_program.Prog
  prog = prog_of (program compiled)

  implicit : (i.analysis).explicit_capture_group_0 ≡ false
  unfolding layout
  implicit = sym (ap (λ (p : plain_program.Prog). p.explicit_group_0) from.program) ∙ run_implicit (task_of (program compiled) text o) fits

  pub accepted_input : IsAccepted i (instructions_of i)
  accepted_input = accepted_of i compiled from implicit

  pub accepted : IsAccepted i (length prog.body)
  accepted = subst (λ (p : plain_program.Prog). IsAccepted i (length p.body)) (sym from.program) accepted_input

  -- a run of the tree's program answers as is promised
  pub run_promises : (result : Result (Option (Vec ℕ Global)) Error) → RunAnswers (machine.run (task_of (program compiled) text o)) result →
      IfOk result (λ found. IsMeaning prog text (run_options_of o) (numbers_of found)) → Promises i text (run_options_of o) result
  run_promises (Ok None) answers means = (accepted_input, means.answers i accepted from.program)
  run_promises (Ok (Some numbers)) answers means = (accepted_input, means.answers i accepted from.program)
  run_promises (Err (error.RuntimeError l)) answers means = (
    accepted_input,
    sym (ap (λ p. machine.run (record { program = p; text = text; options = run_options_of o })) from.program) ∙ answers ∙ passes_of l,
  )
  run_promises (Err error.Memory) answers means = tt
  run_promises (Err (error.CompileError e)) answers means = absurd answers
  run_promises (Err (error.TreeFault at)) answers means = absurd answers
  run_promises (Err error.NestLimitExceeded) answers means = absurd answers

  -- so does a search that nothing is run for, since there is no match
  pub none_promises : answer (search_of (plan i) text (run_options_of o)) ≡ None → Promises i text (run_options_of o) (Ok None)
  none_promises none = (accepted_input, sym none)

-- a refusal is one that is promised
pub refusal_promises : (i : Input) (most : Option ℕ) (text : List ℕ) (o : RunOptions) (e : Error) → searches.IsRefusedAs i most e →
    PromisesWithin i most text (run_options_of o) (Err e)
refusal_promises i most text o (error.CompileError e) h = h
refusal_promises i most text o (error.RuntimeError e) h = absurd h
refusal_promises i most text o error.Memory h = tt
refusal_promises i most text o (error.TreeFault at) h = absurd h
refusal_promises i most text o error.NestLimitExceeded h = h

-- what was compiled is no more refused for how it nests
pub promised_within : (i : Input) (most : Option ℕ) (text : List ℕ) (o : RunOptions) (r : Result (Option (Vec ℕ Global)) Error) →
    Promises i text (run_options_of o) r → PromisesWithin i most text (run_options_of o) r
promised_within i most text o (Ok found) h = h
promised_within i most text o (Err (error.CompileError e)) h = h
promised_within i most text o (Err (error.RuntimeError e)) h = h
promised_within i most text o (Err error.Memory) h = h
promised_within i most text o (Err (error.TreeFault at)) h = h
promised_within i most text o (Err error.NestLimitExceeded) h = absurd h

-- a refusal is no search that was made
pub refusal_made_within : (i : Input) (most : Option ℕ) (e : Error) → searches.IsRefusedAs i most e → IsMadeWithin i most (Err e)
refusal_made_within i most (error.CompileError e) h = tt
refusal_made_within i most (error.RuntimeError e) h = absurd h
refusal_made_within i most error.Memory h = tt
refusal_made_within i most (error.TreeFault at) h = absurd h
refusal_made_within i most error.NestLimitExceeded h = tt

-- what was compiled stands within the limit of nesting, whatever a search for it answers
pub made_within : (i : Input) (most : Option ℕ) (r : Result (Option (Vec ℕ Global)) Error) → ¬ IsNestedOver i most → IsMadeWithin i most r
made_within i most (Ok found) h = h
made_within i most (Err (error.CompileError e)) h = tt
made_within i most (Err (error.RuntimeError e)) h = h
made_within i most (Err error.Memory) h = tt
made_within i most (Err (error.TreeFault at)) h = tt
made_within i most (Err error.NestLimitExceeded) h = tt

-- what fits the search
pub record FitsSearch (s : SearchOptions) (text : List ℕ) : Type 0 where
  pub compilation : options_fit s.analysis s.compilation ≡ true
  pub implicit : not (s.analysis).explicit_capture_group_0 ≡ true
  pub pos : is_place text (s.run).pos ≡ true
  pub not_empty : (not (s.run).not_empty || (s.analysis).find_not_empty) ≡ true
  pub longest : (not (s.run).leftmost_longest || (s.analysis).leftmost_longest) ≡ true

pub fits_search : (s : SearchOptions) (text : List ℕ) → search_fits s text ≡ true → FitsSearch s text
fits_search s text fits =
    let a = options_fit s.analysis s.compilation in
    let b = not (s.analysis).explicit_capture_group_0 in
    let c = is_place text (s.run).pos in
    let d = not (s.run).not_empty || (s.analysis).find_not_empty in
    let e = not (s.run).leftmost_longest || (s.analysis).leftmost_longest in
    let o = and_parts (a && b && c && d) e fits in
    let p = and_parts (a && b && c) d o.0 in
    let q = and_parts (a && b) c p.0 in
    let r = and_parts a b q.0 in
    record { compilation = r.0; implicit = r.1; pos = q.1; not_empty = p.1; longest = o.1 }

-- it fits the run of the program
pub may_run : (s : SearchOptions) (t : ExprTree) (compiled : Compiled) (text : List ℕ) → search_fits s text ≡ true →
    IsCompiledFrom (input_of t s.analysis s.compilation) compiled → run_fits (task_of (program compiled) text s.run) ≡ true
unfolding run_fits layout
may_run s t compiled text fits from =
    let h = fits_search s text fits in
    let n = not (s.run).not_empty in
    let l = not (s.run).leftmost_longest in
    let b = not (s.analysis).explicit_capture_group_0 in
    let d = n || (s.analysis).find_not_empty in
    let e = l || (s.analysis).leftmost_longest in
    let at = is_place text (s.run).pos in
    subst (λ (x : plain_program.Prog). (at && (not x.explicit_group_0 && ((l || x.leftmost_longest) && (n || x.find_not_empty)))) ≡ true)
    (sym from.program) (and_from at (b && (e && d)) h.pos (and_from b (e && d) h.implicit (and_from e d h.longest h.not_empty)))

-- from the start, with no option set
pub defaults_fit : (o : SearchOptions) (text : List ℕ) →
    o.analysis ≡ record {
      explicit_capture_group_0 = false;
      find_not_empty = false;
      disallow_empty_match_at_eof_after_newline = false;
      leftmost_longest = false;
    } →
    (o.compilation).disallow_empty_match_at_eof_after_newline ≡ false → (o.run).pos ≡ 0 → (o.run).not_empty ≡ false → (o.run).leftmost_longest ≡ false →
    IsUtf8 text → search_fits o text ≡ true
defaults_fit o text as_analysed as_compiled at empty longest utf8 =
    let start = is_place text 0 in
    rw (as_analysed, as_compiled, at, empty, longest)
    (and_from (start && true) true (and_from start true (place_of text 0 (IsCharBoundary-start text utf8)) refl) refl)
