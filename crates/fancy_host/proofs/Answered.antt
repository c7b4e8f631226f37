-- What the calls of a host need of each other.
use Rattle.std.proofs.Common.{◌≡◌, ℕ, Bool, true, false, List, Option, Some, None, Result, Ok, Err, MatchResult, IsFalse, IsTrue, refl, sym, ap, ◌∙◌, subst}
use Rattle.std.specs.Prelude.{IsUtf8, chars}
use Rattle.std.specs.Str.Lossy.{utf8_valid_len}
use Rattle.std.specs.Option.{is_some}
use Rattle.std.specs.declared.vec.Vec.{Vec}
use Rattle.std.specs.declared.alloc.Global.{Global}
use Rattle.std.proofs.lemmas.Bool.{true≢false}
use Rattle.fancy_meaning.specs.Fits.{run_fits}
use Rattle.fancy_meaning.specs.Options as plain
use Rattle.fancy_meaning.specs.Premises.{Input}
use Rattle.fancy_expr.specs.declared.error.Error.{Error}
use Rattle.fancy_expr.specs.Sound.{IsWellFormedTree}
use Rattle.fancy_expr.specs.declared.expr.ExprTree.{ExprTree}
use Rattle.fancy_pattern.specs.Spelling as spelling
use Rattle.fancy_pattern.specs.declared.options.ParseOptions.{ParseOptions}
use Rattle.fancy_info.specs.declared.context.AnalyzeContext.{AnalyzeContext}
use Rattle.fancy_compile.specs.declared.options.CompileOptions.{CompileOptions}
use Rattle.fancy_program.specs.Programs.{prog_of}
use Rattle.fancy_search.specs.declared.search.Compiled.{Compiled}
use Rattle.fancy_search.specs.Searches.{Bounds, IsCompiledFrom, IsNestedOver, IsRefusedAs, Promises, input_of, program}
use Rattle.fancy_steps.specs.declared.search_limits.SearchLimit.{SearchLimit}
use Rattle.fancy_host.specs.declared.options.FancyOptions.{FancyOptions}
use Rattle.fancy_host.specs.declared.searches.Searcher.{Searcher}
use Rattle.fancy_host.specs.declared.tree.CompiledTree.{CompiledTree}
use Rattle.fancy_host.specs.declared.outcome.FancyOutcome.{FancyOutcome}
use Rattle.fancy_host.specs.Codes.{no_program, unfit, wrong_size}
use Rattle.fancy_host.specs.Hosted.{Answers, Compiles, FailsToCompile, FindsFirst, IsFlat, IsMadeFrom, IsMadeOf, IsNoSearch, IsNoText, IsPromised, IsRead, IsSearch, Source, analysis, asked_of, bytes_of, coded, compilation, compiled, compiled_of, does_not_fit, fails, for_no_tree, found, groups, has_another_size, has_size, holds, is_no_text, not_utf8, parsing, pattern, pattern_in, running, tree_of}

-- where nothing is said to be, there is nothing
pub none_there : {X : Type 0} → (m : Option X) (b : Bool) → is_some m ≡ b → b ≡ false → m ≡ None
none_there None b is not = refl
none_there (Some x) b is not = absurd (true≢false (subst (λ c. true ≡ c) not is))

-- where a searcher is held, a tree is
pub has_tree : (held : Option Searcher) → is_some (tree_of held) ≡ is_some held
has_tree None = refl
has_tree (Some s) = refl

module _ (c : Compiled) (text : List ℕ) (o : FancyOptions) (r : plain.RunOptions) (same : r ≡ running o text) where
  pub unfit_by : run_fits (record { program = prog_of (program c); text = text; options = r }) ≡ false →
      IsFalse (run_fits (record { program = prog_of (program c); text = text; options = running o text }))
  unfit_by h = subst (λ x. run_fits (record { program = prog_of (program c); text = text; options = x }) ≡ false) same h

  pub fits_by : run_fits (record { program = prog_of (program c); text = text; options = r }) ≡ true →
      IsTrue (run_fits (record { program = prog_of (program c); text = text; options = running o text }))
  fits_by h = subst (λ x. run_fits (record { program = prog_of (program c); text = text; options = x }) ≡ true) same h

  -- what is promised of the options of a run is promised of those of a host
  pub promised_by : (answer : Result (Option (Vec ℕ Global)) Error) →
      ((i : Input) → IsCompiledFrom i c → Promises i text r answer) → ((i : Input) → IsCompiledFrom i c → Bounds i text r answer) →
      IsPromised c text o answer
  promised_by answer promise bounds i from =
      (subst (λ x. Promises i text x answer) same (promise i from), subst (λ x. Bounds i text x answer) same (bounds i from))

-- a tree with the options that a host asks for
module _ (t : ExprTree) (o : FancyOptions) (a : AnalyzeContext) (k : CompileOptions) (as_analysed : a ≡ analysis o) (as_compiled : k ≡ compilation o) where
  pub refused_by : (e : Error) → IsRefusedAs (input_of t a k) k.max_nesting e → IsRefusedAs (asked_of t o) (Some o.max_nesting) e
  refused_by e h =
      subst (λ (x : CompileOptions). IsRefusedAs (input_of t (analysis o) x) x.max_nesting e) as_compiled
      (subst (λ x. IsRefusedAs (input_of t x k) k.max_nesting e) as_analysed h)

  pub within_by : ¬ IsNestedOver (input_of t a k) k.max_nesting → ¬ IsNestedOver (asked_of t o) (Some o.max_nesting)
  within_by h =
      subst (λ (x : CompileOptions). ¬ IsNestedOver (input_of t (analysis o) x) x.max_nesting) as_compiled
      (subst (λ x. ¬ IsNestedOver (input_of t x k) k.max_nesting) as_analysed h)

  pub compiled_by : (c : Compiled) → IsCompiledFrom (input_of t a k) c → IsCompiledFrom (asked_of t o) c
  compiled_by c h =
      subst (λ x. IsCompiledFrom (input_of t (analysis o) x) c) as_compiled (subst (λ x. IsCompiledFrom (input_of t x k) c) as_analysed h)

-- ---- compiling

-- the tree that is read of a text is that of the pattern
pub read_so : (bytes : List ℕ) (o : FancyOptions) (t : ExprTree) (text : List ℕ) (p : ParseOptions) → text ≡ bytes → p ≡ parsing o →
    spelling.IsTreeOf p (chars text) t × IsWellFormedTree t → IsRead (pattern bytes) o t
read_so bytes o t text p same as_parsed h =
    subst (λ x. spelling.IsTreeOf (parsing o) (chars x) t × IsWellFormedTree t) same
    (subst (λ q. spelling.IsTreeOf q (chars text) t × IsWellFormedTree t) as_parsed h)

-- a tree that is read is compiled from its source, or that fails
pub made_so : {B : Type 0} (source : Source) (o : FancyOptions) (t : ExprTree) → IsRead source o t → (p : Option (List ℕ)) → pattern_in source ≡ p →
    (value : B → CompiledTree) (result : Result B FancyOutcome) →
    MatchResult result (λ b. IsMadeOf t o (value b)) (λ outcome. (s : Source) → IsRead s o t → pattern_in s ≡ p → FailsToCompile o s outcome) →
    MatchResult result (λ b. IsMadeFrom source o (value b)) (λ outcome. FailsToCompile o source outcome)
made_so source o t read p of_it value (Ok b) h = record { tree = t; read = read; made = h }
made_so source o t read p of_it value (Err outcome) h = h source read of_it

-- ---- the cases of the calls

module _ (bytes : List ℕ) (o : FancyOptions) (outcome : FancyOutcome) where
  pub another_size : IsFalse (has_size o) → outcome ≡ coded wrong_size → IsNoText bytes o outcome
  another_size other is = subst (IsNoText bytes o) (sym is) (has_another_size other)

  pub no_text : IsTrue (has_size o) → (byte : ℕ) → ¬ IsUtf8 bytes → outcome ≡ not_utf8 byte → byte ≡ utf8_valid_len bytes → IsNoText bytes o outcome
  no_text size byte bad is at = subst (IsNoText bytes o) (sym (is ∙ ap not_utf8 at)) (is_no_text size bad)

  pub nothing_held : (held : Option CompiledTree) → IsTrue (has_size o) → IsUtf8 bytes → held ≡ None → outcome ≡ coded no_program →
      IsNoSearch bytes o held outcome
  nothing_held held size utf8 nothing is =
      subst (λ m. IsNoSearch bytes o m outcome) (sym nothing) (subst (IsNoSearch bytes o None) (sym is) (for_no_tree size utf8))

module _ (source : Source) (o : FancyOptions) (size : IsTrue (has_size o)) (utf8 : IsUtf8 (bytes_of source)) (flat : IsFlat source o) where
  pub compiles_so : {B : Type 0} (value : B → CompiledTree) (result : Result B FancyOutcome) →
      MatchResult result (λ b. IsMadeFrom source o (value b)) (λ outcome. FailsToCompile o source outcome) →
      MatchResult result (λ b. Compiles source o (Some (value b)) (compiled (groups (value b)))) (λ outcome. Compiles source o None outcome)
  compiles_so value (Ok b) h = holds size utf8 flat h
  compiles_so value (Err outcome) h = fails size utf8 flat h

module _ (source : Source) (o : FancyOptions) (held : Option CompiledTree) (outcome : FancyOutcome) where
  pub compiled_so : (s : CompiledTree) → held ≡ Some s → outcome ≡ compiled (groups s) → Compiles source o (Some s) (compiled (groups s)) →
      Compiles source o held outcome
  compiled_so s there is h = subst (λ m. Compiles source o m outcome) (sym there) (subst (Compiles source o (Some s)) (sym is) h)

  pub failed_so : held ≡ None → Compiles source o None outcome → Compiles source o held outcome
  failed_so nothing h = subst (λ m. Compiles source o m outcome) (sym nothing) h

module _ (text : List ℕ) (o : FancyOptions) (passed : Option SearchLimit) (outcome : FancyOutcome) (old : List ℕ) where
  pub found_by : (read new : List ℕ) (held : Option CompiledTree) (s taken : CompiledTree) → read ≡ text → IsSearch text o held → held ≡ Some s → taken ≡ s →
      Answers taken read o passed old new outcome → FindsFirst text o passed old held new outcome
  found_by read new held s taken same search there is h =
      subst (λ m. FindsFirst text o passed old m new outcome) (sym there)
      (found (subst (IsSearch text o) there search)
      (subst (λ t. Answers s t o passed old new outcome) same (subst (λ x. Answers x read o passed old new outcome) is h)))

  pub unfit_answers : (s : CompiledTree) (r : plain.RunOptions) → r ≡ running o text →
      run_fits (record { program = prog_of (program (compiled_of s)); text = text; options = r }) ≡ false → outcome ≡ coded unfit →
      Answers s text o passed old old outcome
  unfit_answers s r same h is =
      subst (λ x. Answers s text o passed old old x) (sym is) (does_not_fit (unfit_by (compiled_of s) text o r same h))
