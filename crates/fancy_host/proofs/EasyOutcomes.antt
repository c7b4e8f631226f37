-- No search for an easy tree tells of a limit of backtracks, branches or instructions that nobody set.
use Rattle.std.proofs.Common.{◌≡◌, ◌≢◌, ◌<◌, ◌-◌, ◌^◌, ℕ, Bool, true, false, ◌&&◌, List, length, Option, Some, None, Result, Ok, Err, IsFalse, nat_le, refl, sym, ap, ◌∙◌, subst, ⊎_elim}
use Rattle.std.specs.declared.vec.Vec.{Vec}
use Rattle.std.specs.declared.alloc.Global.{Global}
use Rattle.std.proofs.lemmas.Bool.{true≢false}
use Rattle.std.proofs.lemmas.Option.{same_Some}
use Rattle.fancy_meaning.specs.Hard.{is_root_hard}
use Rattle.fancy_meaning.specs.Premises.{Input, plan}
use Rattle.fancy_expr.specs.declared.error.CompileError.{CompileError}
use Rattle.fancy_expr.specs.declared.error.CompileError.TheVariants as refusal
use Rattle.fancy_expr.specs.declared.error.Error.{Error}
use Rattle.fancy_expr.specs.declared.error.Error.TheVariants as error
use Rattle.fancy_expr.specs.declared.error.RuntimeError.{RuntimeError}
use Rattle.fancy_expr.specs.declared.error.RuntimeError.TheVariants as run
use Rattle.fancy_steps.specs.declared.search_limits.SearchLimit.{SearchLimit}
use Rattle.fancy_steps.specs.declared.search_limits.SearchLimit.TheVariants as search
use Rattle.fancy_search.specs.Searches.{IsCompiledFrom}
use Rattle.fancy_search.specs.declared.search.Compiled.{Compiled}
use Rattle.fancy_matches.specs.Listing.{Cursor, backtracks_for, options_at, steps_for}
use Rattle.fancy_matches.specs.Matchers as engine
use Rattle.fancy_matches.proofs.Easy.{no_limit}
use Rattle.fancy_replace.specs.Pieces.{as_limit}
use Rattle.fancy_host.specs.declared.options.FancyOptions.{FancyOptions}
use Rattle.fancy_host.specs.declared.outcome.FancyOutcome.{FancyOutcome}
use Rattle.fancy_host.specs.declared.cursor.FancyCursor.{FancyCursor}
use Rattle.fancy_host.specs.declared.tree.CompiledTree.{CompiledTree}
use Rattle.fancy_host.specs.Codes.{code_of_run, no_text}
use Rattle.fancy_host.specs.Easy.{HasNoLimits, IsNoLimitWhereEasy}
use Rattle.fancy_host.specs.Hosted as find
use Rattle.fancy_host.specs.Hosted.{Answers, FindsFirst, IsNoSearch, IsNoText, IsPromised, compiled_of, failure, failure_by, given_backtracks, outcome_of, running}
use Rattle.fancy_host.specs.Lists as list
use Rattle.fancy_host.specs.Lists.{Fails, FindsAll, Form, Lists, Stops, Writes, listing}
use Rattle.fancy_host.specs.Rewritten as rewritten
use Rattle.fancy_host.specs.Rewritten.{FailsToRewrite, Replaces, ReplacesIn, WritesNew}
use Rattle.fancy_host.specs.Whether as whether
use Rattle.fancy_host.specs.Whether.{FindsAny, Tells}

-- ---- codes

-- the codes of these limits stand together
unfoldable pub is_run : ℕ → Bool
is_run code = nat_le 7 code && nat_le code 9

run_codes : (limit : RuntimeError) → is_run (code_of_run limit) ≡ true
unfolding is_run
run_codes run.BacktrackLimitExceeded = refl
run_codes run.StackOverflow = refl
run_codes run.StepLimitExceeded = refl

pub no_run : (code : ℕ) → is_run code ≡ false → (limit : RuntimeError) → code ≢ code_of_run limit
no_run code other limit same = true≢false (sym (run_codes limit) ∙ (ap is_run (sym same) ∙ other))

refused_code : (e : CompileError) → is_run (failure (error.CompileError e)).code ≡ false
unfolding is_run
refused_code refusal.NamedBackrefOnly = refl
refused_code refusal.FeatureNotYetSupported = refl
refused_code refusal.SubroutineCallTargetNotFound = refl
refused_code refusal.UnresolvedAstNode = refl
refused_code (refusal.InvalidBackref group) = refl
refused_code (refusal.LeftRecursiveSubroutineCall group) = refl
refused_code refusal.NeverEndingRecursion = refl
refused_code refusal.VariableLookBehindRequiresFeature = refl
refused_code (refusal.InnerError text) = refl
refused_code (refusal.ClassTooBig text) = refl
refused_code refusal.PatternTooComplex = refl

pub failed_code : (e : Error) → engine.IsNoLimit e → is_run (failure e).code ≡ false
unfolding is_run
failed_code error.Memory none = refl
failed_code (error.TreeFault at) none = refl
failed_code (error.RuntimeError limit) none = absurd none
failed_code (error.CompileError e) none = refused_code e
failed_code error.NestLimitExceeded none = refl

failure_code : (passed : Option SearchLimit) (e : Error) → engine.IsNoLimit e → is_run (failure_by passed e).code ≡ false
unfolding is_run
failure_code None e none = failed_code e none
failure_code (Some search.Visits) e none = refl
failure_code (Some search.Bytes) e none = refl

-- ---- where no search is made

no_text_code : {bytes : List ℕ} {o : FancyOptions} {outcome : FancyOutcome} → IsNoText bytes o outcome → is_run outcome.code ≡ false
unfolding is_run
no_text_code (find.has_another_size other) = refl
no_text_code (find.is_no_text size bad) = refl

no_search_code : {text : List ℕ} {o : FancyOptions} {held : Option CompiledTree} {outcome : FancyOutcome} → IsNoSearch text o held outcome →
    is_run outcome.code ≡ false
unfolding is_run
no_search_code (find.in_no_text bad) = no_text_code bad
no_search_code (find.for_no_tree size utf8) = refl

bytes_code : is_run no_text ≡ false
unfolding is_run
bytes_code = refl

-- ---- searches for an easy tree

-- it is a tree of these, where it is the one that is held
of_held : (s t : CompiledTree) (i : Input) → Some s ≡ Some t → IsCompiledFrom i (compiled_of t) → IsCompiledFrom i (compiled_of s)
of_held s t i there from = subst (λ (x : CompiledTree). IsCompiledFrom i (compiled_of x)) (sym (same_Some s t there)) from

module _ (text : List ℕ) (o : FancyOptions) (i : Input) (easy : IsFalse (is_root_hard (plan i).analysis)) (none : HasNoLimits o)
    (small : length text < 2 ^ 60) where
  allowed : backtracks_for (given_backtracks o) text ≡ backtracks_for None text
  allowed = ap (λ asked. backtracks_for asked text) none.0

  stepped : steps_for o.step_limit text ≡ steps_for (2 ^ 64 - 1) text
  stepped = ap (λ asked. steps_for asked text) none.1

  answered_code : (c : Compiled) → IsCompiledFrom i c → (passed : Option SearchLimit) (answer : Result (Option (Vec ℕ Global)) Error) →
      IsPromised c text o answer → is_run (outcome_of text passed answer).code ≡ false
  unfolding is_run
  answered_code c from passed (Ok None) h = refl
  answered_code c from passed (Ok (Some numbers)) h = refl
  answered_code c from passed (Err e) h = failure_code passed e (no_limit i text (running o text) small allowed stepped e easy (h i from).1)

  told_code : (c : Compiled) → IsCompiledFrom i c → (passed : Option SearchLimit) (answer : Result (Option (Vec ℕ Global)) Error) →
      IsPromised c text o answer → is_run (whether.whether passed answer).code ≡ false
  unfolding is_run
  told_code c from passed (Ok None) h = refl
  told_code c from passed (Ok (Some numbers)) h = refl
  told_code c from passed (Err e) h = failure_code passed e (no_limit i text (running o text) small allowed stepped e easy (h i from).1)

  answers_code : {t : CompiledTree} {passed : Option SearchLimit} {old new : List ℕ} {outcome : FancyOutcome} → IsCompiledFrom i (compiled_of t) →
      Answers t text o passed old new outcome → is_run outcome.code ≡ false
  unfolding is_run
  answers_code from (find.does_not_fit not) = refl
  answers_code from (find.answered fits answer promise stays) = answered_code _ from _ answer promise

  tells_code : {t : CompiledTree} {passed : Option SearchLimit} {outcome : FancyOutcome} → IsCompiledFrom i (compiled_of t) →
      Tells t text o passed outcome → is_run outcome.code ≡ false
  unfolding is_run
  tells_code from (whether.does_not_fit not) = refl
  tells_code from (whether.told fits answer promise stays) = told_code _ from _ answer promise

  -- a search of a list that fails
  list_code : (s : Cursor) (passed : Option SearchLimit) (e : Error) → engine.FailsAt i text (listing o text) s e →
      is_run (failure_by passed e).code ≡ false
  list_code s passed e h =
      failure_code passed e (no_limit i text (options_at (listing o text) s) small allowed stepped e easy h.bounds)

  stops_code : {form : Form} {width : ℕ} {c : Compiled} (passed : Option SearchLimit) {room : ℕ} {from to : Cursor} {rows : List (List ℕ)}
      {outcome : FancyOutcome} → IsCompiledFrom i c → Stops form width c text (listing o text) passed room from rows to outcome →
      is_run outcome.code ≡ false
  unfolding is_run
  stops_code passed of (list.is_full less comes none) = refl
  stops_code passed of (list.has_ended all left none) = refl
  stops_code passed of (list.fails e comes fails ends) = list_code _ passed e (fails i of)

  writes_code : {form : Form} {width : ℕ} {c : Compiled} {passed : Option SearchLimit} {from to : Cursor} {old new : List ℕ}
      {outcome : FancyOutcome} → IsCompiledFrom i c → Writes form width c text (listing o text) passed from old to new outcome →
      is_run outcome.code ≡ false
  writes_code of (list.writes rows wide room stops) = stops_code _ of stops

  lists_code : {form : Form} {t : CompiledTree} {passed : Option SearchLimit} {from to : FancyCursor} {old new : List ℕ} {outcome : FancyOutcome} →
      IsCompiledFrom i (compiled_of t) → Lists form t text o passed from old to new outcome → is_run outcome.code ≡ false
  unfolding is_run
  lists_code of (list.does_not_fit not) = refl
  lists_code of (list.listed fits rows) = writes_code of rows

  new_code : {new old after : List ℕ} {outcome : FancyOutcome} → WritesNew new old after outcome → is_run outcome.code ≡ false
  unfolding is_run
  new_code (rewritten.written less) = refl
  new_code (rewritten.has_no_room most) = refl

  rewrite_code : (t : CompiledTree) (passed : Option SearchLimit) (limit : Option ℕ) (e : Error) → IsCompiledFrom i (compiled_of t) →
      FailsToRewrite (compiled_of t) text (listing o text) limit e → is_run (failure_by passed e).code ≡ false
  rewrite_code t passed limit e of h = ⊎_elim
      (λ fails. list_code _ passed e (fails i of).fails)
      (λ is. subst (λ e. is_run (failure_by passed e).code ≡ false) (sym is) (failure_code passed error.Memory tt))
      h

  replaces_code : (t : CompiledTree) (passed : Option SearchLimit) (limit : ℕ) {write : List ℕ → List ℕ → List ℕ} {old new : List ℕ}
      {outcome : FancyOutcome} → IsCompiledFrom i (compiled_of t) → Replaces t text o passed limit write old new outcome →
      is_run outcome.code ≡ false
  unfolding is_run
  replaces_code t passed limit of (rewritten.does_not_fit not) = refl
  replaces_code t passed limit of (rewritten.replaced fits new is whole none) = new_code whole
  replaces_code t passed limit of (rewritten.fails fits e fails ends) = rewrite_code t passed (as_limit limit) e of fails

-- ---- the calls

module _ (text : List ℕ) (o : FancyOptions) where
  pub find_easy : {passed : Option SearchLimit} {old new : List ℕ} {held : Option CompiledTree} {outcome : FancyOutcome} →
      FindsFirst text o passed old held new outcome → IsNoLimitWhereEasy held text o outcome
  find_easy (find.unsearched h) t i there from easy none small = no_run _ (no_search_code h)
  find_easy (find.found search h) t i there from easy none small =
      no_run _ (answers_code text o i easy none small (of_held _ t i there from) h)

  pub any_easy : {passed : Option SearchLimit} {held : Option CompiledTree} {outcome : FancyOutcome} →
      FindsAny text o passed held outcome → IsNoLimitWhereEasy held text o outcome
  any_easy (whether.unsearched h) t i there from easy none small = no_run _ (no_search_code h)
  any_easy (whether.found search h) t i there from easy none small =
      no_run _ (tells_code text o i easy none small (of_held _ t i there from) h)

  pub list_easy : {form : Form} {passed : Option SearchLimit} {from to : FancyCursor} {old new : List ℕ} {held : Option CompiledTree}
      {outcome : FancyOutcome} → FindsAll form text o passed from old held to new outcome → IsNoLimitWhereEasy held text o outcome
  list_easy (list.unsearched h) t i there of easy none small = no_run _ (no_search_code h)
  list_easy (list.found search h) t i there of easy none small =
      no_run _ (lists_code text o i easy none small (of_held _ t i there of) h)

  pub replace_easy : {passed : Option SearchLimit} {limit : ℕ} {is_literal : Bool} {replacement old new : List ℕ} {held : Option CompiledTree}
      {outcome : FancyOutcome} → ReplacesIn text o passed limit is_literal replacement old held new outcome →
      IsNoLimitWhereEasy held text o outcome
  replace_easy (rewritten.unsearched h) t i there of easy none small = no_run _ (no_search_code h)
  replace_easy (rewritten.by_no_text search bad) t i there of easy none small = no_run _ bytes_code
  replace_easy (rewritten.found search utf8 h) t i there of easy none small =
      no_run _ (replaces_code text o i easy none small _ _ _ (of_held _ t i there of) h)
