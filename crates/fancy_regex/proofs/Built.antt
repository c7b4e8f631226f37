-- What a tree is compiled to, with its names, is the regex of its pattern.
use Rattle.std.proofs.Common.{◌≡◌, ◌-◌, ◌^◌, ℕ, List, [], None, Option, Result, Ok, Err, MatchResult, chars, ap, ◌∙◌, sym, subst}
use Rattle.fancy_meaning.specs.Options as plain
use Rattle.fancy_meaning.specs.Premises.{Input}
use Rattle.fancy_expr.specs.Views.{parsed_of}
use Rattle.fancy_expr.specs.declared.expr.ExprTree.{ExprTree}
use Rattle.std.proofs.lemmas.Option.{none-some}
use Rattle.fancy_steps.specs.Tasks.{options_of as run_options_of}
use Rattle.fancy_steps.specs.declared.search_limits.SearchLimit.TheVariants as limit
use Rattle.fancy_steps.specs.declared.search_limits.SearchLimits.{SearchLimits}
use Rattle.fancy_search.specs.Searches.{IsCompiledFrom, IsNestedOver, IsRefusedAs}
use Rattle.fancy_matches.specs.Listing.{options_for}
use Rattle.fancy_matches.specs.Matchers as engine
use Rattle.fancy_matches.specs.declared.options.MatcherOptions as engine_options
use Rattle.fancy_matches.specs.declared.matcher.Matcher as engine_regex
use Rattle.fancy_pattern.specs.declared.error.PatternError.{PatternError}
use Rattle.fancy_pattern.specs.declared.error.PatternError.TheVariants as of_parser
use Rattle.fancy_pattern.specs.Spelling.{IsError}
use Rattle.fancy_matches.proofs.Stepping.{of_same}
use Rattle.fancy_regex.specs.Builders.{AreNamesOf, IsBuilt, IsMadeOf, IsRefused, IsTreeWithin}
use Rattle.fancy_regex.specs.Errors.{engine_error, limit_told, of_pattern}
use Rattle.fancy_regex.specs.Options.{analysis, compilation, input, limits, running}
use Rattle.fancy_regex.specs.Regexes.{IsSame, engine_of}
use Rattle.fancy_regex.specs.declared.error.Error.{Error}
use Rattle.fancy_regex.specs.declared.error.Error.TheVariants as face
use Rattle.fancy_regex.specs.declared.options.RegexOptions.{RegexOptions}
use Rattle.fancy_regex.specs.declared.regexes.Regex.{Regex}

-- a regex with limits inside easy parts is made as it was without them
pub limited_so : (i : Input) (o : plain.RunOptions) (asked : Option ℕ) (r s : engine_regex.Matcher) (l : SearchLimits) →
    engine.compiled_of s ≡ engine.compiled_of r → s.options ≡ record r.options { limits = l } → engine.IsMadeBy i o asked r → engine.IsMadeBy i o asked s
limited_so i o asked r s l compiled options h = record {
  compiled = subst (IsCompiledFrom i) (sym compiled) h.compiled;
  options = ap (λ (a : engine_options.MatcherOptions). run_options_of a.run) options ∙ h.options;
  backtracks = ap (λ (a : engine_options.MatcherOptions). a.backtrack_limit) options ∙ h.backtracks;
}

module _ (asked : RegexOptions) (tree : ExprTree) where
  module _ (a : plain.AnalysisOptions) (k : plain.CompileOptions) (as_analysed : a ≡ analysis asked) (as_compiled : k ≡ compilation asked) where
    module _ (o : plain.RunOptions) (r : engine_regex.Matcher) (as_run : (text : List ℕ) → options_for o asked.backtrack_limit text ≡ running asked text)
        (h : engine.IsMadeBy (record { parsed = parsed_of tree; analysis = a; options = k }) o asked.backtrack_limit r) where
      pub compiled_so : (text : List ℕ) → engine.IsRegexOf (input tree asked) text (running asked text) r
      compiled_so text = record {
        compiled =
            subst (λ a. IsCompiledFrom (record { parsed = parsed_of tree; analysis = a; options = compilation asked }) (engine.compiled_of r)) as_analysed
            (subst (λ k. IsCompiledFrom (record { parsed = parsed_of tree; analysis = a; options = k }) (engine.compiled_of r)) as_compiled h.compiled);
        options =
            ap (λ o. options_for o (r.options).backtrack_limit text) h.options ∙ ap (λ k. options_for o k text) h.backtracks ∙ as_run text;
      }

      pub unlimited_so : o.step_limit ≡ asked.step_limit → asked.backtrack_limit ≡ None → asked.step_limit ≡ 2 ^ 64 - 1 → engine.HasNoLimits r
      unlimited_so same backtracks steps = (h.backtracks ∙ backtracks, ap (λ (o : plain.RunOptions). o.step_limit) (h.options) ∙ same ∙ steps)

    pub refused_so : (m : Option ℕ) (e : _) → m ≡ asked.max_nesting →
        IsRefusedAs (record { parsed = parsed_of tree; analysis = a; options = k }) m e → IsRefusedAs (input tree asked) asked.max_nesting e
    refused_so m e as_nested h =
        subst (λ a. IsRefusedAs (record { parsed = parsed_of tree; analysis = a; options = compilation asked }) asked.max_nesting e) as_analysed
        (subst (λ k. IsRefusedAs (record { parsed = parsed_of tree; analysis = a; options = k }) asked.max_nesting e) as_compiled
        (subst (λ m. IsRefusedAs (record { parsed = parsed_of tree; analysis = a; options = k }) m e) as_nested h))

    pub within_so : (m : Option ℕ) → m ≡ asked.max_nesting →
        ¬ IsNestedOver (record { parsed = parsed_of tree; analysis = a; options = k }) m → ¬ IsNestedOver (input tree asked) asked.max_nesting
    within_so m as_nested h =
        subst (λ a. ¬ IsNestedOver (record { parsed = parsed_of tree; analysis = a; options = compilation asked }) asked.max_nesting) as_analysed
        (subst (λ k. ¬ IsNestedOver (record { parsed = parsed_of tree; analysis = a; options = k }) asked.max_nesting) as_compiled
        (subst (λ m. ¬ IsNestedOver (record { parsed = parsed_of tree; analysis = a; options = k }) m) as_nested h))

  module _ (pattern : List ℕ) (spelled : IsTreeWithin pattern asked tree) where
    pub built : (r : engine_regex.Matcher) → ((text : List ℕ) → engine.IsRegexOf (input tree asked) text (running asked text) r) →
        (asked.backtrack_limit ≡ None → asked.step_limit ≡ 2 ^ 64 - 1 → engine.HasNoLimits r) → ¬ IsNestedOver (input tree asked) asked.max_nesting →
        (r.options).limits ≡ limits asked →
        (result : Result Regex Error) →
        MatchResult result (IsMadeOf pattern asked tree r) (λ e. e ≡ face.Memory) → MatchResult result (IsBuilt pattern asked) (IsRefused pattern asked)
    built r of unlimited within limited (Ok s) made = record {
      tree = tree;
      spelled = spelled.spelled;
      analysed_within = spelled.within;
      compiled = λ text. subst (engine.IsRegexOf (input tree asked) text (running asked text)) (sym made.compiled) (of text);
      within = within;
      unlimited = λ backtracks steps. subst engine.HasNoLimits (sym made.compiled) (unlimited backtracks steps);
      limited = ap (λ (e : engine_regex.Matcher). (e.options).limits) made.compiled ∙ limited;
      names = made.names;
      has_pattern = made.has_pattern;
      has_options = made.has_options;
    }
    built r of unlimited within limited (Err e) made = subst (IsRefused pattern asked) (sym made) tt

    pub refused : (e : Error) → limit_told e ≡ None → IsRefusedAs (input tree asked) asked.max_nesting (engine_error e) →
        IsRefused pattern asked e
    refused (face.ParseError at kind) none h = absurd h
    refused (face.CompileError e) none h = record { tree = tree; spelled = spelled.spelled; analysed_within = spelled.within; refused = h }
    refused (face.RuntimeError e) none h = h
    refused face.NestLimitExceeded none h = record { tree = tree; spelled = spelled.spelled; analysed_within = spelled.within; refused = h }
    refused face.AnalysisLimitExceeded none h = absurd h
    refused face.VisitLimitExceeded none h = absurd (none-some limit.Visits (sym none))
    refused face.MemoryLimitExceeded none h = absurd (none-some limit.Bytes (sym none))
    refused face.Memory none h = tt

-- a pattern that cannot be read is refused as it is told
pub refused_pattern : (pattern : List ℕ) (asked : RegexOptions) (e : PatternError) → IsError asked.parsing (chars pattern) e →
    IsRefused pattern asked (of_pattern e)
refused_pattern pattern asked (of_parser.Parse at kind) h = h
refused_pattern pattern asked of_parser.Memory h = tt

-- a regex of the same pattern and tree, with the same options, is as this one was built
pub built_of_same : (pattern : List ℕ) (o : RegexOptions) (r s : Regex) → IsSame r s → IsBuilt pattern o r → IsBuilt pattern o s
built_of_same pattern o r s same h = record {
  tree = h.tree;
  spelled = h.spelled;
  analysed_within = h.analysed_within;
  compiled = λ text. of_same (engine_of r) (engine_of s) (input h.tree o) text (running o text) same.engine (h.compiled text);
  within = h.within;
  unlimited = λ backtracks steps.
      let u = h.unlimited backtracks steps in (
        ap (λ (a : engine_options.MatcherOptions). a.backtrack_limit) (same.engine).1 ∙ u.0,
        ap (λ (a : engine_options.MatcherOptions). (a.run).step_limit) (same.engine).1 ∙ u.1,
      );
  limited = ap (λ (a : engine_options.MatcherOptions). a.limits) (same.engine).1 ∙ h.limited;
  names = subst (AreNamesOf h.tree) (sym same.names) h.names;
  has_pattern = same.pattern ∙ h.has_pattern;
  has_options = same.options ∙ h.has_options;
}
