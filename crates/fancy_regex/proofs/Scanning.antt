-- What the scanner by trees promises is promised by patterns, with their names and the errors of this crate.
use Rattle.std.proofs.Common.{◌≡◌, ℕ, List, map, Option, Some, Global, option_and_then, option_map, slice_get, sym, ap, ap₂, ◌∙◌}
use Rattle.std.proofs.lemmas.Option.{slice_get-map}
use Rattle.std.specs.Arc.{arc_value}
use Rattle.std.specs.declared.sync.Arc.{Arc}
use Rattle.fancy_meaning.specs.Options as plain
use Rattle.fancy_expr.specs.Views.{parsed_of}
use Rattle.fancy_expr.specs.declared.expr.ExprTree.{ExprTree}
use Rattle.fancy_matches.specs.Matchers.{shown_captures}
use Rattle.fancy_matches.specs.declared.found.Captures as engine
use Rattle.fancy_steps.specs.declared.search_limits.SearchLimits.{SearchLimits}
use Rattle.fancy_scanner.specs.Scanning.{Rule}
use Rattle.fancy_regex.specs.Options.{analysis, compilation, limits, running}
use Rattle.fancy_regex.specs.Scanners.{NamedGroups, rule_for}
use Rattle.fancy_regex.specs.declared.names.GroupNames.{GroupNames}
use Rattle.fancy_regex.specs.declared.options.RegexOptions.{RegexOptions}

-- ---- a pattern that is added

abbrev rule_with : ExprTree → plain.AnalysisOptions → plain.CompileOptions → plain.RunOptions → SearchLimits → Rule
rule_with tree a k o l = record { input = record { parsed = parsed_of tree; analysis = a; options = k }; options = o; limits = l }

-- the rule of a tree with these options and limits is that of the options of its pattern
pub rule_so : (tree : ExprTree) (asked : RegexOptions) (text : List ℕ) (a : plain.AnalysisOptions) (k : plain.CompileOptions) (o : plain.RunOptions)
    (l : SearchLimits) → a ≡ analysis asked → k ≡ compilation asked → o ≡ running asked text → l ≡ limits asked →
    record { input = record { parsed = parsed_of tree; analysis = a; options = k }; options = o; limits = l } ≡ rule_for tree asked text
rule_so tree asked text a k o l as_analysed as_compiled as_run as_limited =
    ap (λ a. rule_with tree a k o l) as_analysed ∙ (ap (λ k. rule_with tree (analysis asked) k o l) as_compiled
    ∙ (ap (λ o. rule_with tree (analysis asked) (compilation asked) o l) as_run
    ∙ ap (λ l. rule_with tree (analysis asked) (compilation asked) (running asked text) l) as_limited))

-- ---- the groups that are kept

abbrev told : Option engine.Captures → Option GroupNames → Option NamedGroups
told kept names = option_and_then (λ n. option_map (λ c. (shown_captures c, n)) kept) names

abbrev pub some_named : List ℕ × List ℕ → GroupNames → Option NamedGroups
some_named shown names = Some (shown, names)

-- the groups that are kept of a pattern are told with its names
pub kept_with_names : (names : List (Arc GroupNames Global)) (k : ℕ) (kept : Option engine.Captures) (a : Arc GroupNames Global)
    (c : engine.Captures) → slice_get names k ≡ Some a → kept ≡ Some c →
    ◌≡◌ {A = Option NamedGroups} (Some (shown_captures c, arc_value a))
    (told kept (slice_get (map arc_value names) k))
kept_with_names names k kept a c at is =
    sym (ap₂ told is
    (slice_get-map arc_value names k ∙ ap (option_map arc_value) at))
