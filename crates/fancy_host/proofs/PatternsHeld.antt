-- What a scanner holds when a pattern is added to it.
use Rattle.std.proofs.Common.{◌≡◌, ℕ, true, List, [], ◌∷◌, ◌++◌, Option, Some, None, refl, sym, ap, ap₂, ◌∙◌, subst}
use Rattle.std.proofs.lemmas.Str.{IsCharBoundary-start, IsUtf8-nil}
use Rattle.fancy_laws.proofs.Characters.{place_of_cut}
use Rattle.fancy_meaning.specs.Places.{is_place}
use Rattle.fancy_steps.specs.Tasks.{options_of as run_options_of}
use Rattle.fancy_expr.specs.declared.error.Error.TheVariants as error
use Rattle.fancy_expr.specs.declared.expr.ExprTree.{ExprTree}
use Rattle.fancy_meaning.specs.Options as plain
use Rattle.fancy_info.specs.declared.context.AnalyzeContext.{AnalyzeContext}
use Rattle.fancy_compile.specs.declared.options.CompileOptions.{CompileOptions}
use Rattle.fancy_matches.specs.Listing.{begun_at, options_for}
use Rattle.fancy_search.specs.Requests as requests
use Rattle.fancy_search.proofs.RequestLaws.{request_fits}
use Rattle.fancy_search.specs.Searches.{input_of, search_fits}
use Rattle.fancy_search.specs.declared.search.SearchOptions.{SearchOptions}
use Rattle.fancy_scanner.specs.Scanning.{IsScannerOf, IsTreeOf, Rule}
use Rattle.fancy_scanner.specs.declared.scanner.ScanTree.{ScanTree}
use Rattle.fancy_scanner.specs.declared.scanner.TreeScanner.{TreeScanner}
use Rattle.fancy_host.specs.declared.options.FancyOptions.{FancyOptions}
use Rattle.fancy_host.specs.declared.outcome.FancyOutcome.{FancyOutcome}
use Rattle.fancy_host.specs.Codes.{memory}
use Rattle.fancy_host.specs.Hosted.{analysis, coded, compilation, compiled, given_backtracks, limits, refused, request}
use Rattle.fancy_host.specs.Scanned.{Adds, HoldsSame, IsHeldBy, IsRuleFrom, fails, holds, keeps, rule_for}

at_start : is_place [] 0 ≡ true
at_start = place_of_cut [] 0 (IsCharBoundary-start [] IsUtf8-nil)

-- what a host asks for fits each text from its start on
pub asked_fits : (o : FancyOptions) (s : SearchOptions) → s.analysis ≡ analysis o → s.compilation ≡ compilation o →
    run_options_of s.run ≡ begun_at (requests.running (request o)) 0 → search_fits s [] ≡ true
asked_fits o s as_analysed as_compiled as_run = request_fits (record (request o) { pos = 0 }) [] s as_analysed as_compiled as_run at_start

-- the rule of a tree, by the options that are handed to the scanner
pub rule_so : (tree : ExprTree) (o : FancyOptions) (text : List ℕ) (a : AnalyzeContext) (k : CompileOptions) (r : plain.RunOptions) (b : Option ℕ) →
    a ≡ analysis o → k ≡ compilation o → r ≡ begun_at (requests.running (request o)) 0 → b ≡ given_backtracks o →
    record { input = input_of tree a k; options = options_for r b text; limits = limits o } ≡ rule_for tree o text
rule_so tree o text a k r b ea ek er eb =
    ap₂ (λ i p. record { input = i; options = p; limits = limits o }) (ap₂ (input_of tree) ea ek) (ap₂ (λ s l. options_for s l text) er eb)

-- nothing, and a scanner without patterns
pub same_as_none : (held : Option TreeScanner) (s : TreeScanner) → held ≡ None → ((text : List ℕ) → IsScannerOf [] text s) → HoldsSame held (Some s)
same_as_none held s none empty rules text h = subst (λ rs. IsScannerOf rs text s) (sym (subst (IsHeldBy rules text) none h)) (empty text)

pub same_as_held : (held : Option TreeScanner) (s : TreeScanner) → held ≡ Some s → HoldsSame held (Some s)
same_as_held held s is rules text h = subst (IsHeldBy rules text) is h

module _ (bytes : List ℕ) (o : FancyOptions) (s t : Option TreeScanner) (outcome : FancyOutcome) (x : ScanTree) (groups : ℕ)
    (rule : IsRuleFrom bytes o x groups) where
  pub added_so : (before after : TreeScanner) → HoldsSame s (Some before) →
      ((text : List ℕ) (rules : List Rule) (r : Rule) → IsScannerOf rules text before → IsTreeOf r text x → IsScannerOf (rules ++ r ∷ []) text after) →
      t ≡ Some after → outcome ≡ compiled groups → Adds bytes o s t outcome
  added_so before after held ok is says =
      subst (λ u. Adds bytes o s u outcome) (sym is)
      (subst (Adds bytes o s (Some after)) (sym (says ∙ ap compiled rule.counts))
      (holds rule.tree rule.size rule.utf8 rule.read rule.analysed_within
      (λ rules text h. ok text rules (rule_for rule.tree o text) (held rules text h) (rule.made text))))

  pub lacks_memory : HoldsSame s t → outcome ≡ coded memory → Adds bytes o s t outcome
  lacks_memory same says =
      subst (Adds bytes o s t) (sym says) (keeps (fails rule.size rule.utf8 (refused rule.tree error.Memory rule.read rule.analysed_within tt refl)) same)
