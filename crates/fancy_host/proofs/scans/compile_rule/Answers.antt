use Rattle.std.proofs.Common.{sym, subst, arith}
use Rattle.std.proofs.lemmas.Result.{err_from_is_err_and}
use Rattle.std.specs.Prelude.{Some, chars}
use Rattle.fancy_steps.specs.Tasks.{options_of as run_options_of}
use Rattle.fancy_pattern.specs.Spelling.{IsError}
use Rattle.fancy_steps.specs.declared.search_limits.SearchLimits.{SearchLimits}
use Rattle.fancy_search.specs.Searches.{input_of}
use Rattle.fancy_matches.specs.Listing.{options_for}
use Rattle.fancy_scanner.specs.Scanning.{IsTreeOf as IsScanTreeOf, rule_of}
use Rattle.fancy_host.specs.Hosted.{FailsToCompile, IsFailureFor, pattern, refused, unanalysed, unspelled}
use Rattle.fancy_host.specs.Scanned.{fails, in_no_text}
use Rattle.fancy_host.proofs.Answered.{read_so, refused_by}
use Rattle.fancy_host.proofs.PatternsHeld.{rule_so}
use Rattle.fancy_host.proofs.scans.compile_rule.Goals as goal

pub returns-in_err-text : goal.returns-in_err-text
returns-in_err-text c =
    let p = err_from_is_err_and c.from_residual.result c.from_residual.ensures.1 in
    rw (p.1, p.2) (in_no_text c.in_err-text.ensures)

pub returns-in-Err : goal.returns-in-Err
returns-in-Err c =
    let bytes = c.args.pattern.now in
    let o = c.args.options.now in
    let told = subst (λ t. IsError c.parsing.result (chars t) c.in-Err.error) c.in_ok-text.ensures.0 c.in-Err.ensures.answer in
    fails c.in_ok-text.ensures.1 c.in_ok-text.ensures.2
    (subst (FailsToCompile o (pattern bytes)) (sym c.of_fault.ensures)
    (unspelled c.in-Err.error (subst (λ p. IsError p (chars bytes) c.in-Err.error) c.parsing.ensures told)))

pub returns-in_err-check_analysis : goal.returns-in_err-check_analysis
returns-in_err-check_analysis c =
    let bytes = c.args.pattern.now in
    let o = c.args.options.now in
    let tree = c.in-Ok.tree in
    let p = err_from_is_err_and c.from_residual-in_err-check_analysis.result c.from_residual-in_err-check_analysis.ensures.1 in
    rw (p.1, p.2) (fails c.in_ok-text.ensures.1 c.in_ok-text.ensures.2
    (unanalysed tree (read_so bytes o tree c.in_ok-text.text.now c.parsing.result c.in_ok-text.ensures.0 c.parsing.ensures c.in-Ok.ensures.answer)
    c.in_err-check_analysis.ensures))

pub returns-in-Ok-new : goal.returns-in-Ok-new
returns-in-Ok-new c =
    let bytes = c.args.pattern.now in
    let o = c.args.options.now in
    let tree = c.in-Ok.tree in
    let s = c.search_options-search in
    record {
      size = c.in_ok-text.ensures.1;
      utf8 = c.in_ok-text.ensures.2;
      tree = tree;
      read = read_so bytes o tree c.in_ok-text.text.now c.parsing.result c.in_ok-text.ensures.0 c.parsing.ensures c.in-Ok.ensures.answer;
      analysed_within = c.in_ok-check_analysis.ensures;
      made = λ text.
          subst (λ r. IsScanTreeOf r text c.limit.new.self)
          (rule_so tree o text s.result.analysis s.result.compilation (run_options_of s.result.run) c.backtracks.result s.ensures.analysis
          s.ensures.compilation s.ensures.run c.backtracks.ensures)
          (subst
          (λ (l : SearchLimits).
          IsScanTreeOf
          (record {
            input = input_of tree s.result.analysis s.result.compilation;
            options = options_for (run_options_of s.result.run) c.backtracks.result text;
            limits = l;
          })
          text c.limit.new.self)
          c.limits.ensures
          (c.limit.ensures (rule_of tree s.result c.backtracks.result text) text (c.in-Ok-new.ensures text)));
      counts = omega (arith, c.saturating_add-groups.ensures);
    }

pub returns : goal.returns
returns c =
    let bytes = c.args.pattern.now in
    let o = c.args.options.now in
    let tree = c.in-Ok.tree in
    let s = c.search_options-search in
    fails c.in_ok-text.ensures.1 c.in_ok-text.ensures.2
    (refused tree c.in-Err-new.error
    (read_so bytes o tree c.in_ok-text.text.now c.parsing.result c.in_ok-text.ensures.0 c.parsing.ensures c.in-Ok.ensures.answer)
    c.in_ok-check_analysis.ensures
    (refused_by tree o s.result.analysis s.result.compilation s.ensures.analysis s.ensures.compilation c.in-Err-new.error c.in-Err-new.ensures)
    (subst (λ t. IsFailureFor o (Some t) c.in-Err-new.error c.failure_of.result) c.in_ok-text.ensures.0 c.failure_of.ensures))
