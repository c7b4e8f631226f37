use denote.Param.Send.{sendable}
use Rattle.std.proofs.Common.{[]}
use Rattle.fancy_search.specs.Searches.{input_of}
use Rattle.fancy_search.proofs.Searched.{may_run}
use Rattle.fancy_matches.proofs.ThreadsLaws.{regex_sends}
use Rattle.fancy_matches.proofs.matcher.Matcher.new.Goals as goal

pub invariant_of-result : goal.invariant_of-result
invariant_of-result c =
    let options = c.args.options.now in
    let from = c.in_ok-compiled.ensures.made in
    rw c.in_ok-new.ensures.ok (record {
      fits = may_run options c.args.tree.now c.in_ok-compiled.compiled [] c.requires.fits from;
      source = ∣ (input_of c.args.tree.now options.analysis options.compilation, from) ∣₁;
      suits = c.new-3.ensures.suits _;
    })

pub crosses_threads-requires-send-T : goal.crosses_threads-requires-send-T
crosses_threads-requires-send-T c κs = search (regex_sends, sendable) depth 20
