use Rattle.std.proofs.Common.{◌≡◌, ◌+◌, ◌-◌, None, arith, ap, sym, ◌∙◌}
use Rattle.std.proofs.lemmas.Option.{same_Some, slice_get-get_or}
use Rattle.fancy_nfa.specs.GroupSpans.{span_from}
use Rattle.fancy_nfa.proofs.GroupSpansLaws.{none_before}
use Rattle.fancy_steps.proofs.PairsLaws.{span_at, span_behind}
use Rattle.fancy_steps.proofs.memos.Memos.group.Goals as goal

pub returns-then-group-first : goal.returns-then-group-first
returns-then-group-first c =
    let groups = c.args.self.now.groups in
    sym (none_before groups.spans.items groups.first c.args.group (omega (arith, c.if-group-first.true, c.first-first.ensures)))

pub returns-in-None : goal.returns-in-None
returns-in-None c =
    let spans = c.spans.result.now in
    let first = c.args.self.now.groups.first in
    let behind = c.in-None.ensures.lookup.3 in
    sym (span_behind spans first c.args.group (omega (arith, behind, c.if-group-first.false, c.first-first.ensures))) ∙ c.spans.ensures c.args.group

pub returns-in-Some : goal.returns-in-Some
returns-in-Some c =
    let spans = c.spans.result.now in
    let first = c.args.self.now.groups.first in
    let index = c.args.group - c.first-first.result in
    let there : first + index ≡ c.args.group = omega (arith, c.if-group-first.false, c.first-first.ensures) in
    let inside = c.in-Some.ensures.lookup.3.0 in
    let same = same_Some _ _ (sym (slice_get-get_or spans index c.in-Some.span.now inside) ∙ slice_get-get_or spans index None inside) in
    c.in-Some.ensures.lookup.1 ∙ same ∙ sym (span_at spans first index inside) ∙ ap (span_from first spans) there ∙ c.spans.ensures c.args.group
