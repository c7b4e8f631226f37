use Rattle.std.proofs.Common.{◌≡◌, [], ◌++◌, map, arith, sym, ap, ◌∙◌, append-nil, append_assoc}
use Rattle.std.proofs.lemmas.List.{take_all}
use Rattle.std.specs.BTreeMap as tree
use Rattle.std.specs.Map.{lookup}
use Rattle.std.specs.Ordering.{nat_cmp}
use Rattle.fancy_nfa_laws.specs.FirstWays.{spans_of}
use Rattle.fancy_backtrack.specs.Paths.{closed_after}
use Rattle.fancy_nfa.specs.Ways.{span_entry}
use Rattle.fancy_nfa.proofs.WayLaws.{lookup_tied, spans_put, spans_stay}
use Rattle.std.proofs.lemmas.List.{map-append}
use Rattle.fancy_nfa.proofs.first_way.spans_by_map.Goals as goal
use Rattle.fancy_nfa.proofs.first_way.spans_by_map.Goals.{in-Closed+in_ok-insert, in_default}

pub loop-entry-preserved : goal.loop-entry-preserved
loop-entry-preserved c = λ g.
    let had = tree.get nat_cmp c.loop-entry.last g in
    elim c.match-entry.branch [
      | in-Closed+in_ok-insert w ↦
          ap (λ m. tree.get nat_cmp m g) w.last-is
          ∙ spans_put c.args.entries.now c.loop-entry.entry-index g had (tree.get nat_cmp w.insert.new.self g)
          c.loop-entry-test.true (c.loop-entry.invariant g)
          _ w.in-Closed.group w.in-Closed.from w.in-Closed.to w.in-Closed.is (w.in_ok-insert.ensures.updates.0 g)
      | in_default w ↦
          ap (λ m. tree.get nat_cmp m g) w.last-is
          ∙ spans_stay c.args.entries.now c.loop-entry.entry-index g had had
          c.loop-entry-test.true (c.loop-entry.invariant g) _ w.in_default.not-Closed
    ]

pub returns-clause-listed : goal.returns-clause-listed
returns-clause-listed c = λ g.
    let entries = map span_entry c.loop-group.spans.items in
    let whole : entries ≡ c.loop-entry.last.entries =
    sym (append-nil entries) ∙ ap (λ rest. entries ++ rest) (sym c.in-None.ensures.steps.0)
    ∙ c.loop-group.invariant ∙ c.into_iter-group-iterator.ensures.into_iter_gives.0 in
    lookup_tied g entries ∙ ap (λ es. lookup (tree.is_at (nat_cmp g)) es) whole ∙ c.loop-entry.invariant g
    ∙ ap (λ es. spans_of (closed_after [] es) g)
    (take_all c.loop-entry.entry-index c.args.entries.now (omega (arith, c.loop-entry-test.false)))

pub loop-group-preserved : goal.loop-group-preserved
loop-group-preserved c = grind (arith, map-append, append_assoc)
