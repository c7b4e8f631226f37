use Rattle.std.proofs.Common.{◌≡◌, ◌-◌, length, Ok, IsTrue, refl, sym, ap, ◌∙◌, subst, arith}
use Rattle.std.proofs.lemmas.Result.{err_from_is_err_and}
use Rattle.fancy_meaning.specs.Places.{is_place}
use Rattle.fancy_scanner.specs.Among.{answers_among}
use Rattle.fancy_scanner.specs.Scans.{found_match, text_of}
use Rattle.fancy_scanner.proofs.Kept.{goes_twice, held_still}
use Rattle.fancy_steps.specs.SearchLimits.{EndsBy}
use Rattle.fancy_scanner.specs.Limits.{passed_among}
use Rattle.fancy_scanner.proofs.Passed.{TellsFrom, index_of, none_past_order, tells_all, tells_nothing}
use Rattle.fancy_scanner.proofs.Rules.{IsScanFrom, easy_by_delegates, easy_never_stops}
use Rattle.fancy_scanner.proofs.OrderSteps.{fails_among_so, limit_among_so, no_memory_among, none_among, none_among_so, read_or, skipped_so, some_among_so, some_of, whole_among}
use Rattle.fancy_scanner.proofs.scan_text.TreeScan.find_among.Goals as goal

pub returns-in_err-make_room-clause-promise : goal.returns-in_err-make_room-clause-promise
returns-in_err-make_room-clause-promise c = λ rules picked h picks.
    let p = err_from_is_err_and c.from_residual.result c.from_residual.ensures.1 in
    rw (p.1, p.2) (
      no_memory_among (text_of c.args.self.now) c.args.pos rules c.args.order.now picked picks
          (some_of (length c.args.order.now) (sym c.is_empty.ensures ∙ c.if-is_empty.false)),
      tt,
    )

pub trees-init : goal.trees-init
trees-init c = record {
  within = omega arith;
  counted = c.tree_count-count.ensures;
  room = c.in_ok-make_room.ensures.room;
  goes = c.make_room.ensures.goes_on;
  held = c.make_room.ensures.held c.args.pos;
  seen = tt;
  tells = λ distinct.
      tells_nothing (length c.args.order.now) (passed_among c.args.pos c.args.order.now c.make_room.new.self)
      (none_past_order c.args.pos c.args.order.now c.make_room.new.self);
  scanned = λ rules picked of picks. none_among c.args.pos c.args.order.now c.args.self.now rules picked picks;
}

pub look-requires-clause-within : goal.look-requires-clause-within
look-requires-clause-within c = omega (arith, c.if-tree-count.false, c.trees.invariant.counted)

pub look-requires-clause-room : goal.look-requires-clause-room
look-requires-clause-room c = c.trees.invariant.room

pub look-requires-clause-place : goal.look-requires-clause-place
look-requires-clause-place c = subst (λ u. IsTrue (is_place u c.args.pos)) (sym c.trees.invariant.goes.within) c.requires

pub returns-in-None-clause-goes_on : goal.returns-in-None-clause-goes_on
returns-in-None-clause-goes_on c = goes_twice c.args.self.now c.trees.self c.look.new.self c.trees.invariant.goes c.look.ensures.goes_on

pub returns-in-None-clause-held : goal.returns-in-None-clause-held
returns-in-None-clause-held c =
    held_still c.args.self.now c.trees.self c.look.new.self c.args.pos c.trees.invariant.goes.trees c.trees.invariant.held c.look.ensures.held

pub trees-preserved-in-Ok-None : goal.trees-preserved-in-Ok-None
trees-preserved-in-Ok-None c =
    none_among_so c.args.pos c.args.order.now c.args.self.now c.trees.self c.look.new.self c.tree_count-count.result c.trees.index c.trees.found
    c.trees.stopped c.trees.invariant c.trees-test.true _
    (read_or c.args.order.now (c.trees.index - 1) (omega (arith, c.trees.invariant.within, c.trees-test.true))) c.look.ensures.goes_on
    c.look.ensures.held c.look.ensures.others c.look.ensures.limits c.look.result c.look.ensures.promise c.look.ensures.whole
    c.in-Ok-None.ensures.kept (c.in-Ok-None.is ∙ ap Ok c.in-Ok-None.field-0-is)

pub trees-preserved-in-Ok-Some : goal.trees-preserved-in-Ok-Some
trees-preserved-in-Ok-Some c =
    some_among_so c.args.pos c.args.order.now c.args.self.now c.trees.self c.look.new.self c.tree_count-count.result c.trees.index c.trees.found
    c.trees.stopped c.trees.invariant c.trees-test.true _
    (read_or c.args.order.now (c.trees.index - 1) (omega (arith, c.trees.invariant.within, c.trees-test.true))) c.look.ensures.goes_on
    c.look.ensures.held c.look.ensures.others c.look.ensures.limits c.look.result c.look.ensures.promise c.look.ensures.whole c.in-Ok-Some.ensures.kept
    c.in-Ok-Some.whole (c.in-Ok-Some.is ∙ ap Ok c.in-Ok-Some.field-0-is) c.earlier.result c.earlier.ensures

pub trees-preserved : goal.trees-preserved
trees-preserved c =
    limit_among_so c.args.pos c.args.order.now c.args.self.now c.trees.self c.look.new.self c.tree_count-count.result c.trees.index c.trees.found
    c.trees.stopped c.trees.invariant c.trees-test.true _
    (read_or c.args.order.now (c.trees.index - 1) (omega (arith, c.trees.invariant.within, c.trees-test.true))) c.look.ensures.goes_on
    c.look.ensures.held c.look.ensures.others c.look.ensures.limits c.look.result c.look.ensures.promise c.in-Err.error c.in-Err.is c.in-Some.limit
    c.in-Some.ensures.0 (sym c.passed.ensures ∙ c.in-Some.ensures.1) c.in-Err.ensures.failed.0 _ refl

pub trees-preserved-then-tree-count : goal.trees-preserved-then-tree-count
trees-preserved-then-tree-count c =
    skipped_so c.args.pos c.args.order.now c.args.self.now c.trees.self c.tree_count-count.result c.trees.index c.trees.found c.trees.stopped
    c.trees.invariant c.trees-test.true _
    (read_or c.args.order.now (c.trees.index - 1) (omega (arith, c.trees.invariant.within, c.trees-test.true))) c.if-tree-count.true

pub returns-in-None-clause-promise : goal.returns-in-None-clause-promise
returns-in-None-clause-promise c = λ rules picked h picks. (
  fails_among_so c.args.pos c.args.order.now c.args.self.now c.trees.self c.look.new.self c.tree_count-count.result c.trees.index c.trees.found
      c.trees.stopped c.trees.invariant c.trees-test.true _
      (read_or c.args.order.now (c.trees.index - 1) (omega (arith, c.trees.invariant.within, c.trees-test.true))) c.look.ensures.goes_on
      c.look.ensures.held c.look.ensures.others c.look.ensures.limits c.look.result c.look.ensures.promise c.in-Err.error c.in-Err.is rules picked h picks,
  c.in-None.ensures.0,
)

pub returns-clause-promise : goal.returns-clause-promise
returns-clause-promise c = λ rules picked h picks.
    let none : c.trees.index ≡ 0 = omega (arith, c.trees-test.false) in
    let all =
    subst
    (λ n. IsScanFrom (text_of c.args.self.now) c.args.pos picked n (found_match (answers_among c.trees.self c.args.order.now) c.trees.found) c.trees.stopped)
    none (c.trees.invariant.scanned rules picked h picks) in
    (all.replies, all.each, all.first, all.stops)

pub returns-clause-easy : goal.returns-clause-easy
returns-clause-easy c = λ rules picked h picks easy small.
    let none : c.trees.index ≡ 0 = omega (arith, c.trees-test.false) in
    easy_never_stops (text_of c.args.self.now) c.args.pos picked (found_match (answers_among c.trees.self c.args.order.now) c.trees.found)
    c.trees.stopped small easy
    (subst
    (λ n. IsScanFrom (text_of c.args.self.now) c.args.pos picked n (found_match (answers_among c.trees.self c.args.order.now) c.trees.found) c.trees.stopped)
    none (c.trees.invariant.scanned rules picked h picks))

pub returns-clause-easy_run : goal.returns-clause-easy_run
returns-clause-easy_run c = λ rules picked h picks easy small.
    let none : c.trees.index ≡ 0 = omega (arith, c.trees-test.false) in
    easy_by_delegates (text_of c.args.self.now) c.args.pos picked (found_match (answers_among c.trees.self c.args.order.now) c.trees.found)
    c.trees.stopped small easy
    (subst
    (λ n. IsScanFrom (text_of c.args.self.now) c.args.pos picked n (found_match (answers_among c.trees.self c.args.order.now) c.trees.found) c.trees.stopped)
    none (c.trees.invariant.scanned rules picked h picks))

pub returns-clause-stays : goal.returns-clause-stays
returns-clause-stays c = λ distinct.
    let none : c.trees.index ≡ 0 = omega (arith, c.trees-test.false) in
    tells_all (passed_among c.args.pos c.args.order.now c.trees.self) (index_of c.trees.found) c.trees.stopped
    (subst (λ n. TellsFrom n (passed_among c.args.pos c.args.order.now c.trees.self) (index_of c.trees.found) c.trees.stopped) none
    (c.trees.invariant.tells distinct))

pub passed-requires : goal.passed-requires
passed-requires c = omega (arith, c.if-tree-count.false, c.trees.invariant.counted, c.look.ensures.goes_on.trees.count)

pub limit_of-requires : goal.limit_of-requires
limit_of-requires c = subst (EndsBy c.in-Err.error) (sym c.passed.ensures) c.in-Err.ensures.failed.1

pub returns-clause-whole : goal.returns-clause-whole
returns-clause-whole c = whole_among c.args.pos c.args.order.now c.trees.self c.trees.found c.trees.invariant.seen

pub returns-clause-held : goal.returns-clause-held
returns-clause-held c = c.trees.invariant.held

pub returns-clause-goes_on : goal.returns-clause-goes_on
returns-clause-goes_on c = c.trees.invariant.goes
