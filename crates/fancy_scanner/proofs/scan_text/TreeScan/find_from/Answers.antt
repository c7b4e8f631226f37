use Rattle.std.proofs.Common.{◌≡◌, Ok, IsTrue, refl, sym, ap, ◌∙◌, subst, arith}
use Rattle.std.proofs.lemmas.Result.{err_from_is_err_and}
use Rattle.fancy_meaning.specs.Places.{is_place}
use Rattle.fancy_scanner.specs.Scanning.{AreTreesOf, trees_of}
use Rattle.fancy_scanner.specs.Scans.{answers_of, found_match, text_of}
use Rattle.fancy_scanner.proofs.Kept.{goes_twice, held_still}
use Rattle.fancy_steps.specs.SearchLimits.{EndsBy}
use Rattle.fancy_scanner.specs.Limits.{passed_from}
use Rattle.fancy_scanner.proofs.Passed.{TellsFrom, index_of, none_past_in, tells_all, tells_nothing}
use Rattle.fancy_scanner.proofs.Rules.{IsScanFrom, easy_by_delegates, easy_never_stops, scan_of_none}
use Rattle.fancy_scanner.proofs.Steps.{fails_so, limit_so, no_memory, none_so, some_so, whole_of}
use Rattle.fancy_scanner.proofs.scan_text.TreeScan.find_from.Goals as goal

pub returns-in_err-make_room-clause-promise : goal.returns-in_err-make_room-clause-promise
returns-in_err-make_room-clause-promise c = λ rules h.
    let p = err_from_is_err_and c.from_residual.result c.from_residual.ensures.1 in
    rw (p.1, p.2)
    (no_memory (text_of c.args.self.now) c.args.pos rules (trees_of c.args.self.now.scanner.now) h.scanner c.in_err-make_room.ensures.refused, tt)

pub trees-init : goal.trees-init
trees-init c =
    let s = c.make_room.new.self in
    let goes = c.make_room.ensures.goes_on in
    record {
      within = omega (arith, c.tree_count-index.ensures);
      room = c.in_ok-make_room.ensures.room;
      goes = goes;
      held = c.make_room.ensures.held c.args.pos;
      seen = tt;
      tells =
          tells_nothing c.tree_count-index.result (passed_from c.args.pos s)
          (λ k le. none_past_in c.args.pos s k (omega (arith, le, c.tree_count-index.ensures)));
      scanned = λ rules h.
          let now = (goes.still rules h).scanner in
          scan_of_none (text_of c.args.self.now) c.args.pos rules (trees_of s.scanner.now) c.tree_count-index.result
          (subst (λ u. AreTreesOf rules u (trees_of s.scanner.now)) goes.within now) c.tree_count-index.ensures;
    }

pub look-requires-clause-within : goal.look-requires-clause-within
look-requires-clause-within c = omega (arith, c.trees.invariant.within, c.trees-test.true)

pub look-requires-clause-room : goal.look-requires-clause-room
look-requires-clause-room c = c.trees.invariant.room

pub look-requires-clause-place : goal.look-requires-clause-place
look-requires-clause-place c = subst (λ u. IsTrue (is_place u c.args.pos)) (sym c.trees.invariant.goes.within) c.requires

pub returns-in-None-clause-promise : goal.returns-in-None-clause-promise
returns-in-None-clause-promise c = λ rules h. (
  fails_so c.args.pos c.args.self.now c.trees.self c.look.new.self c.trees.index c.trees.found c.trees.stopped c.trees.invariant c.trees-test.true
      c.look.ensures.goes_on c.look.ensures.held c.look.ensures.others c.look.ensures.limits c.look.result c.look.ensures.promise c.in-Err.error c.in-Err.is rules h,
  c.in-None.ensures.0,
)

pub returns-in-None-clause-goes_on : goal.returns-in-None-clause-goes_on
returns-in-None-clause-goes_on c = goes_twice c.args.self.now c.trees.self c.look.new.self c.trees.invariant.goes c.look.ensures.goes_on

pub returns-in-None-clause-held : goal.returns-in-None-clause-held
returns-in-None-clause-held c =
    held_still c.args.self.now c.trees.self c.look.new.self c.args.pos c.trees.invariant.goes.trees c.trees.invariant.held c.look.ensures.held

pub trees-preserved-in-Ok-None : goal.trees-preserved-in-Ok-None
trees-preserved-in-Ok-None c =
    none_so c.args.pos c.args.self.now c.trees.self c.look.new.self c.trees.index c.trees.found c.trees.stopped c.trees.invariant c.trees-test.true
    c.look.ensures.goes_on c.look.ensures.held c.look.ensures.others c.look.ensures.limits c.look.result c.look.ensures.promise c.look.ensures.whole
    c.in-Ok-None.ensures.kept (c.in-Ok-None.is ∙ ap Ok c.in-Ok-None.field-0-is)

pub trees-preserved-in-Ok-Some : goal.trees-preserved-in-Ok-Some
trees-preserved-in-Ok-Some c =
    some_so c.args.pos c.args.self.now c.trees.self c.look.new.self c.trees.index c.trees.found c.trees.stopped c.trees.invariant c.trees-test.true
    c.look.ensures.goes_on c.look.ensures.held c.look.ensures.others c.look.ensures.limits c.look.result c.look.ensures.promise c.look.ensures.whole
    c.in-Ok-Some.ensures.kept c.in-Ok-Some.whole (c.in-Ok-Some.is ∙ ap Ok c.in-Ok-Some.field-0-is) c.earlier.result c.earlier.ensures

pub trees-preserved : goal.trees-preserved
trees-preserved c =
    limit_so c.args.pos c.args.self.now c.trees.self c.look.new.self c.trees.index c.trees.found c.trees.stopped c.trees.invariant c.trees-test.true
    c.look.ensures.goes_on c.look.ensures.held c.look.ensures.others c.look.ensures.limits c.look.result c.look.ensures.promise c.in-Err.error c.in-Err.is c.in-Some.limit
    c.in-Some.ensures.0 (sym c.passed.ensures ∙ c.in-Some.ensures.1) c.in-Err.ensures.failed.0 _ refl

pub returns-clause-promise : goal.returns-clause-promise
returns-clause-promise c = λ rules h.
    let none : c.trees.index ≡ 0 = omega (arith, c.trees-test.false) in
    let all =
    subst (λ n. IsScanFrom (text_of c.args.self.now) c.args.pos rules n (found_match (answers_of c.trees.self) c.trees.found) c.trees.stopped) none
    (c.trees.invariant.scanned rules h) in
    (all.replies, all.each, all.first, all.stops)

pub returns-clause-easy : goal.returns-clause-easy
returns-clause-easy c = λ rules h easy small.
    let none : c.trees.index ≡ 0 = omega (arith, c.trees-test.false) in
    easy_never_stops (text_of c.args.self.now) c.args.pos rules (found_match (answers_of c.trees.self) c.trees.found) c.trees.stopped small easy
    (subst (λ n. IsScanFrom (text_of c.args.self.now) c.args.pos rules n (found_match (answers_of c.trees.self) c.trees.found) c.trees.stopped) none
    (c.trees.invariant.scanned rules h))

pub returns-clause-easy_run : goal.returns-clause-easy_run
returns-clause-easy_run c = λ rules h easy small.
    let none : c.trees.index ≡ 0 = omega (arith, c.trees-test.false) in
    easy_by_delegates (text_of c.args.self.now) c.args.pos rules (found_match (answers_of c.trees.self) c.trees.found) c.trees.stopped small easy
    (subst (λ n. IsScanFrom (text_of c.args.self.now) c.args.pos rules n (found_match (answers_of c.trees.self) c.trees.found) c.trees.stopped) none
    (c.trees.invariant.scanned rules h))

pub returns-clause-stays : goal.returns-clause-stays
returns-clause-stays c =
    let none : c.trees.index ≡ 0 = omega (arith, c.trees-test.false) in
    tells_all (passed_from c.args.pos c.trees.self) (index_of c.trees.found) c.trees.stopped
    (subst (λ n. TellsFrom n (passed_from c.args.pos c.trees.self) (index_of c.trees.found) c.trees.stopped) none c.trees.invariant.tells)

pub passed-requires : goal.passed-requires
passed-requires c = omega (arith, c.trees.invariant.within, c.trees-test.true, c.look.ensures.goes_on.trees.count)

pub limit_of-requires : goal.limit_of-requires
limit_of-requires c = subst (EndsBy c.in-Err.error) (sym c.passed.ensures) c.in-Err.ensures.failed.1

pub returns-clause-whole : goal.returns-clause-whole
returns-clause-whole c = whole_of (answers_of c.trees.self) c.trees.index c.trees.found c.trees.invariant.seen

pub returns-clause-held : goal.returns-clause-held
returns-clause-held c = c.trees.invariant.held

pub returns-clause-goes_on : goal.returns-clause-goes_on
returns-clause-goes_on c = c.trees.invariant.goes
