use Rattle.std.proofs.Common.{◌≡◌, ◌-◌, ◌<◌, length, Ok, None, refl, sym, ap, ◌∙◌, subst, arith}
use Rattle.fancy_matches.specs.Listing.{begun_at}
use Rattle.fancy_matches.specs.Matchers.{FindsCaptures}
use Rattle.fancy_steps.specs.SearchLimits.{EndsBy, StaysWithin}
use Rattle.fancy_scanner.specs.Limits.{passed_at}
use Rattle.fancy_scanner.specs.Scanning.{MayFail, MayPass, trees_of}
use Rattle.fancy_scanner.proofs.Passed.{TellsFrom, found_told, index_in, limit_told, none_past, none_told, rule_passes, tells_all, tells_nothing}
use Rattle.fancy_scanner.proofs.Rules.{IsScanFrom, back_past_limit, back_past_none, back_past_some, easy_by_delegates, easy_never_stops, fails_at, keeps_itself, rule_at, scan_of_none, tree_before}
use Rattle.fancy_scanner.proofs.scanner.TreeScanner.find_from.Goals as goal

pub trees-init : goal.trees-init
trees-init c =
    let v = c.args.self.now.trees in
    let all : c.len-index.result ≡ length v.items = c.len-index.ensures ∙ v.ok.0 in
    record {
      within = omega (arith, all);
      keeps = keeps_itself c.args.self.now;
      tells = tells_nothing c.len-index.result (passed_at c.args.self.now) (λ k le. none_past c.args.self.now k (omega (arith, le, all)));
      scanned = λ rules h. scan_of_none c.args.text.now c.args.pos rules v.items c.len-index.result h all;
    }

pub captures_of-requires-clause-within : goal.captures_of-requires-clause-within
captures_of-requires-clause-within c = omega (arith, c.trees.invariant.within, c.trees-test.true)

pub passed-requires : goal.passed-requires
passed-requires c = omega (arith, c.trees.invariant.within, c.trees-test.true, c.captures_of.ensures.same.count)

pub limit_of-requires : goal.limit_of-requires
limit_of-requires c =
    let passed = passed_at c.captures_of.new.self (c.trees.index - 1) in
    subst (EndsBy c.in-Err.error) (sym c.passed.ensures) (subst (λ r. StaysWithin r passed) c.in-Err.is c.captures_of.ensures.stays)

pub returns-in-None-clause-promise : goal.returns-in-None-clause-promise
returns-in-None-clause-promise c = λ rules h.
    let i = c.trees.invariant in
    let text = c.args.text.now in
    let pos = c.args.pos in
    let k = c.trees.index - 1 in
    let now = (i.keeps).same text rules h in
    let at = rule_at text rules c.trees.self.trees.items k now (omega (arith, i.within, c.trees-test.true)) in (
      fails_at text pos c.in-Err.error rules k at
          (subst (FindsCaptures (at.rule).input text (begun_at (at.rule).options pos)) c.in-Err.is
          (c.captures_of.ensures.promise rules at.rule now at.rest)),
      c.in-None.ensures.0,
    )

pub returns-in-None-clause-same : goal.returns-in-None-clause-same
returns-in-None-clause-same c = λ t rules h. c.captures_of.ensures.same.same t rules (c.trees.invariant.keeps.same t rules h)

pub trees-preserved-in-Ok-None : goal.trees-preserved-in-Ok-None
trees-preserved-in-Ok-None c =
    let text = c.args.text.now in
    let pos = c.args.pos in
    let k = c.trees.index - 1 in
    let none : passed_at c.captures_of.new.self k ≡ None =
    subst (λ r. StaysWithin r (passed_at c.captures_of.new.self k)) (c.in-Ok-None.is ∙ ap Ok c.in-Ok-None.field-0-is) c.captures_of.ensures.stays in
    tree_before text pos c.args.self.now c.trees.self c.captures_of.new.self c.trees.index c.trees.found _ c.trees.stopped _
    c.trees.invariant c.trees-test.true c.captures_of.ensures.same
    (none_told c.trees.self c.captures_of.new.self c.trees.index c.trees-test.true c.captures_of.ensures.others (index_in c.trees.found) c.trees.stopped
    c.trees.invariant.tells none)
    (λ rules at now scanned.
    back_past_none text pos rules (c.trees.index - 1) at c.trees.found c.trees.stopped scanned
    (subst (FindsCaptures (at.rule).input text (begun_at (at.rule).options pos)) (c.in-Ok-None.is ∙ ap Ok c.in-Ok-None.field-0-is)
    (c.captures_of.ensures.promise rules at.rule now at.rest)))

pub trees-preserved-in-Ok-Some : goal.trees-preserved-in-Ok-Some
trees-preserved-in-Ok-Some c =
    let text = c.args.text.now in
    let pos = c.args.pos in
    let k = c.trees.index - 1 in
    let none : passed_at c.captures_of.new.self k ≡ None =
    subst (λ r. StaysWithin r (passed_at c.captures_of.new.self k)) (c.in-Ok-Some.is ∙ ap Ok c.in-Ok-Some.field-0-is) c.captures_of.ensures.stays in
    tree_before text pos c.args.self.now c.trees.self c.captures_of.new.self c.trees.index c.trees.found _ c.trees.stopped _
    c.trees.invariant c.trees-test.true c.captures_of.ensures.same
    (found_told c.trees.self c.captures_of.new.self c.trees.index c.trees-test.true c.captures_of.ensures.others (index_in c.trees.found) c.trees.stopped
    c.trees.invariant.tells none _ c.earlier.ensures.one)
    (λ rules at now scanned.
    back_past_some text pos rules (c.trees.index - 1) at c.trees.found c.trees.stopped scanned c.in-Ok-Some.captures c.earlier.result
    (subst (FindsCaptures (at.rule).input text (begun_at (at.rule).options pos)) (c.in-Ok-Some.is ∙ ap Ok c.in-Ok-Some.field-0-is)
    (c.captures_of.ensures.promise rules at.rule now at.rest))
    (λ found within before. c.earlier.ensures.first text found within before))

pub trees-preserved : goal.trees-preserved
trees-preserved c =
    let text = c.args.text.now in
    let pos = c.args.pos in
    let k = c.trees.index - 1 in
    let t = c.captures_of.new.self in
    let passed : passed_at t k ≡ _ = sym c.passed.ensures ∙ c.in-Some.ensures.1 in
    tree_before text pos c.args.self.now c.trees.self t c.trees.index c.trees.found _ c.trees.stopped _
    c.trees.invariant c.trees-test.true c.captures_of.ensures.same
    (limit_told c.trees.self t c.trees.index c.trees-test.true c.captures_of.ensures.others (index_in c.trees.found) c.trees.stopped
    c.trees.invariant.tells c.in-Some.limit passed _ refl)
    (λ rules at now scanned.
    let there : k < length (trees_of t) = omega (arith, c.trees.invariant.within, c.trees-test.true, c.captures_of.ensures.same.count) in
    back_past_limit text pos rules (c.trees.index - 1) at c.trees.found c.trees.stopped scanned c.in-Some.limit _
    (subst (MayFail text pos at.rule) c.in-Some.ensures.0
    (subst (FindsCaptures (at.rule).input text (begun_at (at.rule).options pos)) c.in-Err.is
    (c.captures_of.ensures.promise rules at.rule now at.rest)))
    (subst (MayPass at.rule) passed
    (rule_passes text rules (trees_of t) k at.rule (c.captures_of.ensures.same.same text rules now) at.rest there)) refl)

pub returns-clause-promise : goal.returns-clause-promise
returns-clause-promise c = λ rules h.
    let none : c.trees.index ≡ 0 = omega (arith, c.trees-test.false) in
    let all = subst (λ n. IsScanFrom c.args.text.now c.args.pos rules n c.trees.found c.trees.stopped) none (c.trees.invariant.scanned rules h) in
    (all.replies, all.each, all.first, all.stops)

pub returns-clause-easy : goal.returns-clause-easy
returns-clause-easy c = λ rules h easy small.
    let none : c.trees.index ≡ 0 = omega (arith, c.trees-test.false) in
    easy_never_stops c.args.text.now c.args.pos rules c.trees.found c.trees.stopped small easy
    (subst (λ n. IsScanFrom c.args.text.now c.args.pos rules n c.trees.found c.trees.stopped) none (c.trees.invariant.scanned rules h))

pub returns-clause-easy_run : goal.returns-clause-easy_run
returns-clause-easy_run c = λ rules h easy small.
    let none : c.trees.index ≡ 0 = omega (arith, c.trees-test.false) in
    easy_by_delegates c.args.text.now c.args.pos rules c.trees.found c.trees.stopped small easy
    (subst (λ n. IsScanFrom c.args.text.now c.args.pos rules n c.trees.found c.trees.stopped) none (c.trees.invariant.scanned rules h))

pub returns-clause-stays : goal.returns-clause-stays
returns-clause-stays c =
    let none : c.trees.index ≡ 0 = omega (arith, c.trees-test.false) in
    tells_all (passed_at c.trees.self) (index_in c.trees.found) c.trees.stopped
    (subst (λ n. TellsFrom n (passed_at c.trees.self) (index_in c.trees.found) c.trees.stopped) none c.trees.invariant.tells)

pub returns-clause-same : goal.returns-clause-same
returns-clause-same c = λ t rules h. c.trees.invariant.keeps.same t rules h
