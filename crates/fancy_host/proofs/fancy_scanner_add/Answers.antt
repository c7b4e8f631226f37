use Rattle.std.proofs.Common.{Some, sym, subst}
use Rattle.fancy_host.specs.Scanned.{HoldsSame, IsHeldBy, keeps}
use Rattle.fancy_host.proofs.PatternsHeld.{added_so, lacks_memory}
use Rattle.fancy_host.proofs.fancy_scanner_add.Goals as goal

pub returns-in-Err : goal.returns-in-Err
returns-in-Err c = keeps c.in-Err.ensures (λ rules text h. h)

pub returns-in-Err-take_or_new : goal.returns-in-Err-take_or_new
returns-in-Err-take_or_new c =
    lacks_memory c.args.pattern.now c.args.options.now c.args.scanner.now.handle.scanner c.take_or_new.new.self.handle.scanner c.coded.result
    c.in-Ok.rule.compiled c.in-Ok.rule.groups c.in-Ok.ensures
    (λ rules text h. subst (IsHeldBy rules text) (sym c.in-Err-take_or_new.ensures.kept) h) c.coded.ensures

pub returns-in-Ok-added : goal.returns-in-Ok-added
returns-in-Ok-added c =
    let held = c.args.scanner.now.handle.scanner in
    added_so c.args.pattern.now c.args.options.now held c.of.result.handle.scanner c.compiled.result c.in-Ok.rule.compiled c.in-Ok.rule.groups
    c.in-Ok.ensures c.deref_mut.result.now c.push-added.new.self
    (subst (λ s. HoldsSame held (Some s)) (sym c.deref_mut.ensures.value) c.in-Ok-take_or_new.ensures.held) c.in-Ok-added.ensures.ok c.of.ensures
    c.compiled.ensures

pub returns-in-Err-added : goal.returns-in-Err-added
returns-in-Err-added c =
    let held = c.args.scanner.now.handle.scanner in
    let taken = subst (λ s. HoldsSame held (Some s)) (sym c.deref_mut.ensures.value) c.in-Ok-take_or_new.ensures.held in
    lacks_memory c.args.pattern.now c.args.options.now held c.of.result.handle.scanner c.coded-in-Err-added.result c.in-Ok.rule.compiled
    c.in-Ok.rule.groups c.in-Ok.ensures
    (subst (HoldsSame held) (sym c.of.ensures) (λ rules text h. c.in-Err-added.ensures.err text rules (taken rules text h))) c.coded-in-Err-added.ensures
