use Rattle.std.proofs.Common.{sym, ap, ◌∙◌}
use Rattle.fancy_code.specs.Drafts.{draft_of, with_jumps}
use Rattle.fancy_code.proofs.Patches.{with_jumps_last}
use Rattle.fancy_compile.proofs.alternations.patch_jumps.Goals as goal

pub loop-jump-preserved : goal.loop-jump-preserved
loop-jump-preserved c =
    ap (with_jumps c.pop.new.self.items c.len-end.result) c.patch.ensures
    ∙ sym (with_jumps_last c.pop.new.self.items c.in-Some.jump c.len-end.result (draft_of c.loop-jump.writer))
    ∙ ap (λ l. with_jumps l c.len-end.result (draft_of c.loop-jump.writer)) (sym c.in-Some.ensures.items)
    ∙ c.loop-jump.invariant
