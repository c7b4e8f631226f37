use Rattle.std.proofs.Common.{reverse, ◌∙◌, sym}
use Rattle.std.proofs.lemmas.List.{length-reverse}
use Rattle.fancy_state.specs.OldValues.{values_of}
use Rattle.fancy_state.proofs.HeldLaws.{length-held}
use Rattle.fancy_state.proofs.state.State.backtrack_count.Goals as goal

pub returns : goal.returns
returns c =
    let s = c.self.inside in
    rw (← c.self.view_is) (c.len.ensures ∙ s.branches.ok.0 ∙ sym (length-held s.slot_count s.cells.log (values_of s.cells.values) (reverse s.branches.items) ∙ length-reverse s.branches.items))
