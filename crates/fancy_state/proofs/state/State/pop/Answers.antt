use Rattle.std.proofs.Common.{◌≡◌, ◌∷◌, List, length, reverse, ap, ◌∙◌, sym, arith, subst}
use Rattle.std.proofs.lemmas.List.{length-reverse}
use Rattle.fancy_state.specs.OldValues.{values_of, IsSound}
use Rattle.fancy_state.specs.declared.state.Branch.{Branch}
use Rattle.fancy_state.proofs.CellLaws.{length-slots}
use Rattle.fancy_state.proofs.HeldLaws.{length-held, reversed}
use Rattle.fancy_state.proofs.StateLaws.{pop_sound, pop_held}
use Rattle.fancy_state.proofs.state.State.pop.Goals as goal

pub unreachable-requires : goal.unreachable-requires
unreachable-requires c =
    let s = c.self.inside in
    omega (
      arith,
      c.requires,
      ap (λ s. length s.held.branches) c.self.view_is,
      length-held s.slot_count s.cells.log (values_of s.cells.values) (reverse s.branches.items),
      length-reverse s.branches.items,
      s.branches.ok.0,
      c.in_default.ensures.cases.0,
    )

pub unwind-requires : goal.unwind-requires
unwind-requires c =
    let s = c.self.inside in
    let was : reverse s.branches.items ≡ c.in-Some.field-0 ∷ reverse c.pop.new.self.items = reversed c.pop.new.self.items s.branches.items c.in-Some.field-0 c.in-Some.ensures.items in
    (subst (λ (bs : List Branch). IsSound s.slot_count s.cells.values s.cells.log bs) was c.self.invariant).marks.0

pub invariant_of-self : goal.invariant_of-self
invariant_of-self c =
    let s = c.self.inside in
    let b = c.in-Some.field-0 in
    let bs = reverse c.pop.new.self.items in
    let was : reverse s.branches.items ≡ b ∷ bs = reversed c.pop.new.self.items s.branches.items b c.in-Some.ensures.items in
    let sound = subst (λ (bs : List Branch). IsSound s.slot_count s.cells.values s.cells.log bs) was c.self.invariant in
    let done = c.unwind.ensures in
    pop_sound s.slot_count s.cells.values c.unwind.new.self.values s.cells.log c.unwind.new.self.log b bs done.agrees done.log done.values sound

pub returns-clause-branch : goal.returns-clause-branch
returns-clause-branch c =
    let s = c.self.inside in
    let b = c.in-Some.field-0 in
    let bs = reverse c.pop.new.self.items in
    let was : reverse s.branches.items ≡ b ∷ bs = reversed c.pop.new.self.items s.branches.items b c.in-Some.ensures.items in
    let sound = subst (λ (bs : List Branch). IsSound s.slot_count s.cells.values s.cells.log bs) was c.self.invariant in
    let done = c.unwind.ensures in
    rw (← c.self.view_is, was)
    (pop_held s.slot_count s.cells.values c.unwind.new.self.values s.cells.log c.unwind.new.self.log b bs done.agrees done.log done.values sound)

pub returns-clause-slots : goal.returns-clause-slots
returns-clause-slots c =
    let n = c.self.inside.slot_count in
    rw (← c.self.view_is) (length-slots n (values_of c.unwind.new.self.values) ∙ sym (length-slots n (values_of c.self.inside.cells.values)))
