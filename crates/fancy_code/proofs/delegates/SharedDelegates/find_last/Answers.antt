use Rattle.std.proofs.Common.{◌≡◌, ◌-◌, length, Some, sym, ap, ◌∙◌, subst}
use Rattle.std.specs.List.{slice_get}
use Rattle.fancy_fragments.specs.declared.delegate.Delegate.{Delegate}
use Rattle.fancy_fragments.specs.Fragments.{fragment_of}
use Rattle.fancy_code.proofs.DelegateTable.{taken_again}
use Rattle.fancy_code.proofs.delegates.SharedDelegates.find_last.Goals as goal

pub returns-then-is_same : goal.returns-then-is_same
returns-then-is_same c =
    let place = length c.deref.result.now - 1 in
    let x = c.in_ok-delegate.delegate.now in
    let there = subst (λ l. slice_get l place ≡ Some x) c.deref.ensures.value (sym c.in_ok-delegate.ensures.value) in
    let own = c.fragment.ensures ∙ ap (λ (d : Delegate). d.fragment) c.deref-2.ensures in
    taken_again c.args.unicode c.args.infos.now _ _ _ (c.args.self.now.known place x there)
    (ap fragment_of (sym own) ∙ c.is_of-is_same.ensures c.if-is_same.true)
