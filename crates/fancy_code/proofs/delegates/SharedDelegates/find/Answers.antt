use Rattle.std.proofs.Common.{◌≡◌, length, get_or, Some, refl, sym, ap, ◌∙◌, subst}
use Rattle.std.specs.List.{slice_get}
use Rattle.std.proofs.lemmas.Option.{slice_get_read}
use Rattle.fancy_fragments.specs.declared.delegate.Delegate.{Delegate}
use Rattle.fancy_fragments.specs.Fragments.{fragment_of}
use Rattle.fancy_code.proofs.DelegateTable.{taken_again}
use Rattle.fancy_code.proofs.delegates.SharedDelegates.find.Goals as goal

pub returns-then-is_of : goal.returns-then-is_of
returns-then-is_of c =
    let l = c.deref.result.now in
    let place = get_or c.deref-place-items.result.now c.loop-place.place-index 0 in
    let x = c.in_ok-delegate.delegate.now in
    let there = subst (λ m. slice_get m place ≡ Some x) c.deref.ensures.value
    (slice_get_read l (length l) place x refl c.in_ok-delegate.ensures.lookup.3.0 c.in_ok-delegate.ensures.lookup.1) in
    let own = c.fragment.ensures ∙ ap (λ (d : Delegate). d.fragment) c.deref-in-loop-place.ensures in
    taken_again c.args.unicode c.args.infos.now _ _ _ (c.args.self.now.known place x there)
    (ap fragment_of (sym own) ∙ c.is_of.ensures c.if-is_of.true)
