use Rattle.std.proofs.Common.{rules, map-id}
use Rattle.std.proofs.lemmas.Iterator.Adapters.{YieldsList-from_vec}
use Rattle.std.proofs.lemmas.Iterator.Consumers.{YieldsList-end}
use Rattle.fancy_characters.proofs.MembersLaws.{set_has_members, group_has_members, none_have_no_members, one_more_has_members, any_have_members}
use Rattle.fancy_characters.proofs.members.+set_members.Goals as goal

pub set_members-returns-in-Chars : goal.set_members-returns-in-Chars
set_members-returns-in-Chars t c = set_has_members c.args.set c.in-Chars.class c.in-Chars.is

pub set_members-returns-in-Capture : goal.set_members-returns-in-Capture
set_members-returns-in-Capture t c =
    group_has_members c.args.set c.in-Capture.index c.in-Capture.sub c.in-Capture.is c.into_inner.result c.into_inner.ensures
    c.set_members.result c.set_members.ensures

pub members_of_any-sets-init : goal.members_of_any-sets-init
members_of_any-sets-init t c = rw c.new-ranges.ensures.items none_have_no_members

pub members_of_any-sets-preserved : goal.members_of_any-sets-preserved
members_of_any-sets-preserved t c =
    rw (c.in_ok-extend_from_slice-in-Some-2.ensures.items, c.deref.ensures.value)
    (one_more_has_members c.sets.yielded c.in-Some.set c.sets.ranges.items c.in-Some-2.members.ranges.items c.sets.invariant
    (rw c.in-Some-2.is at c.in_ok-members.ensures))

pub members_of_any-returns : goal.members_of_any-returns
members_of_any-returns t c =
    let end = YieldsList-end (YieldsList-from_vec {s = c.into_iter-set-iterator.result} c.args.sets.items (search rules) (search rules))
    c.sets.yielded c.sets.set-iterator c.sets.yielded_by c.next.result c.next.new.self c.in-None.is c.next.ensures.steps in
    rw (← end.0, map-id) (any_have_members c.sets.yielded c.sets.ranges.items c.sets.invariant c.in_ok-new.field-0 c.in_ok-new.ensures)
