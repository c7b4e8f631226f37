-- Fragments may go to other threads, and several may use one fragment at once.
use denote.Param.Send.{IsSend, IsSync, sendable}
use Rattle.std.proofs.Crossing as std
use Rattle.fancy_expr.proofs.expr.Absent.TheLaws.TheKnot as expr
use Rattle.fancy_nfa.proofs.ThreadsLaws.{nfa_sends, nfa_syncs}
use Rattle.fancy_fragments.specs.contracts.fragment.Fragment as Fragment
use Rattle.fancy_fragments.specs.contracts.delegate.Delegate as Delegate

-- each type in turn, since a `search` through all of them at once runs out of steps
fragment_sends : IsSend Fragment.the_field.row
fragment_sends = search (nfa_sends, std.crosses, expr.crosses, sendable) depth 60 fits 20000

pub delegate_sends : IsSend Delegate.the_field.row
delegate_sends = search (fragment_sends, std.crosses, sendable) depth 60 fits 20000

fragment_syncs : IsSync Fragment.the_field.row
fragment_syncs = search (nfa_syncs, std.crosses, expr.crosses, sendable) depth 60 fits 20000

pub delegate_syncs : IsSync Delegate.the_field.row
delegate_syncs = search (fragment_syncs, std.crosses, sendable) depth 60 fits 20000
