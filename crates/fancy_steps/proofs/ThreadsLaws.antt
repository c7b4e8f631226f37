-- What a run has noted may go to other threads.
use denote.Param.Send.{IsSend, sendable}
use Rattle.std.proofs.Crossing as std
use Rattle.std.proofs.MapsCrossing as maps
use Rattle.fancy_backtrack.specs.contracts.memo.Memo as Memo
use Rattle.fancy_nfa.specs.contracts.group_spans.GroupSpans as GroupSpans
use Rattle.fancy_steps.specs.contracts.memos.Memos as Memos

-- each type in turn, since a `search` through all of them at once runs out of steps
memo_sends : IsSend Memo.the_field.row
memo_sends = search (std.crosses, maps.crosses, sendable) depth 60 fits 20000

groups_send : IsSend GroupSpans.the_field.row
groups_send = search (std.crosses, sendable) depth 60 fits 20000

pub memos_sends : IsSend Memos.the_field.row
memos_sends = search (memo_sends, groups_send, std.crosses, sendable) depth 60 fits 20000
