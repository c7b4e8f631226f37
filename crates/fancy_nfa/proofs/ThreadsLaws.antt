-- NFAs may go to other threads, and several may use one at once.
use denote.Param.Send.{IsSend, IsSync, sendable}
use Rattle.std.proofs.Crossing as std
use Rattle.fancy_characters.proofs.ThreadsLaws.{class_sends, class_syncs}
use Rattle.fancy_nfa.specs.contracts.nfa_state.CharTest as CharTest
use Rattle.fancy_nfa.specs.contracts.nfa_state.NfaState as NfaState
use Rattle.fancy_nfa.specs.contracts.nfa.Nfa as Nfa

-- each type in turn, since a `search` through all of them at once runs out of steps
test_sends : IsSend CharTest.the_field.row
test_sends = search (class_sends, std.crosses, sendable) depth 60 fits 20000

state_sends : IsSend NfaState.the_field.row
state_sends = search (test_sends, std.crosses, sendable) depth 60 fits 20000

pub nfa_sends : IsSend Nfa.the_field.row
nfa_sends = search (state_sends, std.crosses, sendable) depth 60 fits 20000

test_syncs : IsSync CharTest.the_field.row
test_syncs = search (class_syncs, std.crosses, sendable) depth 60 fits 20000

state_syncs : IsSync NfaState.the_field.row
state_syncs = search (test_syncs, std.crosses, sendable) depth 60 fits 20000

pub nfa_syncs : IsSync Nfa.the_field.row
nfa_syncs = search (state_syncs, std.crosses, sendable) depth 60 fits 20000
