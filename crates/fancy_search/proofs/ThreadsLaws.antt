-- What is compiled, and what searches use again, may go to other threads.
use denote.Param.Send.{IsSend, IsSync, sendable}
use Rattle.std.proofs.Crossing as std
use Rattle.regex_dfa.proofs.dfa.Dfa.TheSendSync as dfa
use Rattle.regex_dfa.proofs.forward.Forward.TheSendSync as forward
use Rattle.regex_dfa.proofs.reverse.Reverse.TheSendSync as reverse
use Rattle.regex_literal.proofs.byte_set.ByteSet.TheSendSync as byte_set
use Rattle.regex_tagged.proofs.search.Tagged.TheSendSync as tagged
use Rattle.fancy_fragments.proofs.ThreadsLaws.{delegate_sends, delegate_syncs}
use Rattle.fancy_hybrid.specs.contracts.engine.Engine as Engine
use Rattle.fancy_program.proofs.ThreadsLaws.{prog_sends, prog_syncs}
use Rattle.fancy_vm.proofs.ThreadsLaws as runs
use Rattle.fancy_search.specs.contracts.common.Common as Common
use Rattle.fancy_search.specs.contracts.scratch.Scratch as Scratch
use Rattle.fancy_search.specs.contracts.search.Compiled as Compiled

-- each type in turn, since a `search` through all of them at once runs out of steps
common_sends : IsSend Common.the_field.row
common_sends = search (delegate_sends, delegate_syncs, std.crosses, sendable) depth 60 fits 20000

common_syncs : IsSync Common.the_field.row
common_syncs = search (delegate_sends, delegate_syncs, std.crosses, sendable) depth 60 fits 20000

pub compiled_sends : IsSend Compiled.the_field.row
compiled_sends = search (prog_sends, common_sends, std.crosses, sendable) depth 60 fits 20000

pub compiled_syncs : IsSync Compiled.the_field.row
compiled_syncs = search (prog_syncs, common_syncs, std.crosses, sendable) depth 60 fits 20000

engine_sends : IsSend Engine.the_field.row
engine_sends =
    search (dfa.the_field_send, forward.the_field_send, reverse.the_field_send, tagged.the_field_send, byte_set.the_send, std.crosses, sendable)
    depth 60 fits 20000

pub scratch_sends : IsSend Scratch.the_field.row
scratch_sends = search (runs.scratch_sends, engine_sends, std.crosses, sendable) depth 60 fits 20000
