-- Programs may go to other threads, and several may use one at once.
use denote.Param.Send.{IsSend, IsSync, sendable}
use Rattle.std.proofs.Crossing as std
use Rattle.fancy_characters.proofs.ThreadsLaws.{class_sends, class_syncs}
use Rattle.fancy_fragments.proofs.ThreadsLaws.{delegate_sends, delegate_syncs}
use Rattle.fancy_program.specs.contracts.insn.Insn as Insn
use Rattle.fancy_program.specs.contracts.insn.Prog as Prog

-- each type in turn, since a `search` through all of them at once runs out of steps
insn_sends : IsSend Insn.the_field.row
insn_sends = search (class_sends, class_syncs, delegate_sends, delegate_syncs, std.crosses, sendable) depth 60 fits 20000

insn_syncs : IsSync Insn.the_field.row
insn_syncs = search (class_sends, class_syncs, delegate_sends, delegate_syncs, std.crosses, sendable) depth 60 fits 20000

pub prog_sends : IsSend Prog.the_field.row
prog_sends = search (insn_sends, std.crosses, sendable) depth 60 fits 20000

pub prog_syncs : IsSync Prog.the_field.row
prog_syncs = search (insn_syncs, std.crosses, sendable) depth 60 fits 20000
