use denote.Param.Send.{sendable}
use Rattle.fancy_program.proofs.ThreadsLaws.{prog_sends, prog_syncs}
use Rattle.fancy_program.proofs.insn.Prog.new.Goals as goal

pub invariant_of-result : goal.invariant_of-result
invariant_of-result c = record {
  fits = c.requires;
  decides = rw c.deref-insns.ensures.value at c.of-strategy.ensures;
}

pub crosses_threads-requires-send-T : goal.crosses_threads-requires-send-T
crosses_threads-requires-send-T c κs = search (prog_sends, sendable) depth 20

pub is_shared_by_threads-requires-sync-T : goal.is_shared_by_threads-requires-sync-T
is_shared_by_threads-requires-sync-T c κs = search (prog_syncs, sendable) depth 20
