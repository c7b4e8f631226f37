use denote.Param.Send.{sendable}
use Rattle.fancy_vm.proofs.ThreadsLaws.{scratch_sends}
use Rattle.fancy_vm.proofs.runs.Scratch.new.Goals as goal

pub crosses_threads-requires-send-T : goal.crosses_threads-requires-send-T
crosses_threads-requires-send-T c κs = search (scratch_sends, sendable) depth 20
