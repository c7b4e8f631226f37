-- A handle owns a compiled tree, which may go to another thread, or nothing.
use denote.Param.Send.{IsSend, owning_send, sendable}
use Rattle.std.proofs.alloc.Global.TheSendSync as heap
use Rattle.fancy_host.proofs.HandleLaws.{owned_keyless}
use Rattle.fancy_host.specs.contracts.program.Handle.{the_row, the_type}

pub send : IsSend the_row
send = owning_send the_type (search sendable, (heap.the_field_send, tt)) (λ d. owned_keyless d.alloc d.at d.searcher) (λ k x w. tt)
