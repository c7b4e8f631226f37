-- A handle owns a scanner, which may go to another thread, or nothing.
use denote.Param.Send.{IsSend, owning_send, sendable}
use Rattle.std.proofs.alloc.Global.TheSendSync as heap
use Rattle.fancy_host.proofs.HandleLaws.{scanner_keyless}
use Rattle.fancy_host.specs.contracts.scanner.ScannerHandle.{the_row, the_type}

pub send : IsSend the_row
send = owning_send the_type (search sendable, (heap.the_field_send, tt)) (λ d. scanner_keyless d.alloc d.at d.scanner) (λ k x w. tt)
