-- What runs use again may go to other threads.
use denote.Param.Send.{IsSend, sendable}
use Rattle.std.proofs.Crossing as std
use Rattle.fancy_steps.proofs.ThreadsLaws.{memos_sends}
use Rattle.fancy_vm.specs.contracts.runs.Room as Room
use Rattle.fancy_vm.specs.contracts.runs.Scratch as Scratch

-- each type in turn, since a `search` through all of them at once runs out of steps
room_sends : IsSend Room.the_field.row
room_sends = search (memos_sends, std.crosses, sendable) depth 60 fits 20000

pub scratch_sends : IsSend Scratch.the_field.row
scratch_sends = search (room_sends, std.crosses, sendable) depth 60 fits 20000
