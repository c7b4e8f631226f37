-- A matcher may go to another thread.
use denote.Param.Send.{IsSend, IsSync, sendable}
use Rattle.std.proofs.Crossing as std
use Rattle.fancy_search.proofs.ThreadsLaws.{compiled_sends, compiled_syncs, scratch_sends}
use Rattle.fancy_matches.specs.contracts.matcher.Matcher as Matcher

pub regex_sends : IsSend Matcher.the_field.row
regex_sends = search (compiled_sends, compiled_syncs, scratch_sends, std.crosses, sendable) depth 60 fits 20000
