-- Classes may go to other threads, and several may use one at once.
use denote.Param.Send.{IsSend, IsSync, sendable}
use Rattle.std.proofs.Crossing as std
use Rattle.regex_hir.proofs.hir.Hir.TheLaws.TheKnot as hir
use Rattle.regex_class.proofs.Class.TheSendSync as class
use Rattle.regex_dfa.proofs.dfa.Dfa.TheSendSync as dfa
use Rattle.regex_extract.proofs.frames.Frame.TheSendSync as frame
use Rattle.regex_literal.proofs.byte_set.ByteSet.TheSendSync as byte_set
use Rattle.regex_literal.proofs.caseless.Caseless.TheSendSync as caseless
use Rattle.regex_literal.proofs.ladder.Ladder.TheSendSync as ladder
use Rattle.regex_literal.proofs.prefilter.Prefilter.TheSendSync as prefilter
use Rattle.regex_meta.proofs.plan.Role.TheSendSync as role
use Rattle.regex_meta.specs.contracts.plan.Plan as Plan
use Rattle.regex_meta.specs.contracts.plan.Plans as Plans
use Rattle.regex_meta.specs.contracts.signs.Signs as Signs
use Rattle.regex_meta.specs.contracts.program.Program as Program
use Rattle.regex.specs.contracts.string.regex.Regex as Regex
use Rattle.fancy_characters.specs.contracts.classes.CharClassMatcher as CharClassMatcher
use Rattle.fancy_characters.specs.contracts.compiled.CompiledClass as CompiledClass
use Rattle.fancy_characters.specs.contracts.compiled.Others as Others

-- each type in turn, since a `search` through all of them at once runs out of steps
plan_sends : IsSend Plan.the_field.row
plan_sends =
    search (role.the_field_send, frame.the_field_send, ladder.the_field_send, prefilter.the_send, std.crosses, hir.crosses, sendable)
    depth 60 fits 20000

plans_sends : IsSend Plans.the_field.row
plans_sends = search (plan_sends, std.crosses, sendable) depth 60 fits 20000

signs_sends : IsSend Signs.the_field.row
signs_sends = search (caseless.the_send, std.crosses, hir.crosses, sendable) depth 60 fits 20000

program_sends : IsSend Program.the_field.row
program_sends = search (plans_sends, signs_sends, dfa.the_field_send, byte_set.the_send, std.crosses, hir.crosses, sendable) depth 60 fits 20000

regex_sends : IsSend Regex.the_field.row
regex_sends = search (program_sends, std.crosses, sendable) depth 60 fits 20000

others_sends : IsSend Others.the_field.row
others_sends = search (class.the_field_send, regex_sends, std.crosses, sendable) depth 60 fits 20000

compiled_sends : IsSend CompiledClass.the_field.row
compiled_sends = search (others_sends, std.crosses, sendable) depth 60 fits 20000

pub class_sends : IsSend CharClassMatcher.the_field.row
class_sends = search (compiled_sends, std.crosses, sendable) depth 60 fits 20000

plan_syncs : IsSync Plan.the_field.row
plan_syncs =
    search (role.the_field_sync, frame.the_field_sync, ladder.the_field_sync, prefilter.the_sync, std.crosses, hir.crosses, sendable)
    depth 60 fits 20000

plans_syncs : IsSync Plans.the_field.row
plans_syncs = search (plan_syncs, std.crosses, sendable) depth 60 fits 20000

signs_syncs : IsSync Signs.the_field.row
signs_syncs = search (caseless.the_sync, std.crosses, hir.crosses, sendable) depth 60 fits 20000

program_syncs : IsSync Program.the_field.row
program_syncs = search (plans_syncs, signs_syncs, dfa.the_field_sync, byte_set.the_sync, std.crosses, hir.crosses, sendable) depth 60 fits 20000

regex_syncs : IsSync Regex.the_field.row
regex_syncs = search (program_syncs, std.crosses, sendable) depth 60 fits 20000

others_syncs : IsSync Others.the_field.row
others_syncs = search (class.the_field_sync, regex_syncs, std.crosses, sendable) depth 60 fits 20000

compiled_syncs : IsSync CompiledClass.the_field.row
compiled_syncs = search (others_syncs, std.crosses, sendable) depth 60 fits 20000

pub class_syncs : IsSync CharClassMatcher.the_field.row
class_syncs = search (compiled_syncs, std.crosses, sendable) depth 60 fits 20000
