use Rattle.std.proofs.Common.{string_bytes}
use Rattle.fancy_host.specs.Messages.{IsExplanation, message}
use Rattle.fancy_host.proofs.Said.{otherwise, said_by}
use Rattle.fancy_host.proofs.messages.explained.Goals as goal

pub returns-in-CompileError : goal.returns-in-CompileError
returns-in-CompileError c = rw c.in-CompileError.is c.refusal_text.ensures

pub returns-in_default : goal.returns-in_default
returns-in_default c =
    said_by c.message_of.result (λ text. string_bytes text) (message c.of_error.result) (IsExplanation c.args.options.now c.args.pattern.now c.args.error.now)
    c.message_of.ensures (otherwise c.args.options.now c.args.pattern.now c.args.error.now c.of_error.result c.in_default.not-CompileError c.of_error.ensures)
