use Rattle.std.proofs.Common.{refl, sym}
use Rattle.fancy_pattern.specs.Lexing.{unread}
use Rattle.fancy_pattern.proofs.Lexed.{broke_off}
use Rattle.fancy_pattern.proofs.lexer.Lexer.next_token.Goals as goal

pub returns-in-Err-clause-steps : goal.returns-in-Err-clause-steps
returns-in-Err-clause-steps c =
    broke_off c.args.self.now _ c.break_off.new.self c.break_off.result c.in-Err.fault
    (unread c.requires (sym c.in-Err.ensures.value)) refl c.break_off.ensures
