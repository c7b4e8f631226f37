use Rattle.std.proofs.Common.{sym, subst}
use Rattle.fancy_regex.specs.Builders.{IsRefused, options}
use Rattle.fancy_regex.proofs.Built.{refused_pattern}
use Rattle.fancy_regex.proofs.builder.RegexBuilder.tree.Goals as goal

pub returns-in-Ok : goal.returns-in-Ok
returns-in-Ok c = record { spelled = c.in-Ok.ensures.answer.0; well_formed = c.in-Ok.ensures.answer.1 }

pub returns-in-Err : goal.returns-in-Err
returns-in-Err c =
    let b = c.args.self.now in
    subst (IsRefused b.pattern.now (options b)) (sym c.from.ensures) (refused_pattern b.pattern.now (options b) c.in-Err.error c.in-Err.ensures.answer)
