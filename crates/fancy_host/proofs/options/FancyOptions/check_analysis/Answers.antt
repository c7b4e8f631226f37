use Rattle.std.proofs.Common.{◌≡◌, ℕ, sym, subst, arith}
use Rattle.fancy_host.specs.Hosted.{IsUnanalysed, exceeds_limit, lacks_memory}
use Rattle.fancy_host.proofs.options.FancyOptions.check_analysis.Goals as goal

pub returns-in-Ok-false : goal.returns-in-Ok-false
returns-in-Ok-false c =
    let given = c.if-self-eq0.false in
    subst (IsUnanalysed c.args.tree.now c.args.self.now) (sym c.coded.ensures)
    (exceeds_limit (record {
      is_given = λ none. absurd (omega (arith, given, none));
      is_exceeded = c.in-Ok-false.ensures.over c.in-Ok-false.field-0-test;
    }))

pub returns-in-Err : goal.returns-in-Err
returns-in-Err c = subst (IsUnanalysed c.args.tree.now c.args.self.now) (sym c.coded-in-Err.ensures) lacks_memory
