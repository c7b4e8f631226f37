use Rattle.std.proofs.Common.{subst, sym, ◌∙◌, arith, chars, Ok, Err}
use Rattle.fancy_expr.specs.Sound.{IsWellFormedTree}
use Rattle.fancy_pattern.specs.Spelling.{IsTreeOf, IsError, PatternFails}
use Rattle.fancy_pattern.proofs.Told.{pattern_fits, reads_of}
use Rattle.fancy_pattern.proofs.pattern.parse_tree.Goals as goal

pub told-requires : goal.told-requires
told-requires c =
    pattern_fits c.args.pattern.now c.deref-in-Err.result.now c.in_ok-chars.chars.items c.utf8.pattern c.deref-in-Err.ensures.value c.in_ok-chars.ensures
    (omega arith)

pub returns-in-Ok-clause-answer : goal.returns-in-Ok-clause-answer
returns-in-Ok-clause-answer c =
    subst (λ text. IsTreeOf c.args.options text c.in-Ok.tree × IsWellFormedTree c.in-Ok.tree)
    (c.deref.ensures.value ∙ c.in_ok-chars.ensures) c.in-Ok.ensures.made

pub returns-in-Ok-clause-reads : goal.returns-in-Ok-clause-reads
returns-in-Ok-clause-reads c = reads_of c.args.options (chars c.args.pattern.now) (Ok c.in-Ok.tree) (returns-in-Ok-clause-answer c)

pub returns-clause-answer : goal.returns-clause-answer
returns-clause-answer c =
    subst (λ text. IsError c.args.options text c.told.result) (c.deref-in-Err.ensures.value ∙ c.in_ok-chars.ensures)
    (c.told.ensures c.args.options
    (subst (λ text. PatternFails c.args.options text c.in-Err.failure) (c.deref.ensures.value ∙ sym c.deref-in-Err.ensures.value) c.in-Err.ensures.fails))

pub returns-clause-reads : goal.returns-clause-reads
returns-clause-reads c = reads_of c.args.options (chars c.args.pattern.now) (Err c.told.result) (returns-clause-answer c)
