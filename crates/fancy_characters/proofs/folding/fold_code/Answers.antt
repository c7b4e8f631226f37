use Rattle.std.proofs.Common.{arith, sym, ◌∙◌}
use Rattle.std.proofs.lemmas.Bool.Decides.{nat_tests}
use Rattle.ucd_case.proofs.CaseFoldingLemmas.{simple_fold-ascii}
use Rattle.fancy_characters.proofs.FoldingLaws.{fold_other}
use Rattle.fancy_characters.proofs.folding.fold_code.Goals as goal

pub returns-then-c-lt128 : goal.returns-then-c-lt128
returns-then-c-lt128 c = c.ascii_lower.ensures ∙ sym (simple_fold-ascii c.args.c c.if-c-lt128.true)

pub returns-in-None : goal.returns-in-None
returns-in-None c = let h = c.in-None.ensures.cases in fold_other c.args.c (grind (arith, nat_tests, h))
