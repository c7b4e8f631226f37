use Rattle.std.proofs.Common.{◌∙◌, eqb-true}
use Rattle.std.specs.Char.{to_ascii_lowercase}
use Rattle.ucd_case.specs.CaseFolding.{simple_fold}
use Rattle.ucd_case.proofs.CaseFoldingLemmas.{simple_fold-ascii}
use Rattle.fancy_meaning.specs.Chars.{fold_equal}
use Rattle.fancy_characters.proofs.folding.lower_case.Goals as goal

pub returns-then-unicode : goal.returns-then-unicode
unfolding fold_equal
returns-then-unicode c = λ d small takes.
    c.fold_code.ensures ∙ eqb-true (simple_fold c.args.c) (simple_fold d) (rw c.if-unicode.true at takes) ∙ simple_fold-ascii d small

pub returns-else-unicode : goal.returns-else-unicode
returns-else-unicode c = λ d small takes.
    c.ascii_lower.ensures ∙ eqb-true (to_ascii_lowercase c.args.c) (to_ascii_lowercase d) (rw c.if-unicode.false at takes)
