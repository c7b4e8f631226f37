use Rattle.std.proofs.Common.{rules, tests}
use Rattle.std.proofs.lemmas.Iterator.{YieldsList-from_slice}
use Rattle.std.proofs.lemmas.Iterator.Search.{any_from_yields_List}
use Rattle.fancy_grep.specs.Rules.{includes}
use Rattle.fancy_grep.proofs.rules.includes_some.Goals as goal

pub returns : goal.returns
returns c =
    any_from_yields_List includes _ _ c.any.result c.any.ensures.ran (YieldsList-from_slice c.args.rules.now cc)
    (λ x b q k. search (rules, tests))
