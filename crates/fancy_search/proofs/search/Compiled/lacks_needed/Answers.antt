use Rattle.std.proofs.Common.{IfSome, Some, subst}
use Rattle.fancy_search.specs.Needs.{IsNeededIn}
use Rattle.fancy_search.proofs.search.Compiled.lacks_needed.Goals as goal

pub returns-in-Some : goal.returns-in-Some
returns-in-Some c = λ is i o from same.
    let takes = subst (λ n. IfSome n (IsNeededIn i)) c.in-Some.is from.needed in
    takes c.args.text.now o (c.is_missing.ensures is o same)
