use Rattle.std.proofs.Common.{◌∙◌, refl}
use Rattle.fancy_regex.proofs.Built.{built_of_same}
use Rattle.fancy_regex.proofs.regexes.Regex.try_clone.Goals as goal

pub returns-clause-built : goal.returns-clause-built
returns-clause-built c pattern o h =
    built_of_same pattern o c.args.self.now _
    (record {
      engine = c.in_ok-try_clone-2.ensures;
      names = c.in_ok-try_clone.ensures;
      pattern = c.in_ok-from_str.ensures.ok ∙ c.deref-2.ensures;
      options = refl;
    })
    h
