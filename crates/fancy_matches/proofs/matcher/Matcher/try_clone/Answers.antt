use Rattle.fancy_matches.proofs.matcher.Matcher.try_clone.Goals as goal

pub invariant_of-result : goal.invariant_of-result
invariant_of-result c =
    let matcher = c.args.self.now in
    rw c.in_ok-try_clone.ensures (record { fits = matcher.fits; source = matcher.source; suits = c.new.ensures.suits _ })
