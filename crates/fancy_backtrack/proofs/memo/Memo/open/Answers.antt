use Rattle.std.proofs.Common.{refl, ◌∷◌}
use Rattle.fancy_nfa_laws.specs.NfaSearch as plain
use Rattle.fancy_nfa_laws.specs.NfaSearch.{Next, Search, TakesBack, TakesUp, pair_of}
use Rattle.fancy_backtrack.specs.declared.trail.Entry.TheVariants as entry
use Rattle.fancy_backtrack.proofs.MemoLaws.{here_in_group, search_pushed}
use Rattle.fancy_backtrack.proofs.memo.Memo.open.Goals as goal

-- src/search.rt:225:5
pub returns-clause-leads : goal.returns-clause-leads
returns-clause-leads c = λ continuation s f h here.
    let e = c.in_ok-opened.ensures.entries in (
      f,
      (
        record (plain.forward s) { opened = s.place ∷ s.opened },
        (
          refl,
          search_pushed c.args.self.now c.push.new.self (entry.Opened c.args.config.opened c.args.config.place) e continuation f h,
          here_in_group c.args.self.now c.push.new.self c.args.config s here c.in_ok-opened.opened e c.in_ok-opened.ensures.link,
        ),
      ),
    )
