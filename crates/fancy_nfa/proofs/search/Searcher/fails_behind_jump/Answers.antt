use Rattle.fancy_nfa.proofs.search.Searcher.fails_behind_jump.Goals as goal

pub returns-in-Some : goal.returns-in-Some
returns-in-Some c = λ excludes. c.in-Some.ensures.exit c.args.place (c.is_excluded.ensures excludes)
