use Rattle.std.proofs.Common.{sym, subst}
use Rattle.fancy_search.specs.Scratches.{Suits}
use Rattle.fancy_host.specs.Hosted.{compiled_of, passed_in}
use Rattle.fancy_host.specs.Lists.{Lists, all_groups}
use Rattle.fancy_host.proofs.searches.Searcher.captures_all.Goals as goal

pub returns-clause-lists : goal.returns-clause-lists
returns-clause-lists c =
    let a = c.args in
    subst (λ t. Lists all_groups t a.text.now a.options.now (passed_in a.options.now c.captures_all.new.scratch) a.cursor.now a.spans.now c.captures_all.new.cursor c.captures_all.new.spans c.captures_all.result)
    c.deref.ensures c.captures_all.ensures.lists

pub captures_all-requires : goal.captures_all-requires
captures_all-requires c = subst (λ t. Suits (compiled_of t) c.args.self.now.scratch) (sym c.deref.ensures) c.args.self.now.suits
