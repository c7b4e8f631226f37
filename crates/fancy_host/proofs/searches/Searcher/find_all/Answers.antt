use Rattle.std.proofs.Common.{sym, subst}
use Rattle.fancy_search.specs.Scratches.{Suits}
use Rattle.fancy_host.specs.Hosted.{compiled_of, passed_in}
use Rattle.fancy_host.specs.Lists.{Lists, span_alone}
use Rattle.fancy_host.proofs.searches.Searcher.find_all.Goals as goal

pub returns-clause-lists : goal.returns-clause-lists
returns-clause-lists c =
    let a = c.args in
    subst (λ t. Lists span_alone t a.text.now a.options.now (passed_in a.options.now c.find_all.new.scratch) a.cursor.now a.spans.now c.find_all.new.cursor c.find_all.new.spans c.find_all.result)
    c.deref.ensures c.find_all.ensures.lists

pub find_all-requires : goal.find_all-requires
find_all-requires c = subst (λ t. Suits (compiled_of t) c.args.self.now.scratch) (sym c.deref.ensures) c.args.self.now.suits
