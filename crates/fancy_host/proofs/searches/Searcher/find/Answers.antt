use Rattle.std.proofs.Common.{sym, subst}
use Rattle.fancy_search.specs.Scratches.{Suits}
use Rattle.fancy_host.specs.Hosted.{Answers, compiled_of, passed_in}
use Rattle.fancy_host.proofs.searches.Searcher.find.Goals as goal

pub returns-clause-finds : goal.returns-clause-finds
returns-clause-finds c =
    subst (λ t. Answers t c.args.text.now c.args.options.now (passed_in c.args.options.now c.find.new.scratch) c.args.spans.now c.find.new.spans c.find.result) c.deref.ensures c.find.ensures.answers

pub find-requires : goal.find-requires
find-requires c = subst (λ t. Suits (compiled_of t) c.args.self.now.scratch) (sym c.deref.ensures) c.args.self.now.suits
