use Rattle.std.proofs.Common.{sym, subst}
use Rattle.fancy_search.specs.Scratches.{Suits}
use Rattle.fancy_host.specs.Hosted.{compiled_of, passed_in}
use Rattle.fancy_host.specs.Whether.{Tells}
use Rattle.fancy_host.proofs.searches.Searcher.is_match.Goals as goal

pub returns-clause-tells : goal.returns-clause-tells
returns-clause-tells c = subst (λ t. Tells t c.args.text.now c.args.options.now (passed_in c.args.options.now c.is_match.new.scratch) c.is_match.result) c.deref.ensures c.is_match.ensures.tells

pub is_match-requires : goal.is_match-requires
is_match-requires c = subst (λ t. Suits (compiled_of t) c.args.self.now.scratch) (sym c.deref.ensures) c.args.self.now.suits
