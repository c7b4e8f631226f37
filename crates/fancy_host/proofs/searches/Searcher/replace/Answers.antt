use Rattle.std.proofs.Common.{sym, subst}
use Rattle.fancy_search.specs.Scratches.{Suits}
use Rattle.fancy_host.specs.Hosted.{compiled_of, passed_in}
use Rattle.fancy_host.specs.Rewritten.{Replaces, writing}
use Rattle.fancy_host.proofs.searches.Searcher.replace.Goals as goal

pub returns-clause-replaces : goal.returns-clause-replaces
returns-clause-replaces c =
    let a = c.args in
    subst (λ t. Replaces t a.text.now a.options.now (passed_in a.options.now c.replace.new.scratch) a.limit (writing t a.is_literal a.replacement.now) a.room.now c.replace.new.room c.replace.result)
    c.deref.ensures c.replace.ensures.replaces

pub replace-requires : goal.replace-requires
replace-requires c = subst (λ t. Suits (compiled_of t) c.args.self.now.scratch) (sym c.deref.ensures) c.args.self.now.suits
