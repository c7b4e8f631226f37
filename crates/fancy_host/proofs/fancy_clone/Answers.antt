use Rattle.std.proofs.Common.{◌∙◌, sym}
use Rattle.fancy_host.proofs.Answered.{none_there}
use Rattle.fancy_host.proofs.Copied.{copied_nothing, copied_so, not_copied}
use Rattle.fancy_host.proofs.fancy_clone.Goals as goal

pub returns-then-not-program-clause-clones : goal.returns-then-not-program-clause-clones
returns-then-not-program-clause-clones c =
    let held = c.args.program.now.handle.searcher in
    copied_nothing held c.take.new.self.handle.searcher c.coded.result
    (none_there held c.args.program.now.is_set c.args.program.now.agrees c.if-not-program.true) c.take.ensures.nothing c.coded.ensures

pub returns-in-Ok-clause-clones : goal.returns-in-Ok-clause-clones
returns-in-Ok-clause-clones c =
    copied_so c.args.program.now.handle.searcher c.hold.new.self.handle.searcher c.hold.result c.into_searcher-searcher.result.value c.deref.result.now
    c.in-Ok.copied.value (sym c.take-2.ensures.held ∙ c.into_searcher-searcher.ensures) c.deref.ensures c.hold.ensures.held c.in-Ok.ensures
    c.hold.ensures.says

pub returns-in-Err-clause-clones : goal.returns-in-Err-clause-clones
returns-in-Err-clause-clones c =
    not_copied c.args.program.now.handle.searcher c.take.new.self.handle.searcher c.coded-in-Err.result c.into_searcher-searcher.result.value
    (sym c.take-2.ensures.held ∙ c.into_searcher-searcher.ensures) c.take.ensures.nothing c.coded-in-Err.ensures
