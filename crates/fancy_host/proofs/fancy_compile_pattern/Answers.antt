use Rattle.std.proofs.Common.{ap}
use Rattle.fancy_host.specs.Hosted.{pattern, tree_in, tree_of}
use Rattle.fancy_host.proofs.Answered.{compiled_so, failed_so}
use Rattle.fancy_host.proofs.fancy_compile_pattern.Goals as goal

pub returns-in-Ok : goal.returns-in-Ok
returns-in-Ok c =
    compiled_so (pattern c.args.pattern.now) c.args.options.now (tree_of c.hold.new.self.handle.searcher) c.hold.result (tree_in c.in-Ok.searcher.value)
    (ap tree_of c.hold.ensures.held)
    c.hold.ensures.says c.in-Ok.ensures

pub returns-in-Err : goal.returns-in-Err
returns-in-Err c =
    failed_so (pattern c.args.pattern.now) c.args.options.now (tree_of c.take.new.self.handle.searcher) c.in-Err.outcome
    (ap tree_of c.take.ensures.nothing) c.in-Err.ensures
