use Rattle.std.proofs.Common.{◌∙◌, sym, ap}
use Rattle.fancy_host.specs.Hosted.{tree_in, tree_of}
use Rattle.fancy_host.specs.Names.{names_no_text}
use Rattle.fancy_host.proofs.Answered.{none_there}
use Rattle.fancy_host.proofs.HeldGroups.{groups_written, none_held}
use Rattle.fancy_host.proofs.fancy_groups_named.Goals as goal

pub returns-in_default-clause-finds : goal.returns-in_default-clause-finds
returns-in_default-clause-finds c = names_no_text c.in_default.ensures.cases.0

pub returns-then-not-program-clause-finds : goal.returns-then-not-program-clause-finds
returns-then-not-program-clause-finds c =
    let held = c.args.program.now.handle.searcher in
    none_held c.args.name.now c.args.groups.now (tree_of held)
    (ap tree_of (none_there held c.args.program.now.is_set c.args.program.now.agrees c.if-not-program.true)) c.in-Ok.ensures.cases.1

pub returns-clause-finds : goal.returns-clause-finds
returns-clause-finds c =
    groups_written c.args.name.now c.args.groups.now (tree_of c.args.program.now.handle.searcher) (tree_in c.into_searcher-searcher.result.value)
    c.tree.result.now c.in-Ok.name.now c.groups_named-numbers.result.now c.write_over.new.room
    (ap tree_of (sym c.take.ensures.held ∙ c.into_searcher-searcher.ensures)) (c.tree.ensures ∙ ap tree_in c.deref.ensures)
    c.in-Ok.ensures.cases.0 c.in-Ok.ensures.cases.1
    c.groups_named-numbers.ensures c.write_over.ensures
