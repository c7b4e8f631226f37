use Rattle.std.proofs.Common.{sym, ◌∙◌}
use Rattle.fancy_replace.proofs.Naming.{groups_found, no_groups_found}
use Rattle.fancy_host.proofs.names.numbers_named.Goals as goal

pub returns-in-Some : goal.returns-in-Some
returns-in-Some c =
    c.deref.ensures.value ∙ sym (groups_found c.args.name.now c.args.names.now.entries c.in-Some.groups.now (sym c.in-Some.ensures.value))

pub returns-in-None : goal.returns-in-None
returns-in-None c = sym (no_groups_found c.args.name.now c.args.names.now.entries (sym c.in-None.ensures.value))
