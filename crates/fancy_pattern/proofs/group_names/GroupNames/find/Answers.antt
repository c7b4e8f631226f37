use Rattle.std.proofs.Common.{encode_utf8_all, sym, ◌∙◌}
use Rattle.fancy_pattern.specs.Naming.{numbers_of, pairs_in}
use Rattle.fancy_pattern.proofs.NamedGroups.{found_numbers, found_none}
use Rattle.fancy_pattern.proofs.group_names.GroupNames.find.Goals as goal

pub returns-in-Some : goal.returns-in-Some
returns-in-Some c =
    let name = encode_utf8_all c.args.name.now in
    found_numbers c.args.self.now.numbers c.as_str.result.now name c.deref.result.now (numbers_of (pairs_in c.args.self.now.pairs) name) c.in-Some.groups.now
    (sym c.in-Some.ensures.value)
    (c.as_str.ensures.value ∙ c.in_ok-name.ensures) c.deref.ensures.value (c.args.self.now.agrees name)

pub returns : goal.returns
returns c =
    let name = encode_utf8_all c.args.name.now in
    found_none c.args.self.now.numbers c.as_str.result.now name (numbers_of (pairs_in c.args.self.now.pairs) name)
    (sym c.in-None.ensures.value)
    (c.as_str.ensures.value ∙ c.in_ok-name.ensures) (c.args.self.now.agrees name)
