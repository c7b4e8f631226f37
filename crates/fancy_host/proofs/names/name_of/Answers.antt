use Rattle.std.proofs.Common.{ℕ, Bor, String, Vec, Global, sym, subst, ◌∙◌}
use Rattle.std.specs.Map.Iter.{deref_pair}
use Rattle.std.proofs.lemmas.Map.Iter.{rest_more, rest_all}
use Rattle.fancy_host.proofs.NamedGroups.{IsLeft, named_here, named_later}
use Rattle.fancy_host.proofs.names.name_of.Goals as goal

pub returns-then-has_number : goal.returns-then-has_number
returns-then-has_number c =
    let all = c.args.names.now.entries in
    let x : Bor (String Global) × Bor (Vec ℕ Global) = (c.in-Some.name, c.in-Some.groups) in
    let rest = c.next.new.self in
    let e = rest_more deref_pair c.loop-name.name-iterator rest c.next.result x c.in-Some.is c.next.ensures.steps in
    named_here c.args.group all (deref_pair x) rest (sym c.if-has_number.true ∙ c.has_number.ensures)
    (subst (IsLeft c.args.group all) e c.loop-name.invariant) c.as_str.result.now c.as_str.ensures.value

pub loop-name-preserved : goal.loop-name-preserved
loop-name-preserved c =
    let all = c.args.names.now.entries in
    let x : Bor (String Global) × Bor (Vec ℕ Global) = (c.in-Some.name, c.in-Some.groups) in
    let rest = c.next.new.self in
    let e = rest_more deref_pair c.loop-name.name-iterator rest c.next.result x c.in-Some.is c.next.ensures.steps in
    named_later c.args.group all (deref_pair x) rest (sym c.if-has_number.false ∙ c.has_number.ensures)
    (subst (IsLeft c.args.group all) e c.loop-name.invariant)

pub returns : goal.returns
returns c =
    let all = c.args.names.now.entries in
    let e = rest_all deref_pair c.loop-name.name-iterator c.next.new.self c.next.result c.in-None.is c.next.ensures.steps in
    subst (IsLeft c.args.group all) e c.loop-name.invariant
