use Rattle.std.proofs.Common.{ℕ, Bor, String, Vec, Global, refl, subst}
use Rattle.std.specs.Map.Iter.{deref_pair}
use Rattle.std.proofs.lemmas.Map.Iter.{rest_more, rest_all}
use Rattle.fancy_analysis.proofs.LeastNames.{IsLeft, left_more, none_left, found_least}
use Rattle.fancy_analysis.proofs.recursion.least_name.Goals as goal

pub returns-then-has_number : goal.returns-then-has_number
returns-then-has_number c =
    let all = c.args.names.now.entries in
    let x : Bor (String Global) × Bor (Vec ℕ Global) = (c.in-Some.name, c.in-Some.numbers) in
    let rest = c.next.new.self in
    let e = rest_more deref_pair c.loop-name.name-iterator rest c.next.result x c.in-Some.is c.next.ensures.steps in
    found_least c.args.group all (deref_pair x) rest (c.if-has_number.ensures.0 refl) (subst (IsLeft c.args.group all) e c.loop-name.invariant)

pub loop-name-preserved : goal.loop-name-preserved
loop-name-preserved c =
    let all = c.args.names.now.entries in
    let x : Bor (String Global) × Bor (Vec ℕ Global) = (c.in-Some.name, c.in-Some.numbers) in
    let rest = c.next.new.self in
    let e = rest_more deref_pair c.loop-name.name-iterator rest c.next.result x c.in-Some.is c.next.ensures.steps in
    left_more c.args.group all (deref_pair x) rest (λ h. let b = c.if-has_number.ensures.1 h in cc) (subst (IsLeft c.args.group all) e c.loop-name.invariant)

pub returns : goal.returns
returns c =
    let all = c.args.names.now.entries in
    let e = rest_all deref_pair c.loop-name.name-iterator c.next.new.self c.next.result c.in-None.is c.next.ensures.steps in
    none_left c.args.group all (subst (IsLeft c.args.group all) e c.loop-name.invariant)
