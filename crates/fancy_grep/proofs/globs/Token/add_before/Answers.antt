use Rattle.std.proofs.Common.{◌≡◌, ◌-◌, ◌<◌, zero, suc, length, subst, arith}
use Rattle.std.proofs.lemmas.List.{length-set}
use Rattle.fancy_grep.specs.Globs.{token_of}
use Rattle.fancy_grep.proofs.GlobLaws.{Passed, passed_all, passed_more, passed_none, split_at}
use Rattle.fancy_grep.proofs.globs.Token.add_before.Goals as goal

pub loop-at-init : goal.loop-at-init
loop-at-init c =
    let name = c.args.name.now in
    let row = c.args.row.now in record {
      within = omega arith;
      long = omega (arith, length-set row (length name) c.begins.result, c.requires);
      passed = λ rest h. passed_none (token_of c.args.self.now) rest name row c.begins.result c.requires c.begins.ensures h;
    }

pub loop-at-preserved : goal.loop-at-preserved
loop-at-preserved c =
    let inv = c.loop-at.invariant in
    let name = c.args.name.now in
    let row = c.loop-at.row in
    let t = token_of c.args.self.now in
    let at = c.loop-at.at - 1 in
    let next : c.loop-at.at ≡ suc at = omega arith in
    let within : at < length name = omega (arith, inv.within) in record {
      within = omega (arith, inv.within);
      long = omega (arith, length-set row at c.begins-in-loop-at.result, inv.long);
      passed = λ rest h.
          passed_more t rest name row at c.index-name-at.result c.loop-at.ends c.loop-at.more c.takes-more.result c.begins-in-loop-at.result
          (omega (arith, within)) inv.long (split_at name at c.index-name-at.result within c.index-name-at.is) c.takes-more.ensures c.begins-in-loop-at.ensures
          (subst (λ n. Passed t rest name n row c.loop-at.ends c.loop-at.more) next (inv.passed rest h));
    }

pub returns-clause-row : goal.returns-clause-row
returns-clause-row c = λ rest h.
    let name = c.args.name.now in
    let row = c.loop-at.row in
    let t = token_of c.args.self.now in
    let done : c.loop-at.at ≡ zero = omega arith in
    passed_all t rest name row c.loop-at.ends c.loop-at.more
    (subst (λ n. Passed t rest name n row c.loop-at.ends c.loop-at.more) done (c.loop-at.invariant.passed rest h))
