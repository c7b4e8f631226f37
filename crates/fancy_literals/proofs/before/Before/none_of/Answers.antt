use Rattle.std.proofs.Common.{false, refl, true}
use Rattle.std.proofs.lemmas.List.{get_or-replicate}
use Rattle.fancy_literals.proofs.BeforeLaws.{may_be_by, one_more_out}
use Rattle.fancy_literals.proofs.before.Before.none_of.Goals as goal

pub ascii-init : goal.ascii-init
ascii-init c = record {
  has = λ byte below out. get_or-replicate 256 byte true false below;
  long = refl;
}

pub ascii-preserved : goal.ascii-preserved
ascii-preserved c = one_more_out c.args.characters.now c.ascii.bytes c.ascii.byte c.ascii-test.true c.ascii.invariant

pub returns-clause-bytes : goal.returns-clause-bytes
returns-clause-bytes c = λ byte out. may_be_by c.ascii.bytes byte (λ below. c.ascii.invariant.has byte below out)
