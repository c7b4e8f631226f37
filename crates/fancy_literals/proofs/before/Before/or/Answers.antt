use Rattle.std.proofs.lemmas.Bool.{or_left, or_right}
use Rattle.fancy_literals.proofs.BeforeLaws.{may_be_larger}
use Rattle.fancy_literals.proofs.before.Before.or.Goals as goal

pub returns-clause-first : goal.returns-clause-first
returns-clause-first c = record {
  bytes = may_be_larger c.args.self.now.bytes c.both.result c.both.ensures.first;
  at_start = or_left c.args.self.now.at_start c.args.other.now.at_start;
}

pub returns-clause-second : goal.returns-clause-second
returns-clause-second c = record {
  bytes = may_be_larger c.args.other.now.bytes c.both.result c.both.ensures.second;
  at_start = or_right c.args.self.now.at_start c.args.other.now.at_start;
}
