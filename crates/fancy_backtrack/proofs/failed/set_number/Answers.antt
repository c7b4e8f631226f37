use Rattle.std.proofs.Common.{Some, ◌*◌, ◌/◌, ◌%◌, ◌^◌, bit_or, nat_eq, subst}
use Rattle.std.specs.HashMap.{Updates}
use Rattle.fancy_backtrack.proofs.FailedLaws.{number_added}
use Rattle.fancy_backtrack.proofs.failed.set_number.Goals as goal

pub returns-clause-ok : goal.returns-clause-ok
returns-clause-ok c = λ n.
    let old = c.args.words.now in
    let new = c.insert.new.self in
    let number = c.args.number in
    number_added old new number n
    (subst (λ w. Updates nat_eq old new (number / 64) (Some (bit_or w (1 * 2 ^ (number % 64) % 2 ^ 64)))) c.word_at.ensures
    c.in_ok-insert.ensures.updates)
