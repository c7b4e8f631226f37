use Rattle.std.proofs.Common.{Some, length, refl, sym, ap, ◌∙◌, subst}
use Rattle.std.proofs.lemmas.Bool.{ltb-true}
use Rattle.std.proofs.lemmas.Option.{slice_get_read}
use Rattle.fancy_nfa.specs.Views.{IsStateReadBy}
use Rattle.fancy_nfa.proofs.RunLaws.{test_fails}
use Rattle.fancy_nfa.proofs.search.Searcher.test_at.Goals as goal

pub returns-in-Some-Character-clause-read : goal.returns-in-Some-Character-clause-read
returns-in-Some-Character-clause-read c =
    let searcher = c.args.self.now in
    let states = searcher.states.now in
    let at = c.behind_groups.result in
    let found = c.in-Some-Character.ensures.lookup in
    subst (IsStateReadBy searcher.unicode) c.in-Some-Character.field-0-is
    (c.requires at c.in-Some-Character.field-0.now
    (slice_get_read states (length states) at c.in-Some-Character.field-0.now refl (ltb-true at (length states) (sym found.0)) found.1))

pub returns-in-Some-Character-clause-exit : goal.returns-in-Some-Character-clause-exit
returns-in-Some-Character-clause-exit c = λ place none.
    let searcher = c.args.self.now in
    let states = searcher.states.now in
    let at = c.behind_groups.result in
    let found = c.in-Some-Character.ensures.lookup in
    let there = slice_get_read states (length states) at c.in-Some-Character.field-0.now refl (ltb-true at (length states) (sym found.0)) found.1
    ∙ ap Some c.in-Some-Character.field-0-is in
    c.behind_jump.ensures.fails place
    (c.behind_groups.ensures place
    (test_fails searcher c.in-Some-Character.test at place there none))
