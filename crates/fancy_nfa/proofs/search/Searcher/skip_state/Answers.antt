use Rattle.std.proofs.Common.{◌+◌, false, Some, length, refl, sym, ap, ◌∙◌, subst, if◌then◌else◌}
use Rattle.std.proofs.lemmas.Bool.{ltb-true}
use Rattle.std.proofs.lemmas.Option.{slice_get_read}
use Rattle.fancy_nfa_laws.specs.NfaSearch as plain
use Rattle.fancy_nfa.specs.declared.nfa_state.NfaState.TheVariants as nfa_state
use Rattle.fancy_nfa.specs.OnePass.{Walks, config_at, opened_at}
use Rattle.fancy_nfa.specs.Views.{IsStateReadBy}
use Rattle.fancy_nfa.proofs.OnePassLaws.{chosen_of, closes, goes, loop_choice, loses, succeeds, tries_only, unsure_by}
use Rattle.fancy_nfa.proofs.search.Searcher.skip_state.Goals as goal

pub returns-in-Some-Match : goal.returns-in-Some-Match
returns-in-Some-Match c = λ s.
    let searcher = c.args.self.now in
    let states = searcher.states.now in
    let at = c.args.at in
    let place = c.args.place in
    let found = c.in-Some-Match.ensures.lookup in
    let there = slice_get_read states (length states) at c.in-Some-Match.field-0.now refl (ltb-true at (length states) (sym found.0)) found.1
    ∙ ap Some c.in-Some-Match.field-0-is in
    succeeds searcher s at place there

pub past-requires : goal.past-requires
past-requires c =
    let searcher = c.args.self.now in
    let states = searcher.states.now in
    let at = c.args.at in
    let found = c.in-Some-Character.ensures.lookup in
    subst (IsStateReadBy searcher.unicode) c.in-Some-Character.field-0-is
    (c.requires at c.in-Some-Character.field-0.now
    (slice_get_read states (length states) at c.in-Some-Character.field-0.now refl
    (ltb-true at (length states) (sym found.0)) found.1))

pub returns-in_default-2 : goal.returns-in_default-2
returns-in_default-2 c = λ s.
    let searcher = c.args.self.now in
    let states = searcher.states.now in
    let at = c.args.at in
    let place = c.args.place in
    let found = c.in-Some-Character.ensures.lookup in
    let there = slice_get_read states (length states) at c.in-Some-Character.field-0.now refl (ltb-true at (length states) (sym found.0)) found.1
    ∙ ap Some c.in-Some-Character.field-0-is in
    let here = config_at s at place in
    loses searcher (nfa_state.Character c.in-Some-Character.test) here there
    (ap (plain.goes_past here) (sym c.in_ok-next-in-Some-Character.ensures.ok ∙ c.in_default-2.is))

pub returns-in-Some : goal.returns-in-Some
returns-in-Some c = λ s.
    let searcher = c.args.self.now in
    let states = searcher.states.now in
    let at = c.args.at in
    let place = c.args.place in
    let found = c.in-Some-Character.ensures.lookup in
    let there = slice_get_read states (length states) at c.in-Some-Character.field-0.now refl (ltb-true at (length states) (sym found.0)) found.1
    ∙ ap Some c.in-Some-Character.field-0-is in
    let here = config_at s at place in
    goes searcher (nfa_state.Character c.in-Some-Character.test) here there (config_at s (at + 1) c.in-Some.next)
    (ap (plain.goes_past here) (sym c.in_ok-next-in-Some-Character.ensures.ok ∙ c.in-Some.is))

pub returns-then-not-holds : goal.returns-then-not-holds
returns-then-not-holds c = λ s.
    let searcher = c.args.self.now in
    let states = searcher.states.now in
    let at = c.args.at in
    let place = c.args.place in
    let found = c.in-Some-Holds.ensures.lookup in
    let there = slice_get_read states (length states) at c.in-Some-Holds.field-0.now refl (ltb-true at (length states) (sym found.0)) found.1
    ∙ ap Some c.in-Some-Holds.field-0-is in
    let here = config_at s at place in
    loses searcher (nfa_state.Holds c.in-Some-Holds.assertion) here there
    (ap (λ v. if v then plain.Goes (plain.forward here) else plain.Lost) (sym c.if-not-holds.ensures))

pub returns-else-not-holds : goal.returns-else-not-holds
returns-else-not-holds c = λ s.
    let searcher = c.args.self.now in
    let states = searcher.states.now in
    let at = c.args.at in
    let place = c.args.place in
    let found = c.in-Some-Holds.ensures.lookup in
    let there = slice_get_read states (length states) at c.in-Some-Holds.field-0.now refl (ltb-true at (length states) (sym found.0)) found.1
    ∙ ap Some c.in-Some-Holds.field-0-is in
    let here = config_at s at place in
    goes searcher (nfa_state.Holds c.in-Some-Holds.assertion) here there (plain.forward here)
    (ap (λ v. if v then plain.Goes (plain.forward here) else plain.Lost) (sym c.if-not-holds.ensures))

pub returns-in-Some-body_at : goal.returns-in-Some-body_at
returns-in-Some-body_at c = λ s.
    let searcher = c.args.self.now in
    let states = searcher.states.now in
    let at = c.args.at in
    let found = c.in-Some-LoopSplit.ensures.lookup in
    let there = slice_get_read states (length states) at c.in-Some-LoopSplit.field-0.now refl (ltb-true at (length states) (sym found.0)) found.1
    ∙ ap Some c.in-Some-LoopSplit.field-0-is in
    c.in_ok-end-in-Some-LoopSplit.ensures s at c.in-Some-LoopSplit.first c.in-Some-LoopSplit.second there c.in-Some-body_at.ensures

pub returns-in_default-body_at : goal.returns-in_default-body_at
returns-in_default-body_at c = λ s.
    let searcher = c.args.self.now in
    let states = searcher.states.now in
    let at = c.args.at in
    let place = c.args.place in
    let found = c.in-Some-LoopSplit.ensures.lookup in
    let there = slice_get_read states (length states) at c.in-Some-LoopSplit.field-0.now refl (ltb-true at (length states) (sym found.0)) found.1
    ∙ ap Some c.in-Some-LoopSplit.field-0-is in
    let first = c.in-Some-LoopSplit.first in
    let second = c.in-Some-LoopSplit.second in
    let is_lost = c.fails_from.result in
    let next = if is_lost then second else first in
    subst (λ i. Walks searcher false (config_at s at place) (config_at s i place)) (sym c.chosen-next.ensures)
    (unsure_by searcher is_lost (config_at s at place) (config_at s next place)
    (chosen_of searcher s at first second place is_lost (loop_choice searcher at first second there) c.fails_from.ensures))

pub returns-in-Some-Join : goal.returns-in-Some-Join
returns-in-Some-Join c = λ s.
    let searcher = c.args.self.now in
    let states = searcher.states.now in
    let at = c.args.at in
    let place = c.args.place in
    let found = c.in-Some-Join.ensures.lookup in
    let there = slice_get_read states (length states) at c.in-Some-Join.field-0.now refl (ltb-true at (length states) (sym found.0)) found.1
    ∙ ap Some c.in-Some-Join.field-0-is in
    tries_only searcher nfa_state.Join (config_at s at place) there (config_at s (at + 1) place) refl

pub returns-in-Some-Open : goal.returns-in-Some-Open
returns-in-Some-Open c = λ s.
    let searcher = c.args.self.now in
    let states = searcher.states.now in
    let at = c.args.at in
    let place = c.args.place in
    let found = c.in-Some-Open.ensures.lookup in
    let there = slice_get_read states (length states) at c.in-Some-Open.field-0.now refl (ltb-true at (length states) (sym found.0)) found.1
    ∙ ap Some c.in-Some-Open.field-0-is in
    goes searcher nfa_state.Open (config_at s at place) there (opened_at s (at + 1) place) refl

pub returns-in-Some-Close : goal.returns-in-Some-Close
returns-in-Some-Close c = λ s opened is.
    let searcher = c.args.self.now in
    let states = searcher.states.now in
    let at = c.args.at in
    let found = c.in-Some-Close.ensures.lookup in
    let there = slice_get_read states (length states) at c.in-Some-Close.field-0.now refl (ltb-true at (length states) (sym found.0)) found.1
    ∙ ap Some c.in-Some-Close.field-0-is in
    closes searcher c.in-Some-Close.group s at c.args.place there opened is
