use Rattle.std.proofs.Common.{◌≡◌, slice_get, Option, Some, None, refl, sym, ap, ◌∙◌, subst, arith, map, [], ◌<◌, length}
use Rattle.fancy_nfa_laws.specs.FirstWays.{spans_of}
use Rattle.fancy_backtrack.specs.Paths.{closed_after}
use Rattle.fancy_nfa.specs.Views.{state_of}
use Rattle.fancy_meaning.specs.Premises.{IsText}
use Rattle.fancy_meaning.specs.Numbers.{usize_max}
use Rattle.fancy_nfa.specs.declared.first_way.FirstWay.{FirstWay}
use Rattle.fancy_nfa.specs.declared.first_way.Way.{Way}
use Rattle.fancy_nfa.proofs.FirstWayLaws.{Ended, counted, end_found, end_refused, first_found, first_none, memo_found}
use Rattle.fancy_nfa.proofs.ReadStates.{states_read}
use Rattle.fancy_nfa.proofs.first_way.first_way_with.Goals as goal
use Rattle.fancy_nfa.proofs.first_way.first_way_with.Goals.{in-Some+in_ok-spans-in-Some, in-None}

pub find-requires : goal.find-requires
find-requires c = λ i p at.
    states_read c.args.nfa.now c.requires.nodes i p (ap (λ l. slice_get l i) (sym c.deref.ensures.value) ∙ at)

-- ---- the search was refused memory

pub returns-in_err-found-clause-memo : goal.returns-in_err-found-clause-memo
returns-in_err-found-clause-memo c =
    let small : length c.args.text.now < usize_max = omega arith in
    let is_text : IsText c.args.text.now = record { utf8 = c.utf8.text; fits = small } in
    end_refused c.deref.result c.args.text c.args.nfa.now c.args.ix c.args.memo.now c.start.new.self c.deref.ensures.value is_text
    c.requires.place c.requires.memo c.start.ensures.failed c.start.ensures.path c.start.ensures.frames c.start.ensures.visits c.in_err-found.field-0.0
    c.find.new.m c.in_err-found.ensures.ends

-- ---- it came to its end

pub returns-in_err-spans-in-Some-clause-memo : goal.returns-in_err-spans-in-Some-clause-memo
returns-in_err-spans-in-Some-clause-memo c =
    let small : length c.args.text.now < usize_max = omega arith in
    let is_text : IsText c.args.text.now = record { utf8 = c.utf8.text; fits = small } in
    memo_found c.deref.result c.args.text c.args.nfa.now c.args.ix c.args.memo.now c.start.new.self c.deref.ensures.value is_text
    c.requires.place c.requires.memo c.start.ensures.failed c.start.ensures.path c.start.ensures.frames c.start.ensures.visits c.in_ok-found.found c.find.new.m
    c.in_ok-found.ensures.ends

pub returns-clause-memo : goal.returns-clause-memo
returns-clause-memo c =
    let small : length c.args.text.now < usize_max = omega arith in
    let is_text : IsText c.args.text.now = record { utf8 = c.utf8.text; fits = small } in
    memo_found c.deref.result c.args.text c.args.nfa.now c.args.ix c.args.memo.now c.start.new.self c.deref.ensures.value is_text
    c.requires.place c.requires.memo c.start.ensures.failed c.start.ensures.path c.start.ensures.frames c.start.ensures.visits c.in_ok-found.found c.find.new.m
    c.in_ok-found.ensures.ends

pub returns-clause-first : goal.returns-clause-first
returns-clause-first c =
    let text = c.args.text.now in
    let failed = c.requires.memo.0 in
    let states = map state_of c.args.nfa.now.states.items in
    let small : length c.args.text.now < usize_max = omega arith in
    let is_text : IsText c.args.text.now = record { utf8 = c.utf8.text; fits = small } in
    let e = end_found c.deref.result c.args.text c.args.nfa.now c.args.ix c.args.memo.now c.start.new.self c.deref.ensures.value is_text
    c.requires.place c.requires.memo c.start.ensures.failed c.start.ensures.path c.start.ensures.frames c.start.ensures.visits c.in_ok-found.found c.find.new.m
    c.in_ok-found.ensures.ends in
    elim c.match-found.branch [
      | in-Some+in_ok-spans-in-Some w ↦
          let there : Ended text c.args.nfa.now.unicode states failed c.args.ix (Some w.in-Some.config) c.find.new.m =
          subst (λ o. Ended text c.args.nfa.now.unicode states failed c.args.ix o c.find.new.m) w.in-Some.is e in
          let answer : FirstWay = record { way = c.match-found.way'; visits = c.visits-visits.result } in
          let way : Way = record { end = w.in-Some.config.place; spans = w.in_ok-spans-in-Some.field-0 } in
          first_found text c.args.nfa.now c.args.ix failed is_text c.requires.place c.requires.memo.1.1 answer c.find.new.m
          c.visits-visits.ensures w.in-Some.config there way w.way'-is refl
          (λ g. w.in_ok-spans-in-Some.ensures.listed g ∙ ap (λ entries. spans_of (closed_after [] entries) g) w.path.ensures)
      | in-None w ↦
          let there : Ended text c.args.nfa.now.unicode states failed c.args.ix None c.find.new.m =
          subst (λ o. Ended text c.args.nfa.now.unicode states failed c.args.ix o c.find.new.m) w.in-None.is e in
          let answer : FirstWay = record { way = c.match-found.way'; visits = c.visits-visits.result } in
          first_none text c.args.nfa.now c.args.ix failed is_text c.requires.place c.requires.memo.1.1 answer c.find.new.m
          c.visits-visits.ensures there w.way'-is
    ]

pub returns-clause-visits : goal.returns-clause-visits
returns-clause-visits c = λ failed have.
    let small : length c.args.text.now < usize_max = omega arith in
    let is_text : IsText c.args.text.now = record { utf8 = c.utf8.text; fits = small } in
    let e = counted c.deref.result c.args.text c.args.nfa.now c.args.ix c.args.memo.now c.start.new.self c.deref.ensures.value is_text
    c.requires.place c.requires.memo c.start.ensures.failed c.start.ensures.path c.start.ensures.frames c.start.ensures.visits c.in_ok-found.found c.find.new.m
    c.in_ok-found.ensures.ends failed have in
    (e.steps, (e.way, (e.found, (e.ends, c.visits-visits.ensures ∙ e.visits))))
