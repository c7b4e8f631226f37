use Rattle.std.proofs.Common.{◌∷◌, Some, sym, ap, subst, ◌∙◌}
use Rattle.regex_compile.specs.Implements.{Implements}
use Rattle.regex_dfa.specs.declared.dfa.Dfa.{Dfa}
use Rattle.fancy_hybrid.specs.Cells.{cell_numbers}
use Rattle.fancy_hybrid.proofs.Answered.{match_answered, none_answered}
use Rattle.fancy_hybrid.proofs.search.search_into.Goals as goal

pub returns-in_default-found-clause-answers : goal.returns-in_default-found-clause-answers
returns-in_default-found-clause-answers c = λ q e is of.
    let found = c.in-Ok.ensures.found of.re of.searches in
    none_answered e c.args.text.now c.args.pos q c.args.engine.now is of (rw c.in_default-found.is at found)

pub returns-clause-answers : goal.returns-clause-answers
returns-clause-answers c = λ q e is of.
    let found = c.in-Ok.ensures.found of.re of.searches in
    let here = rw c.in-Some.is at found in
    let searches = subst (λ (d : Dfa). Implements d.nfa of.re) (sym c.find.ensures.dfa) of.searches in
    let groups = c.in-Ok-find_groups.ensures.groups of.re searches c.args.pos (sym here) in
    let held = rw c.find.ensures.cells at groups in
    let long = rw c.find.ensures.cells at c.find_groups.ensures.count in
    match_answered e c.args.text.now c.args.pos q c.args.engine.now is of c.in-Some.from c.in-Some.end c.find_groups.new.self.cells.items
    here held long
    ∙ ap (λ l. Some (c.in-Some.from ∷ c.in-Some.end ∷ cell_numbers l)) (sym c.cells.ensures)
    ∙ ap Some (sym c.in_ok-write_numbers.ensures)
