use Rattle.std.proofs.Common.{sym, ap, ◌∙◌, slice_index_or, false}
use Rattle.std.specs.List.{slice_get}
use Rattle.std.proofs.lemmas.Bool.{not-true}
use Rattle.fancy_nfa.proofs.FirstWayLaws.{no_way_at, excluded_byte}
use Rattle.fancy_nfa.proofs.nfa.Nfa.excludes.Goals as goal

pub returns-in-Some : goal.returns-in-Some
returns-in-Some c = λ yes text ix is_text at here.
    no_way_at text c.args.self.now ix is_text at
    (excluded_byte c.args.self.now.first_sets.items c.in-Some.set.now c.args.byte
    (ap (λ levels. slice_get levels 0) (sym c.deref.ensures.value) ∙ sym c.in-Some.ensures.value)
    (ap (λ i. slice_index_or c.in-Some.set.now i false) (sym c.min.ensures) ∙ not-true _ yes) text ix here)
