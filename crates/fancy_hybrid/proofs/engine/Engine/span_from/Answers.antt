use Rattle.std.proofs.Common.{sym, ap, ◌∙◌, option_map, refl}
use Rattle.regex_meta.proofs.LeftmostLemmas.{are_bytes}
use Rattle.regex_vm.specs.Found.{span}
use Rattle.fancy_hybrid.proofs.Leftmost.{no_end, span_from_least}
use Rattle.fancy_hybrid.proofs.engine.Engine.span_from.Goals as goal

pub returns-in-NoMatch-clause-found : goal.returns-in-NoMatch-clause-found
returns-in-NoMatch-clause-found c = λ re searches.
    let text = c.args.text.now in
    let none = no_end c.args.self.now.dfa.nfa re searches text (are_bytes _ c.type_inv.text) c.in-Some.at c.in-Some.ensures.within.1
    c.in-NoMatch.ensures.end in
    sym (ap (option_map span) (c.in-Some.ensures.skipped re searches ∙ none))

pub returns-in-At-find_start-clause-found : goal.returns-in-At-find_start-clause-found
returns-in-At-find_start-clause-found c = λ re searches.
    let text = c.args.text.now in
    let ends = c.in-At.ensures.end in
    let least = c.in-At-find_start.ensures.least in
    span_from_least c.args.self.now.dfa.nfa re searches text (are_bytes _ c.type_inv.text) c.in-Some.at c.in-At.end c.in-At-find_start.from
    ends.2 ends.3 (ends.1 refl) least.0 least.2 least.3
    ∙ sym (ap (option_map span) (c.in-Some.ensures.skipped re searches))
