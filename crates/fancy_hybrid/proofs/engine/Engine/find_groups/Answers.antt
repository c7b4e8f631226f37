use Rattle.std.proofs.Common.{◌∙◌, arith, rules}
use Rattle.std.proofs.lemmas.List.{with_items_is}
use Rattle.regex_hir.specs.Find.{find_str}
use Rattle.regex_meta.proofs.ProgramLemmas.{no_groups, value_of_option_map}
use Rattle.regex_vm.specs.Found.{span}
use Rattle.fancy_hybrid.proofs.Leftmost.{match_of_found}
use Rattle.fancy_hybrid.proofs.engine.Engine.find_groups.Goals as goal

pub returns-then-is_empty-clause-groups : goal.returns-then-is_empty-clause-groups
returns-then-is_empty-clause-groups c = λ re searches start e.
    no_groups (find_str re c.args.text.now start) c.args.self.now.cells.items (search rules)

pub returns-in-Ok-clause-groups : goal.returns-in-Ok-clause-groups
returns-in-Ok-clause-groups c = λ re searches start e.
    let text = c.args.text.now in
    let v = value_of_option_map span (find_str re text start) (c.args.from, c.args.end) e in
    let one = match_of_found c.args.self.now.dfa.nfa re searches text start c.args.from c.args.end v.0 v.1 v.2 in
    let held = rw (c.as_bytes.ensures.value, one, c.as_mut_slice-cells.ensures.value) at c.in-Ok.ensures.groups in
    rw v.1 (with_items_is c.args.self.now.cells c.find_at.new.groups (omega arith) ∙ held)
