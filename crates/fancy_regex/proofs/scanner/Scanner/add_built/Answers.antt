use Rattle.std.proofs.Common.{◌≡◌, ◌++◌, ◌∷◌, [], map, subst, sym}
use Rattle.std.proofs.lemmas.List.{map-append}
use Rattle.std.specs.Arc.{arc_value}
use Rattle.fancy_regex.specs.Builders.{options}
use Rattle.fancy_regex.specs.Scanners.{names_listed, rule_for}
use Rattle.fancy_regex.proofs.scanner.Scanner.add_built.Goals as goal

pub returns-in-Ok-clause-ok : goal.returns-in-Ok-clause-ok
returns-in-Ok-clause-ok c =
    let p = c.in_ok-compiled.ensures in
    let o = options c.args.builder.now in
    let self = c.args.self.now in
    let names = c.in_ok-compiled.field-0.names in
    record {
      tree = p.tree;
      spelled = p.spelled;
      analysed_within = p.analysed_within;
      rules = λ text rules h. c.in-Ok.ensures.ok text rules (rule_for p.tree o text) h (p.compiled text);
      group_names = arc_value names;
      are_names = p.names;
      names =
          subst (λ xs. map arc_value xs ≡ names_listed self ++ arc_value names ∷ []) (sym c.in_ok-push.ensures.items)
          (map-append arc_value self.names.items (names ∷ []));
    }
