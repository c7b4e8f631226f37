use Rattle.std.proofs.Common.{arith, map, filter, string_bytes, ap, ◌∙◌}
use Rattle.std.proofs.lemmas.List.{take_all}
use Rattle.std.specs.BTreeMap.{get_by_text}
use Rattle.std.specs.List.{list_any}
use Rattle.std.specs.Str.{bytes_eq}
use Rattle.fancy_pattern.proofs.NamedGroups.{numbers_in_entry}
use Rattle.std.proofs.lemmas.Grind.{text_groups}
use Rattle.fancy_pattern.proofs.named.numbers_of.Goals as goal

pub loop-name-preserved : goal.loop-name-preserved
loop-name-preserved c = (grind (arith, text_groups), grind (arith, text_groups))

pub returns : goal.returns
returns c = λ name.
    let all = take_all c.loop-name.name-index c.args.pairs.now (omega arith) in
    numbers_in_entry (get_by_text c.loop-name.numbers name) c.args.pairs.now name
    (c.loop-name.invariant.0 name ∙ ap (λ l. map (λ p. p.1) (filter (λ p. bytes_eq name (string_bytes p.0)) l)) all)
    (c.loop-name.invariant.1 name ∙ ap (list_any (λ p. bytes_eq name (string_bytes p.0))) all)
