use Rattle.std.proofs.Common.{arith, ap, ◌∙◌, nat_eq}
use Rattle.std.specs.List.{starts_with}
use Rattle.std.proofs.lemmas.List.{take_rest}
use Rattle.regex_hir.specs.Text.{has_bytes_at}
use Rattle.fancy_characters.proofs.PlacesLaws.{empty_past}
use Rattle.fancy_characters.proofs.places.stand_at.Goals as goal

pub returns-then-ix-text : goal.returns-then-ix-text
unfolding has_bytes_at
returns-then-ix-text c = c.begins_with.ensures ∙ ap (λ l. starts_with nat_eq l c.args.bytes.now) (take_rest c.args.text.now c.args.ix)

pub returns-else-ix-text : goal.returns-else-ix-text
returns-else-ix-text c = c.is_empty.ensures ∙ empty_past c.args.text.now c.args.bytes.now c.args.ix (omega arith)
