use Rattle.fancy_highlight.proofs.Covering.{first_place, none_yet}
use Rattle.fancy_highlight.proofs.writer.Writer.new.Goals as goal

pub invariant_of-result : goal.invariant_of-result
invariant_of-result c = record {
  place = first_place c.args.text.now c.utf8.text;
  covered = none_yet c.args.text.now _ c.new.ensures.items;
}
