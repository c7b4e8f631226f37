use Rattle.std.proofs.Common.{refl, subst}
use Rattle.std.specs.Prelude.{chars}
use Rattle.fancy_pattern.specs.Spelling.{IsError}
use Rattle.fancy_faults.specs.Faults.{IsPlace, in_tree, unread}
use Rattle.fancy_faults.proofs.fault.fault_of.Goals as goal

pub returns-in-Err-Parse : goal.returns-in-Err-Parse
returns-in-Err-Parse c =
    unread (subst (IsError c.args.parsing (chars c.args.pattern.now)) c.in-Err-Parse.field-0-is c.in-Err-Parse.ensures.answer) refl
    c.in_ok-message-in-Err-Parse.ensures

pub returns : goal.returns
returns c =
    in_tree c.in-Ok.tree c.in-Ok.ensures.answer.0 (record {
      leaf = c.in_ok-leaf.field-0.leaf;
      of_tree = c.in_ok-leaf.ensures;
      spans = c.in_ok-spans.spans.items;
      of_leaves = c.in_ok-spans.ensures;
      place = subst (λ l. IsPlace c.args.refused.now l c.in_ok-leaf.field-0.leaf c.place_of.result) c.deref.ensures.value c.place_of.ensures;
    })
