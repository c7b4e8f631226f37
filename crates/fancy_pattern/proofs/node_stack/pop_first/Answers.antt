use Rattle.std.proofs.Common.{[], ◌∷◌, ◌++◌, ap, ◌∙◌}
use Rattle.fancy_pattern.proofs.node_stack.pop_first.Goals as goal

pub returns : goal.returns
returns c = λ below e h.
    let taken = c.popped.ensures below e h in (
      record {
        node = c.popped.result;
        added = c.in_ok-push.ensures.items ∙ ap (λ l. l ++ c.popped.result ∷ []) c.new-row.ensures.items;
        made = taken.made;
        one_char = taken.one_char;
      },
      taken.rest,
    )
