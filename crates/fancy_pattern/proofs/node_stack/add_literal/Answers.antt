use Rattle.fancy_pattern.proofs.node_stack.add_literal.Goals as goal

pub returns : goal.returns
returns c =
    let made = c.in_ok-literal.ensures in
    record { node = c.in_ok-literal.field-0; added = c.in_ok-push.ensures.items; made = made.made; one_char = made.one_char }
