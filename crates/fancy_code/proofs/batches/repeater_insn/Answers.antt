use Rattle.fancy_code.proofs.batches.repeater_insn.Goals as goal

pub get-requires-clause-text : goal.get-requires-clause-text
get-requires-clause-text c = c.in_ok-text.ensures.text c.args.unicode
