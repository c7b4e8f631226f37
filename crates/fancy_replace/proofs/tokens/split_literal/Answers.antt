use Rattle.std.proofs.Common.{take, drop, sym, ap, ◌∙◌, arith}
use Rattle.std.proofs.lemmas.List.Folds.{length-prefix_len}
use Rattle.std.proofs.lemmas.Str.Pattern.{find_char}
use Rattle.fancy_replace.proofs.Tokenizing.{first_dollar}
use Rattle.fancy_replace.proofs.tokens.split_literal.Goals as goal

pub returns-clause-literal : goal.returns-clause-literal
returns-clause-literal c =
    let text = c.args.text.now in
    let found = first_dollar text c.find.result (find_char 36 text c.find.result c.find.ensures.cases (omega arith)) in
    c.split_at.ensures.front ∙ ap (λ n. take n text) (c.unwrap_or.ensures ∙ sym found)

pub returns-clause-rest : goal.returns-clause-rest
returns-clause-rest c =
    let text = c.args.text.now in
    let found = first_dollar text c.find.result (find_char 36 text c.find.result c.find.ensures.cases (omega arith)) in
    c.split_at.ensures.back ∙ ap (λ n. drop n text) (c.unwrap_or.ensures ∙ sym found ∙ sym (length-prefix_len _ text))
