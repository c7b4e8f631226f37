use Rattle.std.proofs.Common.{IsCharBoundary, take, sym, ap, ◌∙◌, subst}
use Rattle.std.proofs.lemmas.List.Folds.{length-prefix_len}
use Rattle.fancy_replace.specs.Reading.{is_word_byte}
use Rattle.fancy_replace.proofs.Tokenizing.{word_ends_at_boundary}
use Rattle.fancy_replace.proofs.tokens.split_word.Goals as goal

pub split_at-requires : goal.split_at-requires
split_at-requires c =
    let text = c.args.text.now in
    subst (IsCharBoundary text) (sym c.word_length.ensures) (word_ends_at_boundary text c.utf8.text)

pub returns-clause-word : goal.returns-clause-word
returns-clause-word c =
    let text = c.args.text.now in
    c.split_at.ensures.front ∙ ap (λ n. take n text) (c.word_length.ensures ∙ length-prefix_len is_word_byte text)
