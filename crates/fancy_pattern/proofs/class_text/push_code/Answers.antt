use Rattle.std.proofs.Common.{[], ◌∷◌, ◌++◌, codes, string_bytes}
use Rattle.fancy_tokens.specs.PatternViews.{hex_digits}
use Rattle.fancy_pattern.proofs.MadeNodes.{text_added}
use Rattle.fancy_pattern.proofs.class_text.push_code.Goals as goal

pub returns : goal.returns
returns c =
    text_added (string_bytes c.args.out.now) (codes "\\x{" ++ hex_digits c.args.c) (125 ∷ []) (string_bytes c.push_digits.new.out)
    (string_bytes c.push_char.new.out)
    (text_added (string_bytes c.args.out.now) (codes "\\x{") (hex_digits c.args.c) (string_bytes c.push_chars.new.out) (string_bytes c.push_digits.new.out)
    c.in_ok-push_chars.ensures c.in_ok-push_digits.ensures)
    c.in_ok-push_char.ensures
