-- What holds behind a token behind which nothing changes.
use Rattle.std.proofs.Common.{◌≡◌, ◌≤◌, Ok, arith}
use Rattle.fancy_meaning.specs.WellFormed.{most_groups}
use Rattle.fancy_tokens.specs.declared.lexing.Lexing.{Lexing}
use Rattle.fancy_tokens.specs.Tokens.{Token, item}
use Rattle.fancy_pattern.specs.Texts.{Text}
use Rattle.fancy_pattern.specs.Items.{item_at, outside_at, lone_found}
use Rattle.fancy_pattern.specs.Lone.{IsQuiet}

pub outside_of_item : (now : Lexing) (text after : Text) (t : Token) →
    now.opened ≤ most_groups →
    item_at now.flags now.opened text ≡ Ok (item now.flags t, after) →
    IsQuiet t →
    outside_at now text ≡ Ok (lone_found now t, after)
unfolding outside_at
outside_of_item now text after t few found quiet = rw (found, quiet.opens_none, quiet.no_class_behind) (grind arith)
