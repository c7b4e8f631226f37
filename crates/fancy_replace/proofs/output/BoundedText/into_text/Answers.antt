use Rattle.std.proofs.Common.{arith}
use Rattle.std.proofs.lemmas.Str.{IsUtf8-had}
use Rattle.fancy_replace.proofs.output.BoundedText.into_text.Goals as goal

pub from_utf8_unchecked-requires : goal.from_utf8_unchecked-requires
from_utf8_unchecked-requires c =
    let no = c.if-self.false in
    IsUtf8-had c.args.self.kept.items (c.args.self.is_text (omega (arith, no)))
