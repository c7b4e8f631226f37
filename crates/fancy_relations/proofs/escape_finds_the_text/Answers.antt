use Rattle.fancy_relations.proofs.Spelled.{escaped_found}
use Rattle.fancy_relations.proofs.escape_finds_the_text.Goals as goal

pub returns : goal.returns
returns c = λ s pattern o r text pos found utf8 spells allowed is at finds. escaped_found s pattern o r text pos found utf8 spells allowed is at finds
