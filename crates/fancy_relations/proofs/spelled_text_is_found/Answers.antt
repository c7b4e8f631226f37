use Rattle.fancy_relations.proofs.Spelled.{spelled_found}
use Rattle.fancy_relations.proofs.spelled_text_is_found.Goals as goal

pub returns : goal.returns
returns c = λ s pattern o r text pos found utf8 spells allowed is at finds. spelled_found s pattern o r text pos found utf8 spells allowed is at finds
