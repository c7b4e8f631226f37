use Rattle.std.proofs.Common.{◌∙◌, ap, arith}
use Rattle.regex_hir.proofs.Utf8Lemmas.{encode_two, encode_three, encode_four}
use Rattle.fancy_literals.specs.Required.{begins_among}
use Rattle.fancy_literals.proofs.firsts.lead_byte.Goals as goal

pub returns-then-code-lt2048-clause-first : goal.returns-then-code-lt2048-clause-first
returns-then-code-lt2048-clause-first c bytes is = ap (begins_among bytes) (encode_two c.args.character (omega arith) (omega arith)) ∙ is

pub returns-then-code-lt65536-clause-first : goal.returns-then-code-lt65536-clause-first
returns-then-code-lt65536-clause-first c bytes is = ap (begins_among bytes) (encode_three c.args.character (omega arith) (omega arith)) ∙ is

pub returns-else-code-lt65536-clause-first : goal.returns-else-code-lt65536-clause-first
returns-else-code-lt65536-clause-first c bytes is = ap (begins_among bytes) (encode_four c.args.character (omega arith)) ∙ is
