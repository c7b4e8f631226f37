use Rattle.std.proofs.Common.{length, take, encode_utf8_all, ap, ◌∙◌, arith}
use Rattle.fancy_pattern.specs.declared.error.PatternError.TheVariants.{Parse}
use Rattle.fancy_pattern.proofs.Told.{fewer_bytes}
use Rattle.fancy_pattern.proofs.pattern.placed_fault.Goals as goal

pub returns : goal.returns
returns c =
    let fits = fewer_bytes c.saturating_sub.result c.args.chars.now in
    ap (λ n. Parse n c.args.fault.kind)
    (c.byte_count.ensures (omega (arith, fits))
    ∙ ap (λ n. length (encode_utf8_all (take n c.args.chars.now))) c.saturating_sub.ensures)
