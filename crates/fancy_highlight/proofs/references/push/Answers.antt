use Rattle.std.proofs.Common.{◌≡◌, ◌++◌, ◌∷◌, false, encode_utf8_all, string_bytes, sym, subst}
use Rattle.fancy_highlight.specs.Ends.{end_after, taken_by}
use Rattle.fancy_highlight.proofs.BackReferences.{adds_reference}
use Rattle.fancy_highlight.proofs.references.push.Goals as goal

pub returns-then-is_escaped : goal.returns-then-is_escaped
returns-then-is_escaped c = λ rest.
    let took = taken_by c.args.captures.now in
    let new = string_bytes c.push_escaped.new.pattern in
    let old = string_bytes c.args.pattern.now in
    subst
    (λ b. new ++ encode_utf8_all (end_after took false rest) ≡ old ++ encode_utf8_all (end_after took b (c.args.c ∷ rest)))
    (sym c.if-is_escaped.true) (adds_reference took old new c.args.c rest c.in_ok-push_escaped.ensures)
