use Rattle.std.proofs.Common.{sym, ap, ◌∙◌, subst, string_bytes}
use Rattle.fancy_notation.specs.Grammar.{Spells, text, joined, literals}
use Rattle.fancy_notation.specs.NotationViews.{point_of}
use Rattle.fancy_notation.proofs.Loops.{has_next, skips_text}
use Rattle.fancy_notation.proofs.reader.Reader.read_text.Goals as goal

pub skip-requires : goal.skip-requires
skip-requires c = has_next c.args.self.now _ (sym (rw c.in-Some-Quoted.field-0-is at c.in-Some-Quoted.ensures))

pub returns-in_ok-node-in-Some-Quoted : goal.returns-in_ok-node-in-Some-Quoted
returns-in_ok-node-in-Some-Quoted c =
    let e = sym (rw c.in-Some-Quoted.field-0-is at c.in-Some-Quoted.ensures) in (
      subst (Spells (point_of c.args.self.now) (point_of c.skip.new.self))
          (sym (c.in_ok-node-in-Some-Quoted.ensures.0 ∙ ap (λ s. joined (literals c.in-Some-Quoted.folded s)) c.as_str.ensures.value))
          (text (skips_text c.args.self.now c.skip.new.self c.in-Some-Quoted.folded (string_bytes c.in-Some-Quoted.text) e c.skip.ensures)),
      c.skip.ensures.end,
      c.in_ok-node-in-Some-Quoted.ensures.1,
    )
