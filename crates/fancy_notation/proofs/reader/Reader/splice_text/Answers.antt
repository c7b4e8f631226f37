use Rattle.std.proofs.Common.{sym, ap, ◌++◌, ◌∙◌, map, string_bytes}
use Rattle.fancy_expr.specs.Views.{tree_of}
use Rattle.fancy_notation.specs.Grammar.{parts_of_text}
use Rattle.fancy_notation.proofs.Loops.{has_next, skips_text}
use Rattle.fancy_notation.proofs.reader.Reader.splice_text.Goals as goal

pub skip-requires : goal.skip-requires
skip-requires c = has_next c.args.self.now _ (sym (rw c.in-Some-Quoted.field-0-is at c.in-Some-Quoted.ensures))

pub returns-in_ok-push_text-in-Some-Quoted : goal.returns-in_ok-push_text-in-Some-Quoted
returns-in_ok-push_text-in-Some-Quoted c =
    let e = sym (rw c.in-Some-Quoted.field-0-is at c.in-Some-Quoted.ensures) in (
      (c.in-Some-Quoted.folded, string_bytes c.in-Some-Quoted.text),
      skips_text c.args.self.now c.skip.new.self c.in-Some-Quoted.folded (string_bytes c.in-Some-Quoted.text) e c.skip.ensures,
      c.skip.ensures.end,
      c.in_ok-push_text-in-Some-Quoted.ensures.0
          ∙ ap (λ s. map tree_of c.args.parts.now.items ++ parts_of_text c.in-Some-Quoted.folded s) c.as_str.ensures.value,
      c.in_ok-push_text-in-Some-Quoted.ensures.1,
    )
