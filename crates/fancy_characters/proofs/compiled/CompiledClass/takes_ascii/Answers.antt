use Rattle.std.proofs.Common.{ap, ◌∙◌}
use Rattle.fancy_meaning.specs.Chars.{class_takes}
use Rattle.fancy_characters.specs.ClassTexts.{ClassText}
use Rattle.fancy_characters.proofs.compiled.CompiledClass.takes_ascii.Goals as goal

pub returns : goal.returns
returns c =
    c.self.invariant.0 c.args.c c.requires ∙ ap (λ (t : ClassText). class_takes t.unicode t.inner t.casei c.args.c) c.self.view_is
