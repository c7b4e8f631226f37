use Rattle.std.proofs.Common.{ap}
use Rattle.fancy_meaning.specs.Instr.{Codepoint}
use Rattle.fancy_characters.specs.declared.compiled.CompiledClass.{CompiledClass}
use Rattle.fancy_characters.proofs.classes.CharClassMatcher.codepoint.Goals as goal

pub returns-clause-class : goal.returns-clause-class
returns-clause-class c = ap (λ (k : CompiledClass). Codepoint k.inner k.casei k.unicode) c.in_ok-class.ensures.class
