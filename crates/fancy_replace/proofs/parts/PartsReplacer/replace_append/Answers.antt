use Rattle.std.proofs.Common.{take, subst, arith}
use Rattle.std.proofs.lemmas.Grind.{common_steps}
use Rattle.fancy_matches.specs.Matchers.{captures_text, numbers_in}
use Rattle.fancy_replace.specs.Outputs.{Grows}
use Rattle.fancy_replace.specs.Parts.{parts_text}
use Rattle.fancy_replace.proofs.Growing.{grows_none, grows_on}
use Rattle.fancy_replace.proofs.parts.PartsReplacer.replace_append.Goals as goal

pub loop-part-init : goal.loop-part-init
loop-part-init g c = grows_none g.O.Output.holds c.args.out.now

pub loop-part-preserved : goal.loop-part-preserved
loop-part-preserved g c =
    let l = c.loop-part in
    let text = captures_text c.args.captures.now in
    let numbers = numbers_in c.args.captures.now in
    let step = grows_on g.O.Output.holds c.args.out.now l.out c.append.new.out (parts_text text numbers (take l.part-index c.args.self.now.0.now)) _ l.invariant c.in_ok-append.ensures in
    subst (λ x. Grows g.O.Output.holds c.args.out.now x c.append.new.out) (grind (arith, common_steps)) step

pub returns : goal.returns
returns g c =
    let l = c.loop-part in
    let text = captures_text c.args.captures.now in
    let numbers = numbers_in c.args.captures.now in
    subst (λ x. Grows g.O.Output.holds c.args.out.now x l.out) (grind (arith, common_steps)) l.invariant
