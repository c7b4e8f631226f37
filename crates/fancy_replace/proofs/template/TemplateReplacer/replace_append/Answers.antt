use Rattle.std.proofs.Common.{take, subst, arith, map}
use Rattle.std.proofs.lemmas.Grind.{common_steps}
use Rattle.fancy_matches.specs.Matchers.{captures_text, numbers_in}
use Rattle.fancy_replace.specs.Outputs.{Grows}
use Rattle.fancy_replace.specs.Templates.{segment_of, segments_text}
use Rattle.fancy_replace.proofs.Growing.{grows_none, grows_on}
use Rattle.fancy_replace.proofs.template.TemplateReplacer.replace_append.Goals as goal

pub loop-segment-init : goal.loop-segment-init
loop-segment-init g c = grows_none g.O.Output.holds c.args.out.now

pub loop-segment-preserved : goal.loop-segment-preserved
loop-segment-preserved g c =
    let l = c.loop-segment in
    let text = captures_text c.args.captures.now in
    let numbers = numbers_in c.args.captures.now in
    let step = grows_on g.O.Output.holds c.args.out.now l.out c.append.new.out (segments_text (map segment_of (take l.segment-index c.args.self.now.segments.items)) text numbers) _ l.invariant c.in_ok-append.ensures in
    subst (λ x. Grows g.O.Output.holds c.args.out.now x c.append.new.out) (grind (arith, common_steps)) step

pub returns : goal.returns
returns g c =
    let l = c.loop-segment in
    let text = captures_text c.args.captures.now in
    let numbers = numbers_in c.args.captures.now in
    subst (λ x. Grows g.O.Output.holds c.args.out.now x l.out) (grind (arith, common_steps)) l.invariant
