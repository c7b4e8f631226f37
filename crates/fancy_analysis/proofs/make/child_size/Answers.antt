use Rattle.std.proofs.Common.{map, sym, ap, ◌∙◌, arith}
use Rattle.std.proofs.lemmas.List.{get_or-map, get_or_past, length-map}
use Rattle.fancy_meaning.specs.Sizes.{exactly}
use Rattle.fancy_info.specs.Infos.{info_size}
use Rattle.fancy_analysis.proofs.make.child_size.Goals as goal

pub returns-in-Some : goal.returns-in-Some
returns-in-Some c =
    let found = c.in-Some.ensures.lookup in
    ap info_size found.1 ∙ sym (get_or-map info_size c.args.children.now c.args.i c.in-Some.child.now (exactly 0) found.3.0)

pub returns-in-None : goal.returns-in-None
returns-in-None c =
    let is = c.args.children.now in
    c.exactly.ensures ∙ sym (get_or_past (map info_size is) c.args.i (exactly 0) (omega (arith, length-map is info_size, c.in-None.ensures.lookup.3)))
