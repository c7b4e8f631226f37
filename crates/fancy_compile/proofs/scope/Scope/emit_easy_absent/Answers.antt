use Rattle.std.proofs.Common.{map, sym, ◌∙◌, subst}
use Rattle.fancy_meaning.specs.CompileRefusals.{here}
use Rattle.fancy_meaning.specs.Tree.{AbsentRepeater}
use Rattle.fancy_info.specs.Infos.{info_tree}
use Rattle.fancy_fragments.specs.Nodes.{AreEasyNeighbours}
use Rattle.fancy_code.specs.Faults.{StayWithin, HasRejected, too_deep}
use Rattle.fancy_code.specs.Sites.{within_node}
use Rattle.fancy_compile.proofs.AbsentLaws.{wrote_repeater}
use Rattle.fancy_compile.proofs.Infos.{easy_alone}
use Rattle.fancy_compile.proofs.Known.{hard_child}
use Rattle.fancy_compile.proofs.Rooms.{deep_part}
use Rattle.fancy_compile.proofs.scope.Scope.emit_easy_absent.Goals as goal

pub nest_too_deep-requires : goal.nest_too_deep-requires
nest_too_deep-requires c =
    subst AreEasyNeighbours (sym c.from_ref.ensures.value) (easy_alone c.args.self.now c.args.body.now c.requires.whole c.requires.easy)

pub returns-then-nest_too_deep : goal.returns-then-nest_too_deep
returns-then-nest_too_deep c = λ in_hard p call at_start room u known.
    let q = within_node p in
    let e = info_tree c.args.body.now in
    c.fail.ensures p _ _ (deep_part p (AbsentRepeater e) e here
    (subst (λ l. HasRejected q (map info_tree l) too_deep) c.from_ref.ensures.value (c.nest_too_deep.ensures.deep c.if-nest_too_deep.true q u.room)))

pub emit_repeater-requires : goal.emit_repeater-requires
emit_repeater-requires c = easy_alone c.args.self.now c.args.body.now c.requires.whole c.requires.easy

pub returns : goal.returns
returns c = λ in_hard p call at_start room u known.
    let q = within_node p in
    let body = c.args.body.now in
    let easy = sym (hard_child p.analysis body known) ∙ c.requires.easy in
    wrote_repeater p (info_tree body) room call at_start in_hard _ _ easy
    (c.emit_repeater.ensures q u.unicode (record { analysed = known; easy = easy })
    (subst (λ l. StayWithin q (map info_tree l)) c.from_ref.ensures.value (c.nest_too_deep.ensures.within c.if-nest_too_deep.false q u.room)))
