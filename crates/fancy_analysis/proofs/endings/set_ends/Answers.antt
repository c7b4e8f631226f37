use Rattle.std.proofs.Common.{◌≡◌, ◌&&◌, ◌||◌, false, nat_lt, length, slice_index_or, slice_set, ap, ◌∙◌, sym}
use Rattle.fancy_analysis.specs.Endings.{group_ends}
use Rattle.fancy_info.specs.Infos.{info_tree}
use Rattle.fancy_analysis.proofs.EndingRules.{next_of}
use Rattle.fancy_analysis.proofs.endings.set_ends.Goals.{then-flags, else-flags}
use Rattle.fancy_analysis.proofs.endings.set_ends.Goals as goal

pub returns-clause-flags : goal.returns-clause-flags
returns-clause-flags c = λ a found g.
    let flags = c.args.flags.now in
    let ends = c.find_ends-ends.result in
    let next = c.find_ends-ends.new.next in
    let whole : c.if-flags.whole ≡ (slice_index_or flags 0 false || ends) = elim c.if-flags.branch [
      | then-flags w ↦ w.whole-is ∙ w.if-flags.true ∙ ap (λ b. b || ends) (sym w.if-flags.true)
      | else-flags w ↦ w.whole-is ∙ ap (λ b. b || ends) (sym w.if-flags.false)
    ] in
    ap (λ b. slice_index_or (slice_set next 0 b) g false) whole
    ∙ next_of flags next (info_tree c.args.root.now) ends c.requires.some
    (c.find_ends-ends.ensures.length ∙ ap length c.requires.same) (c.find_ends-ends.ensures.ends a found) (λ k.
    c.find_ends-ends.ensures.next a found k
    ∙ ap (λ l. slice_index_or l k false || (nat_lt k (length l) && group_ends flags (info_tree c.args.root.now) k)) c.requires.same) g
