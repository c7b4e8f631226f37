use Rattle.std.proofs.Common.{◌≡◌, ℕ, ◌&&◌, ◌||◌, false, nat_lt, take, length, slice_index_or}
use Rattle.fancy_meaning.specs.Sizes.{Known}
use Rattle.fancy_info.specs.Infos.{info_children, info_facts}
use Rattle.fancy_analysis.specs.Made.{IsSized}
use Rattle.fancy_analysis.specs.Endings.{is_ended_group}
use Rattle.fancy_analysis.proofs.InfoNodes.{any_in_each}
use Rattle.fancy_analysis.proofs.EndingRules.{ends_of}
use Rattle.fancy_analysis.proofs.endings.+find_ends.Given as goal

abbrev pub invariant-loop-i : goal.invariant-loop-i
invariant-loop-i l =
    (length l.next ≡ length l.fn.next)
    × ((known : Known) → IsSized known l.info → l.parts ≡ ends_of l.flags (info_facts l.info).expr (take l.i (info_children l.info)))
    × ((known : Known)
    → IsSized known l.info
    → (g : ℕ)
    → slice_index_or l.next g false
    ≡ (slice_index_or l.fn.next g false || (nat_lt g (length l.fn.next) && any_in_each (is_ended_group l.flags g) (take l.i (info_children l.info)))))
