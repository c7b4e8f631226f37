use Rattle.std.proofs.Common.{Bool, drop}
use Rattle.fancy_headline.proofs.Literals.{Chars}
use Rattle.fancy_code.specs.Batches.{Collects}
use Rattle.fancy_code.proofs.Collected.{chars_of}
use Rattle.fancy_code.proofs.batches.+collect.Given as goal

-- what is left, collected from here, completes the whole
abbrev pub invariant-collect_each-loop-info : goal.invariant-collect_each-loop-info
invariant-collect_each-loop-info l =
    (u : Chars) (is_other : Bool) → Collects (chars_of (drop l.info-index l.infos)) l.chars.items u is_other
    → Collects (chars_of l.infos) l.fn.chars.items u is_other
