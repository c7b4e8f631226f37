use Rattle.std.proofs.Common.{◌≡◌, ℕ, List, [], false, not}
use Rattle.fancy_replace.specs.Outputs.{Grows}
use Rattle.fancy_replace.specs.Pieces.{as_limit}
use Rattle.fancy_replace.specs.Steps.{places_left}
use Rattle.fancy_replace.proofs.Replacing.{GoesOn}
use Rattle.fancy_replace.proofs.replace.replace_into.Given as goal

abbrev pub invariant-matches : goal.invariant-matches
invariant-matches g l =
    (more : List ℕ) × (Grows g.O.Output.holds l.fn.out more l.out
    × ((l.is_replaced ≡ false → more ≡ [])
    × GoesOn l.fn.matcher l.matcher l.text (as_limit l.limit) (g.R.Replacer.replacement_text l.replacement l.text) l.cuts more (not l.is_replaced)))

abbrev pub decreases-matches : goal.decreases-matches
decreases-matches g l = places_left l.cuts
