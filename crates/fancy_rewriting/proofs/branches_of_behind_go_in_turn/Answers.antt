use Rattle.std.proofs.Common.{refl, ap}
use Rattle.fancy_meaning.specs.Places.{places_back}
use Rattle.regex_hir.specs.Text.{is_boundary, char_at, has_bytes_at}
use lib.Utf8.{encode}
use Rattle.std.specs.Str.{chars}
use Rattle.fancy_rewriting.specs.Counterexamples.{two_branches}
use Rattle.fancy_rewriting.specs.Rewriting.{alternation_of_one}
use Rattle.fancy_rewriting.proofs.Rules.{rule_keeps_ways}
use Rattle.fancy_rewriting.proofs.branches_of_behind_go_in_turn.Goals as goal

pub returns : goal.returns
unfolding places_back is_boundary char_at chars has_bytes_at encode
returns c =
    (λ q call s. ap (λ w. w s) (rule_keeps_ways q call (alternation_of_one two_branches)), λ call. refl, λ call. refl)
