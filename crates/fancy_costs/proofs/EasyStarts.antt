-- Each way of an easy node keeps the start that its state has: a `\K` is hard, and what a definition holds has no way.
use Rattle.std.proofs.Common.{ℕ, refl, ◌∙◌}
use Rattle.fancy_meaning.specs.Tree.{Tree}
use Rattle.fancy_meaning.specs.MatchState.{Ways}
use Rattle.fancy_meaning.specs.Options.{Analysis}
use Rattle.fancy_meaning.specs.Ways.{Setting, ways_with}
use Rattle.fancy_delegation.proofs.EasyNodes.{IsEasy, easy_everywhere}
use Rattle.fancy_delegation.proofs.Kept.{IsKept, EachKept, relates_kept}
use Rattle.fancy_delegation.proofs.Related.{ways_related}
use Rattle.fancy_starts.proofs.KeptStarts.{KeepsStart}

start_is_kept : (a : Analysis) → IsKept (IsEasy a) KeepsStart
start_is_kept a = record {
  same = λ s. refl;
  on = λ s t u one more. more ∙ one;
  to_place = λ s i le. refl;
  back = λ s t kept. kept;
  before = λ s t i here kept. kept;
  meets_end = λ w x s easy e. refl;
  keeps = λ s easy. cc;
  spans = λ g e span s t easy kept. kept;
}

pub easy_keeps : (a : Analysis) (q : Setting) (call : ℕ → Ways) (e : Tree) → IsEasy a e → EachKept KeepsStart (ways_with q call e)
easy_keeps a q call e easy =
    ways_related q (IsEasy a) (λ w w'. EachKept KeepsStart w) (relates_kept q (IsEasy a) KeepsStart (start_is_kept a))
    call call (λ g hard. cc) e (easy_everywhere a e easy)
