-- What writes to an output do one after the other.
use Rattle.std.proofs.Common.{ℕ, List, [], ◌++◌, Option}
use Rattle.std.proofs.KnownBytes.{Appends-nil, Appends-trans}
use Rattle.fancy_grep.specs.declared.output.Output.{Output}
use Rattle.fancy_grep.specs.Outputs.{Writes, written}

-- nothing is written
pub writes_none : {W : Type 0} (contents : W → Option (List ℕ)) (o : Output W) → Writes contents o o []
writes_none contents o = record { unless_failed = λ none. (none, Appends-nil _) }

-- one after the other
pub writes_then : {W : Type 0} (contents : W → Option (List ℕ)) {a b c : Output W} {xs ys : List ℕ} →
    Writes contents a b xs → Writes contents b c ys → Writes contents a c (xs ++ ys)
writes_then contents {a} {b} {c} {xs} {ys} first second = record {
  unless_failed = λ none.
      let later = second.unless_failed none in
      let earlier = first.unless_failed later.0 in
      (earlier.0, Appends-trans (written contents a) (written contents b) (written contents c) xs ys earlier.1 later.1);
}
