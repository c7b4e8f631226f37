-- The laws of lists equal up to a key, in the words of the definitions.
use Rattle.std.proofs.Common.{flat_map}
use Rattle.fancy_meaning.specs.Theorems.{BindingKeepsEquality, CoarserKeyKeepsEquality}
use Rattle.fancy_laws.proofs.Every.{every_anything}
use Rattle.fancy_delegation.proofs.Pairwise.{equal_pairs, pairs_weaken}
use Rattle.fancy_delegation.proofs.FindsAlike.{alike_coarser, alike_flat_map}
use Rattle.fancy_delegation.proofs.Reduced.{key_equal-alike}

pub coarser_key_keeps_equality : CoarserKeyKeepsEquality
coarser_key_keeps_equality fine coarse hs qs c t = (key_equal-alike coarse hs qs).1 (alike_coarser c ((key_equal-alike fine hs qs).0 t))

pub binding_keeps_equality : BindingKeepsEquality
binding_keeps_equality fine coarse hs qs f k c t respects each =
    (key_equal-alike coarse (flat_map k hs) (flat_map f qs)).1
    (alike_flat_map {P = λ s. Unit {0}} k f hs qs
    (λ x y e. pairs_weaken (λ a b r. c a b r) (equal_pairs fine fine (f x) (f y) (respects x y e)))
    (λ x u. (key_equal-alike coarse (k x) (f x)).0 (each x))
    (every_anything hs (λ s. tt))
    ((key_equal-alike fine hs qs).0 t))
