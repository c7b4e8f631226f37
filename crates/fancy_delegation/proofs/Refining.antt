-- From a list that every test searches as it does another, and which is equal up to the key to a third, to the words of the statement.
use Rattle.std.proofs.Common.{◌≡◌, Bool, List}
use Rattle.fancy_meaning.specs.MatchState.{MatchState}
use Rattle.fancy_meaning.specs.Keys.{Key, EqualUpTo}
use Rattle.fancy_delegation.proofs.FindsAlike.{find_first, alike_trans}
use Rattle.fancy_delegation.proofs.Reduced.{Same, key_equal-alike}
use Rattle.fancy_delegation.proofs.IsRefined.{IsRefined}

pub refines_by : (by : Key) (hs ks qs : List MatchState) →
    ((p : MatchState → Bool) → find_first p hs ≡ find_first p ks) → IsRefined (Same by) ks qs → EqualUpTo by hs qs
refines_by by hs ks qs tests h = (key_equal-alike by hs qs).1 (alike_trans (record { by = λ p ok. tests p }) h.alike)
