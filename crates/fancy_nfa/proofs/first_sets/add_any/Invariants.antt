use Rattle.std.proofs.Common.{◌≡◌, ℕ, ◌<◌, true, false, length, slice_index_or}
use Rattle.fancy_meaning.specs.Chars.{any_takes}
use Rattle.fancy_nfa.proofs.first_sets.add_any.Given as goal

abbrev pub invariant-ask : goal.invariant-ask
invariant-ask l =
    ((c : ℕ) → c < l.c → any_takes l.fn.newline l.fn.crlf c ≡ true → slice_index_or l.set c false ≡ true)
    × ((c : ℕ) → slice_index_or l.fn.set c false ≡ true → slice_index_or l.set c false ≡ true)
    × (length l.set ≡ 129)
