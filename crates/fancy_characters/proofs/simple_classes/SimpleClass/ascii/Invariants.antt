use Rattle.std.proofs.Common.{◌≡◌, ℕ, ◌<◌, false, length, slice_index_or}
use Rattle.fancy_characters.specs.SimpleClasses.{is_in_simple}
use Rattle.fancy_characters.proofs.simple_classes.SimpleClass.ascii.Given as goal

abbrev pub invariant-ask : goal.invariant-ask
invariant-ask l =
    ((c : ℕ) → c < l.c → slice_index_or l.answers c false ≡ is_in_simple l.self c) × (length l.answers ≡ 128)
