use Rattle.std.proofs.Common.{◌≡◌, ◌++◌, ℕ, List, encode_utf8_all, string_bytes}
use Rattle.fancy_highlight.specs.Ends.{end_after, end_for, taken_by}
use Rattle.fancy_highlight.proofs.references.end_pattern.Given as goal

abbrev pub invariant-loop-c : goal.invariant-loop-c
invariant-loop-c l =
    (rest : List ℕ) → string_bytes l.pattern ++ encode_utf8_all (end_after (taken_by l.captures) l.is_escaped rest)
    ≡ encode_utf8_all (end_for (taken_by l.captures) (l.yielded ++ rest))
