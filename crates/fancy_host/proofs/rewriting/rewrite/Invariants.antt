use Rattle.std.proofs.Common.{◌≡◌, ℕ, List, None}
use Rattle.fancy_search.specs.Scratches.{Suits, limits_of, passed_of}
use Rattle.fancy_steps.specs.Tasks.{options_of as run_options_of}
use Rattle.fancy_matches.specs.Matchers.{cursor_of}
use Rattle.fancy_replace.specs.Outputs.{Holds}
use Rattle.fancy_host.proofs.TextRewritten.{GoesOn}
use Rattle.fancy_host.proofs.rewriting.rewrite.Given as goal

abbrev pub invariant-loop-count : goal.invariant-loop-count
invariant-loop-count g l =
    (out : List ℕ) × (Holds l.out l.room out
    × (GoesOn l.compiled l.text (run_options_of l.options) l.limit (g.R.Replacer.replacement_text l.replacement) l.count
    (cursor_of l.cursor) l.from out
    × ((passed_of l.scratch ≡ None) × ((limits_of l.scratch ≡ limits_of l.fn.scratch) × Suits l.compiled l.scratch))))
