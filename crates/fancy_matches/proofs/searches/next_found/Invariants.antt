use Rattle.std.proofs.Common.{◌≡◌, ◌-◌, None, suc, length}
use Rattle.fancy_search.specs.Scratches.{Suits, limits_of, passed_of}
use Rattle.fancy_steps.specs.Tasks.{options_of as run_options_of}
use Rattle.fancy_matches.specs.Matchers.{cursor_of}
use Rattle.fancy_matches.proofs.Stepping.{GoesOn}
use Rattle.fancy_matches.proofs.searches.next_found.Given as goal

abbrev pub invariant-searches : goal.invariant-searches
invariant-searches g l = record {
  goes : GoesOn l.compiled l.text (run_options_of l.options) (cursor_of l.fn.cursor) (cursor_of l.cursor);
  limits : limits_of l.scratch ≡ limits_of l.fn.scratch;
  stays : passed_of l.fn.scratch ≡ None → passed_of l.scratch ≡ None;
  suits : Suits l.compiled l.scratch;
}

abbrev pub decreases-searches : goal.decreases-searches
decreases-searches g l = suc (length l.text) - l.cursor.pos
