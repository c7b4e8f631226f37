-- The bounds on all searches of a text are attained: by `(behind (cat keep "a"))` the text "a" is searched from both places,
-- and the first of these searches begins both.
use Rattle.std.specs.Prelude.{◌≡◌, [], ◌∷◌, length, sum_by, true, false, None, codes, refl}
use Rattle.std.specs.Str.{chars}
use Rattle.regex_hir.specs.Text.{is_boundary, char_at, has_bytes_at}
use lib.Utf8.{encode}
use Rattle.fancy_meaning.specs.Tree.{none, more, KeepOut, Literal, Concat, LookAround, LookBehind}
use Rattle.fancy_meaning.specs.Answer.{answer, as_numbers}
use Rattle.fancy_meaning.specs.Nodes.{target, groups, group_count}
use Rattle.fancy_meaning.specs.Numbering.{numbered}
use Rattle.fancy_meaning.specs.OpenCalls.{free_calls}
use Rattle.fancy_meaning.specs.Options.{Plan, RunOptions, UnicodeBytes, plan_of}
use Rattle.fancy_meaning.specs.Places.{places_from, places_back}
use Rattle.fancy_bounds.specs.StartsBegun.{begun}
use Rattle.fancy_matches.specs.Listing.{all_matches, listed}
use Rattle.fancy_costs.specs.Costs.{all_searches, places_of, searches}

kept_before : Plan
kept_before =
    plan_of (LookAround LookBehind (Concat (more KeepOut (more (Literal 97 false) none))))
    (record { explicit_capture_group_0 = false; find_not_empty = false; end_text = false; leftmost_longest = false })
    (record { anchored = false; end_text = false; bytes_mode = UnicodeBytes; unicode = true; max_prog_size = None })

each_start : RunOptions
each_start = record {
  pos = 0;
  anchored = false;
  continued = false;
  not_empty = false;
  leftmost_longest = false;
  backtrack_limit = 1000;
  step_limit = 1000;
}

-- what is computed with
unfoldable row : Unit {0}
unfolding kept_before each_start searches listed answer as_numbers target groups group_count numbered free_calls places_from places_back is_boundary char_at has_bytes_at chars encode
row = tt

two_places : places_of (codes "a") ≡ 2
unfolding row
two_places = refl

two_searches : length (all_searches kept_before (codes "a") each_start) ≡ 2
unfolding row
two_searches = refl

three_starts : sum_by begun (all_searches kept_before (codes "a") each_start) ≡ 3
unfolding row
three_starts = refl

one_match : all_matches kept_before (codes "a") each_start ≡ (0 ∷ 1 ∷ []) ∷ []
unfolding row
one_match = refl
