-- Where the longest match is asked for: what is hard, what is laid out, what is answered and what a run comes to.
use Rattle.std.specs.Prelude.{◌≡◌, Bool, true, false, [], ◌∷◌, Some, codes, refl}
use Rattle.fancy_meaning.specs.Tree.{Tree, ContinueFromPreviousMatchEnd, KeepOut, DefineGroup}
use Rattle.fancy_meaning.specs.Options.{AnalysisOptions, analysis_of}
use Rattle.fancy_meaning.specs.Hard.{is_hard}
use Rattle.fancy_meaning.specs.Instr.{Save, Split, Jmp, End}
use Rattle.fancy_meaning.specs.Config.{Match, BacktrackLimitExceeded}
use Rattle.fancy_meaning.specs.Layout.{layout}
use Rattle.fancy_meaning.specs.AnalysisRefusals.{FeatureNotYetSupported, AnalysisRefuses, before_end, lazy_loop}
use Rattle.fancy_examples.proofs.Notation.{Answered, Comes, Lays, parsed, no_options, longest, longest_anchored, from, for_longest, for_longest_within, code, utf8, lit, cat, alt, grp, rep, star, lazy, lazy_star, call, row}

-- ---- answers

longest_of_three : Answered (longest (alt (lit "a" ∷ lit "ab" ∷ lit "abc" ∷ []))) (codes "xabc") for_longest (Some (1 ∷ 4 ∷ []))
unfolding row
longest_of_three = (refl, refl, refl)

first_of_three : Answered (longest (alt (lit "a" ∷ lit "ab" ∷ lit "abc" ∷ []))) (codes "xabc") (from 0) (Some (1 ∷ 2 ∷ []))
unfolding row
first_of_three = (refl, refl, refl)

longest_by_a_loop : Answered (longest (star 1 (alt (lit "a" ∷ lit "ab" ∷ [])))) (codes "aab") for_longest (Some (0 ∷ 3 ∷ []))
unfolding row
longest_by_a_loop = (refl, refl, refl)

first_by_a_loop : Answered (longest (star 1 (alt (lit "a" ∷ lit "ab" ∷ [])))) (codes "aab") (from 0) (Some (0 ∷ 2 ∷ []))
unfolding row
first_by_a_loop = (refl, refl, refl)

-- the first among equals
first_among_equals : Answered
    (longest (alt (cat (lit "a" ∷ grp (rep 0 1 (lit "b")) ∷ []) ∷ grp (lit "ab") ∷ []))) (codes "ab") for_longest
    (Some (0 ∷ 2 ∷ 1 ∷ 2 ∷ 18446744073709551615 ∷ 18446744073709551615 ∷ []))
unfolding row
first_among_equals = (refl, refl, refl)

-- where a longer one might still come
first_among_shorter_equals : Answered
    (longest (alt (cat (lit "a" ∷ grp (rep 0 1 (lit "b")) ∷ []) ∷ grp (lit "ab") ∷ lit "abc" ∷ []))) (codes "ab") for_longest
    (Some (0 ∷ 2 ∷ 1 ∷ 2 ∷ 18446744073709551615 ∷ 18446744073709551615 ∷ []))
unfolding row
first_among_shorter_equals = (refl, refl, refl)

-- what is reported counts, and not what was taken
kept_start_makes_short : Answered (longest (alt (cat (lit "abc" ∷ KeepOut ∷ []) ∷ lit "ab" ∷ []))) (codes "abc") for_longest
    (Some (0 ∷ 2 ∷ []))
unfolding row
kept_start_makes_short = (refl, refl, refl)

-- not over all starts
earliest_start : Answered (longest (alt (lit "b" ∷ lit "cde" ∷ []))) (codes "bcde") for_longest (Some (0 ∷ 1 ∷ []))
unfolding row
earliest_start = (refl, refl, refl)

-- a `\G` that gives up the search
held_where_it_gives_up : Answered
    (longest (cat (grp (cat (ContinueFromPreviousMatchEnd ∷ lit "a" ∷ [])) ∷ alt (lit "b" ∷ call 1 ∷ []) ∷ [])))
    (codes "ab") for_longest (Some (0 ∷ 2 ∷ 0 ∷ 1 ∷ []))
unfolding row
held_where_it_gives_up = (refl, refl, refl)

-- ---- programs and runs

variable_alternation_is_written_out : Lays (longest_anchored (alt (lit "a" ∷ lit "ab" ∷ [])))
    (Save 0 ∷ Split 2 4 ∷ code "a" ∷ Jmp 5 ∷ code "ab" ∷ Save 1 ∷ End ∷ [])
unfolding row
variable_alternation_is_written_out = refl

one_backtrack : Comes (longest_anchored (alt (lit "a" ∷ lit "ab" ∷ []))) (codes "ab") (for_longest_within 1) (Match (0 ∷ 2 ∷ []))
unfolding row
one_backtrack = (refl, refl)

no_backtrack : Comes (longest_anchored (alt (lit "a" ∷ lit "ab" ∷ []))) (codes "ab") (for_longest_within 0) BacktrackLimitExceeded
unfolding row
no_backtrack = (refl, refl)

-- ---- the early stop

stops_at_the_longest : Comes (longest_anchored (alt (lit "ab" ∷ lit "a" ∷ []))) (codes "ab") (for_longest_within 0) (Match (0 ∷ 2 ∷ []))
unfolding row
stops_at_the_longest = (refl, refl)

characters_and_not_bytes : Answered (longest_anchored (alt (lit "é" ∷ lit "éx" ∷ []))) (utf8 "éx") for_longest (Some (0 ∷ 3 ∷ []))
unfolding row
characters_and_not_bytes = (refl, refl, refl)

no_stop_with_a_kept_start : Answered (longest_anchored (alt (cat (lit "ab" ∷ KeepOut ∷ []) ∷ lit "a" ∷ []))) (codes "ab") for_longest
    (Some (0 ∷ 1 ∷ []))
unfolding row
no_stop_with_a_kept_start = (refl, refl, refl)

keeps_start : (layout (longest (DefineGroup KeepOut))).keeps_start ≡ true
unfolding row
keeps_start = refl

-- ---- the analysis

abbrev longest_options : AnalysisOptions
longest_options = record no_options { leftmost_longest = true }

abbrev hard : Tree → Bool
hard e = let a = analysis_of e longest_options in is_hard a a.tree

variable_is_hard : hard (rep 0 1 (lit "a")) ≡ true
unfolding row
variable_is_hard = refl

constant_is_easy : hard (grp (alt (lit "ab" ∷ lit "cd" ∷ []))) ≡ false
unfolding row
constant_is_easy = refl

definition_is_easy : hard (DefineGroup (rep 0 1 (lit "a"))) ≡ false
unfolding row
definition_is_easy = refl

lazy_loop_is_refused : AnalysisRefuses (parsed (lazy_star 0 (lit "a"))) longest_options FeatureNotYetSupported
unfolding row
lazy_loop_is_refused = before_end (lazy_loop refl refl)

lazy_loop_is_refused_anywhere : AnalysisRefuses (parsed (rep 0 0 (lazy 0 1 (lit "a")))) longest_options FeatureNotYetSupported
unfolding row
lazy_loop_is_refused_anywhere = before_end (lazy_loop refl refl)
