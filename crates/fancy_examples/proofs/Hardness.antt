-- Which nodes are hard.
use Rattle.std.specs.Prelude.{◌≡◌, Bool, true, false, [], ◌∷◌, refl}
use Rattle.fancy_meaning.specs.Tree.{AbsentRepeater, AtomicGroup, Conditional, ContinueFromPreviousMatchEnd, Control, DefineGroup, Empty, EndLine, EndText, EndTextIgnoreTrailingNewlines, Fail, GeneralNewline, KeepOut, LeftWordBoundary, LeftWordHalfBoundary, LiteralBytes, NotWordBoundary, RightWordBoundary, RightWordHalfBoundary, StartLine, StartLineOniguruma, StartText, Tree, WordBoundary, Look, LookAround, LookAhead, LookAheadNeg, LookBehind, LookBehindNeg, parts}
use Rattle.fancy_meaning.specs.Hard.{is_hard, is_root_hard, any_hard}
use Rattle.fancy_meaning.specs.Options.{AnalysisOptions, analysis_of}
use Rattle.fancy_examples.proofs.Notation.{no_options, lit, ilit, cat, alt, grp, rep, star, lazy, dot, any, assert, iset, ref, has, call, ahead, row}

abbrev not_empty_analysis : AnalysisOptions
not_empty_analysis = record no_options { find_not_empty = true }

abbrev end_text_analysis : AnalysisOptions
end_text_analysis = record no_options { end_text = true }

-- the root of the tree, as its own node
abbrev hard : AnalysisOptions → Tree → Bool
hard options e = let a = analysis_of e options in is_hard a a.tree

-- and as the root
abbrev hard_root : AnalysisOptions → Tree → Bool
hard_root options e = is_root_hard (analysis_of e options)

letters_are_easy : hard no_options (cat (lit "a" ∷ lit "b" ∷ ilit "c" ∷ any ∷ dot ∷ [])) ≡ false
unfolding row
letters_are_easy = refl

classes_are_easy : hard no_options (iset "[a-c]") ≡ false
unfolding row
classes_are_easy = refl

loops_are_easy : hard no_options (star 0 (alt (lit "a" ∷ lazy 1 3 (lit "b") ∷ []))) ≡ false
unfolding row
loops_are_easy = refl

groups_are_easy : hard no_options (grp (cat (lit "a" ∷ grp (lit "b") ∷ []))) ≡ false
unfolding row
groups_are_easy = refl

definitions_are_easy : hard no_options (DefineGroup (grp (cat (ref 1 ∷ KeepOut ∷ [])))) ≡ false
unfolding row
definitions_are_easy = refl

line_edges_are_easy : hard no_options (cat (assert StartText ∷ assert (StartLine false) ∷ assert (EndLine false) ∷ assert EndText ∷ [])) ≡ false
unfolding row
line_edges_are_easy = refl

word_edges_are_easy : hard no_options
    (cat (assert WordBoundary ∷ assert NotWordBoundary ∷ assert LeftWordBoundary ∷ assert RightWordBoundary
    ∷ assert LeftWordHalfBoundary ∷ assert RightWordHalfBoundary ∷ [])) ≡ false
unfolding row
word_edges_are_easy = refl

newlines_are_hard : hard no_options (GeneralNewline true) ≡ true
unfolding row
newlines_are_hard = refl

bytes_are_hard : hard no_options (LiteralBytes (97 ∷ [])) ≡ true
unfolding row
bytes_are_hard = refl

look_is_hard : hard no_options (ahead (lit "a")) ≡ true
unfolding row
look_is_hard = refl

atomic_is_hard : hard no_options (AtomicGroup (lit "a")) ≡ true
unfolding row
atomic_is_hard = refl

kept_start_is_hard : hard no_options KeepOut ≡ true
unfolding row
kept_start_is_hard = refl

continuing_is_hard : hard no_options ContinueFromPreviousMatchEnd ≡ true
unfolding row
continuing_is_hard = refl

verbs_are_hard : hard no_options (Control Fail) ≡ true
unfolding row
verbs_are_hard = refl

calls_are_hard : hard no_options (cat (grp (lit "a") ∷ call 1 ∷ [])) ≡ true
unfolding row
calls_are_hard = refl

conditionals_are_hard : hard no_options (Conditional (lit "a") (lit "b") (lit "c")) ≡ true
unfolding row
conditionals_are_hard = refl

absent_is_hard : hard no_options (AbsentRepeater (lit "a")) ≡ true
unfolding row
absent_is_hard = refl

read_group_is_hard : hard no_options (grp (DefineGroup (ref 1))) ≡ true
unfolding row
read_group_is_hard = refl

group_asked_for_is_hard : hard no_options (grp (DefineGroup (has 1))) ≡ true
unfolding row
group_asked_for_is_hard = refl

hard_child_makes_hard : hard no_options (star 0 (alt (lit "a" ∷ grp (cat (lit "b" ∷ KeepOut ∷ [])) ∷ []))) ≡ true
unfolding row
hard_child_makes_hard = refl

newlines_at_end_are_hard : hard no_options (assert (EndTextIgnoreTrailingNewlines false)) ≡ true
unfolding row
newlines_at_end_are_hard = refl

oniguruma_line_start_is_hard : hard no_options (assert (StartLineOniguruma false)) ≡ true
unfolding row
oniguruma_line_start_is_hard = refl

text_end_is_hard_under_end_text : hard end_text_analysis (assert EndText) ≡ true
unfolding row
text_end_is_hard_under_end_text = refl

text_end_is_hard_where_something_is_taken : hard not_empty_analysis (cat (lit "a" ∷ assert EndText ∷ [])) ≡ true
unfolding row
text_end_is_hard_where_something_is_taken = refl

option_is_hard_where_something_is_taken : hard not_empty_analysis (rep 0 1 (lit "a")) ≡ true
unfolding row
option_is_hard_where_something_is_taken = refl

plus_is_easy_where_something_is_taken : hard not_empty_analysis (star 1 (lit "a")) ≡ false
unfolding row
plus_is_easy_where_something_is_taken = refl

nothing_is_easy_where_something_is_taken : hard not_empty_analysis (rep 0 0 (lit "a")) ≡ false
unfolding row
nothing_is_easy_where_something_is_taken = refl

unbounded_nothing_is_hard_there : hard not_empty_analysis (star 0 Empty) ≡ true
unfolding row
unbounded_nothing_is_hard_there = refl

branch_of_nothing_is_hard_there : hard not_empty_analysis (alt (Empty ∷ lit "a" ∷ [])) ≡ true
unfolding row
branch_of_nothing_is_hard_there = refl

start_is_easy_there : hard not_empty_analysis (assert StartText) ≡ false
unfolding row
start_is_easy_there = refl

root_of_nothing_is_hard_under_end_text : hard_root end_text_analysis (star 0 (lit "a")) ≡ true
unfolding row
root_of_nothing_is_hard_under_end_text = refl

its_node_is_not : hard end_text_analysis (star 0 (lit "a")) ≡ false
unfolding row
its_node_is_not = refl

root_of_something_is_easy_under_end_text : hard_root end_text_analysis (star 1 (lit "a")) ≡ false
unfolding row
root_of_something_is_easy_under_end_text = refl

root_of_definitions_is_easy : hard_root no_options (DefineGroup KeepOut) ≡ false
unfolding row
root_of_definitions_is_easy = refl

-- within look-arounds, where the tree stands as a body
abbrev hard_body : AnalysisOptions → Look → Tree → Bool
hard_body options look e = let a = analysis_of (LookAround look e) options in any_hard a (parts a.tree)

oniguruma_line_start_is_easy_ahead : hard_body no_options LookAhead (assert (StartLineOniguruma false)) ≡ false
unfolding row
oniguruma_line_start_is_easy_ahead = refl

oniguruma_line_start_is_easy_behind : hard_body no_options LookBehindNeg (rep 0 1 (assert (StartLineOniguruma false))) ≡ false
unfolding row
oniguruma_line_start_is_easy_behind = refl

word_edge_is_easy_ahead : hard_body no_options LookAheadNeg (assert WordBoundary) ≡ false
unfolding row
word_edge_is_easy_ahead = refl

word_edge_is_hard_behind : hard_body no_options LookBehind (cat (lit "a" ∷ assert WordBoundary ∷ [])) ≡ true
unfolding row
word_edge_is_hard_behind = refl

text_end_is_easy_within : hard_body not_empty_analysis LookAhead (assert EndText) ≡ false
unfolding row
text_end_is_easy_within = refl

text_end_is_hard_within_under_end_text : hard_body end_text_analysis LookAhead (assert EndText) ≡ true
unfolding row
text_end_is_hard_within_under_end_text = refl
