-- How many numbers a row has: of each match as many as of the tree's groups.
use Rattle.std.proofs.Common.{◌≡◌, ℕ, zero, suc, ◌+◌, ◌*◌, ◌<◌, ◌≤◌, List, [], ◌∷◌, length, flat_map, Option, Some, None, option_map, refl, sym, ap, ◌∙◌, arith, length-append}
use Rattle.std.proofs.lemmas.Option.{none-some, same_Some}
use Rattle.fancy_meaning.specs.Answer.{Search, answer, as_numbers, search_of, span_numbers}
use Rattle.fancy_meaning.specs.Instr as plain_program
use Rattle.fancy_meaning.specs.Layout.{layout}
use Rattle.fancy_meaning.specs.MatchState.{MatchState, Span}
use Rattle.fancy_meaning.specs.Nodes.{group_count}
use Rattle.fancy_meaning.specs.Options.{Plan, RunOptions}
use Rattle.fancy_meaning.specs.Places.{range_from}
use Rattle.fancy_meaning.specs.Premises.{Input, IsText, plan}
use Rattle.fancy_meaning.specs.WellFormed.{most_groups}
use Rattle.fancy_laws.proofs.Orderly.{analysed_has_as_many_groups}
use Rattle.fancy_program.specs.Programs.{prog_of}
use Rattle.fancy_search.specs.Searches.{IsCompiledFrom, program}
use Rattle.fancy_matches.specs.Listing.{ComesTo, Cursor, by_match, options_at, past_match}
use Rattle.fancy_matches.proofs.Lists.{found_tells}
use Rattle.fancy_host.specs.declared.tree.CompiledTree.{CompiledTree}
use Rattle.fancy_host.specs.Hosted.{compiled_of}
use Rattle.fancy_host.specs.Lists.{Form, all_groups, row_of, span_alone, width_of}

-- ---- an answer

pub pair_has_two : (span : Option Span) → length (span_numbers span) ≡ 2
pair_has_two None = refl
pair_has_two (Some (i, j)) = refl

pairs_have_two : (s : MatchState) (i n : ℕ) → length (flat_map (λ g. span_numbers (s.captures g)) (range_from i n)) ≡ 2 * n
pairs_have_two s i zero = refl
pairs_have_two s i (suc n) =
    let first = pair_has_two (s.captures i) in
    let rest = pairs_have_two s (suc i) n in
    let both = length-append (span_numbers (s.captures i)) (flat_map (λ g. span_numbers (s.captures g)) (range_from (suc i) n)) in
    omega (arith, first, rest, both)

numbers_are_wide : (n : ℕ) (s : MatchState) → length (as_numbers n s) ≡ 2 * (n + 1)
unfolding as_numbers
numbers_are_wide n s = let rest = pairs_have_two s 1 n in omega (arith, rest)

state_is_wide : (n : ℕ) (state : Option MatchState) (m : List ℕ) → option_map (as_numbers n) state ≡ Some m → length m ≡ 2 * (n + 1)
state_is_wide n None m e = absurd (none-some m e)
state_is_wide n (Some s) m e = ap length (sym (same_Some (as_numbers n s) m e)) ∙ numbers_are_wide n s

answer_is_wide : (q : Search) (m : List ℕ) → answer q ≡ Some m → length m ≡ 2 * (group_count q.tree + 1)
unfolding answer
answer_is_wide q m e = state_is_wide (group_count q.tree) _ m e

-- ---- a match of a list

module _ (p : Plan) (text : List ℕ) (o : RunOptions) (is : IsText text) where
  -- the one match by which a list comes from one cursor to another
  pub first_is_wide : {s t : Cursor} {m : List ℕ} → ComesTo p text o s (m ∷ []) t → length m ≡ 2 * (group_count (p.analysis).tree + 1)
  first_is_wide (by_match s m found listed c) = answer_is_wide (search_of p text (options_at o s)) m (found_tells p text o is s m found).1
  first_is_wide (past_match s m found listed c) = first_is_wide c

-- ---- a row

groups_are_few : (i : Input) (s : CompiledTree) → IsCompiledFrom i (compiled_of s) →
    ((prog_of (program (compiled_of s))).total_groups ≡ group_count (plan i).analysis.tree) × (group_count (plan i).analysis.tree ≤ most_groups)
unfolding layout
groups_are_few i s from = (
  ap (λ (q : plain_program.Prog). q.total_groups) from.program,
  let same = analysed_has_as_many_groups (record { parsed = i.parsed; options = i.analysis; well_formed = from.well_formed }) in
      let few = (from.well_formed).not_too_many in omega (arith, same, few),
)

pub row_is_wide : (form : Form) (s : CompiledTree) (i : Input) → IsCompiledFrom i (compiled_of s) → (m : List ℕ) →
    length m ≡ 2 * (group_count (plan i).analysis.tree + 1) → length (row_of form m) ≡ width_of form s
row_is_wide span_alone s i from m wide = refl
row_is_wide all_groups s i from m wide =
    let few = groups_are_few i s from in
    let same = few.0 in
    let most = few.1 in omega (arith, wide, same, most)

-- no row is empty
pub width_is_some : (form : Form) (s : CompiledTree) (width : ℕ) → width ≡ width_of form s → 0 < width
width_is_some span_alone s width is = omega (arith, is)
width_is_some all_groups s width is = omega (arith, is)
