-- A text of which fewer bytes are left than each match takes has none.
use Rattle.std.proofs.Common.{◌≡◌, ◌≤◌, ◌<◌, ◌-◌, ℕ, true, List, length, filter_map, Option, None, Some, IfSome, slice_get, option_map, refl, subst, sym, arith}
use Rattle.fancy_meaning.specs.Answer.{Search, answer, as_numbers, attempt, is_admitted, search_of, starts}
use Rattle.fancy_meaning.specs.MatchState.{MatchState, first_state}
use Rattle.fancy_meaning.specs.Nodes.{group_count}
use Rattle.fancy_meaning.specs.OpenCalls.{no_calls}
use Rattle.fancy_meaning.specs.Options as plain
use Rattle.fancy_meaning.specs.Places.{is_place}
use Rattle.fancy_meaning.specs.Premises.{Analysed, Input, IsText, plan, tree_of}
use Rattle.fancy_meaning.specs.Sizes.{size}
use Rattle.fancy_meaning.specs.Tree.{Tree}
use Rattle.fancy_meaning.specs.Ways.{ways}
use Rattle.fancy_laws.proofs.AnswerPairs.{every_filter_map}
use Rattle.fancy_laws.proofs.Chosen.{every_chosen}
use Rattle.fancy_laws.proofs.Every.{Every, every_filter, every_first, every_if, every_one, every_weaker}
use Rattle.fancy_laws.proofs.LongestWays.{chars_at_most}
use Rattle.fancy_laws.proofs.Moves.{is_place_parts}
use Rattle.fancy_laws.proofs.NodesBelow.{itself_contained}
use Rattle.fancy_laws.proofs.Orderly.{analysed_is_orderly}
use Rattle.fancy_laws.proofs.SizedWays.{first_is_sound}
use Rattle.fancy_laws.proofs.SizesHold.{ways_have_sizes}
use Rattle.fancy_laws.proofs.WaysOf.{every_place_from}
use Rattle.fancy_search.specs.Searches.{IsCompiledFrom}
use Rattle.fancy_search.specs.declared.search.Compiled.{Compiled}

abbrev IsNone : MatchState → Type 0
IsNone s = ⊥

abbrev IsBehind : (text : List ℕ) → (pos start : ℕ) → Type 0
IsBehind text pos start = (pos ≤ start) × (is_place text start ≡ true)

none_first : (n : ℕ) (o : Option MatchState) → IfSome o IsNone → option_map (as_numbers n) o ≡ None
none_first n None h = refl
none_first n (Some s) h = absurd h

module _ (a : Analysed) (q : Search) (is : IsText q.text) (at : is_place q.text q.pos ≡ true) (same : q.tree ≡ tree_of a)
    (short : length q.text - q.pos < (size (tree_of a) (tree_of a)).least) where
  abbrev whole : Tree
  whole = tree_of a

  -- each way would end behind the text
  none_from : (start : ℕ) → IsBehind q.text q.pos start → Every IsNone (ways q.setting whole whole no_calls (first_state start))
  none_from start behind =
      every_weaker
      (λ t way.
      let few = chars_at_most q.text start t.place in
      let least = (way.sized).at_least in
      let within = (is_place_parts q.text t.place (way.sound).place).0 in
      absurd (omega (arith, few, least, within, short, behind.0)))
      (ways_have_sizes q.setting whole is.utf8 (analysed_is_orderly a) whole no_calls (itself_contained whole) (first_state start)
      (first_is_sound q.setting whole start behind.1))

  every_start : Every (IsBehind q.text q.pos) (starts q)
  every_start = every_if q.anchored (λ e. every_one (omega arith, at)) (λ e. every_place_from q.text q.pos)

  pub too_short : answer q ≡ None
  unfolding answer
  too_short =
      none_first (group_count q.tree) (slice_get (filter_map (attempt q) (starts q)) 0)
      (every_first (every_filter_map {Q = IsNone} (attempt q)
      (λ start behind. every_chosen q.leftmost_longest (every_filter {P = IsNone} (is_admitted q start) (λ t none e. none)
      (subst (λ e. Every IsNone (ways q.setting e e no_calls (first_state start))) (sym same) (none_from start behind))))
      every_start))

-- so it is for a tree that was compiled
pub finds_none : (compiled : Compiled) (text : List ℕ) (pos : ℕ) → IsText text → length text - pos < compiled.min_size →
    (i : Input) (o : plain.RunOptions) → IsCompiledFrom i compiled → is_place text pos ≡ true → o.pos ≡ pos → answer (search_of (plan i) text o) ≡ None
finds_none compiled text pos is few i o from at same =
    let a : Analysed = record { parsed = i.parsed; options = i.analysis; well_formed = from.well_formed } in
    let least = from.least in
    too_short a (search_of (plan i) text o) is (subst (λ p. is_place text p ≡ true) (sym same) at) refl (omega (arith, few, least, same))
