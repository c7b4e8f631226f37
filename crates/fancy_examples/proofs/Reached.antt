-- What a run comes to on its way, and where a `\G` gives up.
use Rattle.std.proofs.Common.{◌≡◌, ◌∙◌, ap, subst, sym, ℕ, zero, suc, ◌+◌, ⊎_elim, Bool, true, false, if◌then◌else◌, nat_lt, List, [], ◌∷◌, refl, arith, Option, None}
use Rattle.fancy_meaning.specs.Tree.{Tree, ContinueFromPreviousMatchEnd}
use Rattle.fancy_meaning.specs.OpenCalls.{no_calls}
use Rattle.fancy_meaning.specs.MatchState.{MatchState, put, first_state}
use Rattle.fancy_meaning.specs.Ways.{ways}
use Rattle.fancy_meaning.specs.Options.{Plan, RunOptions}
use Rattle.fancy_meaning.specs.Numbers.{usize_max}
use Rattle.fancy_meaning.specs.Hard.{is_hard}
use Rattle.fancy_meaning.specs.Instr.{Instr, Prog, SplitUnanchored, Jmp, Split, End}
use Rattle.fancy_meaning.specs.Code.{Code}
use Rattle.fancy_meaning.specs.Layout.{layout, undelegated_layout}
use Rattle.fancy_meaning.specs.Config.{Slots, Branch, Config, NoMatch, BacktrackLimitExceeded, Goes, Ends}
use Rattle.fancy_meaning.specs.Machine.{Task, Reaches, then_on, exec}
use Rattle.fancy_meaning.specs.Keys.{whole_key, reduced}
use Rattle.fancy_meaning.specs.Enumerates.{Enumerates, IsBranchLimit, no_more, outcome_after}
use Rattle.fancy_meaning.specs.Marks.{has_marked_continue}
use Rattle.fancy_meaning.specs.Theorems.{Enters, RefinesUpTo, part_bounds, code_of_root, code_of_node, GivesUp}
use Rattle.fancy_examples.proofs.Notation.{plain, with_end_text, from, lit, cat, star, row, code, delegate}
use Rattle.std.specs.Prelude.{not, codes, None}

-- ---- a root that is hard for its own reason

abbrev loop_under_end_text : Plan
loop_under_end_text = with_end_text (star 0 (lit "a"))

abbrev easy : Tree → Bool
easy e = not (is_hard loop_under_end_text.analysis e)

root_is_written_out : (code_of_root loop_under_end_text easy no_calls false 4 3).instrs ≡ Split 5 7 ∷ code "a" ∷ Jmp 4 ∷ []
unfolding row
root_is_written_out = refl

its_node_is_not : (code_of_node loop_under_end_text easy no_calls (star 0 (lit "a")) true false 4 3).instrs ≡
    delegate "a*" (star 0 (lit "a") ∷ []) None ∷ []
unfolding row
its_node_is_not = refl

-- ---- the search is given up

abbrev continued_letter : Plan
continued_letter = plain (cat (ContinueFromPreviousMatchEnd ∷ lit "a" ∷ []))

abbrev anew : RunOptions
anew = record (from 0) { continued = false }

abbrev no_slots : Slots
no_slots = λ s. usize_max

abbrev at_continue : Config
at_continue = record {
  now = record { pc = 4; ix = 0; slots = put 0 0 no_slots; marks = [] };
  branches = record { pc = 1; ix = 0; slots = no_slots; marks = [] } ∷ [];
  start = 0;
  backtracks = 0;
  longest = None;
}

abbrev GivesUpAt : Prog → ℕ → Config → Type 0
GivesUpAt program n c =
    let t : Task = record { program = program; text = codes "b"; options = anew } in
    Reaches t n c × GivesUp t c

gives_up : GivesUpAt (layout continued_letter) 2 at_continue
unfolding row
gives_up = (refl, record { at_start = true; stands = refl; fails = refl; is_last = refl })

gives_up_undelegated : GivesUpAt (undelegated_layout continued_letter) 2 at_continue
unfolding row
gives_up_undelegated = (refl, record { at_start = true; stands = refl; fails = refl; is_last = refl })

-- ---- A `\G` that is marked where no match begins. Its code does not refine its ways where it may give up, though the tree begins with none.

abbrev later_continue : Plan
later_continue = plain (cat (lit "a" ∷ ContinueFromPreviousMatchEnd ∷ []))

abbrev whole : Tree
whole = later_continue.analysis.tree

begins_with_a_letter : has_marked_continue whole whole ≡ false
unfolding row
begins_with_a_letter = refl

abbrev marked_program : Prog
marked_program = record {
  body = SplitUnanchored 3 1 ∷ Instr.Any ∷ Jmp 0 ∷ Instr.ContinueFromPreviousMatchEnd true ∷ End ∷ [];
  max_size = 0;
  total_groups = 0;
  slots = 2;
  explicit_group_0 = false;
  find_not_empty = false;
  leftmost_longest = false;
  keeps_start = false;
  end_text = false;
  unicode = true;
}

abbrev t : Task
t = record { program = marked_program; text = []; options = anew }

abbrev b : Branch
b = record { pc = 4; ix = 0; slots = λ s. 0; marks = [] }

abbrev c : Config
c = record { now = record { pc = 3; ix = 0; slots = λ s. 0; marks = [] }; branches = b ∷ []; start = 0; backtracks = 0; longest = None }

abbrev s : MatchState
s = first_state 0

abbrev marked : Code
marked = code_of_node later_continue (λ e. false) no_calls ContinueFromPreviousMatchEnd true true

other : (m start count : ℕ) (longest : Option (List ℕ)) (v : Bool) →
    NoMatch
    ≡ then_on t (exec t m)
    (if v then Goes (record { now = b; branches = []; start = start; backtracks = count; longest = longest })
    else Ends BacktrackLimitExceeded) → ⊥
other zero start count longest true e = cc
other (suc m) start count longest true e = cc
other m start count longest false e = cc

given_up : (n k : ℕ) → n ≡ suc k → outcome_after t n (Goes c) ≡ NoMatch
given_up n k e = ap (λ m. outcome_after t m (Goes c)) e

not_handed : (hs : List MatchState) → Enumerates t (part_bounds marked c 2) None (Goes c) hs → reduced (whole_key whole) hs ≡ [] → ⊥
not_handed [] (no_more d st held l) e =
    let gone = given_up (l.instructions + 1) l.instructions (omega arith) in
    ⊎_elim {C = ⊥} (λ x. subst IsBranchLimit gone x)
    (λ x. other 1 d.start (d.backtracks + 1) d.longest (nat_lt d.backtracks t.backtrack_limit) (sym gone ∙ x)) (l.by 1)
not_handed (h ∷ hs) k e = cc

marked_node_does_not_refine : RefinesUpTo later_continue marked (λ q. ways q whole ContinueFromPreviousMatchEnd no_calls)
    (λ from. whole_key whole) (has_marked_continue whole whole) → ⊥
unfolding row
marked_node_does_not_refine refines =
    let enters : Enters later_continue marked (has_marked_continue whole whole) t c 2 s = record {
      program = record { total_groups = refl; implicit_group_0 = refl; end_text = refl; unicode = refl };
      text = record { utf8 = ([], (refl, refl)); fits = omega arith };
      code_is_there = (refl, tt);
      slots_are_fresh = omega arith;
      goes_on = λ x. cc;
      stands = record {
        place = refl;
        kept = refl;
        starts = λ g lo hi. absurd (omega (arith, lo, hi));
        ends = λ g lo hi. absurd (omega (arith, lo, hi));
        flag = λ x. cc;
      };
      sound = record { place = refl; spans = λ g span e. cc; sizes = λ g span r e. cc };
    } in
    let r = refines t c 2 s 0 enters (omega arith) in
    not_handed r.0 r.1 r.2
