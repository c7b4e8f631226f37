-- From a place within the text each way of every node ends at a place not before it and within the text.
use Rattle.std.proofs.Common.{◌≡◌, ℕ, ◌+◌, ◌≤◌, Bool, List, [], ◌∷◌, length, Some, arith}
use Rattle.std.proofs.lemmas.Bool.{cond_both}
use Rattle.std.proofs.lemmas.Option.{same_Some}
use Rattle.regex_hir.specs.Text.{has_bytes_at}
use Rattle.regex_hir.proofs.TextLemmas.{has_bytes_at_fits}
use Rattle.fancy_meaning.specs.Tree.{Tree}
use Rattle.fancy_meaning.specs.OpenCalls.{Depths}
use Rattle.fancy_meaning.specs.Chars.{is_newline}
use Rattle.fancy_meaning.specs.Moves.{past_newline, past_char}
use Rattle.fancy_meaning.specs.MatchState.{MatchState}
use Rattle.fancy_meaning.specs.Ways.{Setting, ways}
use Rattle.fancy_laws.proofs.Every.{Every}
use Rattle.fancy_laws.proofs.Moves.{past_char_fits, past_piece_fits, is_place_parts}
use Rattle.fancy_laws.proofs.Motion.{IsMotion, ways_lead}

pub record GoesForward (text : List ℕ) (s t : MatchState) : Type 0 where
  pub on : s.place ≤ t.place
  pub within : t.place ≤ length text

pub past_newline_fits : (text : List ℕ) (unicode : Bool) (i j : ℕ) → i ≤ length text → past_newline text unicode i ≡ Some j →
    (i ≤ j) × (j ≤ length text)
past_newline_fits text unicode i j within =
    cond_both (has_bytes_at text i (13 ∷ 10 ∷ [])) (Some (i + 2)) (past_char text (is_newline unicode) i)
    (λ o. o ≡ Some j → (i ≤ j) × (j ≤ length text))
    (λ two e. let to = same_Some (i + 2) j e in
    (omega (arith, to), omega (arith, to, has_bytes_at_fits text i (13 ∷ 10 ∷ []) two)))
    (λ one e. past_char_fits text (is_newline unicode) i j e)

pub forward_motion : (q : Setting) → IsMotion q (λ s. s.place ≤ length q.text) (GoesForward q.text)
forward_motion q = record {
  arrives = λ s t good step. step.within;
  stays = λ s good. record { on = omega arith; within = good };
  onward = λ s t u good one two. record { on = omega (arith, one.on, two.on); within = two.within };
  skip_one = λ test s i good e. let f = past_char_fits q.text test s.place i e in record { on = f.0; within = f.1 };
  past_line = λ unicode s i good e. let f = past_newline_fits q.text unicode s.place i good e in record { on = f.0; within = f.1 };
  past_group = λ g span casei s i good set e.
      let f = past_piece_fits q.text q.unicode casei span s.place i good e in
      record { on = f.0; within = f.1 };
  keeps = λ s good. record { on = omega arith; within = good };
  meets_end = λ s good. record { on = omega arith; within = good };
  captures = λ g s t good step. record { on = step.on; within = step.within };
  restores = λ s t good step. record { on = omega arith; within = good };
  goes_back = λ s i good le at. omega (arith, le, good);
  comes_here = λ s t i good le at step here. record { on = omega (arith, here); within = omega (arith, here, good) };
  goes_on = λ s i good le at. record { on = le; within = (is_place_parts q.text i at).0 };
}

pub ways_go_forward : (q : Setting) (whole e : Tree) (depths : Depths) (s : MatchState) → s.place ≤ length q.text →
    Every (GoesForward q.text s) (ways q whole e depths s)
ways_go_forward q whole e depths = ways_lead (forward_motion q) whole e depths
