-- Each way of every node ends at the place where it begins or behind it, wherever that is.
use Rattle.std.proofs.Common.{◌≡◌, ℕ, inl, inr, ◌+◌, ◌≤◌, Bool, true, false, List, [], ◌∷◌, Some, refl, arith}
use Rattle.std.proofs.lemmas.Bool.{cond_both, false≢true}
use Rattle.std.proofs.lemmas.Option.{same_Some}
use Rattle.regex_hir.specs.Text.{has_bytes_at}
use Rattle.fancy_meaning.specs.Chars.{is_newline}
use Rattle.fancy_meaning.specs.MatchState.{MatchState, Span}
use Rattle.fancy_meaning.specs.Moves.{past_char, past_newline, past_piece}
use Rattle.fancy_meaning.specs.Options.{RunOptions}
use Rattle.fancy_meaning.specs.Ways.{Setting}
use Rattle.fancy_laws.proofs.Motion.{IsMotion}
use Rattle.fancy_laws.proofs.Moves.{past_char_fits, past_piece_tells}
use Rattle.fancy_literals.specs.Required.{taken_from}

past_newline_on : (text : List ℕ) (unicode : Bool) (i j : ℕ) → past_newline text unicode i ≡ Some j → i ≤ j
past_newline_on text unicode i j =
    cond_both (has_bytes_at text i (13 ∷ 10 ∷ [])) (Some (i + 2)) (past_char text (is_newline unicode) i)
    (λ o. o ≡ Some j → i ≤ j)
    (λ two e. let to = same_Some (i + 2) j e in omega (arith, to))
    (λ one e. (past_char_fits text (is_newline unicode) i j e).0)

past_piece_on : (text : List ℕ) (unicode casei : Bool) (span : Span) (i j : ℕ) → past_piece text unicode casei span i ≡ Some j → i ≤ j
past_piece_on text unicode casei span i j e =
    elim (past_piece_tells text unicode casei span i j e) [
      | inl p ↦ omega (arith, p.to)
      | inr p ↦ omega (arith, p.to)
    ]

-- where a way ends, from where it begins
abbrev pub GoesOn : MatchState → MatchState → Type 0
GoesOn s t = s.place ≤ t.place

pub onward_motion : (q : Setting) → IsMotion q (λ s. Unit {0}) GoesOn
onward_motion q = record {
  arrives = λ s t any step. tt;
  stays = λ s any. omega arith;
  onward = λ s t u any one two. omega (arith, one, two);
  skip_one = λ test s i any e. (past_char_fits q.text test s.place i e).0;
  past_line = λ unicode s i any e. past_newline_on q.text unicode s.place i e;
  past_group = λ g span casei s i any set e. past_piece_on q.text q.unicode casei span s.place i e;
  keeps = λ s any. omega arith;
  meets_end = λ s any. omega arith;
  captures = λ g s t any step. step;
  restores = λ s t any step. omega arith;
  goes_back = λ s i any le at. tt;
  comes_here = λ s t i any le at step here. omega (arith, here);
  goes_on = λ s i any le at. le;
}

-- ---- from where on a match may take something

pub taken_from_low : (behind : Bool) (o : RunOptions) → taken_from behind o ≤ o.pos
taken_from_low true o = omega arith
taken_from_low false o = omega arith

pub taken_from_first : (behind : Bool) (o : RunOptions) → behind ≡ true → taken_from behind o ≡ 0
taken_from_first true o is = refl
taken_from_first false o is = absurd (false≢true is)
