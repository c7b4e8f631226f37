-- The code of each node that takes a piece of the text.
use Rattle.std.proofs.Common.{◌≡◌, ℕ, ◌+◌, ◌*◌, ◌^◌, ◌<◌, ◌≤◌, Bool, true, false, ◌&&◌, if◌then◌else◌, nat_eq, nat_le, List, [], ◌∷◌, ◌++◌, length, map, take, All, Option, Some, None, option_and_then, encode_utf8, encode_utf8_all, refl, sym, ap, ap₂, ◌∙◌, subst, arith, append-nil, le-leb}
use Rattle.std.specs.Char.{IsScalar}
use Rattle.std.proofs.lemmas.Bool.{lt-leb}
use Rattle.regex_hir.specs.Text.{has_bytes_at, is_boundary}
use Rattle.fancy_meaning.specs.Nodes.{group_count}
use Rattle.fancy_meaning.specs.Places.{is_place}
use Rattle.fancy_meaning.specs.Chars.{literal_takes, any_takes, class_takes, is_newline, is_class}
use Rattle.fancy_meaning.specs.Moves.{Move, past_char, past_chars, past_bytes, past_newline, past_piece}
use Rattle.fancy_meaning.specs.MatchState.{MatchState, Span}
use Rattle.fancy_meaning.specs.Ways.{moves, repeats_group}
use Rattle.fancy_meaning.specs.Numbers.{usize_max}
use Rattle.fancy_meaning.specs.Instr.{Instr, Codepoint, Newline}
use Rattle.fancy_meaning.specs.Batches.{literal_instr, any_instr, class_code}
use Rattle.fancy_meaning.specs.Code as code
use Rattle.fancy_meaning.specs.Constructs.{newline_code}
use Rattle.fancy_meaning.specs.Config.{Slots, Config, span_at}
use Rattle.fancy_meaning.specs.Machine.{step, goes_from}
use Rattle.fancy_meaning.specs.Enumerates.{start_number, end_number}
use Rattle.fancy_composed.proofs.Continuations.{Ground, here}
use Rattle.fancy_composed.proofs.Parts.{at_place, moves_at, Sound, setting, whole, flag_is, Stands, Simulates}
use Rattle.fancy_composed.proofs.Simulates.{simulates_as, simulates_moves, simulates_branch, simulates_atomic}
use Rattle.fancy_composed.proofs.Texts.{char_by_bytes, chars_by_bytes}

module _ (w : Ground) where
  abbrev text : List ℕ
  text = (w.task).text

  -- an instruction that goes by a move over the text
  simulates_move : (i : Instr) (move other : Move) → ((c : Config) → step w.task i c ≡ goes_from w.task c (move c.ix)) →
      ((j : ℕ) → move j ≡ other j) → Simulates w (code.one i) (moves (setting w) other)
  simulates_move i move other does same =
      simulates_as w (moves (setting w) other)
      (simulates_moves w i (λ s. move s.place) (λ s slots a marks bs count ok st. does (here w a s.place slots marks bs count)))
      (λ s ok. ap (at_place s) (same s.place) ∙ sym (moves_at (setting w) other s (other s.place) refl))

  pub simulates_any : (newline crlf : Bool) →
      Simulates w (code.one (any_instr newline crlf)) (moves (setting w) (past_char text (any_takes newline crlf)))
  simulates_any true crlf =
      simulates_move Instr.Any (past_char text (any_takes true false)) (past_char text (any_takes true crlf)) (λ c. refl)
      (λ j. refl)
  simulates_any false true =
      simulates_move Instr.AnyNoCRLF (past_char text (any_takes false true)) (past_char text (any_takes false true)) (λ c. refl)
      (λ j. refl)
  simulates_any false false =
      simulates_move Instr.AnyNoNL (past_char text (any_takes false false)) (past_char text (any_takes false false)) (λ c. refl)
      (λ j. refl)

  pub simulates_class : (unicode : Bool) (inner : List ℕ) (casei : Bool) → is_class unicode inner casei ≡ true →
      Simulates w (class_code unicode inner casei) (moves (setting w) (past_char text (class_takes unicode inner casei)))
  simulates_class unicode inner casei e =
      subst
      (λ v.
      Simulates w (if v then code.one (Instr.Class (Codepoint inner casei unicode)) else code.nothing)
      (moves (setting w) (past_char text (class_takes unicode inner casei))))
      (sym e)
      (simulates_move (Instr.Class (Codepoint inner casei unicode)) (past_char text (class_takes unicode inner casei))
      (past_char text (class_takes unicode inner casei)) (λ c. refl) (λ j. refl))

  some_again : (o : Option ℕ) → option_and_then (λ i. Some i) o ≡ o
  some_again None = refl
  some_again (Some i) = refl

  pub simulates_literal : (unicode : Bool) (c : ℕ) (casei : Bool) → IsScalar c → Simulates w
      (code.one (literal_instr unicode ((c, casei) ∷ []))) (moves (setting w) (past_char text (literal_takes unicode c casei)))
  simulates_literal unicode c true scalar =
      simulates_move (Instr.LitCasei ((c, true) ∷ []) unicode) (past_chars text (literal_takes unicode c true ∷ []))
      (past_char text (literal_takes unicode c true)) (λ d. refl)
      (λ j. some_again (past_char text (literal_takes unicode c true) j))
  simulates_literal unicode c false scalar =
      simulates_move (Instr.Lit (encode_utf8_all (c ∷ []))) (past_bytes text (encode_utf8_all (c ∷ [])))
      (past_char text (literal_takes unicode c false)) (λ d. refl)
      (λ j. ap (λ bs. past_bytes text bs j) (append-nil (encode_utf8 c)) ∙ char_by_bytes text c j scalar)

  pub simulates_bytes : (cs : List ℕ) → All (λ c. c < 2 ^ 8) cs →
      Simulates w (code.one (Instr.Lit (encode_utf8_all cs))) (moves (setting w) (past_chars text (map nat_eq cs)))
  simulates_bytes cs all =
      simulates_move (Instr.Lit (encode_utf8_all cs)) (past_bytes text (encode_utf8_all cs)) (past_chars text (map nat_eq cs))
      (λ d. refl) (λ j. chars_by_bytes text cs j all)

  -- the first of two places
  first_place : (s : MatchState) (v : Bool) (i : ℕ) (p : Option ℕ) →
      take 1 (at_place s (if v then Some i else None) ++ at_place s p) ≡ at_place s (if v then Some i else p)
  first_place s true i p = refl
  first_place s false i None = refl
  first_place s false i (Some j) = refl

  pub simulates_newline : (unicode : Bool) → Simulates w (newline_code unicode) (moves (setting w) (past_newline text unicode))
  simulates_newline unicode =
      simulates_as w (moves (setting w) (past_newline text unicode))
      (simulates_atomic w _ _ (simulates_branch w _ _ _ _
      (simulates_move (Instr.Lit (13 ∷ 10 ∷ [])) (past_bytes text (13 ∷ 10 ∷ [])) (past_bytes text (13 ∷ 10 ∷ [])) (λ c. refl)
      (λ j. refl))
      (simulates_move (Instr.Class (Newline unicode)) (past_char text (is_newline unicode)) (past_char text (is_newline unicode))
      (λ c. refl) (λ j. refl))))
      (λ s ok.
      ap₂ (λ hs ks. take 1 (hs ++ ks)) (moves_at (setting w) (past_bytes text (13 ∷ 10 ∷ [])) s _ refl)
      (moves_at (setting w) (past_char text (is_newline unicode)) s _ refl)
      ∙ first_place s (has_bytes_at text s.place (13 ∷ 10 ∷ [])) (s.place + 2) (past_char text (is_newline unicode) s.place)
      ∙ sym (moves_at (setting w) (past_newline text unicode) s _ refl))

  -- the span of a group that is captured stands in its slots
  span_of : (g : ℕ) (s : MatchState) (slots : Slots) → 0 < g → g ≤ group_count (whole w) → length text < usize_max → Sound w s →
      Stands w s slots → span_at text (2 * g) slots ≡ s.captures g
  span_of g s slots pos le fits ok st =
      ap₂ (λ i j. if nat_le i j && (is_place text i && is_place text j) then Some (i, j) else None)
      (st.starts g pos (omega (arith, flag_is w))) (st.ends g pos (omega (arith, flag_is w)))
      ∙ by_capture (s.captures g) refl
    where
      by_capture : (o : Option Span) → s.captures g ≡ o →
          (if nat_le (start_number o) (end_number o) &&
          (is_place text (start_number o) && is_place text (end_number o)) then Some (start_number o, end_number o) else None) ≡ o
      by_capture None e =
          ap (λ v. if (v && is_boundary text usize_max) && is_place text usize_max then Some (usize_max, usize_max) else None)
          (lt-leb usize_max (length text) fits)
      by_capture (Some (i, j)) e =
          let span = ok.spans g (i, j) e in
          ap₂ (λ u v. if u && v then Some (i, j) else None) (le-leb i j span.in_order) (ap₂ (λ u v. u && v) span.from span.to)

  pub simulates_backref : (g : ℕ) (casei : Bool) → 0 < g → g ≤ group_count (whole w) → length text < usize_max →
      Simulates w (code.one (Instr.Backref (2 * g) casei (w.plan).unicode)) (repeats_group (setting w) g casei)
  simulates_backref g casei pos le fits =
      simulates_as w (repeats_group (setting w) g casei)
      (simulates_moves w (Instr.Backref (2 * g) casei (w.plan).unicode)
      (λ s. option_and_then (λ span. past_piece text (w.plan).unicode casei span s.place) (s.captures g))
      (λ s slots a marks bs count ok st.
      ap
      (λ o.
      goes_from w.task (here w a s.place slots marks bs count)
      (option_and_then (λ span. past_piece text (w.plan).unicode casei span s.place) o))
      (span_of g s slots pos le fits ok st)))
      (λ s ok.
      sym
      (moves_at (setting w)
      (λ i. option_and_then (λ span. past_piece text (w.plan).unicode casei span i) (s.captures g)) s _ refl))
