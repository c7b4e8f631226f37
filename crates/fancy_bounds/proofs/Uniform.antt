-- A batch of easy nodes is at most one instruction, which goes on or fails in the same way whatever branches are below.
use Rattle.std.proofs.Common.{◌≡◌, inl, inr, ℕ, Bool, true, false, if◌then◌else◌, List, [], ◌∷◌, map, Option, Some, None, encode_utf8_all, refl, sym, ap, ◌∙◌, subst}
use Rattle.std.specs.List.{list_any}
use Rattle.fancy_meaning.specs.Tree.{Tree, Any, Delegate}
use Rattle.fancy_meaning.specs.Chars.{is_class, any_takes, literal_takes}
use Rattle.fancy_meaning.specs.Moves.{past_char, past_chars, past_bytes}
use Rattle.fancy_meaning.specs.MatchState.{MatchState}
use Rattle.fancy_meaning.specs.Instr.{Instr, Codepoint}
use Rattle.fancy_meaning.specs.Batches.{all_joined, literal_chars, literal_instr, class_code, any_instr, delegate_code, batch_code, batch, pattern_of, fragment, group_range}
use Rattle.fancy_meaning.specs.Code as code
use Rattle.fancy_meaning.specs.Config.{Slots}
use Rattle.fancy_meaning.specs.Machine.{Task, goes_from, takes_way, class_test, first_way}
use Rattle.fancy_headline.proofs.Batches.{no_name, some_name}
use Rattle.fancy_bounds.proofs.Settled.{Other, other_task, at, GoesOnOrFails, IsUniform, AtMostOne, no_instr, one_instr}

module _ (t : Task) (start : ℕ) where
  by_place : (pc ix : ℕ) (slots : Slots) (o : Option ℕ) →
      GoesOnOrFails t start pc ix slots (λ x bs count. goes_from (other_task t x) (at t start pc ix slots bs count) o)
  by_place pc ix slots None = inr (λ x bs count. refl)
  by_place pc ix slots (Some i) = inl (i, slots, λ x bs count. refl)

  by_way : (pc ix : ℕ) (slots : Slots) (o : Option MatchState) →
      GoesOnOrFails t start pc ix slots (λ x bs count. takes_way (other_task t x) (at t start pc ix slots bs count) o)
  by_way pc ix slots None = inr (λ x bs count. refl)
  by_way pc ix slots (Some s) = inl (s.place, _, λ x bs count. refl)

  literals : (unicode : Bool) (cs : List (ℕ × Bool)) → AtMostOne t start (literal_instr unicode cs ∷ [])
  literals unicode cs = by_fold (list_any (λ c. c.1) cs)
    where
      by_fold : (v : Bool) → AtMostOne t start
          ((if v then Instr.LitCasei cs unicode else Instr.Lit (encode_utf8_all (map (λ c. c.0) cs))) ∷ [])
      by_fold true =
          one_instr (Instr.LitCasei cs unicode)
          (λ pc ix slots. by_place pc ix slots (past_chars t.text (map (λ d. literal_takes unicode d.0 d.1) cs) ix))
      by_fold false =
          one_instr (Instr.Lit (encode_utf8_all (map (λ c. c.0) cs)))
          (λ pc ix slots. by_place pc ix slots (past_bytes t.text (encode_utf8_all (map (λ d. d.0) cs)) ix))

  class : (unicode : Bool) (inner : List ℕ) (casei : Bool) (a n : ℕ) → AtMostOne t start (class_code unicode inner casei a n).instrs
  class unicode inner casei a n = by_class (is_class unicode inner casei)
    where
      instr : Instr
      instr = Instr.Class (Codepoint inner casei unicode)

      by_class : (v : Bool) → AtMostOne t start ((if v then code.one instr else code.nothing) a n).instrs
      by_class true =
          one_instr instr (λ pc ix slots. by_place pc ix slots (past_char t.text (class_test (Codepoint inner casei unicode)) ix))
      by_class false = no_instr

  any : (newline crlf : Bool) → AtMostOne t start (any_instr newline crlf ∷ [])
  any true crlf = one_instr Instr.Any (λ pc ix slots. by_place pc ix slots (past_char t.text (any_takes true false) ix))
  any false true = one_instr Instr.AnyNoCRLF (λ pc ix slots. by_place pc ix slots (past_char t.text (any_takes false true) ix))
  any false false = one_instr Instr.AnyNoNL (λ pc ix slots. by_place pc ix slots (past_char t.text (any_takes false false) ix))

  -- the first way of the nodes does not depend on where the search began
  abbrev pub IsSteady : Bool → List Tree → Type 0
  IsSteady unicode es = (x : Other) (ix : ℕ) → first_way (other_task t x) (fragment unicode es) ix ≡ first_way t (fragment unicode es) ix

  delegate : (unicode : Bool) (es : List Tree) (a n : ℕ) → IsSteady unicode es → AtMostOne t start (delegate_code unicode es a n).instrs
  delegate unicode es a n steady = by_name (pattern_of unicode es) refl
    where
      uniform : (p : List ℕ) → IsUniform t start (Instr.Delegate p (fragment unicode es) (group_range es))
      uniform p pc ix slots =
          by_same (λ x bs count. ap (takes_way (other_task t x) (at t start pc ix slots bs count)) (steady x ix))
          (by_way pc ix slots (first_way t (fragment unicode es) ix))
        where
          by_same : {f g : Other → _ → ℕ → _} → ((x : Other) (bs : _) (count : ℕ) → f x bs count ≡ g x bs count) →
              GoesOnOrFails t start pc ix slots g → GoesOnOrFails t start pc ix slots f
          by_same same (inl goes) = inl (goes.0, goes.1, λ x bs count. same x bs count ∙ goes.2 x bs count)
          by_same same (inr fails) = inr (λ x bs count. same x bs count ∙ fails x bs count)

      by_name : (p : List ℕ) → pattern_of unicode es ≡ p → AtMostOne t start (delegate_code unicode es a n).instrs
      by_name [] e = subst (λ x. AtMostOne t start (x a n).instrs) (sym (no_name unicode es e)) no_instr
      by_name (p ∷ ps) e =
          subst (λ x. AtMostOne t start (x a n).instrs) (sym (some_name unicode es p ps e))
          (one_instr (Instr.Delegate (p ∷ ps) (fragment unicode es) (group_range es)) (uniform (p ∷ ps)))

  by_shape : (unicode : Bool) (o : Option (List (ℕ × Bool))) (es : List Tree) (a n : ℕ) → IsSteady unicode es →
      AtMostOne t start (batch_code unicode o es a n).instrs
  by_shape unicode (Some cs) es a n steady = literals unicode cs
  by_shape unicode None (Delegate inner casei ∷ []) a n steady = class unicode inner casei a n
  by_shape unicode None (Any newline crlf ∷ []) a n steady = any newline crlf
  by_shape unicode None es a n steady = delegate unicode es a n steady

  pub batch_is_one : (unicode : Bool) (es : List Tree) (a n : ℕ) → IsSteady unicode es →
      AtMostOne t start (batch unicode es a n).instrs
  batch_is_one unicode [] a n steady = no_instr
  batch_is_one unicode (e ∷ es) a n steady = by_shape unicode (all_joined (map literal_chars (e ∷ es))) (e ∷ es) a n steady
