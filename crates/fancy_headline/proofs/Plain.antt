-- Instructions that go on by one, or fail: a batch is at most one of these.
use Rattle.std.proofs.Common.{◌≡◌, ℕ, ◌+◌, Bool, true, false, if◌then◌else◌, List, [], ◌∷◌, map, Option, Some, None, encode_utf8_all, refl, sym, subst}
use Rattle.std.specs.List.{list_any}
use Rattle.fancy_meaning.specs.Tree.{Tree, Any, Delegate}
use Rattle.fancy_meaning.specs.Chars.{is_class, any_takes, literal_takes}
use Rattle.fancy_meaning.specs.Moves.{past_char, past_chars, past_bytes}
use Rattle.fancy_meaning.specs.MatchState.{MatchState}
use Rattle.fancy_meaning.specs.Instr.{Instr, Codepoint}
use Rattle.fancy_meaning.specs.Batches.{all_joined, literal_chars, literal_instr, class_code, any_instr, delegate_code, batch_code, batch, pattern_of, fragment, group_range}
use Rattle.fancy_meaning.specs.Code as code
use Rattle.fancy_meaning.specs.Config.{Config, Next, Goes}
use Rattle.fancy_meaning.specs.Machine.{Task, fail, goes_from, takes_way, step, class_test, first_way}
use Rattle.fancy_headline.proofs.Batches.{no_name, some_name}

-- it goes on at the next instruction with the same branches, or fails
pub data GoesOrFails (t : Task) (c : Config) : Next → Type 0 where
  goes : (d : Config) → d.pc ≡ c.pc + 1 → d.branches ≡ c.branches → d.backtracks ≡ c.backtracks → GoesOrFails t c (Goes d)
  fails : GoesOrFails t c (fail t c)

abbrev pub IsPlain : Task → Instr → Type 0
IsPlain t i = (c : Config) → GoesOrFails t c (step t i c)

-- no instruction, or one that is plain
pub data AtMostOne (t : Task) : List Instr → Type 0 where
  no_instr : AtMostOne t []
  one_instr : (i : Instr) → IsPlain t i → AtMostOne t (i ∷ [])

module _ (t : Task) where
  by_place : (c : Config) (o : Option ℕ) → GoesOrFails t c (goes_from t c o)
  by_place c None = fails
  by_place c (Some i) = goes _ refl refl refl

  by_way : (c : Config) (o : Option MatchState) → GoesOrFails t c (takes_way t c o)
  by_way c None = fails
  by_way c (Some s) = goes _ refl refl refl

  literals : (unicode : Bool) (cs : List (ℕ × Bool)) → AtMostOne t (literal_instr unicode cs ∷ [])
  literals unicode cs = by_fold (list_any (λ c. c.1) cs)
    where
      by_fold : (v : Bool) →
          AtMostOne t ((if v then Instr.LitCasei cs unicode else Instr.Lit (encode_utf8_all (map (λ c. c.0) cs))) ∷ [])
      by_fold true =
          one_instr (Instr.LitCasei cs unicode)
          (λ c. by_place c (past_chars t.text (map (λ d. literal_takes unicode d.0 d.1) cs) c.ix))
      by_fold false =
          one_instr (Instr.Lit (encode_utf8_all (map (λ c. c.0) cs)))
          (λ c. by_place c (past_bytes t.text (encode_utf8_all (map (λ d. d.0) cs)) c.ix))

  class : (unicode : Bool) (inner : List ℕ) (casei : Bool) (a n : ℕ) → AtMostOne t (class_code unicode inner casei a n).instrs
  class unicode inner casei a n = by_class (is_class unicode inner casei)
    where
      instr : Instr
      instr = Instr.Class (Codepoint inner casei unicode)

      by_class : (v : Bool) → AtMostOne t ((if v then code.one instr else code.nothing) a n).instrs
      by_class true = one_instr instr (λ c. by_place c (past_char t.text (class_test (Codepoint inner casei unicode)) c.ix))
      by_class false = no_instr

  any : (newline crlf : Bool) → AtMostOne t (any_instr newline crlf ∷ [])
  any true crlf = one_instr Instr.Any (λ c. by_place c (past_char t.text (any_takes true false) c.ix))
  any false true = one_instr Instr.AnyNoCRLF (λ c. by_place c (past_char t.text (any_takes false true) c.ix))
  any false false = one_instr Instr.AnyNoNL (λ c. by_place c (past_char t.text (any_takes false false) c.ix))

  delegate : (unicode : Bool) (es : List Tree) (a n : ℕ) → AtMostOne t (delegate_code unicode es a n).instrs
  delegate unicode es a n = by_name (pattern_of unicode es) refl
    where
      by_name : (p : List ℕ) → pattern_of unicode es ≡ p → AtMostOne t (delegate_code unicode es a n).instrs
      by_name [] e = subst (λ x. AtMostOne t (x a n).instrs) (sym (no_name unicode es e)) no_instr
      by_name (p ∷ ps) e =
          subst (λ x. AtMostOne t (x a n).instrs) (sym (some_name unicode es p ps e))
          (one_instr (Instr.Delegate (p ∷ ps) (fragment unicode es) (group_range es))
          (λ c. by_way c (first_way t (fragment unicode es) c.ix)))

  by_shape : (unicode : Bool) (o : Option (List (ℕ × Bool))) (es : List Tree) (a n : ℕ) →
      AtMostOne t (batch_code unicode o es a n).instrs
  by_shape unicode (Some cs) es a n = literals unicode cs
  by_shape unicode None (Delegate inner casei ∷ []) a n = class unicode inner casei a n
  by_shape unicode None (Any newline crlf ∷ []) a n = any newline crlf
  by_shape unicode None es a n = delegate unicode es a n

  pub batch_plain : (unicode : Bool) (es : List Tree) (a n : ℕ) → AtMostOne t (batch unicode es a n).instrs
  batch_plain unicode [] a n = no_instr
  batch_plain unicode (e ∷ es) a n = by_shape unicode (all_joined (map literal_chars (e ∷ es))) (e ∷ es) a n
