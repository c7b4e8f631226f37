-- Characters are taken where their bytes stand.
use Rattle.std.proofs.Common.{◌≡◌, ℕ, ◌+◌, ◌^◌, ◌<◌, Bool, true, false, if◌then◌else◌, ◌==◌, nat_eq, List, [], ◌∷◌, ◌++◌, length, map, drop, drop-drop, All, Option, Some, None, option_and_then, encode_utf8, encode_utf8_all, refl, sym, ap, ◌∙◌, arith, append_assoc, length-append, eq-eqb, eqb-true, inl}
use Rattle.std.proofs.Math.Seq.{drop-append_seam}
use Rattle.std.proofs.lemmas.Str.{length-encode}
use Rattle.std.proofs.lemmas.List.Elements.{All-head, All-tail}
use Rattle.std.specs.Char.{IsScalar, len_utf8}
use Rattle.regex_hir.specs.Text.{char_at, has_bytes_at}
use Rattle.regex_hir.proofs.TextLemmas.{has_bytes_at_parts, has_bytes_at_from, char_at_parts, char_at_from}
use Rattle.regex_hir.proofs.Utf8Lemmas.{IsScalar-of_InScalarRange}
use Rattle.fancy_meaning.specs.Moves.{past_bytes, past_char, past_chars}

module _ (text : List ℕ) where
  -- the bytes stand there, or they do not
  pub bytes_stand : (bs : List ℕ) (i : ℕ) → has_bytes_at text i bs ≡ true → past_bytes text bs i ≡ Some (i + length bs)
  bytes_stand bs i e = ap (λ v. if v then Some (i + length bs) else None) e

  pub bytes_miss : (bs : List ℕ) (i : ℕ) → has_bytes_at text i bs ≡ false → past_bytes text bs i ≡ None
  bytes_miss bs i e = ap (λ v. if v then Some (i + length bs) else None) e

  -- a character by its bytes
  pub char_by_bytes : (c i : ℕ) → IsScalar c → past_bytes text (encode_utf8 c) i ≡ past_char text (λ d. c == d) i
  char_by_bytes c i scalar = by_test (has_bytes_at text i (encode_utf8 c)) refl
    where
      taken : (o : Option ℕ) → char_at text i ≡ o → has_bytes_at text i (encode_utf8 c) ≡ false →
          None ≡ option_and_then (λ d. if c == d then Some (i + len_utf8 d) else None) o
      taken None e f = refl
      taken (Some d) e f = other (c == d) refl
        where
          other : (v : Bool) → (c == d) ≡ v → None ≡ (if v then Some (i + len_utf8 d) else None)
          other false g = refl
          other true g =
              let same : c ≡ d = eqb-true c d g in
              let stands =
              has_bytes_at_from text i (encode_utf8 c) (drop (i + len_utf8 d) text)
              ((char_at_parts text i d e).1 ∙ ap (λ x. encode_utf8 x ++ drop (i + len_utf8 d) text) (sym same)) in
              cc

      by_test : (v : Bool) → has_bytes_at text i (encode_utf8 c) ≡ v →
          past_bytes text (encode_utf8 c) i ≡ past_char text (λ d. c == d) i
      by_test true e =
          let at =
          char_at_from text i c (drop (i + length (encode_utf8 c)) text) scalar
          (has_bytes_at_parts text i (encode_utf8 c) e) in
          bytes_stand (encode_utf8 c) i e ∙ ap (λ n. Some (i + n)) (length-encode c)
          ∙ sym
          (ap (option_and_then (λ d. if c == d then Some (i + len_utf8 d) else None)) at
          ∙ ap (λ v. if v then Some (i + len_utf8 c) else None) (eq-eqb c c refl))
      by_test false e = bytes_miss (encode_utf8 c) i e ∙ taken (char_at text i) refl e

  -- bytes after bytes
  pub bytes_append : (as' bs : List ℕ) (i : ℕ) →
      past_bytes text (as' ++ bs) i ≡ option_and_then (past_bytes text bs) (past_bytes text as' i)
  bytes_append as' bs i =
      by_test (has_bytes_at text i as') (has_bytes_at text (i + length as') bs) (has_bytes_at text i (as' ++ bs)) refl refl refl
    where
      -- what stands behind the first bytes, where all stand
      behind : has_bytes_at text i (as' ++ bs) ≡ true → has_bytes_at text (i + length as') bs ≡ true
      behind g =
          let rest = drop (i + length (as' ++ bs)) text in
          let all = has_bytes_at_parts text i (as' ++ bs) g ∙ append_assoc as' bs rest in
          has_bytes_at_from text (i + length as') bs rest
          (sym (drop-drop (length as') i text) ∙ ap (drop (length as')) all ∙ drop-append_seam as' (bs ++ rest))

      by_test : (u v x : Bool) → has_bytes_at text i as' ≡ u → has_bytes_at text (i + length as') bs ≡ v →
          has_bytes_at text i (as' ++ bs) ≡ x →
          past_bytes text (as' ++ bs) i ≡ option_and_then (past_bytes text bs) (past_bytes text as' i)
      by_test true true x e f g =
          let rest = drop (i + length as' + length bs) text in
          let all =
          has_bytes_at_parts text i as' e
          ∙ ap (λ l. as' ++ l) (has_bytes_at_parts text (i + length as') bs f)
          ∙ sym (append_assoc as' bs rest) in
          let sum : i + length (as' ++ bs) ≡ i + length as' + length bs = omega (arith, length-append as' bs) in
          bytes_stand (as' ++ bs) i (has_bytes_at_from text i (as' ++ bs) rest all) ∙ ap Some sum
          ∙ sym (ap (option_and_then (past_bytes text bs)) (bytes_stand as' i e) ∙ bytes_stand bs (i + length as') f)
      by_test true false false e f g =
          bytes_miss (as' ++ bs) i g
          ∙ sym (ap (option_and_then (past_bytes text bs)) (bytes_stand as' i e) ∙ bytes_miss bs (i + length as') f)
      by_test true false true e f g = let stands = behind g in cc
      by_test false v false e f g =
          bytes_miss (as' ++ bs) i g ∙ sym (ap (option_and_then (past_bytes text bs)) (bytes_miss as' i e))
      by_test false v true e f g =
          let rest = drop (i + length (as' ++ bs)) text in
          let stands =
          has_bytes_at_from text i as' (bs ++ rest) (has_bytes_at_parts text i (as' ++ bs) g ∙ append_assoc as' bs rest) in
          cc

  same_onward : (f g : ℕ → Option ℕ) → ((i : ℕ) → f i ≡ g i) → (o : Option ℕ) → option_and_then f o ≡ option_and_then g o
  same_onward f g e None = refl
  same_onward f g e (Some i) = e i

  -- characters by their bytes
  pub chars_by_bytes : (cs : List ℕ) (i : ℕ) → All (λ c. c < 2 ^ 8) cs →
      past_bytes text (encode_utf8_all cs) i ≡ past_chars text (map nat_eq cs) i
  chars_by_bytes [] i all =
      bytes_stand [] i (has_bytes_at_from text i [] (drop i text) refl) ∙ ap Some (let z : i + 0 ≡ i = omega arith in z)
  chars_by_bytes (c ∷ cs) i all =
      let scalar : IsScalar c = let lt : c < 2 ^ 8 = All-head (λ x. x < 2 ^ 8) c cs all in
      IsScalar-of_InScalarRange c (inl (omega arith)) in
      bytes_append (encode_utf8 c) (encode_utf8_all cs) i
      ∙ ap (option_and_then (past_bytes text (encode_utf8_all cs))) (char_by_bytes c i scalar)
      ∙ same_onward (past_bytes text (encode_utf8_all cs)) (past_chars text (map nat_eq cs))
      (λ j. chars_by_bytes cs j (All-tail (λ x. x < 2 ^ 8) c cs all)) (past_char text (nat_eq c) i)
