-- Where a character beyond ASCII stands, a test that lacks these takes nothing.
use Rattle.std.proofs.Common.{◌≡◌, ◌≤◌, ◌<◌, ◌+◌, ◌++◌, ◌∷◌, [], ℕ, Bool, false, List, Option, Some, None, drop, if◌then◌else◌, slice_get, option_and_then, encode_utf8, refl, sym, ap, ◌∙◌, arith, inl, inr}
use Rattle.std.proofs.lemmas.Bool.{cases_lt}
use Rattle.std.proofs.lemmas.Option.{same_Some}
use Rattle.std.proofs.lemmas.Str.{encode_ascii}
use Rattle.std.specs.Char.{IsScalar, len_utf8}
use Rattle.regex_hir.specs.Text.{char_at}
use Rattle.regex_hir.proofs.TextLemmas.{char_at_parts}
use Rattle.regex_syntax.specs.Reading.{first}
use Rattle.regex_syntax.proofs.ReadingLemmas.{first-drop}
use Rattle.fancy_meaning.specs.Moves.{past_char}
use Rattle.fancy_characters.specs.Others.{LacksOthers}

-- the character there is its own first byte, if it is of ASCII
first_byte : (text : List ℕ) (i c : ℕ) → char_at text i ≡ Some c → c < 128 → slice_get text i ≡ Some c
unfolding first
first_byte text i c e small =
    sym (first-drop text i)
    ∙ ap first ((char_at_parts text i c e).1 ∙ ap (λ bs. bs ++ drop (i + len_utf8 c) text) (encode_ascii c small))

beyond_there : (text : List ℕ) (i b c : ℕ) → slice_get text i ≡ Some b → 128 ≤ b → char_at text i ≡ Some c → 128 ≤ c
beyond_there text i b c here far e = elim (cases_lt c 128) [
  | inl small ↦
      let same : b ≡ c = same_Some b c (sym here ∙ first_byte text i c e small) in
      absurd (omega (arith, same, small, far))
  | inr beyond ↦ omega (arith, beyond)
]

pub lacks_here : (text : List ℕ) (test : ℕ → Bool) (i b : ℕ) → slice_get text i ≡ Some b → 128 ≤ b → LacksOthers test →
    past_char text test i ≡ None
lacks_here text test i b here far lacks = go (char_at text i) refl
  where
    go : (o : Option ℕ) → char_at text i ≡ o → option_and_then (λ c. if test c then Some (i + len_utf8 c) else None) (char_at text i) ≡ None
    go None e = ap (option_and_then (λ c. if test c then Some (i + len_utf8 c) else None)) e
    go (Some c) e =
        ap (option_and_then (λ c. if test c then Some (i + len_utf8 c) else None)) e
        ∙ ap (λ a. if a then Some (i + len_utf8 c) else None)
        (lacks c (char_at_parts text i c e).0 (beyond_there text i b c here far e))
