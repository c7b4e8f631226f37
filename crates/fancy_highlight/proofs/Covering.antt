-- Places of a text, and one token more.
use Rattle.std.proofs.Common.{◌≡◌, ◌<◌, ℕ, IsTrue, List, [], ◌∷◌, ◌++◌, length, nat_eq, nat_lt, true, false, refl, sym, subst, arith}
use Rattle.std.specs.Prelude.{IsUtf8}
use Rattle.std.proofs.lemmas.Bool.{and_parts}
use Rattle.std.proofs.lemmas.Bool.Decides.{nat_tests}
use Rattle.std.proofs.lemmas.Str.{IsCharBoundary-start}
use Rattle.fancy_meaning.specs.Places.{is_place}
use Rattle.fancy_laws.proofs.Characters.{place_of_cut}
use Rattle.fancy_characters.proofs.PlacesLaws.{place_past}
use Rattle.fancy_highlight.specs.Tokens.{AreTokens, IsToken}
use Rattle.fancy_highlight.specs.Writers.{is_ahead}
use Rattle.fancy_highlight.specs.declared.tokens.Token.{Token}
use Rattle.fancy_highlight.specs.declared.writer.Writer.{Writer}

pub last_place : (text : List ℕ) → IsTrue (is_place text (length text))
last_place text = subst IsTrue (place_past text (length text) (omega arith)) (same (length text))
  where
    same : (n : ℕ) → IsTrue (nat_eq n n)
    same n = grind (arith, nat_tests)

pub first_place : (text : List ℕ) → IsUtf8 text → IsTrue (is_place text 0)
first_place text utf8 = place_of_cut text 0 (IsCharBoundary-start text utf8)

-- a place that is further on
pub ahead_place : (s : Writer) (end : ℕ) → is_ahead s end ≡ true → (s.at < end) × IsTrue (is_place s.text.now end)
ahead_place s end e =
    let parts = and_parts (nat_lt s.at end) (is_place s.text.now end) e in (grind (arith, nat_tests, parts.0), parts.1)

pub none_yet : (text : List ℕ) (tokens : List Token) → tokens ≡ [] → AreTokens text 0 tokens 0
none_yet text tokens e = subst (λ l. AreTokens text 0 l 0) (sym e) refl

pub one_more : (text : List ℕ) (from : ℕ) (tokens : List Token) (at : ℕ) (t : Token) → AreTokens text from tokens at → IsToken text at t →
    AreTokens text from (tokens ++ t ∷ []) t.end
one_more text from [] at t h is = (subst (λ p. IsToken text p t) (sym h) is, refl)
one_more text from (u ∷ tokens) at t h is = (h.0, one_more text u.end tokens at t h.1 is)
