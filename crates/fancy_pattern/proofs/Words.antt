-- Words at the front of a text.
use Rattle.std.proofs.Common.{◌≡◌, ◌<◌, ◌∷◌, [], None, length, refl, arith, sym}
use Rattle.std.proofs.lemmas.Option.{none-some}
use Rattle.fancy_pattern.specs.Texts.{Text, skip_word, skip_common, uncons}

-- no word is at the front of nothing
pub no_text_left : (word text : Text) → uncons text ≡ None → 0 < length word → skip_word word text ≡ None
no_text_left [] text e h = absurd (omega arith)
no_text_left (w ∷ ws) [] e h = refl
no_text_left (w ∷ ws) (c ∷ cs) e h = cc

-- nothing has nothing in common with a word
pub no_text_common : (word text : Text) → uncons text ≡ None → skip_common word text ≡ 0
no_text_common [] [] e = refl
no_text_common (w ∷ ws) [] e = refl
no_text_common word (c ∷ cs) e = absurd (none-some _ (sym e))
