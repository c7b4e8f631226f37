-- What the lines of a block read as.
use Rattle.std.specs.Prelude.{◌≡◌, ◌+◌, ◌⊎◌, ℕ, suc, zero, [], ◌∷◌, List}
use Rattle.std.specs.Io.{StopsAt}
use Rattle.bstr.specs.Utf8.{Decoded, pieces}
use Rattle.fancy_input.specs.Blocks.{EndsLine}
use Rattle.fancy_input.specs.declared.pieces.Piece.{Piece}
use Rattle.fancy_input.specs.declared.pieces.Piece.TheVariants as code

abbrev pub bytes_of : Piece → List ℕ
bytes_of (code.Text text) = text.now
bytes_of (code.Broken line) = line.now

-- Lines end at a line end, unless nothing follows them; a broken one is one line.
abbrev pub AreLines : Piece → List ℕ → Type 0
AreLines (code.Text text) rest = EndsLine text.now ⊎ (rest ≡ [])
AreLines (code.Broken line) rest = StopsAt line.now 10 × (EndsLine line.now ⊎ (rest ≡ []))

-- how many bytes the first pieces have, so many
abbrev pub length_up_to : ℕ → List Decoded → ℕ
length_up_to zero ps = 0
length_up_to (suc n) [] = 0
length_up_to (suc n) (p ∷ ps) = p.size + length_up_to n ps

-- how many bytes the first n characters and bad sequences have
abbrev pub length_of : List ℕ → ℕ → ℕ
length_of bytes n = length_up_to n (pieces bytes)
