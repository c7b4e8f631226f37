-- Sets of bytes, and texts without one of them.
use Rattle.std.specs.Prelude.{◌≡◌, ℕ, Bool, true, false, List, length, slice_index_or}
use Rattle.memchr.specs.Find.{Nowhere, Passes, is_byte, is_byte2, is_byte3}
use Rattle.fancy_literals.specs.declared.byte_set.Few.{Few}
use Rattle.fancy_literals.specs.declared.byte_set.Few.TheVariants as code

-- no byte of the text passes the test
abbrev pub HasNone : (test : ℕ → Bool) → (text : List ℕ) → Type 0
HasNone test text = Nowhere (Passes test text) 0 (length text)

-- the byte is in the set
abbrev pub is_in : (bytes : List Bool) → ℕ → Bool
is_in bytes byte = slice_index_or bytes byte false

-- the byte is one of these, if they are few
abbrev pub is_one_of : Few → ℕ → Bool
is_one_of code.Nothing byte = false
is_one_of (code.One a) byte = is_byte a byte
is_one_of (code.Two a b) byte = is_byte2 a b byte
is_one_of (code.Three a b c) byte = is_byte3 a b c byte
is_one_of code.Many byte = true

-- each byte of the set is one of these
abbrev pub AreAmong : (bytes : List Bool) → Few → Type 0
AreAmong bytes few = (byte : ℕ) → is_in bytes byte ≡ true → is_one_of few byte ≡ true
