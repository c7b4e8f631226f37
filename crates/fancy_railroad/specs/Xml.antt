-- Text in XML: what stands for each character.
use Rattle.std.specs.Prelude.{ℕ, Bool, ◌||◌, ◌&&◌, List, [], ◌∷◌, ◌++◌, codes, if◌then◌else◌, ◌==◌, nat_lt}

-- a control character, or one of the two that are no characters, which XML does not have
abbrev pub is_barred : ℕ → Bool
is_barred c = nat_lt c 32 || (nat_lt 126 c && nat_lt c 160) || c == 65534 || c == 65535

-- the characters that stand for a character
abbrev pub escaped_char : ℕ → List ℕ
escaped_char c =
    if c == 60 then codes "&lt;"
    else if c == 62 then codes "&gt;"
    else if c == 38 then codes "&amp;"
    else if c == 34 then codes "&quot;"
    else if is_barred c then 183 ∷ []
    else c ∷ []

abbrev pub escaped : List ℕ → List ℕ
escaped [] = []
escaped (c ∷ cs) = escaped_char c ++ escaped cs
