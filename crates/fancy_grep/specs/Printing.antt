-- What is written of lines.
use Rattle.std.specs.Prelude.{ℕ, Bool, List, [], ◌∷◌, ◌++◌, codes, Option, Some, None, if◌then◌else◌}
use Rattle.std.specs.Fmt.{decimal}
use Rattle.std.specs.Option.{option_map_or}
use Rattle.fancy_grep.specs.declared.printing.Place.{Place}
use Rattle.fancy_grep.specs.declared.printing.Style.{Style}

-- a text in a colour of the terminal, as grep writes it: ESC [ COLOUR m, ESC [ K, the text, ESC [ m, ESC [ K
abbrev pub in_colour : List ℕ → List ℕ → List ℕ
in_colour colour text =
    (27 ∷ 91 ∷ []) ++ (colour ++ ((109 ∷ 27 ∷ 91 ∷ 75 ∷ []) ++ (text ++ (27 ∷ 91 ∷ 109 ∷ 27 ∷ 91 ∷ 75 ∷ []))))

abbrev pub painted : Bool → List ℕ → List ℕ → List ℕ
painted has_colours colour text = if has_colours then in_colour colour text else text

-- what separates a name from the rest
abbrev pub after_name : Style → List ℕ → List ℕ
after_name style separator = if style.has_zeros then 0 ∷ [] else painted style.has_colours (codes "36") separator

-- the name of the text, where lines begin with it, and what separates it from the rest
abbrev pub name_part : Style → List ℕ → List ℕ
name_part style separator =
    option_map_or (λ name. painted style.has_colours (codes "35") name.now ++ after_name style separator) style.name []

-- a number before a line, if there is one, and what separates it from the rest
abbrev pub number_part : Bool → Option ℕ → List ℕ → List ℕ
number_part has_colours None separator = []
number_part has_colours (Some n) separator = painted has_colours (codes "32") (decimal n) ++ painted has_colours (codes "36") separator

-- what stands before a line: the name, its number, the column and the byte offset
abbrev pub prefix : Style → Place → List ℕ → List ℕ
prefix style place separator =
    let part = λ (n : Option ℕ). number_part style.has_colours n separator in
    name_part style separator ++ (part place.number ++ (part place.column ++ part place.offset))
