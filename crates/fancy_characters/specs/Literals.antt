-- What a literal takes, of which each character is folded or not.
use Rattle.std.specs.Prelude.{ℕ, ◌∷◌, [], Bool, true, List, map}
use Rattle.fancy_meaning.specs.Chars.{literal_takes}
use Rattle.fancy_characters.specs.declared.folding.CaseiLiteral.{CaseiLiteral}

-- the characters, each with whether it is folded
abbrev pub literal_chars : CaseiLiteral → List (ℕ × Bool)
literal_chars literal = literal.chars.items

abbrev pub literal_unicode : CaseiLiteral → Bool
literal_unicode literal = literal.unicode

-- the tests of its characters, in order
abbrev pub literal_tests : CaseiLiteral → List (ℕ → Bool)
literal_tests literal = map (λ d. literal_takes (literal_unicode literal) d.0 d.1) (literal_chars literal)

-- whether the first of these tests passes on the character, if there is one
abbrev pub can_begin_with : (tests : List (ℕ → Bool)) → ℕ → Bool
can_begin_with [] c = true
can_begin_with (test ∷ tests) c = test c
