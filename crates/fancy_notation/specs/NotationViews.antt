-- The views of the reader's values: tokens, lexer, points, found.
use Rattle.std.specs.Prelude.{List, map, string_bytes}
use Rattle.fancy_notation.specs.declared.tokens.Token.{Token}
use Rattle.fancy_notation.specs.declared.tokens.Token.TheVariants as code
use Rattle.fancy_notation.specs.declared.tokens.Placed.{Placed}
use Rattle.fancy_notation.specs.declared.lexer.Lexer.{Lexer}
use Rattle.fancy_notation.specs.declared.reader.Reader.{Reader}
use Rattle.fancy_notation.specs.Tokens as plain
use Rattle.fancy_notation.specs.Lexing.{Lexing}
use Rattle.fancy_notation.specs.declared.references.References.{References}
use Rattle.fancy_notation.specs.Grammar.{Point}
use Rattle.fancy_notation.specs.References.{Referenced}

abbrev pub token_of : Token → plain.Token
token_of code.Opened = plain.Opened
token_of code.Closed = plain.Closed
token_of (code.Quoted folded text) = plain.Quoted folded (string_bytes text)
token_of (code.Word w) = plain.Word (string_bytes w)
token_of code.Broken = plain.Broken

abbrev pub placed_of : Placed → plain.Placed
placed_of p = record { at = p.at; token = token_of p.token }

abbrev pub all_placed : List Placed → List plain.Placed
all_placed ps = map placed_of ps

abbrev pub lexing_of : Lexer → Lexing
lexing_of l = record { mode = l.mode; folded = l.folded; start = l.start; text = string_bytes l.text }

abbrev pub point_of : Reader → Point
point_of r = record { groups = r.groups; tokens = all_placed r.rest.now }

abbrev pub referenced_of : References → Referenced
referenced_of s = record { references = s.references.items; numeric = s.numeric; calls = s.calls }
