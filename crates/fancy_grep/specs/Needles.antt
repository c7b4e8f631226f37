-- What is looked for in a text.
use Rattle.fancy_literals.specs.Required.{OneOf, Piece, Required}
use Rattle.fancy_grep.specs.declared.occurrences.Needle.{Needle}
use Rattle.fancy_grep.specs.declared.occurrences.Needle.TheVariants as code

abbrev pub needle_of : Needle → Required
needle_of (code.Literal literal) = Piece literal
needle_of (code.OneOf bytes) = OneOf bytes.now
