-- The view of a `Size`: the size of the definitions.
use Rattle.fancy_info.specs.declared.size.Size.{Size}
use Rattle.fancy_meaning.specs.Sizes as plain

abbrev pub size_of : Size → plain.Size
size_of s = record { least = s.least; most = s.most; is_const = s.is_const }
