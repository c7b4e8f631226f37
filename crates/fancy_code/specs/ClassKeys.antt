-- Classes that instructions share.
use Rattle.std.specs.Prelude.{◌≡◌, ℕ, Bool, true, false, List, ◌++◌, IsTrue, String, codes}
use Rattle.std.specs.BTreeMap.{BTreeMap, get_by_text}
use Rattle.std.specs.Option.{ForSome}
use Rattle.std.specs.declared.sync.Arc.{Arc}
use Rattle.fancy_meaning.specs.Chars.{is_class}
use Rattle.fancy_meaning.specs.Instr.{Codepoint}
use Rattle.fancy_characters.specs.Classes.{class_of}
use Rattle.fancy_characters.specs.declared.classes.CharClassMatcher.{CharClassMatcher}

-- how a class is read, in two letters
abbrev pub reading : Bool → Bool → List ℕ
reading true true = codes "ui"
reading true false = codes "uc"
reading false true = codes "ai"
reading false false = codes "ac"

abbrev pub class_key : Bool → List ℕ → Bool → List ℕ
class_key unicode inner casei = reading unicode casei ++ inner

-- the class of this text, read so
abbrev pub IsClass : {Z : Type 0} → Bool → Bool → List ℕ → Arc CharClassMatcher Z → Type 0
IsClass unicode casei inner class = (class_of class.value ≡ Codepoint inner casei unicode) × IsTrue
    (is_class unicode inner casei)

-- each class is the one that its key tells
abbrev pub AreClasses : {Y Z : Type 0} → BTreeMap (String Y) (Arc CharClassMatcher Z) → Type 0
AreClasses m = (unicode casei : Bool) (inner : List ℕ) →
    ForSome (get_by_text m (class_key unicode inner casei)) (IsClass unicode casei inner)
