-- A class by its text: its answers for ASCII, and what answers for other characters.
use Rattle.std.specs.Prelude.{◌≡◌, ℕ, ◌<◌, Bool, false, List, slice_index_or}
use Rattle.std.specs.Char.{IsScalar}
use Rattle.regex.specs.Strings.{regex_source, regex_config, IsReadFromSource}
use Rattle.regex.specs.declared.string.regex.Regex.{Regex}
use Rattle.regex_syntax.specs.Verdict.{default_config}
use Rattle.fancy_characters.specs.SimpleClasses.{is_in_simple}
use Rattle.fancy_characters.specs.Members.{AreMembersBy}
use Rattle.fancy_meaning.specs.Chars.{class_pattern, class_takes}
use Rattle.fancy_characters.specs.declared.compiled.Others.{Others}
use Rattle.fancy_characters.specs.declared.compiled.Others.TheVariants.{Simple, Listed, Asked}

pub record ClassText : Type 0 where
  pub inner : List ℕ
  pub casei : Bool
  pub unicode : Bool

abbrev pub compiled_text : List ℕ → Bool → Bool → ClassText
compiled_text inner casei unicode = record { inner = inner; casei = casei; unicode = unicode }

-- the regex was read from the pattern of the class
pub record IsRegexOf (t : ClassText) (regex : Regex) : Type 0 where
  pub source : regex_source regex ≡ class_pattern t.unicode t.inner t.casei
  pub config : regex_config regex ≡ default_config
  pub read : IsReadFromSource regex

-- the answers for ASCII characters are those of the class
abbrev pub AreAnswersOf : ClassText → List Bool → Type 0
AreAnswersOf t answers = (c : ℕ) → c < 128 → slice_index_or answers c false ≡ class_takes t.unicode t.inner t.casei c

-- the simple class or the ranges hold the characters of the class, or the regex is that of the class
abbrev pub AnswersOthers : ClassText → Others → Type 0
AnswersOthers t (Simple simple) = (c : ℕ) → IsScalar c → is_in_simple simple c ≡ class_takes t.unicode t.inner t.casei c
AnswersOthers t (Listed members) = AreMembersBy (class_takes t.unicode t.inner t.casei) members.ranges.items
AnswersOthers t (Asked regex) = IsRegexOf t regex.value
