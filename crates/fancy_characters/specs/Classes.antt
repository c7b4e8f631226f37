-- What a matcher of one character takes, and when a class text is refused.
use Rattle.std.specs.Prelude.{◌≡◌, ℕ, Bool, List, Option, Some, None, IsTrue, IsFalse, ⊤, string_bytes}
use Rattle.fancy_meaning.specs.Chars.{is_class}
use Rattle.fancy_meaning.specs.Instr as plain
use Rattle.fancy_expr.specs.declared.error.Error.{Error}
use Rattle.fancy_expr.specs.declared.error.Error.TheVariants as error
use Rattle.fancy_expr.specs.declared.error.CompileError.TheVariants as refused
use Rattle.fancy_characters.specs.declared.classes.CharClassMatcher.{CharClassMatcher}
use Rattle.fancy_characters.specs.declared.classes.CharClassMatcher.TheVariants as code

abbrev pub class_of : CharClassMatcher → plain.CharClass
class_of (code.Codepoint class) = plain.Codepoint class.inner class.casei class.unicode
class_of (code.Newline unicode) = plain.Newline unicode

abbrev pub class_name : CharClassMatcher → Option (List ℕ)
class_name (code.Codepoint class) = Some class.inner
class_name (code.Newline unicode) = None

-- Memory ran out, the class text is none, or `regex` has no room for it.
abbrev pub IsClassRefusal : Bool → List ℕ → Bool → Error → Type 0
IsClassRefusal unicode inner casei error.Memory = ⊤
IsClassRefusal unicode inner casei (error.CompileError (refused.InnerError text)) =
    (string_bytes text ≡ inner) × IsFalse (is_class unicode inner casei)
IsClassRefusal unicode inner casei (error.CompileError (refused.ClassTooBig text)) =
    (string_bytes text ≡ inner) × IsTrue (is_class unicode inner casei)
IsClassRefusal unicode inner casei e = ⊥
