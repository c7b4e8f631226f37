-- The tables of words as plain values: leaves, head words and verbs, and numbers.
use Rattle.std.specs.Prelude.{ℕ, ◌-◌, ◌^◌, ℤ, pos, neg_ℤ, Bool, true, false, ◌&&◌, List, [], ◌∷◌, Option, Some, None, if◌then◌else◌, ◌==◌, nat_lt, nat_le, codes}
use Rattle.std.specs.Str.{all_ascii_digits, bytes_eq}
use Rattle.std.specs.Str.Parse.{digits_value}
use Rattle.fancy_meaning.specs.Tree as plain
use Rattle.fancy_meaning.specs.Tree.{Tree}
use Rattle.fancy_expr.specs.declared.expr.LookAround.TheVariants as look
use Rattle.fancy_notation.specs.declared.forms.Enclosing.{Enclosing}
use Rattle.fancy_notation.specs.declared.forms.Enclosing.TheVariants as enclosing
use Rattle.fancy_notation.specs.declared.forms.Naming.TheVariants as naming
use Rattle.fancy_notation.specs.declared.forms.Leveled.TheVariants as leveled
use Rattle.fancy_notation.specs.declared.forms.Form.{Form}
use Rattle.fancy_notation.specs.declared.forms.Form.TheVariants as form

-- what stands beside a word in a table
abbrev pub found : {V : Type 0} → List (List ℕ × V) → List ℕ → Option V
found [] w = None
found (row ∷ rows) w = if bytes_eq w row.0 then Some row.1 else found rows w

-- the words that alone are an assertion
abbrev pub assertions : List (List ℕ × plain.Assertion)
assertions =
    (codes "start", plain.StartText)
    ∷ (codes "end", plain.EndText)
    ∷ (codes "endnl", plain.EndTextIgnoreTrailingNewlines false)
    ∷ (codes "endcrlf", plain.EndTextIgnoreTrailingNewlines true)
    ∷ (codes "bol", plain.StartLine false)
    ∷ (codes "bolcrlf", plain.StartLine true)
    ∷ (codes "obol", plain.StartLineOniguruma false)
    ∷ (codes "obolcrlf", plain.StartLineOniguruma true)
    ∷ (codes "eol", plain.EndLine false)
    ∷ (codes "eolcrlf", plain.EndLine true)
    ∷ (codes "wstart", plain.LeftWordBoundary)
    ∷ (codes "wend", plain.RightWordBoundary)
    ∷ (codes "whstart", plain.LeftWordHalfBoundary)
    ∷ (codes "whend", plain.RightWordHalfBoundary)
    ∷ (codes "wb", plain.WordBoundary)
    ∷ (codes "nwb", plain.NotWordBoundary)
    ∷ []

-- the other words that alone are an expression
abbrev pub plain_leaves : List (List ℕ × Tree)
plain_leaves =
    (codes "empty", plain.Empty)
    ∷ (codes "dot", plain.Any false false)
    ∷ (codes "dotcrlf", plain.Any false true)
    ∷ (codes "any", plain.Any true false)
    ∷ (codes "nl", plain.GeneralNewline true)
    ∷ (codes "nlascii", plain.GeneralNewline false)
    ∷ (codes "keep", plain.KeepOut)
    ∷ (codes "cont", plain.ContinueFromPreviousMatchEnd)
    ∷ (codes "absclear", plain.AbsentClear)
    ∷ []

-- the expression that a word alone stands for
unfoldable pub leaf_of : List ℕ → Option Tree
leaf_of w = elim (found assertions w) [ Some a ↦ Some (plain.Assert plain.NoLook a) | None ↦ found plain_leaves w ]

-- the words that open what stands around one expression
abbrev pub enclosings : List (List ℕ × Enclosing)
enclosings =
    (codes "grp", enclosing.Group)
    ∷ (codes "atom", enclosing.Atomic)
    ∷ (codes "define", enclosing.Define)
    ∷ (codes "ahead", enclosing.Look look.LookAhead)
    ∷ (codes "nahead", enclosing.Look look.LookAheadNeg)
    ∷ (codes "behind", enclosing.Look look.LookBehind)
    ∷ (codes "nbehind", enclosing.Look look.LookBehindNeg)
    ∷ (codes "absent", enclosing.AbsentRepeater)
    ∷ (codes "absstop", enclosing.AbsentStopper)
    ∷ []

-- the other words that stand after an opening parenthesis
abbrev pub other_forms : List (List ℕ × Form)
other_forms =
    (codes "cat", form.Cat)
    ∷ (codes "alt", form.Alt)
    ∷ (codes "rep", form.Repeat true)
    ∷ (codes "lazy", form.Repeat false)
    ∷ (codes "set", form.Set false)
    ∷ (codes "iset", form.Set true)
    ∷ (codes "bytes", form.Bytes)
    ∷ (codes "ref", form.Naming (naming.Backref false))
    ∷ (codes "iref", form.Naming (naming.Backref true))
    ∷ (codes "reflevel", form.Leveled leveled.Backref)
    ∷ (codes "has", form.Naming naming.Exists)
    ∷ (codes "haslevel", form.Leveled leveled.Exists)
    ∷ (codes "verb", form.Verb)
    ∷ (codes "if", form.Conditional)
    ∷ (codes "call", form.Naming naming.Call)
    ∷ (codes "absexp", form.AbsentExpression)
    ∷ []

-- what a word after an opening parenthesis begins
unfoldable pub form_of : List ℕ → Option Form
form_of w = elim (found enclosings w) [ Some e ↦ Some (form.Enclosing e) | None ↦ found other_forms w ]

abbrev pub verbs : List (List ℕ × plain.Verb)
verbs =
    (codes "fail", plain.Fail)
    ∷ (codes "accept", plain.Accept)
    ∷ (codes "commit", plain.Commit)
    ∷ (codes "skip", plain.Skip)
    ∷ (codes "prune", plain.Prune)
    ∷ []

abbrev pub verb_of : List ℕ → Option plain.Verb
verb_of w = found verbs w

abbrev pub when : {V : Type 0} → Bool → V → Option V
when b v = if b then Some v else None

abbrev pub is_numeral : List ℕ → Bool
is_numeral [] = false
is_numeral (d ∷ ds) = all_ascii_digits (d ∷ ds)

-- the number that one or more decimal digits write, below 2 ^ 64
unfoldable pub number_of : List ℕ → Option ℕ
number_of w = when (is_numeral w && nat_lt (digits_value 10 w) (2 ^ 64)) (digits_value 10 w)

-- the number that decimal digits write, with an optional `-` before them, from -2 ^ 63 on and below 2 ^ 63
unfoldable pub level_of : List ℕ → Option ℤ
level_of [] = None
level_of (c ∷ w) =
    if c == 45
    then when (is_numeral w && nat_le (digits_value 10 w) (2 ^ 63)) (neg_ℤ (pos (digits_value 10 w)))
    else when (is_numeral (c ∷ w) && nat_lt (digits_value 10 (c ∷ w)) (2 ^ 63)) (pos (digits_value 10 (c ∷ w)))

abbrev pub kept : {V : Type 0} → (V → Bool) → Option V → Option V
kept test None = None
kept test (Some v) = when (test v) v

-- a number of iterations
unfoldable pub count_of : List ℕ → Option ℕ
count_of w = kept (λ n. nat_lt n (2 ^ 64 - 1)) (number_of w)

-- the greatest number of iterations, at least `lo`: `*` means that there is none
unfoldable pub bound_at_least : ℕ → List ℕ → Option (Option ℕ)
bound_at_least lo w =
    if bytes_eq w (codes "*")
    then Some None
    else elim (kept (λ n. nat_le lo n) (count_of w)) [ Some n ↦ Some (Some n) | None ↦ None ]

-- the number of a character up to 255
unfoldable pub byte_of : List ℕ → Option ℕ
byte_of w = kept (λ n. nat_le n 255) (number_of w)
