-- The pattern text of a node in parts: what opens, what it is itself, its children, how often, and what closes.
use Rattle.std.specs.Prelude.{◌≡◌, ℕ, zero, suc, Bool, true, false, List, [], ◌∷◌, ◌++◌, if◌then◌else◌, nat_lt, codes, string_bytes}
use Rattle.std.specs.declared.string.String.{String}
use Rattle.std.specs.declared.alloc.Global.{Global}
use Rattle.regex_syntax.specs.Reading.{◌∈◌}
use Rattle.fancy_meaning.specs.Tree.{Tree, Any, Assert, Literal, Delegate, Concat, Alt, Group, Repeat}
use Rattle.fancy_expr.specs.declared.expr.Expr.{Expr}
use Rattle.fancy_expr.specs.declared.expr.Expr.TheVariants as code
use Rattle.fancy_expr.specs.Exprs.{in_row}
use Rattle.fancy_meaning.specs.PatternText.{Text, any_text, assertion_text, bounds_text, escaped}

-- the text is this one longer
abbrev pub Adds : String Global → String Global → Text → Type 0
Adds old new t = string_bytes new ≡ string_bytes old ++ t

abbrev pub is_enclosed : Tree → ℕ → Bool
is_enclosed (Literal c casei) precedence = casei
is_enclosed (Delegate inner casei) precedence = casei
is_enclosed (Concat es) precedence = nat_lt 1 precedence
is_enclosed (Alt es) precedence = nat_lt 0 precedence
is_enclosed (Group g e) precedence = true
is_enclosed (Repeat lo hi greedy e) precedence = nat_lt 2 precedence
is_enclosed e precedence = false

-- the bracket that opens, where one does
abbrev pub bracket : Tree → Text
bracket (Literal c casei) = codes "(?i:"
bracket (Delegate inner casei) = codes "(?i:"
bracket (Group g e) = codes "("
bracket e = codes "(?:"

abbrev pub opening : Tree → ℕ → Text
opening e precedence = if is_enclosed e precedence then bracket e else []

abbrev pub closing : Tree → ℕ → Text
closing e precedence = if is_enclosed e precedence then codes ")" else []

-- the children whose texts a node's text has
abbrev pub spelled : Expr → List Expr
spelled (code.Concat' shape es) = in_row es
spelled (code.Alt' shape es) = in_row es
spelled (code.Group' b e) = e ∷ []
spelled (code.Repeat' b e lo hi greedy) = e ∷ []
spelled e = []

abbrev pub separator : Tree → Text
separator (Alt es) = codes "|"
separator e = []

abbrev pub bar_before : ℕ → Text
bar_before zero = []
bar_before (suc i) = codes "|"

-- what stands before the child with this index
abbrev pub before : Tree → ℕ → Text
before (Alt es) i = bar_before i
before e i = []

abbrev pub inner_precedence : Tree → ℕ
inner_precedence (Concat es) = 2
inner_precedence (Alt es) = 1
inner_precedence (Repeat lo hi greedy e) = 3
inner_precedence e = 0

-- a node without children
abbrev pub own_text : Tree → Text
own_text (Any newline crlf) = any_text newline crlf
own_text (Literal c casei) = escaped c
own_text (Delegate inner casei) = inner
own_text (Assert w a) = assertion_text a
own_text e = []

abbrev pub has_meaning : ℕ → Bool
has_meaning c = c ∈ "\\.+*?()|[]{}^$#"

-- how often a node is repeated
abbrev pub count_text : Tree → Text
count_text (Repeat lo hi greedy e) = bounds_text lo hi ++ (if greedy then [] else codes "?")
count_text e = []
