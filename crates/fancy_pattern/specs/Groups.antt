-- What follows an opening parenthesis.
use Rattle.std.specs.Prelude.{ℕ, ◌+◌, ℤ, ◌||◌, length, min, codes, Option, Some, None, option_and_then, Ok, Err, if◌then◌else◌, ◌==◌}
use Rattle.std.specs.Char.{is_ascii_digit}
use Rattle.std.specs.List.{take_while}
use Rattle.fancy_meaning.specs.Tree as tree
use Rattle.fancy_expr.specs.declared.expr.LookAround.TheVariants as look
use Rattle.fancy_tokens.specs.declared.error.ErrorKind.TheVariants.{UnclosedOpenParen, UnknownFlag, InvalidBackref, GeneralParseError}
use Rattle.fancy_tokens.specs.declared.flags.Flags.{Flags}
use Rattle.fancy_tokens.specs.declared.tokens.Enclosing.{Enclosing}
use Rattle.fancy_tokens.specs.declared.tokens.Enclosing.TheVariants as enclosing
use Rattle.fancy_tokens.specs.declared.tokens.Naming.{Naming}
use Rattle.fancy_tokens.specs.declared.tokens.Naming.TheVariants as naming
use Rattle.fancy_pattern.specs.Texts.{Text, Read, fault_at, ◌>>=◌, uncons, skip_run, skip_word, skip_common}
use Rattle.fancy_pattern.specs.Flags.{letters_at, at_first}
use Rattle.fancy_pattern.specs.Numbers.{number_of}
use Rattle.fancy_pattern.specs.Names.{name_at, closed_at, level_at, reference_at, delimited_at, named_at}
use Rattle.fancy_tokens.specs.Tokens.{Number, Opening, Around, Group, AbsentBar, If, IfPattern, IfLook, Node, Refer, FlagsItem, Open, Item, item}

abbrev pub around : Flags → Enclosing → Item
around f e = item f (Open (Around e))

-- a plain `(`: a group, unless only groups with names capture
abbrev pub plain_group : Flags → ℕ → Opening
plain_group f opened = if f.named_only then Around enclosing.Plain else Group (opened + 1) None

-- the name of a group, and what closes it
unfoldable pub named_group_at : Flags → ℕ → ℕ → Text → Read Item
named_group_at f opened close text = do
  name ← name_at text
  rest ← closed_at close name.1
  Ok (item f (Open (Group (opened + 1) (Some name.0))), rest)

-- `(?P=name)`, `(?P>name)` and `(?&name)`, from the name on
unfoldable pub call_at : Flags → Naming → Text → Read Item
call_at f n text = named_at n 41 text >>= λ r. Ok (item f (Refer r.0), r.1)

-- `(?N)`, `(?-N)` and `(?+N)`, from behind `(?` on
unfoldable pub numbered_call_at : Flags → ℕ → Text → Read Item
numbered_call_at f opened text = reference_at opened naming.Call 41 text >>= λ r. Ok (item f (Refer r.0), r.1)

unfoldable pub verb_word_at : Text → Option (tree.Verb × Text)
verb_word_at text =
    elim (skip_word (codes "FAIL)") text) [
      | Some rest ↦ Some (tree.Fail, rest)
      | None ↦ elim (skip_word (codes "F)") text) [
        | Some rest ↦ Some (tree.Fail, rest)
        | None ↦ elim (skip_word (codes "ACCEPT)") text) [
          | Some rest ↦ Some (tree.Accept, rest)
          | None ↦ elim (skip_word (codes "COMMIT)") text) [
            | Some rest ↦ Some (tree.Commit, rest)
            | None ↦ elim (skip_word (codes "SKIP)") text) [
              | Some rest ↦ Some (tree.Skip, rest)
              | None ↦ elim (skip_word (codes "PRUNE)") text) [
                | Some rest ↦ Some (tree.Prune, rest)
                | None ↦ None
              ]
            ]
          ]
        ]
      ]
    ]

-- how many characters are left from the first one on by which no verb goes on
abbrev pub past_verb_at : Text → ℕ
past_verb_at text =
    min
    (min
    (min
    (min
    (min (skip_common (codes "FAIL)") text) (skip_common (codes "F)") text))
    (skip_common (codes "ACCEPT)") text))
    (skip_common (codes "COMMIT)") text))
    (skip_common (codes "SKIP)") text))
    (skip_common (codes "PRUNE)") text)

unfoldable pub verb_at : Flags → Text → Read Item
verb_at f text =
    elim (verb_word_at text) [
      | Some v ↦ Ok (item f (Node (tree.Control v.0)), v.1)
      | None ↦ Err (record { left = past_verb_at text; kind = GeneralParseError })
    ]

-- `(?~|)`, `(?~|absent)`, `(?~|absent|exp)` and `(?~ )`, from behind the tilde on
unfoldable pub absent_at : Flags → Text → Item × Text
absent_at f text =
    elim (skip_word (codes "|)") text) [
      | Some rest ↦ (item f (Node tree.AbsentClear), rest)
      | None ↦ elim (skip_word (codes "|") text) [
        | Some rest ↦ (item f (Open AbsentBar), rest)
        | None ↦ (around f enclosing.AbsentRepeater, text)
      ]
    ]

-- `(?<= )`, `(?<! )` and `(?<name> )`, from behind the `<` on
unfoldable pub angle_at : Flags → ℕ → Text → Read Item
angle_at f opened text =
    elim (uncons text) [
      | None ↦ named_group_at f opened 62 text
      | Some p ↦ if p.0 == 61 then Ok (around f (enclosing.Look look.LookBehind), p.1)
          else if p.0 == 33 then Ok (around f (enclosing.Look look.LookBehindNeg), p.1)
          else named_group_at f opened 62 text
    ]

-- `(?P<name> )`, `(?P=name)` and `(?P>name)`, from behind the P on
unfoldable pub python_at : Flags → ℕ → Text → Read Item
python_at f opened text =
    elim (uncons text) [
      | None ↦ Err (fault_at UnclosedOpenParen text)
      | Some p ↦ if p.0 == 60 then named_group_at f opened 62 p.1
          else if p.0 == 61 then call_at f (naming.Backref f.casei) p.1
          else if p.0 == 62 then call_at f naming.Call p.1
          else Err (fault_at UnknownFlag text)
    ]

-- a flags item, or the flags of a group
unfoldable pub flags_item_at : Flags → Text → Read Item
flags_item_at f text =
    letters_at (at_first f) text
    >>= λ found. if found.0.is_group then Ok (around found.0.flags enclosing.Plain, found.1)
    else Ok (item found.0.flags FlagsItem, found.1)

-- `(?-N)`, or a flags item; `minus` begins with the sign
unfoldable pub minus_at : Flags → ℕ → Text → Text → Read Item
minus_at f opened minus text =
    elim (uncons text) [
      | None ↦ flags_item_at f minus
      | Some p ↦ if is_ascii_digit p.0 then numbered_call_at f opened minus else flags_item_at f minus
    ]

-- a number, maybe a level, and the closing parenthesis
unfoldable pub condition_number_at : Text → Option ((Text × Option ℤ) × Text)
condition_number_at text =
    if length (take_while is_ascii_digit text) == 0 then None
    else elim (level_at (skip_run is_ascii_digit text)) [
      | Err e ↦ None
      | Ok l ↦ option_and_then (λ rest. Some ((take_while is_ascii_digit text, l.0), rest)) (skip_word (codes ")") l.1)
    ]

-- a condition by these digits
unfoldable pub condition_by_group_at : Flags → Text → Option ℤ → Text → Text → Read Item
condition_by_group_at f digits level text rest =
    elim (number_of 10 digits) [
      | None ↦ Err (fault_at InvalidBackref text)
      | Some n ↦ Ok (
        item f (Open (If
            (record { naming = naming.Exists; target = Number n; level = level; left = length text }))),
        rest,
      )
    ]

-- the look-around that begins behind an opening parenthesis
unfoldable pub look_at : Text → Option (tree.Look × Text)
look_at text =
    elim (skip_word (codes "?=") text) [
      | Some rest ↦ Some (tree.LookAhead, rest)
      | None ↦ elim (skip_word (codes "?!") text) [
        | Some rest ↦ Some (tree.LookAheadNeg, rest)
        | None ↦ elim (skip_word (codes "?<=") text) [
          | Some rest ↦ Some (tree.LookBehind, rest)
          | None ↦ elim (skip_word (codes "?<!") text) [
            | Some rest ↦ Some (tree.LookBehindNeg, rest)
            | None ↦ None
          ]
        ]
      ]
    ]

-- a look-around in the one pair of parentheses, or any other pattern
unfoldable pub pattern_condition_at : Flags → Text → Item × Text
pattern_condition_at f text =
    elim (look_at text) [
      | Some l ↦ (item f (Open (IfLook l.0)), l.1)
      | None ↦ (item f (Open IfPattern), text)
    ]

-- a condition by what names a group between `<` and `>` or quotes
abbrev pub named_condition_at : Flags → ℕ → Text → Read Item
named_condition_at f opened text = do
  r ← delimited_at opened naming.Exists text
  rest ← closed_at 41 r.1
  Ok (item f (Open (If r.0)), rest)

-- `<name>)`, `'name')` and the like, or a pattern
unfoldable pub group_condition_at : Flags → ℕ → Text → Read Item
group_condition_at f opened text =
    elim (uncons text) [
      | None ↦ Ok (pattern_condition_at f text)
      | Some p ↦ if p.0 == 60 || p.0 == 39
          then named_condition_at f opened text
          else Ok (pattern_condition_at f text)
    ]

-- the condition behind `(?(`
unfoldable pub condition_at : Flags → ℕ → Text → Read Item
condition_at f opened text =
    elim (skip_word (codes "DEFINE)") text) [
      | Some rest ↦ Ok (around f enclosing.Define, rest)
      | None ↦ elim (condition_number_at text) [
        | Some n ↦ condition_by_group_at f n.0.0 n.0.1 text n.1
        | None ↦ group_condition_at f opened text
      ]
    ]

-- `(?: )`, `(?> )`, `(?= )` and `(?! )`
abbrev pub enclosing_of : ℕ → Option Enclosing
enclosing_of c =
    if c == 58 then Some enclosing.Plain
    else if c == 62 then Some enclosing.Atomic
    else if c == 61 then Some (enclosing.Look look.LookAhead)
    else if c == 33 then Some (enclosing.Look look.LookAheadNeg)
    else None

-- the others; `text` begins with the character, and `after` follows it
unfoldable pub other_question_at : Flags → ℕ → ℕ → Text → Text → Read Item
other_question_at f opened c text after =
    if c == 126 then Ok (absent_at f after)
    else if c == 60 then angle_at f opened after
    else if c == 39 then named_group_at f opened 39 after
    else if c == 80 then python_at f opened after
    else if c == 38 then call_at f naming.Call after
    else if c == 40 then condition_at f opened after
    -- a comment that does not end
    else if c == 35 then Err (record { left = 0; kind = UnclosedOpenParen })
    else if c == 45 then minus_at f opened text after
    else if c == 43 then numbered_call_at f opened text
    else if is_ascii_digit c then numbered_call_at f opened text
    else flags_item_at f text

-- from behind `(?` on
unfoldable pub question_at : Flags → ℕ → Text → Read Item
question_at f opened text =
    elim (uncons text) [
      | None ↦ Err (fault_at UnclosedOpenParen text)
      | Some p ↦ elim (enclosing_of p.0) [
        | Some e ↦ Ok (around f e, p.1)
        | None ↦ other_question_at f opened p.0 text p.1
      ]
    ]

-- from behind an opening parenthesis on, where so many groups were opened
unfoldable pub opening_at : Flags → ℕ → Text → Read Item
opening_at f opened text =
    elim (uncons text) [
      | None ↦ Ok (item f (Open (plain_group f opened)), text)
      | Some p ↦ if p.0 == 63 then question_at f opened p.1
          else if p.0 == 42 then verb_at f p.1
          else Ok (item f (Open (plain_group f opened)), text)
    ]
