-- What a pattern spells: its tokens, the tree of all of them, and what comes with it.
use Rattle.std.specs.Prelude.{◌≡◌, ℕ, ◌-◌, Bool, true, false, ◌&&◌, is_some, List, [], length, take, encode_utf8_all}
use Rattle.std.specs.List.{list_any}
use Rattle.fancy_meaning.specs.Tree.{Tree}
use Rattle.fancy_expr.specs.declared.expr.ExprTree.{ExprTree}
use Rattle.fancy_expr.specs.Views.{tree_of}
use Rattle.fancy_tokens.specs.declared.error.Fault.{Fault}
use Rattle.fancy_pattern.specs.declared.error.PatternError.{PatternError}
use Rattle.fancy_pattern.specs.declared.error.PatternError.TheVariants.{Parse, Memory}
use Rattle.fancy_pattern.specs.declared.failure.Failure.{Failure}
use Rattle.fancy_pattern.specs.declared.failure.Failure.TheVariants as failure
use Rattle.fancy_tokens.specs.declared.flags.Flags.{Flags}
use Rattle.fancy_pattern.specs.declared.options.ParseOptions.{ParseOptions}
use Rattle.fancy_pattern.specs.Texts.{Text}
use Rattle.fancy_tokens.specs.Tokens.{Opening, Group, Token, Open, Placed}
use Rattle.fancy_pattern.specs.Lexing.{Lexes, at_start}
use Rattle.fancy_pattern.specs.Naming.{named_in}
use Rattle.fancy_pattern.specs.Grammar.{SpellsAlternatives}
use Rattle.fancy_pattern.specs.Faults.{IsFaultAt}
use Rattle.fancy_pattern.specs.Described.{IsDescribed}

-- the flags with which a pattern begins
abbrev pub flags_of : ParseOptions → Bool → Flags
flags_of o named_only =
    record {
      casei = o.case_insensitive;
      multi_line = o.multi_line;
      dot_all = o.dot_matches_new_line;
      ignore_whitespace = o.ignore_whitespace;
      crlf = o.crlf;
      swap_greed = o.swap_greed;
      unicode = o.unicode;
      oniguruma = o.oniguruma;
      named_only = named_only;
    }

abbrev pub has_name : Opening → Bool
has_name (Group number name) = is_some name
has_name o = false

abbrev pub opens_named : Token → Bool
opens_named (Open o) = has_name o
opens_named t = false

-- plain groups capture nothing where the option says so and a group has a name
abbrev pub ignores : ParseOptions → List Placed → Bool
ignores o ts = o.ignore_numbered_groups_when_named_groups_exist && list_any (λ p. opens_named p.token) ts

-- the tokens of a pattern, and whether plain groups capture nothing
pub data HasTokens (options : ParseOptions) (text : Text) : Bool → List Placed → Type 0 where
  every_group : {ts : List Placed} →
      Lexes (at_start (flags_of options false)) text ts →
      ignores options ts ≡ false →
      HasTokens options text false ts
  named_groups : {every ts : List Placed} →
      Lexes (at_start (flags_of options false)) text every →
      ignores options every ≡ true →
      Lexes (at_start (flags_of options true)) text ts →
      HasTokens options text true ts

-- the tokens, from the first to the last, are alternatives
abbrev pub IsSpelled : List Placed → Tree → Type 0
IsSpelled ts e = SpellsAlternatives (named_in ts) ts [] e

-- a pattern spells a tree
pub record Spells (options : ParseOptions) (text : Text) (e : Tree) : Type 0 where
  pub ignored : Bool
  pub tokens : List Placed
  pub lexed : HasTokens options text ignored tokens
  pub spelled : IsSpelled tokens e

-- a pattern spells a tree, and the rest describes it
pub record IsTreeOf (options : ParseOptions) (text : Text) (t : ExprTree) : Type 0 where
  pub spells : Spells options text (tree_of t.expr)
  pub described : IsDescribed spells.ignored spells.tokens t

-- ---- what has no tree

-- a fault of a pattern, by how many characters begin where it is
pub record HasFault (options : ParseOptions) (text : Text) (f : Fault) : Type 0 where
  pub ignored : Bool
  pub tokens : List Placed
  pub lexed : HasTokens options text ignored tokens
  pub fault : IsFaultAt (named_in tokens) tokens f

abbrev pub PatternFails : ParseOptions → Text → Failure → Type 0
PatternFails options text (failure.Fault f) = HasFault options text f
PatternFails options text failure.Memory = Unit {0}

-- the byte where the last `left` characters of a text begin
abbrev pub byte_at : Text → ℕ → ℕ
byte_at text left = length (encode_utf8_all (take (length text - left) text))

-- why a pattern has no tree: the byte of a fault and its kind, or want of memory
abbrev pub IsError : ParseOptions → Text → PatternError → Type 0
IsError options text (Parse at kind) =
    (left : ℕ) × HasFault options text (record { left = left; kind = kind }) × (at ≡ byte_at text left)
IsError options text Memory = Unit {0}
