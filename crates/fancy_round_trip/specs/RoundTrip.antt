-- The round trip of patterns: the pattern text of a tree is a pattern that spells this tree.
use Rattle.std.specs.Prelude.{◌≡◌, ◌≤◌, Bool, true, false, ◌||◌, codes, encode_utf8_all}
use Rattle.std.specs.List.{list_any}
use Rattle.std.specs.Str.{bytes_eq}
use Rattle.fancy_meaning.specs.Tree.{Tree, DefineGroup}
use Rattle.fancy_meaning.specs.Nodes.{nodes, group_count}
use Rattle.fancy_meaning.specs.Options.{Analysis}
use Rattle.fancy_meaning.specs.Hard.{is_hard}
use Rattle.fancy_meaning.specs.WellFormed.{most_groups}
use Rattle.fancy_meaning.specs.PatternText.{text_of}
use Rattle.fancy_pattern.specs.declared.options.ParseOptions.{ParseOptions}
use Rattle.fancy_pattern.specs.Texts.{Text}
use Rattle.fancy_tokens.specs.Tokens.{Token, ClassText}
use Rattle.fancy_tokens.specs.Nesting.{most_nested}
use Rattle.fancy_pattern.specs.Spelling.{Spells}
use Rattle.fancy_round_trip.specs.Returning.{Returns, depth_of}

-- the options with which a pattern text is read: no flag is set, and Unicode is as one likes
abbrev pub plain_options : Bool → ParseOptions
plain_options unicode =
    record {
      case_insensitive = false;
      multi_line = false;
      dot_matches_new_line = false;
      ignore_whitespace = false;
      crlf = false;
      swap_greed = false;
      unicode = unicode;
      oniguruma = false;
      ignore_numbered_groups_when_named_groups_exist = false;
    }

-- the characters of the tree's pattern text are a pattern that spells the tree
abbrev pub SpellsItself : Tree → Type 0
SpellsItself e =
    (unicode : Bool) (text : Text) → encode_utf8_all text ≡ text_of e 0 → Spells (plain_options unicode) text e

-- Every tree that may return does, if the groups of its text do not nest too deep and are not too many.
abbrev pub TextSpellsItsTree : Type 0
TextSpellsItsTree = (e : Tree) → Returns e → depth_of e 0 ≤ most_nested → group_count e ≤ most_groups → SpellsItself e

-- ---- what patterns spell

abbrev pub is_definition : Tree → Bool
is_definition (DefineGroup e) = true
is_definition e = false

-- a `\b` or an `\e` of a class, which is handed on by its number in two digits
abbrev pub is_rewritten : Token → Bool
is_rewritten (ClassText text) = bytes_eq text (codes "\\x08") || bytes_eq text (codes "\\x1B")
is_rewritten t = false

-- What a pattern spells is easy, and no part of it is a definition, which has no text. No class has a `\b` or an `\e`,
-- and the groups of the text do not nest too deep.
pub record MayReturn {options : ParseOptions} {text : Text} {e : Tree} (a : Analysis) (s : Spells options text e) :
    Type 0 where
  pub easy : is_hard a e ≡ false
  pub no_definition : list_any is_definition (nodes e) ≡ false
  pub none_rewritten : list_any (λ p. is_rewritten p.token) s.tokens ≡ false
  pub nested : depth_of e 0 ≤ most_nested

-- such a tree that a pattern spells is spelled by its pattern text too
abbrev pub RoundTrip : Type 0
RoundTrip =
    (options : ParseOptions) (pattern : Text) (e : Tree) (s : Spells options pattern e) (a : Analysis) → MayReturn a s →
    SpellsItself e
