-- Where the atoms of a pattern stand, and how many leaves of its tree stand for each.
use Rattle.std.specs.Prelude.{◌≡◌, ◌-◌, ◌==◌, ℕ, Bool, true, false, List, [], ◌∷◌, length, encode_utf8_all, if◌then◌else◌}
use Rattle.fancy_pattern.specs.declared.atom_spans.AtomSpan.{AtomSpan}
use Rattle.fancy_pattern.specs.declared.options.ParseOptions.{ParseOptions}
use Rattle.fancy_pattern.specs.Grammar.{Names}
use Rattle.fancy_pattern.specs.Naming.{named_in, numbers_of}
use Rattle.fancy_pattern.specs.Spelling.{HasTokens}
use Rattle.fancy_pattern.specs.Texts.{Text}
use Rattle.fancy_tokens.specs.Tokens.{Target, Name, Number, Nowhere, Token, Node, Refer, Open, If, ClassOpen, ClassClose, Placed}

abbrev pub one_at_least : ℕ → ℕ
one_at_least count = if count == 0 then 1 else count

-- one for each group that has the name; one where the group is named otherwise, or no group has the name
abbrev pub leaves_of : Names → Target → ℕ
leaves_of names (Name name) = one_at_least (length (numbers_of names (encode_utf8_all name)))
leaves_of names (Number group) = 1
leaves_of names Nowhere = 1

-- how many leaves stand for an atom that begins with this token; none where no atom does
abbrev pub leaf_count : Names → Token → ℕ
leaf_count names (Node e) = 1
leaf_count names (ClassOpen casei) = 1
leaf_count names (Refer r) = leaves_of names r.target
leaf_count names (Open (If r)) = leaves_of names r.target
leaf_count names t = 0

-- how many characters are left where the tokens begin
abbrev pub left_of : List Placed → ℕ
left_of [] = 0
left_of (p ∷ rest) = p.left

abbrev pub is_class_close : Token → Bool
is_class_close ClassClose = true
is_class_close t = false

-- how many are left behind the class that the tokens close
abbrev pub class_end : List Placed → ℕ
class_end [] = 0
class_end (p ∷ rest) = if is_class_close p.token then left_of rest else class_end rest

-- how many are left where an atom ends: a class behind its closing, another where the next token begins
abbrev pub span_end : Token → List Placed → ℕ
span_end (ClassOpen casei) rest = class_end rest
span_end t rest = left_of rest

-- the atoms among the tokens of a pattern with so many characters
abbrev pub spans_from : Names → ℕ → List Placed → List AtomSpan
spans_from names size [] = []
spans_from names size (p ∷ rest) =
    if leaf_count names p.token == 0 then spans_from names size rest
    else record {
      start = size - p.left;
      end = size - span_end p.token rest;
      leaves = leaf_count names p.token;
    } ∷ spans_from names size rest

-- they are the atoms of the pattern
pub record AreAtomSpans (options : ParseOptions) (text : Text) (spans : List AtomSpan) : Type 0 where
  pub ignored : Bool
  pub tokens : List Placed
  pub lexed : HasTokens options text ignored tokens
  pub are : spans ≡ spans_from (named_in tokens) (length text) tokens
