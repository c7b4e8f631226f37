-- Which nodes are hard: those that are not left to a plain search.
use Rattle.std.specs.Prelude.{Bool, true, false, ◌&&◌, ◌||◌, not, ◌==◌}
use Rattle.fancy_meaning.specs.Tree.{Tree, Trees, none, more, Empty, Any, Assert, Literal, Delegate, Concat, Alt, Group, Repeat, DefineGroup, Assertion, StartText, EndText, EndTextIgnoreTrailingNewlines, StartLine, StartLineOniguruma, EndLine, Within, NoLook, InLookAhead, InLookBehind}
use Rattle.fancy_meaning.specs.Nodes.{is_read}
use Rattle.fancy_meaning.specs.Options.{Analysis}
use Rattle.fancy_meaning.specs.Sizes.{size}

abbrev pub is_outside : Within → Bool
is_outside NoLook = true
is_outside InLookAhead = false
is_outside InLookBehind = false

abbrev pub is_in_behind : Within → Bool
is_in_behind NoLook = false
is_in_behind InLookAhead = false
is_in_behind InLookBehind = true

module _ (a : Analysis) where
  abbrev pub is_hard_assertion : Within → Assertion → Bool
  is_hard_assertion w StartText = false
  is_hard_assertion w EndText = a.end_text || (a.find_not_empty && is_outside w)
  is_hard_assertion w (EndTextIgnoreTrailingNewlines crlf) = true
  is_hard_assertion w (StartLine crlf) = false
  is_hard_assertion w (StartLineOniguruma crlf) = is_outside w
  is_hard_assertion w (EndLine crlf) = false
  is_hard_assertion w word_assertion = is_in_behind w

  -- it does not always take as much, and the longest match is asked for, or one that takes something where it may take
  -- nothing
  abbrev pub is_hard_by_size : Tree → Bool
  is_hard_by_size e =
      let s = size a.tree e in
      (a.leftmost_longest || (a.find_not_empty && s.least == 0)) && not s.is_const

  abbrev mutual
    pub is_hard : Tree → Bool
    is_hard Empty = false
    is_hard (Any newline crlf) = false
    is_hard (Literal c casei) = false
    is_hard (Delegate inner casei) = false
    is_hard (DefineGroup e) = false
    is_hard (Assert w assertion) = is_hard_assertion w assertion
    is_hard (Concat es) = any_hard es || is_hard_by_size (Concat es)
    is_hard (Alt es) = any_hard es || is_hard_by_size (Alt es)
    is_hard (Group g e) = is_read a.tree g || is_hard e || is_hard_by_size (Group g e)
    is_hard (Repeat lo hi greedy e) = is_hard e || is_hard_by_size (Repeat lo hi greedy e)
    is_hard e = true

    pub any_hard : Trees → Bool
    any_hard none = false
    any_hard (more e es) = is_hard e || any_hard es

  -- under the end-of-text option the whole tree is hard where it may take nothing
  abbrev pub is_root_hard : Bool
  is_root_hard = is_hard a.tree || (a.end_text && (size a.tree a.tree).least == 0)
