-- Neighbouring nodes that are left to a plain search, as one instruction.
use Rattle.std.specs.Prelude.{ℕ, ◌+◌, Bool, true, false, List, [], ◌∷◌, ◌++◌, length, map, flat_map, Option, Some, None, if◌then◌else◌, encode_utf8_all, option_map}
use Rattle.std.specs.List.{list_any}
use Rattle.fancy_meaning.specs.Tree.{Tree, Trees, none, more, Any, Literal, Delegate, Concat}
use Rattle.fancy_meaning.specs.Nodes.{groups}
use Rattle.fancy_meaning.specs.Chars.{is_class}
use Rattle.fancy_meaning.specs.PatternText.{text_of, joined}
use Rattle.fancy_meaning.specs.Instr.{Instr, Fragment, Codepoint}
use Rattle.fancy_meaning.specs.Code.{Code, nothing, one}

-- all of these after each other, if all are there
abbrev pub all_joined : List (Option (List (ℕ × Bool))) → Option (List (ℕ × Bool))
all_joined [] = Some []
all_joined (None ∷ rest) = None
all_joined (Some cs ∷ rest) = option_map (λ ds. cs ++ ds) (all_joined rest)

-- The characters of a node that is literal, each with whether it is folded: a literal, or a sequence of such nodes.
abbrev mutual
  pub literal_chars : Tree → Option (List (ℕ × Bool))
  literal_chars (Literal c casei) = Some ((c, casei) ∷ [])
  literal_chars (Concat es) = all_joined (each_literal es)
  literal_chars e = None

  pub each_literal : Trees → List (Option (List (ℕ × Bool)))
  each_literal none = []
  each_literal (more e es) = literal_chars e ∷ each_literal es

-- the numbers of the groups of these neighbours, as the first and the one after the last
abbrev pub group_range : List Tree → Option (ℕ × ℕ)
group_range es = go (flat_map groups es)
  where
    go : List (ℕ × Tree) → Option (ℕ × ℕ)
    go [] = None
    go (g ∷ gs) = Some (g.0, g.0 + length (g ∷ gs))

abbrev pub any_instr : Bool → Bool → Instr
any_instr true crlf = Instr.Any
any_instr false true = Instr.AnyNoCRLF
any_instr false false = Instr.AnyNoNL

module _ (unicode : Bool) where
  abbrev pub fragment : List Tree → Fragment
  fragment es = record { nodes = es; unicode = unicode }

  -- the name of neighbours
  abbrev pub pattern_of : List Tree → List ℕ
  pattern_of es = joined [] (map (λ e. text_of e 1) es)

  abbrev pub literal_instr : List (ℕ × Bool) → Instr
  literal_instr cs =
      if list_any (λ c. c.1) cs then Instr.LitCasei cs unicode else Instr.Lit (encode_utf8_all (map (λ c. c.0) cs))

  -- a class that is refused is not written
  abbrev pub class_code : List ℕ → Bool → Code
  class_code inner casei =
      if is_class unicode inner casei then one (Instr.Class (Codepoint inner casei unicode)) else nothing

  -- neighbours without a name need nothing
  abbrev pub delegate_code : List Tree → Code
  delegate_code es = go (pattern_of es)
    where
      go : List ℕ → Code
      go [] = nothing
      go (c ∷ cs) = one (Instr.Delegate (c ∷ cs) (fragment es) (group_range es))

  -- literals, one class, one `Any`, or a delegate
  abbrev pub batch_code : Option (List (ℕ × Bool)) → List Tree → Code
  batch_code (Some cs) es = one (literal_instr cs)
  batch_code None (Delegate inner casei ∷ []) = class_code inner casei
  batch_code None (Any newline crlf ∷ []) = one (any_instr newline crlf)
  batch_code None es = delegate_code es

  abbrev pub batch : List Tree → Code
  batch [] = nothing
  batch (e ∷ es) = batch_code (all_joined (map literal_chars (e ∷ es))) (e ∷ es)
