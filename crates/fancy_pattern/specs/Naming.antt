-- The groups with names, and the numbers of each name.
use Rattle.std.specs.Prelude.{ℕ, List, [], ◌∷◌, ◌++◌, map, filter, encode_utf8_all, string_bytes, String, Vec, Option, Some, None}
use Rattle.std.specs.BTreeMap.{BTreeMap, get_by_text}
use Rattle.std.specs.Option.{option_map}
use Rattle.std.specs.Str.{bytes_eq}
use Rattle.std.specs.declared.alloc.Global.{Global}
use Rattle.fancy_tokens.specs.Tokens.{Opening, Group, Token, Open, Placed}

-- the name of a group and its number
abbrev pub named_opening : Opening → Option (List ℕ × ℕ)
named_opening (Group number name) = option_map (λ n. (n, number)) name
named_opening o = None

abbrev pub named_by : Token → Option (List ℕ × ℕ)
named_by (Open o) = named_opening o
named_by t = None

-- the group with a name that a token opens, by the bytes of its name and its number
abbrev pub named_of : Token → List (List ℕ × ℕ)
named_of t = elim (named_by t) [ Some p ↦ (encode_utf8_all p.0, p.1) ∷ [] | None ↦ [] ]

-- the groups with names among tokens, in the order in which they open
abbrev pub named_in : List Placed → List (List ℕ × ℕ)
named_in [] = []
named_in (p ∷ ps) = named_of p.token ++ named_in ps

-- the numbers of the groups with this name
abbrev pub numbers_of : List (List ℕ × ℕ) → List ℕ → List ℕ
numbers_of pairs name = map (λ p. p.1) (filter (λ p. bytes_eq name p.0) pairs)

-- the numbers, if there is one
abbrev pub if_any : List ℕ → Option (List ℕ)
if_any [] = None
if_any (n ∷ ns) = Some (n ∷ ns)

-- ---- what clauses see of names

abbrev pub pairs_in : Vec (String Global × ℕ) Global → List (List ℕ × ℕ)
pairs_in pairs = map (λ p. (string_bytes p.0, p.1)) pairs.items

-- the numbers of this name, if it is in the map
abbrev pub numbers_in : BTreeMap (String Global) (Vec ℕ Global) → List ℕ → Option (List ℕ)
numbers_in m name = option_map (λ (groups : Vec ℕ Global). groups.items) (get_by_text m name)
