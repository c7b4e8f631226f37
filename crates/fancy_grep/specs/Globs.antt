-- Which names a glob matches: what it reads as, token by token, and which characters these match.
use Rattle.std.specs.Prelude.{◌≡◌, ℕ, zero, suc, Bool, true, false, not, ◌&&◌, ◌||◌, ◌==◌, nat_le, if◌then◌else◌, List, [], ◌∷◌, ◌++◌, map, drop, length, Option, Some, None, option_and_then, option_map, slice_index_or, ◌≤◌}
use Rattle.std.specs.List.{list_any}
use Rattle.fancy_grep.specs.declared.globs.Set as code_set
use Rattle.fancy_grep.specs.declared.globs.Token as code
use Rattle.fancy_grep.specs.declared.globs.Token.TheVariants as token

-- the characters in one of the ranges, or those in none; in a path but for `/`
pub record Set : Type 0 where
  pub ranges : List (ℕ × ℕ)
  pub is_negated : Bool
  pub is_path : Bool

pub data Token : Type 0 where
  -- one character of the set
  One : Set → Token
  -- characters of the set, or none
  Any : Set → Token
  -- folders with the `/` after each, or none
  Folders : Token

abbrev pub set_of : code_set.Set → Set
set_of s = record { ranges = s.ranges.items; is_negated = s.is_negated; is_path = s.is_path }

abbrev pub token_of : code.Token → Token
token_of (token.One set) = One (set_of set)
token_of (token.Any set) = Any (set_of set)
token_of token.Folders = Folders

abbrev pub tokens_of : List code.Token → List Token
tokens_of tokens = map token_of tokens

-- ---- what tokens match

abbrev pub is_between : ℕ → ℕ × ℕ → Bool
is_between c range = nat_le range.0 c && nat_le c range.1

abbrev pub is_among : Set → ℕ → Bool
is_among set c = if set.is_negated then not (list_any (is_between c) set.ranges) else list_any (is_between c) set.ranges

abbrev pub is_in : Set → ℕ → Bool
is_in set c = not (set.is_path && c == 47) && is_among set c

-- Whether a token can match this character and then end, or go on: `ends` says whether what follows the token matches what
-- is after the character, and `more` whether the token matches more of it first.
abbrev pub takes : Token → ℕ → (ends more : Bool) → Bool
takes (One set) c ends more = is_in set c && ends
takes (Any set) c ends more = is_in set c && (ends || more)
takes Folders c ends more = (c == 47 && ends) || more

-- the token always matches one character, which may be this one
pub record HasAlone (t : Token) (c : ℕ) (has : Bool) : Type 0 where
  pub set : Set
  pub token : t ≡ One set
  pub same : has ≡ is_in set c

abbrev pub may_be_empty : Token → Bool
may_be_empty (One set) = false
may_be_empty t = true

-- the token matches some characters of a text, and what follows it the rest
abbrev pub matches_some : Token → (List ℕ → Bool) → List ℕ → Bool
matches_some t rest [] = false
matches_some t rest (c ∷ text) = takes t c (rest text) (matches_some t rest text)

-- the token matches some or no characters of a text, and what follows it the rest
abbrev pub matches_first : Token → (List ℕ → Bool) → List ℕ → Bool
matches_first t rest text = matches_some t rest text || (may_be_empty t && rest text)

abbrev pub is_end : List ℕ → Bool
is_end [] = true
is_end (c ∷ text) = false

-- the tokens match all of a text
unfoldable pub matches : List Token → List ℕ → Bool
matches [] text = is_end text
matches (t ∷ ts) text = matches_first t (matches ts) text

-- for each rest of a name, and for its end, whether it matches
pub record IsRow (rest : List ℕ → Bool) (name : List ℕ) (row : List Bool) : Type 0 where
  pub flag : (i : ℕ) → i ≤ length name → slice_index_or row i false ≡ rest (drop i name)

-- ---- what a glob reads as

abbrev pub just : ℕ → Set
just c = record { ranges = (c, c) ∷ []; is_negated = false; is_path = false }

-- all characters, in a path but for `/`
abbrev pub any_in : Bool → Set
any_in is_path = record { ranges = []; is_negated = true; is_path = is_path }

-- a character that begins what does not end: in a path nothing matches it
abbrev pub unended : Bool → ℕ → Set
unended is_path c = if is_path then record { ranges = []; is_negated = false; is_path = false } else just c

-- a set of other characters begins with `!` or `^`
abbrev pub after_negation : List ℕ → List ℕ × Bool
after_negation [] = ([], false)
after_negation (c ∷ text) = if c == 33 || c == 94 then (text, true) else (c ∷ text, false)

-- the first member of a set, and what follows it: a backslash makes the next character an ordinary one
abbrev pub member_by : Bool → ℕ → List ℕ → Option (ℕ × List ℕ)
member_by false c text = Some (c, text)
member_by true c [] = None
member_by true c (d ∷ text) = Some (d, text)

abbrev pub member : List ℕ → Option (ℕ × List ℕ)
member [] = None
member (c ∷ text) = member_by (c == 92) c text

-- where the range from a member on ends, and what follows it: `-` is no member before another one
abbrev pub range_end : ℕ → List ℕ → Option ((ℕ × ℕ) × List ℕ)
range_end low [] = Some ((low, low), [])
range_end low (c ∷ []) = Some ((low, low), c ∷ [])
range_end low (dash ∷ c ∷ text) =
    if dash == 45 && not (c == 93) then option_map (λ high. ((low, high.0), high.1)) (member (c ∷ text))
    else Some ((low, low), dash ∷ c ∷ text)

-- the first range of a set, and what follows it
abbrev pub range : List ℕ → Option ((ℕ × ℕ) × List ℕ)
range text = option_and_then (λ low. range_end low.0 low.1) (member text)

-- The ranges of a set and what follows its end, if it ends: at the first `]` that is not its first member. Each takes a
-- character at least, and so there are no more than characters.
unfoldable pub ranges : ℕ → (is_first : Bool) → List ℕ → Option (List (ℕ × ℕ) × List ℕ)
ranges zero is_first text = None
ranges (suc most) is_first [] = None
ranges (suc most) is_first (c ∷ text) =
    if c == 93 && not is_first then Some ([], text)
    else option_and_then (λ r. option_map (λ rest. (r.0 ∷ rest.0, rest.1)) (ranges most false r.1)) (range (c ∷ text))

abbrev pub bracketed_by : (is_path is_negated : Bool) → List ℕ → Option (List (ℕ × ℕ) × List ℕ) → Token × List ℕ
bracketed_by is_path is_negated text None = (One (unended is_path 91), text)
bracketed_by is_path is_negated text (Some (ranges, rest)) = (One (record { ranges = ranges; is_negated = is_negated; is_path = is_path }), rest)

-- a set after `[`, if it ends
abbrev pub bracketed : Bool → List ℕ → Token × List ℕ
bracketed is_path text =
    let members = after_negation text in bracketed_by is_path members.1 text (ranges (length members.0) true members.0)

-- a backslash makes the next character an ordinary one
abbrev pub escaped : Bool → List ℕ → Token × List ℕ
escaped is_path [] = (One (unended is_path 92), [])
escaped is_path (c ∷ text) = (One (just c), text)

-- what follows the first stars
abbrev pub after_stars : List ℕ → List ℕ
after_stars [] = []
after_stars (c ∷ text) = if c == 42 then after_stars text else c ∷ text

abbrev pub is_starred : List ℕ → Bool
is_starred [] = false
is_starred (c ∷ text) = c == 42

abbrev pub starred_by : (is_double : Bool) → (after text : List ℕ) → Token × List ℕ
starred_by false after text = (Any (any_in true), text)
starred_by true [] text = (Any (any_in false), [])
starred_by true (c ∷ after) text = if c == 47 then (Folders, after) else (Any (any_in true), text)

-- after a `*` where a name begins in a path: `**/` are folders, and `**` at the end is all that is below
abbrev pub starred : List ℕ → Token × List ℕ
starred text = starred_by (is_starred text) (after_stars text) text

-- the first token of a glob, by its first character, and what follows it
abbrev pub first_of : (is_path begins : Bool) → ℕ → List ℕ → Token × List ℕ
first_of is_path begins c text =
    if c == 42 then (if is_path && begins then starred text else (Any (any_in is_path), text))
    else (if c == 63 then (One (any_in is_path), text)
    else (if c == 92 then escaped is_path text
    else (if c == 91 then bracketed is_path text else (One (just c), text))))

-- whether a name begins after a token, which begins with this character
abbrev pub begins_after : ℕ → Token → Bool
begins_after c Folders = true
begins_after c (One set) = c == 47
begins_after c (Any set) = c == 47

-- the tokens of a glob; each takes a character at least, and so there are no more than characters
unfoldable pub read : ℕ → (is_path begins : Bool) → List ℕ → List Token
read zero is_path begins text = []
read (suc most) is_path begins [] = []
read (suc most) is_path begins (c ∷ text) =
    let first = first_of is_path begins c text in
    first.0 ∷ read most is_path (begins_after c first.0) first.1

-- A glob for names may begin in any folder.
abbrev pub glob_of : (is_path : Bool) → List ℕ → List Token
glob_of is_path text = (if is_path then [] else Folders ∷ []) ++ read (length text) is_path true text
