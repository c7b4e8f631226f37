-- The groups with names, token by token, and the bytes of a name, character by character.
use Rattle.std.proofs.Common.{◌≡◌, ℕ, ◌+◌, ◌<◌, List, [], ◌∷◌, ◌++◌, length, take, map, filter, cond, Bool, true, false, ◌||◌, Option, Some, None, is_some, String, Vec, string_bytes, get_or, encode_utf8, encode_utf8_all, refl, sym, ap, ◌∙◌, append-nil, append_assoc}
use Rattle.std.proofs.lemmas.List.{take_more, map-append}
use Rattle.std.proofs.lemmas.Str.{encodes-append}
use Rattle.std.specs.List.{list_any}
use Rattle.std.proofs.lemmas.Bool.{true≢false}
use Rattle.std.proofs.lemmas.Option.{none-some, same_Some}
use Rattle.std.specs.BTreeMap.{BTreeMap, get_by_text}
use Rattle.std.specs.Option.{option_map, option_map_or}
use Rattle.std.specs.Str.{bytes_eq}
use Rattle.std.specs.declared.alloc.Global.{Global}
use Rattle.fancy_tokens.specs.declared.tokens.Placed.{Placed as Code}
use Rattle.fancy_tokens.specs.Tokens.{Opening, Around, Group, AbsentBar, If, IfPattern, IfLook, Token, Node, Refer, FlagsItem, Open, Bar, Close, Quantified, ClassOpen, ClassText, ClassClose, Broken, Placed}
use Rattle.fancy_pattern.specs.Spelling.{has_name, opens_named}
use Rattle.fancy_pattern.specs.Naming.{named_opening, named_of, named_in, if_any, numbers_of, numbers_in}
use Rattle.fancy_tokens.specs.PatternViews.{placed_of}

-- one more character
pub one_char_more : (cs : List ℕ) (i c : ℕ) (old new : List ℕ) → i < length cs → c ≡ get_or cs i c → old ≡ encode_utf8_all (take i cs) →
    new ≡ old ++ encode_utf8 c → new ≡ encode_utf8_all (take (i + 1) cs)
one_char_more cs i c old new lt at before is =
    is
    ∙ ap (λ l. l ++ encode_utf8 c) before
    ∙ sym (encodes-append (take i cs) (c ∷ []) ∙ ap (λ l. encode_utf8_all (take i cs) ++ l) (append-nil (encode_utf8 c)))
    ∙ ap encode_utf8_all (ap (λ d. take i cs ++ d ∷ []) at ∙ sym (take_more cs i c lt))

named_in-append : (ps qs : List Placed) → named_in (ps ++ qs) ≡ named_in ps ++ named_in qs
named_in-append [] qs = refl
named_in-append (p ∷ ps) qs =
    ap (λ l. named_of p.token ++ l) (named_in-append ps qs) ∙ sym (append_assoc (named_of p.token) (named_in ps) (named_in qs))

-- one more token
pub one_token_more : (ts : List Code) (i : ℕ) (d : Code) (old new : List (List ℕ × ℕ)) → i < length ts → old ≡ named_in (map placed_of (take i ts)) →
    new ≡ old ++ named_of (placed_of (get_or ts i d)).token → new ≡ named_in (map placed_of (take (i + 1) ts))
one_token_more ts i d old new lt before is =
    let t = get_or ts i d in
    is
    ∙ ap (λ l. l ++ named_of (placed_of t).token) before
    ∙ ap (λ l. named_in (map placed_of (take i ts)) ++ l) (sym (append-nil (named_of (placed_of t).token)))
    ∙ sym (named_in-append (map placed_of (take i ts)) (placed_of t ∷ []))
    ∙ ap named_in (sym (map-append placed_of (take i ts) (t ∷ [])))
    ∙ ap (λ l. named_in (map placed_of l)) (sym (take_more ts i d lt))

-- where no token opens a group with a name there is none
pub unnamed : (ps : List Placed) → list_any (λ p. opens_named p.token) ps ≡ false → named_in ps ≡ []
unnamed [] h = refl
unnamed (p ∷ ps) h =
    let parts = neither (opens_named p.token) (list_any (λ p. opens_named p.token) ps) h in
    ap (λ l. l ++ named_in ps) (none_opened p.token parts.0) ∙ unnamed ps parts.1
  where
    neither : (a b : Bool) → (a || b) ≡ false → (a ≡ false) × (b ≡ false)
    neither false false h = (refl, refl)
    neither false true h = absurd (true≢false h)
    neither true b h = absurd (true≢false h)

    without_name : (o : Opening) → has_name o ≡ false → named_opening o ≡ None
    without_name (Group number None) h = refl
    without_name (Group number (Some name)) h = absurd (true≢false h)
    without_name (Around e) h = refl
    without_name AbsentBar h = refl
    without_name (If r) h = refl
    without_name IfPattern h = refl
    without_name (IfLook l) h = refl

    none_opened : (t : Token) → opens_named t ≡ false → named_of t ≡ []
    none_opened (Open o) h = ap (λ n. elim n [ Some p ↦ (encode_utf8_all p.0, p.1) ∷ [] | None ↦ [] ]) (without_name o h)
    none_opened (Node e) h = refl
    none_opened (Refer r) h = refl
    none_opened FlagsItem h = refl
    none_opened Bar h = refl
    none_opened Close h = refl
    none_opened (Quantified q greedy) h = refl
    none_opened (ClassOpen casei) h = refl
    none_opened (ClassText text) h = refl
    none_opened ClassClose h = refl
    none_opened (Broken kind) h = refl

-- names as texts and as their bytes
pub numbers_by_text : (pairs : List (String Global × ℕ)) (name : List ℕ) →
    map (λ p. p.1) (filter (λ p. bytes_eq name (string_bytes p.0)) pairs) ≡ numbers_of (map (λ p. (string_bytes p.0, p.1)) pairs) name
numbers_by_text [] name = refl
numbers_by_text (p ∷ ps) name =
    elim (bytes_eq name (string_bytes p.0)) as (λ b.
    map (λ (q : String Global × ℕ). q.1) (cond b (p ∷ filter (λ q. bytes_eq name (string_bytes q.0)) ps) (filter (λ q. bytes_eq name (string_bytes q.0)) ps))
    ≡ map (λ (q : List ℕ × ℕ). q.1)
    (cond b ((string_bytes p.0, p.1) ∷ filter (λ q. bytes_eq name q.0) (map (λ q. (string_bytes q.0, q.1)) ps))
    (filter (λ q. bytes_eq name q.0) (map (λ q. (string_bytes q.0, q.1)) ps)))) [
      | true ↦ ap (λ l. p.1 ∷ l) (numbers_by_text ps name)
      | false ↦ numbers_by_text ps name
    ]

-- a name with a number has numbers
some_numbers : (pairs : List (String Global × ℕ)) (name : List ℕ) → list_any (λ p. bytes_eq name (string_bytes p.0)) pairs ≡ true →
    Some (numbers_of (map (λ p. (string_bytes p.0, p.1)) pairs) name) ≡ if_any (numbers_of (map (λ p. (string_bytes p.0, p.1)) pairs) name)
some_numbers [] name = λ some. absurd (true≢false (sym some))
some_numbers (p ∷ ps) name =
    elim (bytes_eq name (string_bytes p.0)) as (λ b.
    (b || list_any (λ (q : String Global × ℕ). bytes_eq name (string_bytes q.0)) ps) ≡ true →
    Some (map (λ (q : List ℕ × ℕ). q.1)
    (cond b ((string_bytes p.0, p.1) ∷ filter (λ q. bytes_eq name q.0) (map (λ q. (string_bytes q.0, q.1)) ps))
    (filter (λ q. bytes_eq name q.0) (map (λ q. (string_bytes q.0, q.1)) ps))))
    ≡ if_any (map (λ (q : List ℕ × ℕ). q.1)
    (cond b ((string_bytes p.0, p.1) ∷ filter (λ q. bytes_eq name q.0) (map (λ q. (string_bytes q.0, q.1)) ps))
    (filter (λ q. bytes_eq name q.0) (map (λ q. (string_bytes q.0, q.1)) ps))))) [
      | true ↦ λ some. refl
      | false ↦ some_numbers ps name
    ]

-- an entry that is there where a name has a number, and has its numbers
pub numbers_in_entry : (o : Option (Vec ℕ Global)) (pairs : List (String Global × ℕ)) (name : List ℕ) →
    option_map_or (λ g. g.items) o [] ≡ map (λ p. p.1) (filter (λ p. bytes_eq name (string_bytes p.0)) pairs) →
    is_some o ≡ list_any (λ p. bytes_eq name (string_bytes p.0)) pairs →
    option_map (λ g. g.items) o ≡ if_any (numbers_of (map (λ p. (string_bytes p.0, p.1)) pairs) name)
numbers_in_entry None pairs name are there = ap if_any (are ∙ numbers_by_text pairs name)
numbers_in_entry (Some v) pairs name are there =
    ap Some (are ∙ numbers_by_text pairs name) ∙ some_numbers pairs name (sym there)

-- what a look-up finds
pub found_numbers : (m : BTreeMap (String Global) (Vec ℕ Global)) (q name items want : List ℕ) (v : Vec ℕ Global) → get_by_text m q ≡ Some v → q ≡ name →
    items ≡ v.items → numbers_in m name ≡ if_any want → items ≡ want
found_numbers m q name items want v found same are agrees =
    are ∙ is_all want (sym (ap (option_map (λ (g : Vec ℕ Global). g.items)) found) ∙ ap (numbers_in m) same ∙ agrees)
  where
    is_all : {ns : List ℕ} (want : List ℕ) → Some ns ≡ if_any want → ns ≡ want
    is_all [] is = absurd (none-some _ (sym is))
    is_all (n ∷ ns) is = same_Some _ _ is

pub found_none : (m : BTreeMap (String Global) (Vec ℕ Global)) (q name want : List ℕ) → get_by_text m q ≡ None → q ≡ name →
    numbers_in m name ≡ if_any want → [] ≡ want
found_none m q name want found same agrees =
    is_empty want (sym (ap (option_map (λ (g : Vec ℕ Global). g.items)) found) ∙ ap (numbers_in m) same ∙ agrees)
  where
    is_empty : (want : List ℕ) → None ≡ if_any want → [] ≡ want
    is_empty [] is = refl
    is_empty (n ∷ ns) is = absurd (none-some _ is)
