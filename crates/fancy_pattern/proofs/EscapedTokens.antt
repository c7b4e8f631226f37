-- A text that is escaped spells its literals.
use Rattle.std.proofs.Common.{◌≡◌, ℕ, ◌+◌, Bool, true, false, not, ◌&&◌, ◌||◌, List, [], ◌∷◌, ◌++◌, filter, length, Option, Some, None, Ok, Err, if◌then◌else◌, ◌==◌, nat_lt, refl, sym, ap, ◌∙◌, subst, arith}
use Rattle.std.specs.List.{list_any}
use Rattle.std.proofs.lemmas.Bool.{true≢false}
use Rattle.std.proofs.lemmas.Bool.Decides.{eqb_tells}
use mathlib.Core.Logic.{⊎_elim}
use Rattle.fancy_meaning.specs.Tree as tree
use Rattle.fancy_meaning.specs.Tree.{Tree}
use Rattle.fancy_meaning.specs.WellFormed.{most_groups}
use Rattle.fancy_tokens.specs.declared.error.ErrorKind.TheVariants.{GeneralParseError}
use Rattle.fancy_tokens.specs.declared.flags.Flags.{Flags}
use Rattle.fancy_pattern.specs.Texts.{Text, fault_at, ◌>>=◌, gap_at, blank_at, comment_end, is_blank}
use Rattle.fancy_tokens.specs.Tokens.{item, Placed, placed}
use Rattle.fancy_pattern.specs.Escapes.{escape_at, other_escape_at}
use Rattle.fancy_pattern.specs.Groups.{opening_at}
use Rattle.fancy_pattern.specs.Items.{Found, found_at, outside_at, item_at, brace_at, sign_token, literal, class_of}
use Rattle.fancy_tokens.specs.Nesting.{opened_by}
use Rattle.fancy_pattern.specs.Lexing.{at_start, Lexes, ended, token}
use Rattle.fancy_pattern.specs.Grammar.{Names, SpellsAtom, SpellsPiece, SpellsPieces, SpellsBranch, SpellsBars, SpellsAlternatives, Takes, node_of, quantifier, is_at, is_empty, joined, branch_of}
use Rattle.fancy_pattern.specs.Grammar as rule
use Rattle.fancy_pattern.specs.Naming.{named_in}
use Rattle.fancy_pattern.specs.Spelling.{every_group, flags_of, opens_named}
use Rattle.fancy_pattern.specs.Escape.{specials, is_special, escaped, literals, SpellsText}

-- ---- one of a few characters, or none of them

abbrev pub Each : (ℕ → Type 0) → List ℕ → Type 0
Each P [] = Unit {0}
Each P (k ∷ ks) = P k × Each P ks

pub among : (P : ℕ → Type 0) (c : ℕ) (ks : List ℕ) → list_any (λ k. c == k) ks ≡ true → Each P ks → P c
among P c [] e h = absurd (true≢false (sym e))
among P c (k ∷ ks) e h =
    ⊎_elim (λ t. subst P (sym t.1) h.0) (λ t. among P c ks (subst (λ b. (b || list_any (λ k. c == k) ks) ≡ true) t.0 e) h.1) (eqb_tells c k)

pub none_among : (c : ℕ) (ks : List ℕ) → list_any (λ k. c == k) ks ≡ false → Each (λ k. (c == k) ≡ false) ks
none_among c [] e = tt
none_among c (k ∷ ks) e =
    ⊎_elim (λ t. absurd (true≢false (subst (λ b. (b || list_any (λ k. c == k) ks) ≡ false) t.0 e)))
    (λ t. (t.0, none_among c ks (subst (λ b. (b || list_any (λ k. c == k) ks) ≡ false) t.0 e))) (eqb_tells c k)

pub not_if : {A : Type 0} (b : Bool) (x y : A) → b ≡ false → (if b then x else y) ≡ y
not_if true x y e = absurd (true≢false e)
not_if false x y e = refl

pub neither : (a b : Bool) → a ≡ false → b ≡ false → (a || b) ≡ false
neither true b e h = absurd (true≢false e)
neither false b e h = h

-- ---- what is found at the front

abbrev pub found_literal : Flags → ℕ → Found
found_literal f c = record { token = literal f c; behind = (at_start f).now }

abbrev pub IsFound : Flags → ℕ → Type 0
IsFound f k = (rest : Text) → found_at (at_start f).now (92 ∷ k ∷ rest) ≡ Ok (found_literal f k, rest)

pub found_escaped : (f : Flags) → Each (IsFound f) specials
unfolding found_at outside_at item_at escape_at other_escape_at
found_escaped f =
    (λ rest. refl, (λ rest. refl, (λ rest. refl, (λ rest. refl, (λ rest. refl, (λ rest. refl, (λ rest. refl, (λ rest. refl, (λ rest. refl, (λ rest. refl, (λ rest. refl, (λ rest. refl, (λ rest. refl, (λ rest. refl, (λ rest. refl, (λ rest. refl, (λ rest. refl, (λ rest. refl, (λ rest. refl, tt)))))))))))))))))))

abbrev pub IsPlain : ℕ → Type 0
IsPlain c = Each (λ k. (c == k) ≡ false) specials

-- \ . + * ? ( ) | [ ] { } ^ $ # tab LF CR space
pub no_sign : (f : Flags) (c : ℕ) → IsPlain c → sign_token f c ≡ None
no_sign f c h =
    not_if (c == 46) _ _ h.1.0
    ∙ not_if (c == 94) _ _ h.1.1.1.1.1.1.1.1.1.1.1.1.0
    ∙ not_if (c == 36) _ _ h.1.1.1.1.1.1.1.1.1.1.1.1.1.0
    ∙ not_if (c == 124) _ _ h.1.1.1.1.1.1.1.0
    ∙ not_if (c == 41) _ _ h.1.1.1.1.1.1.0
    ∙ not_if (c == 42) _ _ h.1.1.1.0
    ∙ not_if (c == 43) _ _ h.1.1.0
    ∙ not_if (c == 63) _ _ h.1.1.1.1.0
    ∙ not_if (c == 91) _ _ h.1.1.1.1.1.1.1.1.0

pub item_plain : (f : Flags) (c : ℕ) (rest : Text) → IsPlain c → item_at f 0 (c ∷ rest) ≡ Ok (item f (literal f c), rest)
unfolding item_at
item_plain f c rest h =
    ap
    (λ o. elim o [
      | None ↦ if c == 40 then opening_at f 0 rest
          else if c == 92 then (escape_at f 0 rest >>= λ t. Ok (item f t.0, t.1))
          else if c == 123 then (brace_at f (c ∷ rest) rest >>= λ t. Ok (item f t.0, t.1))
          else Ok (item f (literal f c), rest)
      | Some t ↦ Ok (item f t, rest)
    ])
    (no_sign f c h)
    ∙ not_if (c == 40) _ _ h.1.1.1.1.1.0
    ∙ not_if (c == 92) _ _ h.0
    ∙ not_if (c == 123) _ _ h.1.1.1.1.1.1.1.1.1.1.0

pub found_plain : (f : Flags) (c : ℕ) (rest : Text) → IsPlain c → found_at (at_start f).now (c ∷ rest) ≡ Ok (found_literal f c, rest)
unfolding found_at outside_at
found_plain f c rest h =
    ap
    (λ r. r
    >>= λ i. if nat_lt most_groups (0 + opened_by i.0.token) then Err (fault_at GeneralParseError (c ∷ rest))
    else Ok (
      record {
        token = i.0.token;
        behind = record { flags = i.0.flags; opened = 0 + opened_by i.0.token; class = class_of i.0.token };
      },
      i.1,
    ))
    (item_plain f c rest h)

-- ---- no gap is at the front

pub no_gap_escaped : (x : Bool) (rest : Text) → gap_at x (92 ∷ rest) ≡ None
no_gap_escaped true rest = refl
no_gap_escaped false rest = refl

pub no_blank : (x : Bool) (c : ℕ) (rest : Text) → IsPlain c → blank_at x (c ∷ rest) ≡ None
no_blank false c rest h = refl
no_blank true c rest h =
    not_if (is_blank c) _ _ (neither _ _ (neither _ _ (neither _ _ h.1.1.1.1.1.1.1.1.1.1.1.1.1.1.1.1.1.1.0 h.1.1.1.1.1.1.1.1.1.1.1.1.1.1.1.0) h.1.1.1.1.1.1.1.1.1.1.1.1.1.1.1.1.0) h.1.1.1.1.1.1.1.1.1.1.1.1.1.1.1.1.1.0) ∙ not_if (c == 35) _ _ h.1.1.1.1.1.1.1.1.1.1.1.1.1.1.0

pub no_gap_plain : (x : Bool) (c : ℕ) (rest : Text) → IsPlain c → gap_at x (c ∷ rest) ≡ None
no_gap_plain x c rest h =
    ap {A = Option Text} (λ o. elim o [ Some after ↦ comment_end false after | None ↦ blank_at x (c ∷ rest) ]) (not_if (c == 40) _ _ h.1.1.1.1.1.0) ∙ no_blank x c rest h

-- ---- the tokens

abbrev pub literal_tokens : Flags → List ℕ → List Placed
literal_tokens f [] = []
literal_tokens f (c ∷ cs) = placed (length (escaped (c ∷ cs))) (literal f c) ∷ literal_tokens f cs

pub one_token : (f : Flags) (c : ℕ) (rest : Text) (ts : List Placed) (b : Bool) → is_special c ≡ b → Lexes (at_start f) rest ts →
    Lexes (at_start f) ((if b then 92 ∷ c ∷ [] else c ∷ []) ++ rest) (placed (length ((if b then 92 ∷ c ∷ [] else c ∷ []) ++ rest)) (literal f c) ∷ ts)
one_token f c rest ts true e more =
    token {found = found_literal f c} {next = at_start f}
    (record { some = λ _. omega (arith); no_gap = λ _. no_gap_escaped f.ignore_whitespace (c ∷ rest) })
    (among (IsFound f) c specials e (found_escaped f) rest) (refl, refl) more
one_token f c rest ts false e more =
    let h = none_among c specials e in
    token {found = found_literal f c} {next = at_start f}
    (record { some = λ _. omega (arith); no_gap = λ _. no_gap_plain f.ignore_whitespace c rest h })
    (found_plain f c rest h) (refl, refl) more

pub lexes_literals : (f : Flags) (cs : List ℕ) → Lexes (at_start f) (escaped cs) (literal_tokens f cs)
lexes_literals f [] = ended refl
lexes_literals f (c ∷ cs) = one_token f c (escaped cs) (literal_tokens f cs) (is_special c) refl (lexes_literals f cs)

-- ---- the tree

pub no_quantifier : (f : Flags) (cs : List ℕ) → is_at quantifier (literal_tokens f cs) ≡ false
no_quantifier f [] = refl
no_quantifier f (c ∷ cs) = refl

pub pieces_of : (names : Names) (f : Flags) (cs : List ℕ) → SpellsPieces names (literal_tokens f cs) [] (literals f.casei cs)
pieces_of names f [] = rule.no_piece refl
pieces_of names f (c ∷ cs) =
    rule.piece refl
    (rule.plain
    (rule.node (record { first = placed (length (escaped (c ∷ cs))) (literal f c); tokens = refl; is = refl }))
    (no_quantifier f cs)) (pieces_of names f cs)

pub all_stay : (casei : Bool) (cs : List ℕ) → filter (λ e. not (is_empty e)) (literals casei cs) ≡ literals casei cs
all_stay casei [] = refl
all_stay casei (c ∷ cs) = ap (λ l. tree.Literal c casei ∷ l) (all_stay casei cs)

pub none_named : (f : Flags) (cs : List ℕ) → list_any (λ p. opens_named p.token) (literal_tokens f cs) ≡ false
none_named f [] = refl
none_named f (c ∷ cs) = none_named f cs

pub not_both : (a b : Bool) → b ≡ false → (a && b) ≡ false
not_both true b e = e
not_both false b e = refl

pub spells_text : (cs : List ℕ) → SpellsText (escaped cs) cs
spells_text cs o =
    let f = flags_of o false in
    let ts = literal_tokens f cs in record {
      ignored = false;
      tokens = ts;
      lexed = every_group (lexes_literals f cs) (not_both o.ignore_numbered_groups_when_named_groups_exist _ (none_named f cs));
      spelled = subst (SpellsAlternatives (named_in ts) ts []) (ap joined (all_stay f.casei cs))
          (rule.branches (rule.branch (pieces_of (named_in ts) f cs)) (rule.no_bar refl));
    }
