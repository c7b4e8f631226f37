-- Easy nodes whose pattern text is empty take nothing: they stay.
use Rattle.std.proofs.Common.{◌≡◌, ℕ, suc, Bool, true, false, ◌&&◌, ◌==◌, nat_lt, if◌then◌else◌, List, [], ◌∷◌, ◌++◌, length, arith, map, flat_map, Option, Some, None, encode_utf8, codes, decimal, ltb-false, refl, ap, ◌∙◌, append-nil}
use Rattle.fancy_meaning.specs.Tree.{Tree, Trees, none, more, Empty, KeepOut, ContinueFromPreviousMatchEnd, AbsentClear, Any, Assert, GeneralNewline, Literal, LiteralBytes, Delegate, Concat, Alt, Group, LookAround, Repeat, Backref, BackrefWithLevel, BackrefExists, AtomicGroup, DefineGroup, AbsentRepeater, AbsentStopper, AbsentExpression, Control, Conditional, SubroutineCall, AstNode, Assertion, StartText, EndText, EndTextIgnoreTrailingNewlines, StartLine, StartLineOniguruma, EndLine, LeftWordBoundary, RightWordBoundary, LeftWordHalfBoundary, RightWordHalfBoundary, WordBoundary, NotWordBoundary}
use Rattle.fancy_meaning.specs.MatchState.{MatchState, Ways, in_order}
use Rattle.fancy_laws.proofs.Every.{Every, no_item, item}
use Rattle.fancy_meaning.specs.Ways.{Setting, ways_with, each_ways}
use Rattle.fancy_meaning.specs.Options.{Analysis}
use Rattle.fancy_meaning.specs.PatternText.{Text, text_of, each_text, joined, assertion_text, bounds_text, any_text, escaped, wrapped, wrapped_if}
use Rattle.fancy_meaning.specs.CompileRefusals.{IsWritten, IsAmong, here, there, part}
use Rattle.std.proofs.lemmas.Str.{length-encode, len_utf8_bounds}
use Rattle.regex_syntax.specs.Reading.{◌∈◌}
use Rattle.fancy_meaning.specs.WellFormed.{IsFine}
use Rattle.fancy_delegation.proofs.EasyNodes.{IsEasy, AllEasy, easy_concat, easy_each}

-- ---- neighbours without a name

pub front_none : {A : Type 0} (xs ys : List A) → xs ++ ys ≡ [] → xs ≡ []
front_none [] ys e = refl
front_none (x ∷ xs) ys e = cc

back_none : {A : Type 0} (xs ys : List A) → xs ++ ys ≡ [] → ys ≡ []
back_none [] ys e = e
back_none (x ∷ xs) ys e = cc

-- a text in brackets is some text
pub wrapped_some : (v : Bool) (t : Text) → wrapped_if v "(?:" t ≡ [] → (v ≡ false) × (t ≡ [])
wrapped_some true t e = cc
wrapped_some false t e = (refl, e)

pub group_some : (t : Text) → wrapped "(" t ")" ≡ [] → ⊥
group_some t e = cc

assertion_some : (a : Assertion) → assertion_text a ≡ [] → ⊥
assertion_some StartText e = cc
assertion_some EndText e = cc
assertion_some (EndTextIgnoreTrailingNewlines crlf) e = cc
assertion_some (StartLine true) e = cc
assertion_some (StartLine false) e = cc
assertion_some (StartLineOniguruma true) e = cc
assertion_some (StartLineOniguruma false) e = cc
assertion_some (EndLine true) e = cc
assertion_some (EndLine false) e = cc
assertion_some LeftWordBoundary e = cc
assertion_some RightWordBoundary e = cc
assertion_some LeftWordHalfBoundary e = cc
assertion_some RightWordHalfBoundary e = cc
assertion_some WordBoundary e = cc
assertion_some NotWordBoundary e = cc

any_some : (newline crlf : Bool) → any_text newline crlf ≡ [] → ⊥
any_some true crlf e = cc
any_some false true e = cc
any_some false false e = cc

bounds_some : (lo : ℕ) (hi : Option ℕ) → bounds_text lo hi ≡ [] → ⊥
bounds_some lo None e = here (lo == 0) (lo == 1) e
  where
    here : (u v : Bool) → (if u then codes "*" else (if v then codes "+" else wrapped "{" (decimal lo) ",}")) ≡ [] → ⊥
    here true v q = cc
    here false true q = cc
    here false false q = cc
bounds_some lo (Some hi) e = here (lo == hi) (lo == 0 && hi == 1) e
  where
    here : (u v : Bool) →
        (if u then wrapped "{" (decimal lo) "}" else (if v then codes "?" else wrapped "{" (decimal lo ++ codes "," ++ decimal hi) "}")) ≡ [] →
        ⊥
    here true v q = cc
    here false true q = cc
    here false false q = cc

char_some : (c : ℕ) → encode_utf8 c ≡ [] → ⊥
char_some c e = let some = len_utf8_bounds c in let none' = ap length e in omega (arith, some, none', length-encode c)

escaped_some : (c : ℕ) → escaped c ≡ [] → ⊥
escaped_some c e = here (c ∈ "\\.+*?()|[]{}^$#") e
  where
    here : (v : Bool) → (if v then 0x5C ∷ encode_utf8 c else encode_utf8 c) ≡ [] → ⊥
    here true q = cc
    here false q = char_some c q

literal_some : (c : ℕ) (casei : Bool) → wrapped_if casei "(?i:" (escaped c) ≡ [] → ⊥
literal_some c true e = cc
literal_some c false e = escaped_some c e

class_some : (inner : List ℕ) (casei : Bool) → IsFine (Delegate inner casei) → wrapped_if casei "(?i:" inner ≡ [] → ⊥
class_some [] casei fine e = fine
class_some (c ∷ cs) true fine e = cc
class_some (c ∷ cs) false fine e = cc

-- of neighbours without a text, none has one
pub each_none : (t : Text) (ts : List Text) → joined [] (t ∷ ts) ≡ [] → (t ≡ []) × (joined [] ts ≡ [])
each_none t [] e = (e, refl)
each_none t (u ∷ ts) e = (front_none t (joined [] (u ∷ ts)) e, back_none t (joined [] (u ∷ ts)) e)

module _ (q : Setting) (call : ℕ → Ways) (a : Analysis) (whole : Tree) (fine : (d : Tree) → IsWritten whole d → IsFine d) where
  abbrev Stays : Ways → Type 0
  Stays f = (s : MatchState) → f s ≡ s ∷ []

  stays_next : (f g : Ways) → Stays f → Stays g → Stays (λ s. flat_map g (f s))
  stays_next f g h k s = ap (flat_map g) (h s) ∙ append-nil (g s) ∙ k s

  mutual
    pub nameless_stays : (e : Tree) (n : ℕ) → IsWritten whole e → IsEasy a e → text_of e (suc n) ≡ [] →
        Stays (ways_with q call e)
    nameless_stays Empty n wr h e s = refl
    nameless_stays (DefineGroup d) n wr h e s = refl
    nameless_stays (Any newline crlf) n wr h e s = absurd (any_some newline crlf e)
    nameless_stays (Literal c casei) n wr h e s = absurd (literal_some c casei e)
    nameless_stays (Delegate inner casei) n wr h e s = absurd (class_some inner casei (fine (Delegate inner casei) wr) e)
    nameless_stays (Assert w x) n wr h e s = absurd (assertion_some x e)
    nameless_stays (Concat es) n wr h e s =
        each_stays es (λ d m. part wr m) (easy_concat a es h)
        (wrapped_some (nat_lt 1 (suc n)) (joined [] (each_text es 2)) e).1 s
    nameless_stays (Alt es) n wr h e s =
        let low = ltb-false 0 (suc n) (wrapped_some (nat_lt 0 (suc n)) (joined (codes "|") (each_text es 1)) e).0 in
        absurd (omega (arith, low))
    nameless_stays (Group g d) n wr h e s = absurd (group_some (text_of d 0) e)
    nameless_stays (Repeat lo hi greedy d) n wr h e s =
        absurd (bounds_some lo hi
        (front_none (bounds_text lo hi) (if greedy then [] else codes "?")
        (back_none (text_of d 3) (bounds_text lo hi ++ (if greedy then [] else codes "?"))
        (wrapped_some (nat_lt 2 (suc n)) (text_of d 3 ++ (bounds_text lo hi ++ (if greedy then [] else codes "?"))) e).1)))
    nameless_stays KeepOut n wr h e s = cc
    nameless_stays ContinueFromPreviousMatchEnd n wr h e s = cc
    nameless_stays AbsentClear n wr h e s = cc
    nameless_stays (GeneralNewline unicode) n wr h e s = cc
    nameless_stays (LiteralBytes cs) n wr h e s = cc
    nameless_stays (LookAround look d) n wr h e s = cc
    nameless_stays (Backref g casei) n wr h e s = cc
    nameless_stays (BackrefWithLevel g level casei) n wr h e s = cc
    nameless_stays (BackrefExists g level) n wr h e s = cc
    nameless_stays (AtomicGroup d) n wr h e s = cc
    nameless_stays (AbsentRepeater d) n wr h e s = cc
    nameless_stays (AbsentStopper d) n wr h e s = cc
    nameless_stays (AbsentExpression x d) n wr h e s = cc
    nameless_stays (Control verb) n wr h e s = cc
    nameless_stays (Conditional c t f) n wr h e s = cc
    nameless_stays (SubroutineCall g) n wr h e s = cc
    nameless_stays (AstNode node) n wr h e s = cc

    each_stays : (es : Trees) → ((d : Tree) → IsAmong d es → IsWritten whole d) → AllEasy a es →
        joined [] (each_text es 2) ≡ [] →
        Stays (in_order (each_ways q call es))
    each_stays none wr h e s = refl
    each_stays (more d ds) wr h e s =
        let parts = easy_each a d ds h in
        let none' = each_none (text_of d 2) (each_text ds 2) e in
        stays_next (ways_with q call d) (in_order (each_ways q call ds)) (nameless_stays d 1 (wr d here) parts.0 none'.0)
        (each_stays ds (λ x m. wr x (there m)) parts.1 none'.1) s

  pub list_stays : {es : List Tree} → Every (IsWritten whole) es → Every (IsEasy a) es →
      joined [] (map (λ e. text_of e 1) es) ≡ [] →
      Stays (in_order (map (ways_with q call) es))
  list_stays no_item no_item e s = refl
  list_stays (item {x = d} {xs = ds} wr wrs) (item h hs) e s =
      let none' = each_none (text_of d 1) (map (λ x. text_of x 1) ds) e in
      stays_next (ways_with q call d) (in_order (map (ways_with q call) ds)) (nameless_stays d 0 wr h none'.0)
      (list_stays wrs hs none'.1) s
