-- The patterns of nodes go through their ways.
use Rattle.std.proofs.Common.{◌≡◌, ℕ, suc, ◌+◌, ◌≤◌, Bool, true, false, if◌then◌else◌, List, [], ◌∷◌, ◌++◌, length, flat_map, Option, Some, None, IsSome, ◌==◌, slice_get, option_and_then, refl, sym, ap, ap₂, subst, ◌∙◌, arith, eqb-true, eq-eqb}
use Rattle.std.proofs.lemmas.Bool.{cond-true}
use Rattle.std.specs.Char.{len_utf8}
use Rattle.std.specs.Option.{option_or}
use Rattle.regex_class.specs.Ranges.{Range, in_ranges}
use Rattle.regex_hir.specs.Text.{char_at, is_some_and}
use Rattle.regex_hir.specs.Looks as kit
use Rattle.regex_hir.specs.declared.look.Look.{Look}
use Rattle.regex_hir.specs.Re.{Re, Rest, accept, empty, char_in, look, cat, alt, byte_in, attempt}
use Rattle.regex_hir.specs.Meaning.{alt_all, cat_all}
use Rattle.regex_hir.specs.Matches.{Matches}
use Rattle.regex_hir.proofs.TextLemmas.{char_at_parts}
use Rattle.regex_hir.proofs.MatchesLemmas.{Matches-IsSpan}
use Rattle.regex_hir.proofs.OptionLemmas.{option_or-None, value_of_IsSome, IsSome-of_value}
use Rattle.regex_hir.proofs.AttemptLemmas.{attempt_sound, cond_some}
use Rattle.fancy_meaning.specs.Tree.{Tree, Within, Assertion, Any, Literal, Delegate, Empty, DefineGroup, Assert, Concat, Alt, Group, trees}
use Rattle.fancy_meaning.specs.Nodes.{group_count}
use Rattle.fancy_meaning.specs.Assertions.{assertion_within, holds, is_of_end}
use Rattle.fancy_meaning.specs.Chars.{any_takes, class_takes, literal_takes}
use Rattle.fancy_meaning.specs.Moves.{past_char}
use Rattle.fancy_meaning.specs.MatchState.{MatchState, Ways, in_order, one_of, with_span}
use Rattle.fancy_meaning.specs.Numbering.{each_numbered, numbered_within}
use Rattle.fancy_meaning.specs.Ways.{Setting, each_ways, moves, asserts, ways_with}
use Rattle.fancy_laws.proofs.Every.{Every, every_weaker}
use Rattle.fancy_agreement.specs.First.{AreMeant, IsSameLook, IsSameTest, Means, MeansInOrder, TakesFirstWay, first_some}
use Rattle.fancy_agreement.proofs.FirstSome.{each_found, first_append, first_flat_map, first_map, first_same}

-- ---- what follows from the law: each way spells a match

-- what follows is met at this place alone
abbrev only_at : ℕ → Rest
only_at j l = if l == j then accept l else None

found_at : (text : List ℕ) (re : Re) (i j : ℕ) → IsSome (attempt text re (only_at j) i) → Matches text re i j
found_at text re i j found =
    let v = value_of_IsSome (attempt text re (only_at j) i) found in
    let c = attempt_sound text re (only_at j) i v.0 v.1 in
    subst (Matches text re i) (eqb-true c.at j (cond_some (c.at == j) (accept c.at) c.rest c.gave).0) c.leads

pub each_matches : (text : List ℕ) (re : Re) (ways : Ways) → TakesFirstWay text re ways →
    (s : MatchState) → s.place ≤ length text → Every (λ t. Matches text re s.place t.place) (ways s)
each_matches text re ways first s within =
    every_weaker
    (λ t found. found_at text re s.place t.place (subst IsSome (sym (first s (only_at t.place) within)) found))
    (each_found (λ (t u : MatchState). only_at t.place u.place)
    (λ t. IsSome-of_value _ _ (cond-true (t.place == t.place) (accept t.place) None (eq-eqb t.place t.place refl)))
    (ways s))

pub record GoesOn (text : List ℕ) (re : Re) (s t : MatchState) : Type 0 where
  pub on : s.place ≤ t.place
  pub within : t.place ≤ length text
  pub spells : Matches text re s.place t.place

pub each_goes_on : (text : List ℕ) (re : Re) (ways : Ways) → TakesFirstWay text re ways →
    (s : MatchState) → s.place ≤ length text → Every (GoesOn text re s) (ways s)
each_goes_on text re ways first s within =
    every_weaker
    (λ t m. let span = Matches-IsSpan text re s.place t.place m in
    record { on = span.0; within = omega (arith, span.1, within); spells = m })
    (each_matches text re ways first s within)

-- ---- ways in general

pub stays_first : (text : List ℕ) → TakesFirstWay text empty (λ s. s ∷ [])
unfolding attempt
stays_first text s k within = sym (option_or-None (k s.place))

pub fails_first : (text : List ℕ) → TakesFirstWay text (byte_in []) (λ s. [])
unfolding attempt in_ranges
fails_first text s k within = go (slice_get text s.place)
  where
    go : (o : Option ℕ) → (if is_some_and o (in_ranges []) then k (s.place + 1) else None) ≡ None
    go None = refl
    go (Some b) = refl

pub then_first : (text : List ℕ) (a b : Re) (f g : Ways) → TakesFirstWay text a f → TakesFirstWay text b g →
    TakesFirstWay text (cat a b) (λ s. flat_map g (f s))
unfolding attempt
then_first text a b f g first second s k within =
    first s (attempt text b k) within
    ∙ first_same (λ t. attempt text b k t.place) (λ t. first_some (λ u. k u.place) (g t)) (f s)
    (every_weaker (λ t h. second t k h.within) (each_goes_on text a f first s within))
    ∙ sym (first_flat_map (λ u. k u.place) g (f s))

pub either_first : (text : List ℕ) (a b : Re) (f g : Ways) → TakesFirstWay text a f → TakesFirstWay text b g →
    TakesFirstWay text (alt a b) (λ s. f s ++ g s)
unfolding attempt
either_first text a b f g first second s k within =
    ap₂ option_or (first s k within) (second s k within) ∙ sym (first_append (λ t. k t.place) (f s) (g s))

-- ---- nodes

pub empty_means : (u : Bool) → Means u Empty empty
empty_means u = record { at = λ w n q call is. stays_first q.text }

pub define_means : (u : Bool) (e : Tree) → Means u (DefineGroup e) empty
define_means u e = record { at = λ w n q call is. stays_first q.text }

look_first : (q : Setting) (a : Assertion) (l : Look) (s : MatchState) (k : Rest) →
    holds q.text s.place q.unicode a ≡ kit.holds l q.text s.place →
    attempt q.text (look l) k s.place ≡ first_some (λ t. k t.place) (asserts q a s)
unfolding attempt
look_first q a l s k e =
    ap (λ b. if b then k s.place else None) (sym e) ∙ choose (holds q.text s.place q.unicode a) (is_of_end a)
  where
    choose : (b end : Bool) → (if b then k s.place else None)
        ≡ first_some (λ t. k t.place) (let met = if end then record s { text_end = true } else s in if b then met ∷ [] else [])
    choose true true = sym (option_or-None (k s.place))
    choose true false = sym (option_or-None (k s.place))
    choose false end = refl

pub assertion_means : (u : Bool) (old : Within) (a : Assertion) (l : Look) → IsSameLook u a l → Means u (Assert old a) (look l)
assertion_means u old a l same = record {
  at = λ w n q call is s k within. look_first q (assertion_within w a) l s k
      (subst (λ b. holds q.text s.place b (assertion_within w a) ≡ kit.holds l q.text s.place) (sym is)
      (same w q.text s.place within));
}

char_first : (q : Setting) (test : ℕ → Bool) (ranges : List Range) (s : MatchState) (k : Rest) (o : Option ℕ) →
    ((c : ℕ) → o ≡ Some c → in_ranges ranges c ≡ test c) →
    option_and_then (λ c. if in_ranges ranges c then k (s.place + len_utf8 c) else None) o
    ≡ first_some (λ t. k t.place) (moves q (λ j. option_and_then (λ c. if test c then Some (j + len_utf8 c) else None) o) s)
char_first q test ranges s k None h = refl
char_first q test ranges s k (Some c) h =
    ap (λ b. if b then k (s.place + len_utf8 c) else None) (h c refl) ∙ choose (test c)
  where
    choose : (b : Bool) → (if b then k (s.place + len_utf8 c) else None)
        ≡ first_some (λ t. k t.place) (moves q (λ j. if b then Some (j + len_utf8 c) else None) s)
    choose true = sym (option_or-None (k (s.place + len_utf8 c)))
    choose false = refl

pub takes_first : (q : Setting) (test : ℕ → Bool) (ranges : List Range) → IsSameTest ranges test →
    TakesFirstWay q.text (char_in ranges) (moves q (past_char q.text test))
unfolding attempt
takes_first q test ranges same s k within =
    char_first q test ranges s k (char_at q.text s.place)
    (λ c e. same c (char_at_parts q.text s.place c e).0)

pub any_means : (u newline crlf : Bool) (ranges : List Range) → IsSameTest ranges (any_takes newline crlf) →
    Means u (Any newline crlf) (char_in ranges)
any_means u newline crlf ranges same = record { at = λ w n q call is. takes_first q (any_takes newline crlf) ranges same }

pub literal_means : (u : Bool) (c : ℕ) (casei : Bool) (ranges : List Range) → IsSameTest ranges (literal_takes u c casei) →
    Means u (Literal c casei) (char_in ranges)
literal_means u c casei ranges same = record {
  at = λ w n q call is. takes_first q (literal_takes q.unicode c casei) ranges
      (subst (λ b. IsSameTest ranges (literal_takes b c casei)) (sym is) same);
}

pub class_means : (u : Bool) (inner : List ℕ) (casei : Bool) (ranges : List Range) → IsSameTest ranges (class_takes u inner casei) →
    Means u (Delegate inner casei) (char_in ranges)
class_means u inner casei ranges same = record {
  at = λ w n q call is. takes_first q (class_takes q.unicode inner casei) ranges
      (subst (λ b. IsSameTest ranges (class_takes b inner casei)) (sym is) same);
}

-- a group, whose span is let out
pub group_means : (u : Bool) (g : ℕ) (e : Tree) (re : Re) → Means u e re → Means u (Group g e) re
group_means u g e re m = record {
  at = λ w n q call is s k within.
      m.at w (suc n) q call is s k within
      ∙ sym (first_map (λ t. k t.place) (λ t. with_span n (s.place, t.place) t) (ways_with q call (numbered_within w (suc n) e) s));
}

in_order_first : (u : Bool) (es : List Tree) (res : List Re) → AreMeant u es res →
    (w : Within) (n : ℕ) (q : Setting) (call : ℕ → Ways) → q.unicode ≡ u →
    TakesFirstWay q.text (cat_all res) (in_order (each_ways q call (each_numbered w n (trees es))))
in_order_first u [] [] h w n q call is = stays_first q.text
in_order_first u [] (re ∷ res) h w n q call is = absurd h
in_order_first u (e ∷ es) [] h w n q call is = absurd h
in_order_first u (e ∷ es) (re ∷ res) h w n q call is =
    then_first q.text re (cat_all res) (ways_with q call (numbered_within w n e))
    (in_order (each_ways q call (each_numbered w (n + group_count e) (trees es))))
    (h.0.at w n q call is) (in_order_first u es res h.1 w (n + group_count e) q call is)

pub nodes_mean : (u : Bool) (es : List Tree) (res : List Re) → AreMeant u es res → MeansInOrder u es (cat_all res)
nodes_mean u es res h = record { at = in_order_first u es res h }

pub concat_means : (u : Bool) (es : List Tree) (res : List Re) → AreMeant u es res → Means u (Concat (trees es)) (cat_all res)
concat_means u es res h = record { at = in_order_first u es res h }

branch_first : (u : Bool) (es : List Tree) (res : List Re) → AreMeant u es res →
    (w : Within) (n : ℕ) (q : Setting) (call : ℕ → Ways) → q.unicode ≡ u →
    TakesFirstWay q.text (alt_all res) (one_of (each_ways q call (each_numbered w n (trees es))))
branch_first u [] [] h w n q call is = fails_first q.text
branch_first u [] (re ∷ res) h w n q call is = absurd h
branch_first u (e ∷ es) [] h w n q call is = absurd h
branch_first u (e ∷ es) (re ∷ res) h w n q call is =
    either_first q.text re (alt_all res) (ways_with q call (numbered_within w n e))
    (one_of (each_ways q call (each_numbered w (n + group_count e) (trees es))))
    (h.0.at w n q call is) (branch_first u es res h.1 w (n + group_count e) q call is)

pub alt_means : (u : Bool) (es : List Tree) (res : List Re) → AreMeant u es res → Means u (Alt (trees es)) (alt_all res)
alt_means u es res h = record { at = branch_first u es res h }
