-- What may be before the places where ways begin or end, by the parts of nodes.
use Rattle.std.proofs.Common.{◌≡◌, ⊎_elim, ℕ, suc, ◌+◌, ◌<◌, ◌&&◌, ◌||◌, ◌==◌, Bool, true, false, not, if◌then◌else◌, List, [], ◌∷◌, ◌++◌, length, nat_le, Option, None, Some, refl, sym, ap, subst, ◌∙◌, arith, eqb-true, le-leb, leb-true, length-set, set}
use Rattle.std.specs.Option.{option_map_or}
use Rattle.std.proofs.lemmas.Bool.{and_parts, cases_eq, cases_lt, false≢true, or_left, or_right}
use Rattle.std.proofs.lemmas.Grind.{get_or-set_at}
use Rattle.std.proofs.lemmas.List.{get_or-set_other}
use Rattle.regex_hir.specs.Text.{byte_before, is_some_and}
use Rattle.regex_hir.proofs.TextLemmas.{byte_before-zero}
use Rattle.fancy_meaning.specs.Assertions.{assertion_within, holds, is_after, is_before, is_line_start, is_of_end}
use Rattle.fancy_meaning.specs.MatchState.{MatchState, Ways, in_order, moved_to, with_span}
use Rattle.fancy_meaning.specs.Nodes.{group_count}
use Rattle.fancy_meaning.specs.Numbering.{each_numbered, numbered_within, within}
use Rattle.fancy_meaning.specs.Tree.{Tree, Trees, none, more, trees, Assertion, StartText, StartLine, StartLineOniguruma, Assert, Empty, Group, KeepOut, AtomicGroup, Look, LookAround, LookBehind, Within, NoLook, InLookAhead, InLookBehind}
use Rattle.fancy_meaning.specs.Ways.{Setting, asserts, each_ways, ends_here, ways_with}
use Rattle.fancy_laws.proofs.Every.{Every, no_item, All-every, every-All, every_anything, every_append, every_flat_map, every_if, every_map, every_one, every_take, every_weaker}
use Rattle.fancy_laws.proofs.Looks.{every_look, has_branches}
use Rattle.fancy_laws.proofs.WaysOf.{each_of_one_of, every_asserts, every_ends_here, every_one_of}
use Rattle.fancy_literals.specs.ByteSets.{is_in}
use Rattle.fancy_literals.specs.Befores.{Admits, IsBefore, IsBeforeEach, IsBeforeInOrder, StaysHere, follows, may_be}
use Rattle.fancy_literals.specs.TakesByte.{Includes}
use Rattle.fancy_literals.specs.declared.before.Before.{Before}
use Rattle.fancy_literals.proofs.OpenLaws.{looking}

-- ---- what admits more

pub admits_on : (one two three : Before) → Admits one two → Admits two three → Admits one three
admits_on one two three first second = record {
  bytes = λ byte is. second.bytes byte (first.bytes byte is);
  at_start = λ is. second.at_start (first.at_start is);
}

follows_larger : (before larger : Before) → Admits before larger → (text : List ℕ) (at : ℕ) → follows before text at ≡ true → follows larger text at ≡ true
follows_larger before larger admits text at = go (byte_before text at)
  where
    go : (o : Option ℕ) → option_map_or (may_be before.bytes) o before.at_start ≡ true → option_map_or (may_be larger.bytes) o larger.at_start ≡ true
    go None is = admits.at_start is
    go (Some b) is = admits.bytes b is

pub is_false : (b : Bool) → (b ≡ true → ⊥) → b ≡ false
is_false true h = absurd (h refl)
is_false false h = refl

pub byte_may_be : (bytes : List Bool) (byte : ℕ) → byte < 256 → may_be bytes byte ≡ is_in bytes byte
byte_may_be bytes byte small = go (is_in bytes byte)
  where
    go : (b : Bool) → (b || nat_le 256 byte) ≡ b
    go true = refl
    go false = is_false (nat_le 256 byte) (λ is. omega (arith, small, leb-true 256 byte is))

-- what has each byte
pub may_be_by : (bytes : List Bool) (byte : ℕ) → (byte < 256 → is_in bytes byte ≡ true) → may_be bytes byte ≡ true
may_be_by bytes byte below =
    ⊎_elim (λ small. or_left (is_in bytes byte) (nat_le 256 byte) (below small)) (λ large. or_right (is_in bytes byte) (nat_le 256 byte) (le-leb 256 byte large))
    (cases_lt byte 256)

-- a byte of the first is one of the second
pub may_be_larger : (bytes larger : List Bool) → Includes bytes larger → (byte : ℕ) → may_be bytes byte ≡ true → may_be larger byte ≡ true
may_be_larger bytes larger inside byte is = may_be_by larger byte (λ small. inside byte small (sym (byte_may_be bytes byte small) ∙ is))

either : {A : Type 0} (a b : Bool) → (a || b) ≡ true → (a ≡ true → A) → (b ≡ true → A) → A
either true b is first second = first refl
either false b is first second = second is

-- ---- nodes with parts

module _ (unicode at_end : Bool) (before : Before) where
  abbrev pub Here : List ℕ → MatchState → MatchState → Type 0
  Here text s t = follows before text (if at_end then t.place else s.place) ≡ true

  pub group_before : (old : ℕ) (e : Tree) → IsBefore unicode at_end before e → IsBefore unicode at_end before (Group old e)
  group_before old e body = λ q call w n s same.
      All-every {P = Here q.text s}
      (every_map {P = Here q.text s} {Q = Here q.text s} (λ t. with_span n (s.place, t.place) t) (λ t h. h) (every-All _ _ (body q call w (suc n) s same)))

  pub atomic_before : (e : Tree) → IsBefore unicode at_end before e → IsBefore unicode at_end before (AtomicGroup e)
  atomic_before e body = λ q call w n s same. All-every {P = Here q.text s} (every_take 1 (every-All _ _ (body q call w n s same)))

  pub none_of_each : IsBeforeEach unicode at_end before none
  none_of_each = λ q call w n s same. All-every {P = Here q.text s} no_item

  pub each_more : (one : Before) → Admits one before → (e : Tree) (es : Trees) → IsBefore unicode at_end one e → IsBeforeEach unicode at_end before es →
      IsBeforeEach unicode at_end before (more e es)
  each_more one admits e es first rest = λ q call w n s same.
      All-every {P = Here q.text s}
      (every_append
      (every_weaker (λ t is. follows_larger one before admits q.text (if at_end then t.place else s.place) is) (every-All _ _ (first q call w n s same)))
      (every-All _ _ (rest q call w (n + group_count e) s same)))

  pub both_sides : (s t : MatchState) (text : List ℕ) → t.place ≡ s.place → follows before text s.place ≡ true → Here text s t
  both_sides s t text here is = go at_end
    where
      go : (b : Bool) → follows before text (if b then t.place else s.place) ≡ true
      go true = subst (λ p. follows before text p ≡ true) (sym here) is
      go false = is

  -- a look-behind, by the ends of its body
  pub behind_before : (e : Tree) → IsBefore unicode true before e → IsBefore unicode at_end before (LookAround LookBehind e)
  behind_before e body = λ q call w n s same.
      let Ended : MatchState → Type 0 = λ t. follows before q.text t.place ≡ true in
      let b = has_branches q call (numbered_within InLookBehind n e) in
      let lead : Every (λ v. (u : MatchState) → Unit {0} → Every Ended (v u)) b.branches =
      each_of_one_of {P = λ u. Unit {0}} {Q = λ u. Ended} b.branches
      (λ u any. subst (Every Ended) (sym (b.in_turn u)) (every-All _ _ (body q call InLookBehind n u same))) in
      All-every {P = Here q.text s}
      (subst (λ v. Every (Here q.text s) (v s)) (sym (b.of_look LookBehind))
      (every_one_of s
      (every_map {P = λ v. (u : MatchState) → Unit {0} → Every Ended (v u)} {Q = λ v. Every (Here q.text s) (v s)} (ends_here q)
      (λ v leads. every_ends_here {P = λ i. Ended} q v s (λ i le at. leads (moved_to i s) tt)
      (λ i t le at is here. both_sides s t q.text here (subst (λ p. follows before q.text p ≡ true) here is)))
      lead)))

-- ---- nodes in order

module _ (unicode : Bool) (before : Before) where
  -- the first of the nodes decides, if it tells
  pub first_before : (e : Tree) (es : Trees) → IsBefore unicode false before e → IsBeforeInOrder unicode false before (more e es)
  first_before e es first = λ q call w n s same.
      let on : Ways = in_order (each_ways q call (each_numbered w (n + group_count e) es)) in
      All-every {P = λ t. follows before q.text s.place ≡ true}
      (every_flat_map {P = λ t. follows before q.text s.place ≡ true} {Q = λ t. follows before q.text s.place ≡ true} on
      (λ t is. every_anything (on t) (λ u. is)) (every-All _ _ (first q call w n s same)))

  -- else the next ones do, if it matches nothing
  pub next_before : (e : Tree) (es : Trees) → StaysHere e → IsBeforeInOrder unicode false before es → IsBeforeInOrder unicode false before (more e es)
  next_before e es stays rest = λ q call w n s same.
      let on : Ways = in_order (each_ways q call (each_numbered w (n + group_count e) es)) in
      All-every {P = λ t. follows before q.text s.place ≡ true}
      (every_flat_map {P = λ t. t.place ≡ s.place} {Q = λ t. follows before q.text s.place ≡ true} on
      (λ t here. every_weaker (λ u is. subst (λ p. follows before q.text p ≡ true) here is) (every-All _ _ (rest q call w (n + group_count e) t same)))
      (every-All _ _ (stays q call w n s)))

  -- the last of the nodes decides about the end
  pub last_before : (es : List Tree) (e : Tree) → IsBefore unicode true before e → IsBeforeInOrder unicode true before (trees (es ++ e ∷ []))
  last_before [] e last = λ q call w n s same.
      let Ended : MatchState → Type 0 = λ t. follows before q.text t.place ≡ true in
      All-every {P = Ended} (every_flat_map {P = Ended} {Q = Ended} (in_order []) (λ t is. every_one is) (every-All _ _ (last q call w n s same)))
  last_before (d ∷ es) e last = λ q call w n s same.
      let Ended : MatchState → Type 0 = λ t. follows before q.text t.place ≡ true in
      let on : Ways = in_order (each_ways q call (each_numbered w (n + group_count d) (trees (es ++ e ∷ [])))) in
      All-every {P = Ended}
      (every_flat_map {P = λ t. Unit {0}} {Q = Ended} on (λ t any. every-All _ _ (last_before es e last q call w (n + group_count d) t same))
      (every_anything (ways_with q call (numbered_within w n d) s) (λ t. tt)))

-- ---- nodes that match nothing

pub empty_stays : StaysHere Empty
empty_stays = λ q call w n s. All-every {P = λ t. t.place ≡ s.place} (every_one refl)

pub keep_stays : StaysHere KeepOut
keep_stays = λ q call w n s. All-every {P = λ t. t.place ≡ s.place} (every_one refl)

pub assert_stays : (old : Within) (a : Assertion) → StaysHere (Assert old a)
assert_stays old a = λ q call w n s. All-every {P = λ t. t.place ≡ s.place} (every_asserts q (assertion_within w a) s refl refl)

pub look_stays : (look : Look) (e : Tree) → StaysHere (LookAround look e)
look_stays look e = λ q call w n s.
    let inside = numbered_within (within look) n e in
    All-every {P = λ t. t.place ≡ s.place}
    (every_look (looking q) call look inside (λ u any. every_anything (ways_with q call inside u) (λ t. tt)) s tt)

-- ---- assertions

module _ (unicode at_end : Bool) (before : Before) where
  -- where it holds
  asserted : (q : Setting) (a : Assertion) (s : MatchState) → (holds q.text s.place q.unicode a ≡ true → follows before q.text s.place ≡ true) →
      Every (Here unicode at_end before q.text s) (asserts q a s)
  asserted q a s so = every_if (holds q.text s.place q.unicode a) (λ e. every_one (choose (is_of_end a) (so e))) (λ e. no_item)
    where
      choose : (b : Bool) → follows before q.text s.place ≡ true → Here unicode at_end before q.text s (if b then record s { text_end = true } else s)
      choose true is = both_sides unicode at_end before s (record s { text_end = true }) q.text refl is
      choose false is = both_sides unicode at_end before s s q.text refl is

  at_first : (text : List ℕ) (at : ℕ) → before.at_start ≡ true → at ≡ 0 → follows before text at ≡ true
  at_first text at start is = ap (λ p. follows before text p) is ∙ ap (λ o. option_map_or (may_be before.bytes) o before.at_start) (byte_before-zero text) ∙ start

  text_so : before.at_start ≡ true → (q : Setting) (s : MatchState) → holds q.text s.place q.unicode StartText ≡ true → follows before q.text s.place ≡ true
  unfolding holds
  text_so start q s is = at_first q.text s.place start (eqb-true s.place 0 is)

  pub text_before : (old : Within) → before.at_start ≡ true → IsBefore unicode at_end before (Assert old StartText)
  text_before old start = λ q call w n s same. All-every {P = Here unicode at_end before q.text s} (go q s w)
    where
      go : (q : Setting) (s : MatchState) (w : Within) → Every (Here unicode at_end before q.text s) (asserts q (assertion_within w StartText) s)
      go q s NoLook = asserted q StartText s (text_so start q s)
      go q s InLookAhead = asserted q StartText s (text_so start q s)
      go q s InLookBehind = asserted q StartText s (text_so start q s)

  after_byte : (c : ℕ) → may_be before.bytes c ≡ true → (o : Option ℕ) → is_some_and o (λ b. b == c) ≡ true →
      option_map_or (may_be before.bytes) o before.at_start ≡ true
  after_byte c may None is = absurd (false≢true is)
  after_byte c may (Some b) is = subst (λ x. may_be before.bytes x ≡ true) (sym (eqb-true b c is)) may

  module _ (crlf : Bool) (start : before.at_start ≡ true) (feed : may_be before.bytes 10 ≡ true) (carriage : crlf ≡ true → may_be before.bytes 13 ≡ true) where
    at_line : (text : List ℕ) (at : ℕ) → is_line_start text at crlf ≡ true → follows before text at ≡ true
    unfolding is_line_start
    at_line text at is =
        either {A = follows before text at ≡ true} (at == 0 || is_after text at 10) (crlf && is_after text at 13 && not (is_before text at 10)) is
        (λ first. either {A = follows before text at ≡ true} (at == 0) (is_after text at 10) first (λ e. at_first text at start (eqb-true at 0 e)) (after_byte 10 feed (byte_before text at)))
        (λ both. let after = and_parts crlf (is_after text at 13) (and_parts (crlf && is_after text at 13) _ both).0 in
        after_byte 13 (carriage after.0) (byte_before text at) after.1)

    line_so : (q : Setting) (s : MatchState) → holds q.text s.place q.unicode (StartLine crlf) ≡ true → follows before q.text s.place ≡ true
    unfolding holds
    line_so q s = at_line q.text s.place

    other_line_so : (q : Setting) (s : MatchState) → holds q.text s.place q.unicode (StartLineOniguruma crlf) ≡ true → follows before q.text s.place ≡ true
    unfolding holds
    other_line_so q s is = at_line q.text s.place (and_parts _ _ is).0

    pub line_before : (old : Within) → IsBefore unicode at_end before (Assert old (StartLine crlf))
    line_before old = λ q call w n s same. All-every {P = Here unicode at_end before q.text s} (go q s w)
      where
        go : (q : Setting) (s : MatchState) (w : Within) → Every (Here unicode at_end before q.text s) (asserts q (assertion_within w (StartLine crlf)) s)
        go q s NoLook = asserted q (StartLine crlf) s (line_so q s)
        go q s InLookAhead = asserted q (StartLine crlf) s (line_so q s)
        go q s InLookBehind = asserted q (StartLine crlf) s (line_so q s)

    pub other_line_before : (old : Within) → IsBefore unicode at_end before (Assert old (StartLineOniguruma crlf))
    other_line_before old = λ q call w n s same. All-every {P = Here unicode at_end before q.text s} (go q s w)
      where
        go : (q : Setting) (s : MatchState) (w : Within) → Every (Here unicode at_end before q.text s) (asserts q (assertion_within w (StartLineOniguruma crlf)) s)
        go q s NoLook = asserted q (StartLineOniguruma crlf) s (other_line_so q s)
        go q s InLookAhead = asserted q (StartLine crlf) s (line_so q s)
        go q s InLookBehind = asserted q (StartLine crlf) s (line_so q s)

-- ---- sets

-- a set that has all bytes, and the text's beginning
pub all_follow : (before : Before) → before.at_start ≡ true → ((byte : ℕ) → may_be before.bytes byte ≡ true) → (text : List ℕ) (at : ℕ) →
    follows before text at ≡ true
all_follow before start all text at = go (byte_before text at)
  where
    go : (o : Option ℕ) → option_map_or (may_be before.bytes) o before.at_start ≡ true
    go None = start
    go (Some b) = all b

pub any_before : (unicode at_end : Bool) (before : Before) (e : Tree) → ((text : List ℕ) (at : ℕ) → follows before text at ≡ true) → IsBefore unicode at_end before e
any_before unicode at_end before e all = λ q call w n s same.
    All-every {P = Here unicode at_end before q.text s}
    (every_anything (ways_with q call (numbered_within w n e) s) (λ t. all q.text (if at_end then t.place else s.place)))

-- all bytes but these ASCII characters
pub record LeavesOut (characters bytes : List Bool) : Type 0 where
  pub has : (byte : ℕ) → byte < 256 → (byte < 128 → is_in characters byte ≡ false) → is_in bytes byte ≡ true
  pub long : length bytes ≡ 256

pub one_more_out : (characters bytes : List Bool) (at : ℕ) → at < 128 → LeavesOut characters bytes → LeavesOut characters (set bytes at (not (is_in characters at)))
one_more_out characters bytes at small h =
    let long = h.long in
    record {
      has = λ byte below out. ⊎_elim
          (λ same. get_or-set_at bytes at byte (not (is_in characters at)) false same (omega (arith, small, long))
          ∙ ap (λ k. not (is_in characters k)) (sym same) ∙ ap not (out (omega (arith, same, small))))
          (λ other. get_or-set_other bytes at byte (not (is_in characters at)) false other ∙ h.has byte below out)
          (cases_eq byte at);
      long = length-set bytes at (not (is_in characters at)) ∙ long;
    }
