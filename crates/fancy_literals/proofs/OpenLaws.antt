-- With which bytes the ways of nodes begin, by those of their parts.
use Rattle.std.proofs.Common.{◌≡◌, inl, inr, ⊎_elim, ℕ, zero, suc, ◌+◌, ◌≤◌, Bool, true, false, All, List, [], ◌∷◌, drop, encode_utf8, get_or, length, ◌<◌, slice_index_or, Option, refl, sym, ap, subst, ◌∙◌, arith}
use Rattle.std.specs.Char.{IsScalar}
use Rattle.std.proofs.lemmas.Bool.{cases_lt, false≢true}
use Rattle.fancy_literals.proofs.ByteLaws.{first_byte}
use Rattle.regex_hir.proofs.TextLemmas.{char_at_parts}
use Rattle.fancy_meaning.specs.MatchState.{MatchState, Ways, in_order, moved_to, with_span}
use Rattle.fancy_meaning.specs.Moves.{past_char}
use Rattle.fancy_meaning.specs.Nodes.{group_count}
use Rattle.fancy_meaning.specs.Numbering.{each_numbered, numbered_within, within}
use Rattle.fancy_meaning.specs.Assertions.{assertion_within}
use Rattle.fancy_meaning.specs.Chars.{class_takes, literal_takes}
use Rattle.fancy_meaning.specs.Tree.{Tree, Trees, none, more, Assert, Concat, Alt, DefineGroup, Delegate, Empty, Literal, Group, KeepOut, Repeat, AtomicGroup, Look, LookAround, LookAhead, Within}
use Rattle.fancy_meaning.specs.Ways.{Setting, each_ways, moves, ways_with}
use Rattle.fancy_laws.proofs.Every.{Every, no_item, All-every, every-All, every_anything, every_append, every_flat_map, every_map, every_one, every_take, every_weaker}
use Rattle.fancy_laws.proofs.Looks.{IsLooking, every_look, has_branches}
use Rattle.fancy_laws.proofs.Loops.{IsIterable, every_repeats}
use Rattle.fancy_laws.proofs.Moves.{past_char_tells}
use Rattle.fancy_laws.proofs.WaysOf.{every_asserts, every_moves}
use Rattle.std.proofs.lemmas.List.{drop_all, drop_more}
use Rattle.fancy_expr.specs.declared.expr.Expr.{Expr}
use Rattle.fancy_literals.specs.Opens.{BeginsOrStays, Grows, Opens, OpensBy, OpensEach, OpensEachBy, OpensInOrder, OpensInOrderBy}
use Rattle.fancy_literals.specs.declared.firsts.Opening.{Opening}
use Rattle.fancy_literals.specs.declared.firsts.Opening.TheVariants as opening
use Rattle.fancy_literals.specs.Required.{begins_among}
use Rattle.fancy_literals.specs.TakesByte.{BeginAmong}
use Rattle.fancy_literals.proofs.ByteLaw.{begins_on}

begins_larger : (bytes larger : List Bool) → Grows bytes larger → (text : List ℕ) → begins_among bytes text ≡ true → begins_among larger text ≡ true
begins_larger bytes larger grows [] is = is
begins_larger bytes larger grows (b ∷ text) is = grows b is

-- ---- sets that grow

pub grows_on : (one two three : List Bool) → Grows one two → Grows two three → Grows one three
grows_on one two three first second byte is = second byte (first byte is)

larger_step : (stays also : Bool) (bytes larger : List Bool) → Grows bytes larger → (stays ≡ true → also ≡ true) → (text : List ℕ) (s t : MatchState) →
    BeginsOrStays stays bytes text s t → BeginsOrStays also larger text s t
larger_step stays also bytes larger grows may text s t =
    ⊎_elim (λ begins. inl (begins_larger bytes larger grows (drop s.place text) begins)) (λ stay. inr (may stay.0, stay.1))

-- ---- nodes in order

pub none_in_order : (unicode : Bool) (bytes : List Bool) → OpensInOrder unicode true bytes none
none_in_order unicode bytes = λ q call w n s same. All-every {P = BeginsOrStays true bytes q.text s} (every_one (inr (refl, refl)))

module _ (unicode stays : Bool) (bytes larger : List Bool) (grows : Grows bytes larger) (e : Tree) (es : Trees) where
  -- where the first may stay the rest decides
  pub first_stays : Opens unicode true bytes e → OpensInOrder unicode stays larger es → OpensInOrder unicode stays larger (more e es)
  first_stays first rest = λ q call w n s same.
      let on : Ways = in_order (each_ways q call (each_numbered w (n + group_count e) es)) in
      All-every {P = BeginsOrStays stays larger q.text s}
      (every_flat_map {P = BeginsOrStays true bytes q.text s} {Q = BeginsOrStays stays larger q.text s} on
      (λ t. ⊎_elim {B = (true ≡ true) × (t.place ≡ s.place)}
      (λ begins. every_anything (on t) (λ u. inl (begins_larger bytes larger grows (drop s.place q.text) begins)))
      (λ stay. every_weaker
      (λ u. ⊎_elim {B = (stays ≡ true) × (u.place ≡ t.place)}
      (λ begins. inl (subst (λ p. begins_among larger (drop p q.text) ≡ true) stay.1 begins))
      (λ too. inr (too.0, too.1 ∙ stay.1)))
      (every-All _ _ (rest q call w (n + group_count e) t same))))
      (every-All _ _ (first q call w n s same)))

  -- where the first begins so all do
  pub first_begins : Opens unicode false bytes e → OpensInOrder unicode false larger (more e es)
  first_begins first = λ q call w n s same.
      let on : Ways = in_order (each_ways q call (each_numbered w (n + group_count e) es)) in
      All-every {P = BeginsOrStays false larger q.text s}
      (every_flat_map {P = BeginsOrStays false bytes q.text s} {Q = BeginsOrStays false larger q.text s} on
      (λ t. ⊎_elim
      (λ begins. every_anything (on t) (λ u. inl (begins_larger bytes larger grows (drop s.place q.text) begins)))
      (λ never. absurd (false≢true never.0)))
      (every-All _ _ (first q call w n s same)))

-- ---- alternatives

pub none_of_each : (unicode stays : Bool) (bytes : List Bool) → OpensEach unicode stays bytes none
none_of_each unicode stays bytes = λ q call w n s same. All-every {P = BeginsOrStays stays bytes q.text s} no_item

pub each_more : (unicode one stays : Bool) (bytes larger : List Bool) → Grows bytes larger → (one ≡ true → stays ≡ true) → (e : Tree) (es : Trees) →
    Opens unicode one bytes e → OpensEach unicode stays larger es → OpensEach unicode stays larger (more e es)
each_more unicode one stays bytes larger grows may e es first rest = λ q call w n s same.
    All-every {P = BeginsOrStays stays larger q.text s}
    (every_append (every_weaker (larger_step one stays bytes larger grows may q.text s) (every-All _ _ (first q call w n s same)))
    (every-All _ _ (rest q call w (n + group_count e) s same)))

-- ---- nodes with a body

module _ (unicode stays : Bool) (bytes : List Bool) (e : Tree) (body : Opens unicode stays bytes e) where
  pub group_opens : (old : ℕ) → Opens unicode stays bytes (Group old e)
  group_opens old = λ q call w n s same.
      All-every {P = BeginsOrStays stays bytes q.text s}
      (every_map {P = BeginsOrStays stays bytes q.text s} {Q = BeginsOrStays stays bytes q.text s} (λ t. with_span n (s.place, t.place) t) (λ t h. h)
      (every-All _ _ (body q call w (suc n) s same)))

  pub atomic_opens : Opens unicode stays bytes (AtomicGroup e)
  atomic_opens = λ q call w n s same. All-every {P = BeginsOrStays stays bytes q.text s} (every_take 1 (every-All _ _ (body q call w n s same)))

  -- after so many iterations
  abbrev After : (text : List ℕ) → ℕ → MatchState → MatchState → Type 0
  After text zero s t = t.place ≡ s.place
  After text (suc n) s t = BeginsOrStays stays bytes text s t

  one_more : (text : List ℕ) (n : ℕ) (s t u : MatchState) → BeginsOrStays stays bytes text s t → After text n t u → BeginsOrStays stays bytes text s u
  one_more text n s t u (inl begins) h = inl begins
  one_more text zero s t u (inr stay) h = inr (stay.0, h ∙ stay.1)
  one_more text (suc n) s t u (inr stay) h =
      ⊎_elim
      (λ begins. inl (subst (λ p. begins_among bytes (drop p text) ≡ true) stay.1 begins))
      (λ stays. inr (stays.0, stays.1 ∙ stay.1)) h

  iterable : (text : List ℕ) → IsIterable (λ s. Unit {0}) (BeginsOrStays stays bytes text) (After text)
  iterable text = record {
    arrives = λ s t any one. tt;
    none = λ s any. refl;
    one_more = λ n s t u any. one_more text n s t u;
  }

  -- with no iteration nothing is taken
  any_count : (text : List ℕ) (n : ℕ) (s t : MatchState) → After text n s t → BeginsOrStays true bytes text s t
  any_count text zero s t h = inr (refl, h)
  any_count text (suc n) s t h = ⊎_elim inl (λ stay. inr (refl, stay.1)) h

  some_count : (text : List ℕ) (n : ℕ) (s t : MatchState) → 1 ≤ n → After text n s t → BeginsOrStays stays bytes text s t
  some_count text zero s t le h = absurd (omega (arith, le))
  some_count text (suc n) s t le h = h

  pub loop_opens : (hi : Option ℕ) (greedy : Bool) → Opens unicode true bytes (Repeat zero hi greedy e)
  loop_opens hi greedy = λ q call w n s same.
      All-every {P = BeginsOrStays true bytes q.text s}
      (every_weaker (λ t c. any_count q.text c.count s t c.after)
      (every_repeats (iterable q.text) (ways_with q call (numbered_within w n e)) (λ u any. every-All _ _ (body q call w n u same)) q.text zero hi greedy s tt))

  pub some_opens : (lo : ℕ) (hi : Option ℕ) (greedy : Bool) → 1 ≤ lo → Opens unicode stays bytes (Repeat lo hi greedy e)
  some_opens lo hi greedy some = λ q call w n s same.
      All-every {P = BeginsOrStays stays bytes q.text s}
      (every_weaker (λ t c. let least = c.at_least in some_count q.text c.count s t (omega (arith, least, some)) c.after)
      (every_repeats (iterable q.text) (ways_with q call (numbered_within w n e)) (λ u any. every-All _ _ (body q call w n u same)) q.text lo hi greedy s tt))

-- what a look-ahead asks for
pub ahead_begins : (unicode : Bool) (bytes : List Bool) (e : Tree) → Opens unicode false bytes e → Opens unicode false bytes (LookAround LookAhead e)
ahead_begins unicode bytes e body = λ q call w n s same.
    let b = has_branches q call (numbered_within (within LookAhead) n e) in
    All-every {P = BeginsOrStays false bytes q.text s}
    (subst (λ v. Every (BeginsOrStays false bytes q.text s) (v s)) (sym (b.of_look LookAhead))
    (every_map {P = BeginsOrStays false bytes q.text s} {Q = BeginsOrStays false bytes q.text s} (moved_to s.place)
    (λ t. ⊎_elim (λ begins. inl begins) (λ never. absurd (false≢true never.0)))
    (subst (Every (BeginsOrStays false bytes q.text s)) (sym (b.in_turn s)) (every-All _ _ (body q call (within LookAhead) n s same)))))

-- ---- nodes that take nothing

abbrev pub IsHere : MatchState → MatchState → Type 0
IsHere s t = t.place ≡ s.place

pub looking : (q : Setting) → IsLooking q (λ s. Unit {0}) (λ s t. Unit {0}) IsHere
looking q = record {
  stays = λ s any. refl;
  restores = λ s t any step. refl;
  goes_back = λ s i any le at. tt;
  comes_here = λ s t i any le at step here. here;
}

pub look_stays : (unicode : Bool) (bytes : List Bool) (look : Look) (e : Tree) → Opens unicode true bytes (LookAround look e)
look_stays unicode bytes look e = λ q call w n s same.
    let inside = numbered_within (within look) n e in
    All-every {P = BeginsOrStays true bytes q.text s}
    (every_weaker (λ t here. inr (refl, here))
    (every_look (looking q) call look inside (λ u any. every_anything (ways_with q call inside u) (λ t. tt)) s tt))

pub empty_stays : (unicode : Bool) (bytes : List Bool) → Opens unicode true bytes Empty
empty_stays unicode bytes = λ q call w n s same. All-every {P = BeginsOrStays true bytes q.text s} (every_one (inr (refl, refl)))

pub keep_stays : (unicode : Bool) (bytes : List Bool) → Opens unicode true bytes KeepOut
keep_stays unicode bytes = λ q call w n s same. All-every {P = BeginsOrStays true bytes q.text s} (every_one (inr (refl, refl)))

pub define_stays : (unicode : Bool) (bytes : List Bool) (e : Tree) → Opens unicode true bytes (DefineGroup e)
define_stays unicode bytes e = λ q call w n s same. All-every {P = BeginsOrStays true bytes q.text s} (every_one (inr (refl, refl)))

pub assert_stays : (unicode : Bool) (bytes : List Bool) (old : Within) (a : _) → Opens unicode true bytes (Assert old a)
assert_stays unicode bytes old a = λ q call w n s same.
    All-every {P = BeginsOrStays true bytes q.text s} (every_asserts q (assertion_within w a) s (inr (refl, refl)) (inr (refl, refl)))

-- ---- a character

pub character_begins : (bytes : List Bool) (test : ℕ → Bool) → BeginAmong bytes test → (q : Setting) (s : MatchState) →
    All (BeginsOrStays false bytes q.text s) (moves q (past_char q.text test) s)
character_begins bytes test begin q s =
    All-every {P = BeginsOrStays false bytes q.text s}
    (every_moves q (past_char q.text test) s
    (λ i e. let p = past_char_tells q.text test s.place i e in
    let parts = char_at_parts q.text s.place p.char p.stands in
    inl (ap (begins_among bytes) parts.1 ∙ begins_on bytes (encode_utf8 p.char) _ (begin p.char parts.0 p.passes))))

-- ---- by what is known of an opening

abbrev pub may_stay : Opening → Bool
may_stay opening.Stays = true
may_stay o = false

pub concat_by : (unicode : Bool) (o : Opening) (bytes : List Bool) (es : Trees) → OpensInOrderBy unicode o bytes es → OpensBy unicode o bytes (Concat es)
concat_by unicode opening.Unknown bytes es h = tt
concat_by unicode opening.Stays bytes es h = h
concat_by unicode opening.Begins bytes es h = h

pub alt_by : (unicode : Bool) (o : Opening) (bytes : List Bool) (es : Trees) → OpensEachBy unicode o bytes es → OpensBy unicode o bytes (Alt es)
alt_by unicode opening.Unknown bytes es h = tt
alt_by unicode opening.Stays bytes es h = h
alt_by unicode opening.Begins bytes es h = h

pub group_by : (unicode : Bool) (o : Opening) (bytes : List Bool) (old : ℕ) (e : Tree) → OpensBy unicode o bytes e → OpensBy unicode o bytes (Group old e)
group_by unicode opening.Unknown bytes old e h = tt
group_by unicode opening.Stays bytes old e h = group_opens unicode true bytes e h old
group_by unicode opening.Begins bytes old e h = group_opens unicode false bytes e h old

pub atomic_by : (unicode : Bool) (o : Opening) (bytes : List Bool) (e : Tree) → OpensBy unicode o bytes e → OpensBy unicode o bytes (AtomicGroup e)
atomic_by unicode opening.Unknown bytes e h = tt
atomic_by unicode opening.Stays bytes e h = atomic_opens unicode true bytes e h
atomic_by unicode opening.Begins bytes e h = atomic_opens unicode false bytes e h

pub some_by : (unicode : Bool) (o : Opening) (bytes : List Bool) (lo : ℕ) (hi : Option ℕ) (greedy : Bool) (e : Tree) → 1 ≤ lo →
    OpensBy unicode o bytes e → OpensBy unicode o bytes (Repeat lo hi greedy e)
some_by unicode opening.Unknown bytes lo hi greedy e some h = tt
some_by unicode opening.Stays bytes lo hi greedy e some h = some_opens unicode true bytes e h lo hi greedy some
some_by unicode opening.Begins bytes lo hi greedy e some h = some_opens unicode false bytes e h lo hi greedy some

pub each_by : (unicode : Bool) (o : Opening) (bytes : List Bool) (es : Trees) → OpensEach unicode (may_stay o) bytes es → OpensEachBy unicode o bytes es
each_by unicode opening.Unknown bytes es h = tt
each_by unicode opening.Stays bytes es h = h
each_by unicode opening.Begins bytes es h = h

-- what comes next decides after a node that may stay
pub next_decides : (unicode : Bool) (o : Opening) (bytes larger : List Bool) → Grows bytes larger → (e : Tree) (es : Trees) → Opens unicode true bytes e →
    OpensInOrderBy unicode o larger es → OpensInOrderBy unicode o larger (more e es)
next_decides unicode opening.Unknown bytes larger grows e es first rest = tt
next_decides unicode opening.Stays bytes larger grows e es first rest = first_stays unicode true bytes larger grows e es first rest
next_decides unicode opening.Begins bytes larger grows e es first rest = first_stays unicode false bytes larger grows e es first rest

-- the first of the nodes decides unless it may stay
pub first_decides : (unicode : Bool) (o : Opening) (bytes : List Bool) (e : Tree) (es : Trees) → (o ≡ opening.Stays → ⊥) → OpensBy unicode o bytes e →
    OpensInOrderBy unicode o bytes (more e es)
first_decides unicode opening.Unknown bytes e es other h = tt
first_decides unicode opening.Stays bytes e es other h = absurd (other refl)
first_decides unicode opening.Begins bytes e es other h = first_begins unicode false bytes bytes (λ b is. is) e es h

pub no_item_left : (given : List Expr) (i : ℕ) → length given ≤ i → drop i given ≡ []
no_item_left given i le = drop_all i given le

pub item_next : (given : List Expr) (i : ℕ) (e : Expr) → i < length given → e ≡ get_or given i e → drop i given ≡ e ∷ drop (i + 1) given
item_next given i e lt at = drop_more given i e lt ∙ ap (λ x. x ∷ drop (i + 1) given) (sym at)

pub class_opens : (unicode : Bool) (bytes : List Bool) (inner : List ℕ) (casei : Bool) → BeginAmong bytes (class_takes unicode inner casei) →
    Opens unicode false bytes (Delegate inner casei)
class_opens unicode bytes inner casei among = λ q call w n s same.
    character_begins bytes (class_takes q.unicode inner casei) (subst (λ u. BeginAmong bytes (class_takes u inner casei)) (sym same) among) q s

pub literal_opens : (unicode : Bool) (bytes : List Bool) (c : ℕ) (casei : Bool) → BeginAmong bytes (literal_takes unicode c casei) →
    Opens unicode false bytes (Literal c casei)
literal_opens unicode bytes c casei among = λ q call w n s same.
    character_begins bytes (literal_takes q.unicode c casei) (subst (λ u. BeginAmong bytes (literal_takes u c casei)) (sym same) among) q s

-- ---- with which bytes characters begin

-- the set has each ASCII character that passes, and where another one passes all other bytes
pub among_by : (bytes : List Bool) (test : ℕ → Bool) → ((c : ℕ) → c < 128 → test c ≡ true → slice_index_or bytes c false ≡ true) →
    ((c : ℕ) → IsScalar c → 128 ≤ c → test c ≡ true → (byte : ℕ) → 128 ≤ byte → byte < 256 → slice_index_or bytes byte false ≡ true) → BeginAmong bytes test
among_by bytes test ascii others c scalar is =
    let first = first_byte c scalar in
    ap (begins_among bytes) first.is
    ∙ ⊎_elim
    (λ small. let same = first.ascii small in
    ap (λ b. slice_index_or bytes b false) (sym same) ∙ ascii c (omega (arith, same, small)) is)
    (λ large. others c scalar (first.beyond large) is first.byte large first.below)
    (cases_lt first.byte 128)
