-- Where matches begin: from all other places there is no way.
use Rattle.std.proofs.Common.{◌≡◌, ⊎_elim, ℕ, zero, suc, ◌+◌, ◌-◌, ◌<◌, ◌≤◌, Bool, true, false, ◌&&◌, List, [], drop, length, min, replicate, None, Some, string_bytes, take, length-drop, Option, slice_get, slice_index, slice_index_or, refl, sym, ap, subst, ◌∙◌, arith}
use Rattle.std.proofs.lemmas.Bool.{and_from, and_parts, cases_eq, cases_lt, false≢true}
use Rattle.std.proofs.lemmas.List.{drop_all, drop_more, get_or-drop}
use Rattle.std.proofs.lemmas.Option.{slice_get-get_or}
use Rattle.std.specs.Option.{option_map_or}
use Rattle.std.specs.Prelude.{MatchOption}
use Rattle.regex_hir.specs.Text.{byte_before, has_bytes_at}
use Rattle.regex_hir.proofs.TextLemmas.{byte_before-add-one, byte_before-zero}
use Rattle.memchr.specs.Find.{FindsNeedle, NoneBefore, Nowhere, Passes}
use Rattle.fancy_meaning.specs.Answer.{Search, search_of, ways_from}
use Rattle.fancy_meaning.specs.MatchState.{MatchState, Ways, first_state, in_order, with_span}
use Rattle.fancy_meaning.specs.Nodes.{group_count}
use Rattle.fancy_meaning.specs.Numbering.{each_numbered, numbered}
use Rattle.fancy_meaning.specs.OpenCalls.{free_calls, no_calls}
use Rattle.fancy_meaning.specs.Options.{RunOptions}
use Rattle.fancy_meaning.specs.Premises.{Input, plan}
use Rattle.fancy_meaning.specs.Tree.{Tree, Trees, AtomicGroup, Concat, Group, NoLook, more}
use Rattle.fancy_meaning.specs.Ways.{called, each_ways}
use Rattle.fancy_expr.specs.declared.expr.Assertion.{Assertion}
use Rattle.fancy_laws.proofs.Continues.{nothing_there}
use Rattle.fancy_laws.proofs.Every.{Every, All-every, every-All, every_anything, every_both, every_flat_map, every_map, every_take, every_weaker}
use Rattle.fancy_literals.specs.Befores.{IsBefore, may_be}
use Rattle.fancy_literals.specs.ByteSets.{HasNone, is_in}
use Rattle.fancy_literals.specs.declared.before.Before.{Before}
use Rattle.fancy_literals.specs.Leads.{AddsOf, LeadsBy}
use Rattle.fancy_literals.specs.Opens.{BeginsOrStays, Opens}
use Rattle.fancy_literals.specs.Required.{begins_among}
use Rattle.fancy_literals.specs.Starts.{AreBytes, IsGuarded, allows, is_preceded, may_begin}
use Rattle.fancy_literals.specs.declared.starts.Starts.{Starts}
use Rattle.fancy_literals.proofs.BeforeLaws.{byte_may_be}
use Rattle.fancy_literals.proofs.MissingLaw.{occurs, rest_from}

-- ---- the assertion with which a node begins

module _ (unicode : Bool) (a : Option Assertion) (e : Tree) (h : IsGuarded unicode a e) where
  pub guarded_group : (old : ℕ) → IsGuarded unicode a (Group old e)
  guarded_group old = λ q call w n s same.
      All-every {P = λ t. allows unicode a q.text s.place ≡ true}
      (every_map {P = λ t. allows unicode a q.text s.place ≡ true} (λ t. with_span n (s.place, t.place) t) (λ t is. is)
      (every-All _ _ (h q call w (suc n) s same)))

  pub guarded_atomic : IsGuarded unicode a (AtomicGroup e)
  guarded_atomic = λ q call w n s same.
      All-every {P = λ t. allows unicode a q.text s.place ≡ true} (every_take 1 (every-All _ _ (h q call w n s same)))

  pub guarded_first : (es : Trees) → IsGuarded unicode a (Concat (more e es))
  guarded_first es = λ q call w n s same.
      let on : Ways = in_order (each_ways q call (each_numbered w (n + group_count e) es)) in
      All-every {P = λ t. allows unicode a q.text s.place ≡ true}
      (every_flat_map {P = λ t. allows unicode a q.text s.place ≡ true} on (λ t is. every_anything (on t) (λ u. is))
      (every-All _ _ (h q call w n s same)))

-- ---- from elsewhere there is no way

all_hold : (a b c d : Bool) → a ≡ true → b ≡ true → c ≡ true → d ≡ true → (a && (b && (c && d))) ≡ false → ⊥
all_hold a b c d one two three four misses = false≢true (sym misses ∙ and_from a (b && (c && d)) one (and_from b (c && d) two (and_from c d three four)))

every_is_true : (n k : ℕ) → k < n → slice_index_or (replicate n true) k false ≡ true
every_is_true zero k small = absurd (omega (arith, small))
every_is_true (suc n) zero small = refl
every_is_true (suc n) (suc k) small = every_is_true n k (omega (arith, small))

abbrev pub before_of : Starts → Before
before_of starts = record { bytes = starts.before.bytes; at_start = starts.at_start }

module _ (starts : Starts) (unicode : Bool) (tree : Tree) (own : starts.unicode ≡ unicode) (preceded : IsBefore unicode false (before_of starts) tree)
    (guarded : IsGuarded unicode starts.guard tree) (whole : Bool) (adds : AddsOf [] (string_bytes starts.literal) whole tree) (i : Input)
    (text : List ℕ) (o : RunOptions) (at : ℕ) (same : (i.parsed).tree ≡ tree) (option : (i.options).unicode ≡ unicode) where
  abbrev here_ways : List MatchState
  here_ways = ways_from (search_of (plan i) text o) at

  abbrev Begins : MatchState → Type 0
  Begins t = begins_among starts.first.bytes (drop at text) ≡ true

  -- where each way begins with a byte of the set
  none_there : Every Begins here_ways → may_begin starts text at ≡ false → here_ways ≡ []
  unfolding numbered
  none_there begins not_here =
      let q : Search = search_of (plan i) text o in
      let call = called q.setting q.tree (free_calls q.tree no_calls) no_calls in
      let s : MatchState = first_state at in
      let literal : List ℕ = string_bytes starts.literal in
      let Held : MatchState → Type 0 = λ t. (is_preceded starts text at ≡ true) × (allows starts.unicode starts.guard text at ≡ true) in
      let Led : MatchState → Type 0 = λ t. has_bytes_at text at literal ≡ true in
      let after : Every (λ t. is_preceded starts text at ≡ true) (ways_from q at) =
      every-All _ _ (subst (IsBefore unicode false (before_of starts)) (sym same) preceded q.setting call NoLook _ s option) in
      let held : Every (λ t. allows unicode starts.guard text at ≡ true) (ways_from q at) =
      every-All _ _ (subst (IsGuarded unicode starts.guard) (sym same) guarded q.setting call NoLook _ s option) in
      let first : AddsOf [] literal whole (i.parsed).tree = subst (AddsOf [] literal whole) (sym same) adds in
      let led : Every Led (ways_from q at) =
      every_weaker {P = LeadsBy first.literal whole text s} (λ t leads. subst (λ l. has_bytes_at text at l ≡ true) (sym first.added) leads.0)
      (every-All _ _ (first.leads q.setting call NoLook _ s)) in
      nothing_there (ways_from q at)
      (every_both {P = λ t. Begins t × Led t} {Q = Held} {R = λ t. ⊥}
      (λ t. λ here holds.
      all_hold (begins_among starts.first.bytes (drop at text)) (is_preceded starts text at) (allows starts.unicode starts.guard text at)
      (has_bytes_at text at literal) here.0 holds.0 holds.1 here.1 not_here)
      (every_both {P = Begins} {Q = Led} {R = λ t. Begins t × Led t} (λ t here leads. (here, leads)) begins led)
      (every_both {P = λ t. is_preceded starts text at ≡ true} {Q = λ t. allows unicode starts.guard text at ≡ true} {R = Held}
      (λ t before holds. (before, subst (λ u. allows u starts.guard text at ≡ true) (sym own) holds)) after held))
      (λ t never. never)

  -- as it does where that is known of the tree
  begins_there : Opens unicode false starts.first.bytes tree → Every Begins here_ways
  unfolding numbered
  begins_there opens =
      let q : Search = search_of (plan i) text o in
      let call = called q.setting q.tree (free_calls q.tree no_calls) no_calls in
      let s : MatchState = first_state at in
      let Here : MatchState → Type 0 = BeginsOrStays false starts.first.bytes text s in
      let opened : Every Here (ways_from q at) =
      every-All _ _ (subst (Opens unicode false starts.first.bytes) (sym same) opens q.setting call NoLook _ s option) in
      every_weaker {P = Here} {Q = Begins}
      (λ t here. ⊎_elim {B = (false ≡ true) × (t.place ≡ at)} (λ is. is) (λ never. absurd (false≢true never.0)) here)
      opened

  -- and where all bytes are in the set
  begins_anyhow : starts.first.bytes ≡ replicate 256 true → at < length text → slice_index text at < 256 → Every Begins here_ways
  begins_anyhow all inside small =
      let is : begins_among starts.first.bytes (drop at text) ≡ true =
      ap (begins_among starts.first.bytes) (drop_more text at 0 inside) ∙ ap (λ l. slice_index_or l (slice_index text at) false) all
      ∙ every_is_true 256 (slice_index text at) small in
      every_anything here_ways (λ t. is)

  pub starts_there : (at_end : Bool) → (at_end ≡ false → Opens unicode false starts.first.bytes tree) →
      (at_end ≡ true → starts.first.bytes ≡ replicate 256 true) → (at_end ≡ true → at < length text) → AreBytes text →
      may_begin starts text at ≡ false → here_ways ≡ []
  starts_there true opens all inside bytes = none_there (begins_anyhow (all refl) (inside refl) (bytes at))
  starts_there false opens all inside bytes = none_there (begins_there (opens refl))

-- ---- the next start

-- what is before a byte

pub preceded_first : (starts : Starts) (text : List ℕ) (at : ℕ) → at ≡ 0 → starts.at_start ≡ is_preceded starts text at
preceded_first starts text at first =
    sym (ap (is_preceded starts text) first ∙ ap (λ o. option_map_or (may_be starts.before.bytes) o starts.at_start) (byte_before-zero text))

preceded_by : (starts : Starts) (text : List ℕ) (at : ℕ) (o : Option ℕ) → 1 ≤ at → slice_get text (at - 1) ≡ o →
    option_map_or (may_be starts.before.bytes) o starts.at_start ≡ is_preceded starts text at
preceded_by starts text at o some is =
    let next : at ≡ at - 1 + 1 = omega (arith, some) in
    sym (ap (λ v. option_map_or (may_be starts.before.bytes) v starts.at_start) (ap (byte_before text) next ∙ byte_before-add-one text (at - 1) ∙ is))

pub preceded_after : (starts : Starts) (text : List ℕ) (at : ℕ) → at < length text → slice_index text at < 256 →
    is_in starts.before.bytes (slice_index text at) ≡ is_preceded starts text (at + 1)
preceded_after starts text at within small =
    let same : at + 1 - 1 ≡ at = omega arith in
    sym (byte_may_be starts.before.bytes (slice_index text at) small)
    ∙ preceded_by starts text (at + 1) (Some (slice_index text at)) (omega arith) (ap (slice_get text) same ∙ slice_get-get_or text at 0 within)

module _ (starts : Starts) (text : List ℕ) where
  parts_of : (at : ℕ) → may_begin starts text at ≡ true →
      (begins_among starts.first.bytes (drop at text) ≡ true) × ((is_preceded starts text at ≡ true) × ((allows starts.unicode starts.guard text at ≡ true)
      × (has_bytes_at text at (string_bytes starts.literal) ≡ true)))
  parts_of at is =
      let stands : Bool = has_bytes_at text at (string_bytes starts.literal) in
      let allowed : Bool = allows starts.unicode starts.guard text at in
      let two = and_parts (begins_among starts.first.bytes (drop at text)) (is_preceded starts text at && (allowed && stands)) is in
      let three = and_parts (is_preceded starts text at) (allowed && stands) two.1 in
      (two.0, (three.0, and_parts allowed stands three.1))

  -- the byte there is one of the set
  pub byte_is_in : (at : ℕ) → at < length text → may_begin starts text at ≡ true → is_in starts.first.bytes (slice_index text at) ≡ true
  byte_is_in at within is = sym (ap (begins_among starts.first.bytes) (drop_more text at 0 within)) ∙ (parts_of at is).0

  pub what_is_before : (at : ℕ) → may_begin starts text at ≡ true → is_preceded starts text at ≡ true
  what_is_before at is = (parts_of at is).1.0

  pub assertion_holds : (at : ℕ) → may_begin starts text at ≡ true → allows starts.unicode starts.guard text at ≡ true
  assertion_holds at is = (parts_of at is).1.1.0

  literal_stands : (at : ℕ) → may_begin starts text at ≡ true → has_bytes_at text at (string_bytes starts.literal) ≡ true
  literal_stands at is = (parts_of at is).1.1.1

  abbrev pub MayBegin : ℕ → Type 0
  MayBegin k = may_begin starts text k ≡ true

  -- nor does one begin at the end
  pub none_at_end : (at : ℕ) → length text ≤ at → may_begin starts text at ≡ false
  none_at_end at past =
      ap (λ l. begins_among starts.first.bytes l
      && (is_preceded starts text at && (allows starts.unicode starts.guard text at && has_bytes_at text at (string_bytes starts.literal))))
      (drop_all at text past)

  -- one more byte
  pub one_further : (from at : ℕ) → Nowhere MayBegin from at → (MayBegin at → ⊥) → Nowhere MayBegin from (at + 1)
  one_further from at before here k low high is =
      ⊎_elim (λ e. here (subst MayBegin e is)) (λ other. before k low (omega (arith, high, other)) is) (cases_eq k at)

  -- no byte of the set is in what is left of the text, up to this one
  pub skipped : (from at skip : ℕ) → Nowhere MayBegin from at → at + skip ≤ length text →
      Nowhere (Passes (is_in starts.first.bytes) (drop at text)) 0 skip → Nowhere MayBegin from (at + skip)
  skipped from at skip before within none k low high is =
      ⊎_elim
      (λ less. before k low less is)
      (λ (more : at ≤ k).
      let same : at + (k - at) ≡ k = omega (arith, more) in
      none (k - at) (omega arith) (omega (arith, high, more))
      (ap (is_in starts.first.bytes) (get_or-drop at text (k - at) 0 ∙ ap (λ j. slice_index_or text j 0) same)
      ∙ byte_is_in k (omega (arith, high, within)) is))
      (cases_lt k at)

  -- nor is one of the set before a byte of it
  pub skipped_after : ((k : ℕ) → slice_index text k < 256) → (from at skip : ℕ) → Nowhere MayBegin from (at + 1) → at + skip < length text →
      Nowhere (Passes (is_in starts.before.bytes) (drop at text)) 0 skip → Nowhere MayBegin from (at + skip + 1)
  skipped_after small from at skip before within none k low high is =
      ⊎_elim
      (λ less. before k low less is)
      (λ (more : at + 1 ≤ k).
      let j : ℕ = k - 1 in
      let next : k ≡ j + 1 = omega (arith, more) in
      let same : at + (j - at) ≡ j = omega (arith, more) in
      none (j - at) (omega arith) (omega (arith, high, more))
      (ap (is_in starts.before.bytes) (get_or-drop at text (j - at) 0 ∙ ap (λ i. slice_index_or text i 0) same)
      ∙ preceded_after starts text j (omega (arith, high, within, more)) (small j) ∙ ap (is_preceded starts text) (sym next) ∙ what_is_before k is))
      (cases_lt k (at + 1))

-- what is left of the text from a byte on is searched
pub found_in_rest : (starts : Starts) (text bytes : List ℕ) (from at skip : ℕ) → bytes ≡ text → at < length text → Nowhere (MayBegin starts text) from at →
    from ≤ at →
    NoneBefore (Passes (is_in starts.first.bytes) (take (length bytes - at) (drop at bytes))) 0 (length (take (length bytes - at) (drop at bytes))) skip →
    NoneBefore (MayBegin starts text) from (length text) (at + skip)
found_in_rest starts text bytes from at skip same within before low found =
    let start : at ≡ min at (length bytes) = omega (arith, within, ap length same) in
    let rest : take (length bytes - at) (drop at bytes) ≡ drop at text = rest_from bytes at at start ∙ ap (drop at) same in
    let high = found.high in
    let long : length (take (length bytes - at) (drop at bytes)) ≡ length text - at = ap length rest ∙ length-drop at text in
    record {
      low = omega (arith, low);
      high = omega (arith, high, long, within);
      before =
          skipped starts text from at skip before (omega (arith, high, long, within))
          (subst (λ l. Nowhere (Passes (is_in starts.first.bytes) l) 0 skip) rest found.before);
    }

pub none_in_rest : (starts : Starts) (text bytes : List ℕ) (from at : ℕ) → bytes ≡ text → at < length text → Nowhere (MayBegin starts text) from at →
    HasNone (is_in starts.first.bytes) (take (length bytes - at) (drop at bytes)) → Nowhere (MayBegin starts text) from (length text)
none_in_rest starts text bytes from at same within before none =
    let start : at ≡ min at (length bytes) = omega (arith, within, ap length same) in
    let rest : take (length bytes - at) (drop at bytes) ≡ drop at text = rest_from bytes at at start ∙ ap (drop at) same in
    let left : ℕ = length text - at in
    let all : at + left ≡ length text = omega (arith, within) in
    subst (Nowhere (MayBegin starts text) from) all
    (skipped starts text from at left before (omega (arith, within))
    (subst (λ l. Nowhere (Passes (is_in starts.first.bytes) l) 0 left) rest
    (subst (Nowhere (Passes (is_in starts.first.bytes) (take (length bytes - at) (drop at bytes))) 0) (ap length rest ∙ length-drop at text) none)))

-- so it is for the bytes before
pub found_before : (starts : Starts) (text bytes : List ℕ) → ((k : ℕ) → slice_index text k < 256) → (from at skip : ℕ) → bytes ≡ text → at < length text →
    Nowhere (MayBegin starts text) from (at + 1) →
    NoneBefore (Passes (is_in starts.before.bytes) (take (length bytes - at) (drop at bytes))) 0 (length (take (length bytes - at) (drop at bytes))) skip →
    Nowhere (MayBegin starts text) from (at + skip + 1)
found_before starts text bytes small from at skip same within before found =
    let start : at ≡ min at (length bytes) = omega (arith, within, ap length same) in
    let rest : take (length bytes - at) (drop at bytes) ≡ drop at text = rest_from bytes at at start ∙ ap (drop at) same in
    let high = found.high in
    let long : length (take (length bytes - at) (drop at bytes)) ≡ length text - at = ap length rest ∙ length-drop at text in
    skipped_after starts text small from at skip before (omega (arith, high, long, within))
    (subst (λ l. Nowhere (Passes (is_in starts.before.bytes) l) 0 skip) rest found.before)

pub none_before : (starts : Starts) (text bytes : List ℕ) → ((k : ℕ) → slice_index text k < 256) → (from at : ℕ) → bytes ≡ text → at < length text →
    Nowhere (MayBegin starts text) from (at + 1) →
    HasNone (is_in starts.before.bytes) (take (length bytes - at) (drop at bytes)) → Nowhere (MayBegin starts text) from (length text)
none_before starts text bytes small from at same within before none =
    let start : at ≡ min at (length bytes) = omega (arith, within, ap length same) in
    let rest : take (length bytes - at) (drop at bytes) ≡ drop at text = rest_from bytes at at start ∙ ap (drop at) same in
    let long : length (take (length bytes - at) (drop at bytes)) ≡ length text - at = ap length rest ∙ length-drop at text in
    let skip : ℕ = length text - at - 1 in
    let all : at + skip + 1 ≡ length text = omega (arith, within) in
    subst (Nowhere (MayBegin starts text) from) all
    (skipped_after starts text small from at skip before (omega (arith, within))
    (λ k low high. subst (λ l. Passes (is_in starts.before.bytes) l k → ⊥) rest (none k low (omega (arith, high, long, within)))))

-- so it is for the literal
pub next_literal : (starts : Starts) (text bytes : List ℕ) (from at : ℕ) (o : Option ℕ) → bytes ≡ text → at < length text → Nowhere (MayBegin starts text) from at →
    FindsNeedle (take (length bytes - at) (drop at bytes)) (string_bytes starts.literal) 0 o →
    MatchOption o (Nowhere (MayBegin starts text) from (length text)) (λ skip. (at + skip ≤ length text) × Nowhere (MayBegin starts text) from (at + skip))
next_literal starts text bytes from at o same within before found =
    let start : at ≡ min at (length bytes) = omega (arith, within, ap length same) in
    let rest : take (length bytes - at) (drop at bytes) ≡ drop at text = rest_from bytes at at start ∙ ap (drop at) same in
    go o (subst (λ l. FindsNeedle l (string_bytes starts.literal) 0 o) rest found)
  where
    go : (o : Option ℕ) → FindsNeedle (drop at text) (string_bytes starts.literal) 0 o →
        MatchOption o (Nowhere (MayBegin starts text) from (length text)) (λ skip. (at + skip ≤ length text) × Nowhere (MayBegin starts text) from (at + skip))
    go None none = λ k low high is.
        ⊎_elim
        (λ less. before k low less is)
        (λ (more : at ≤ k). none (k - at) (omega arith) (omega (arith, high, more, length-drop at text))
        (occurs text at (string_bytes starts.literal) k more (omega (arith, high)) (literal_stands starts text k is)))
        (cases_lt k at)
    go (Some skip) some =
        let first = some.0 in
        let fits = first.high in (
          omega (arith, fits, within, length-drop at text),
          λ k low high is.
              ⊎_elim
              (λ less. before k low less is)
              (λ (more : at ≤ k). first.before (k - at) (omega arith) (omega (arith, high, more))
              (occurs text at (string_bytes starts.literal) k more (omega (arith, high, fits, within, length-drop at text)) (literal_stands starts text k is)))
              (cases_lt k at),
        )
