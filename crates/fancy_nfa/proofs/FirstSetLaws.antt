-- A search whose states are all such as lead on to each other alone, where no such characters stand, finds no way.
use Rattle.std.proofs.Common.{◌≡◌, ◌<◌, ◌≤◌, ◌+◌, ◌∷◌, ◌++◌, [], ℕ, zero, suc, Bool, true, false, ◌&&◌, ◌||◌, ◌⊎◌, not, min, List, Option, Some, None, if◌then◌else◌, ◌==◌, nat_le, nat_lt, slice_get, length, map, drop, option_map, inl, inr, arith, refl, sym, ap, ap₂, ◌∙◌, subst, true≢false, add-one}
use Rattle.std.specs.Prelude.{slice_index_or}
use Rattle.std.specs.Char.{IsScalar, len_utf8}
use Rattle.std.specs.Option.{option_and_then}
use Rattle.std.proofs.lemmas.Bool.{cases_lt, eqb-true, leb-true, ltb-true}
use Rattle.std.proofs.lemmas.Str.{len_utf8_ascii}
use Rattle.std.proofs.lemmas.Bool.Decides.{nat_tests}
use Rattle.std.proofs.lemmas.Option.{slice_get-map, slice_get_past}
use Rattle.regex_hir.proofs.TextLemmas.{char_at_ascii, char_at_past}
use Rattle.fancy_meaning.specs.Moves.{past_char}
use Rattle.fancy_meaning.specs.Assertions.{holds}
use Rattle.fancy_nfa_laws.specs.NfaStates as plain
use Rattle.fancy_nfa_laws.specs.NfaStates.{NfaState}
use Rattle.fancy_nfa_laws.specs.NfaSearch as counted
use Rattle.fancy_nfa_laws.specs.NfaSearch.{StepResult, Lost, Goes, Tries, NfaConfig, LoopCounter, choice_step, close_step, first_config, forward, goes_past, goes_to, has_stayed, counter_loop_step, is_last, step_at, next, next_count, next_counter, passes}
use Rattle.fancy_nfa.specs.declared.nfa_state.NfaState as code
use Rattle.fancy_nfa.specs.declared.nfa_state.NfaState.TheVariants as variant
use Rattle.fancy_nfa.specs.declared.nfa_state.CharTest as code_test
use Rattle.fancy_nfa.specs.Views.{state_of}
use Rattle.fancy_characters.specs.Others.{LacksOthers}
use Rattle.fancy_characters.proofs.OthersLaws.{lacks_here}
use Rattle.fancy_nfa.specs.FirstSets.{AreFirstSets, AreLevels, IsLevel, IsWithin, covers, counter_loop_within, has_character, is_begun_by, is_over, is_past, is_short, steps_within, may_begin, TakesAmong}
use Rattle.fancy_nfa.proofs.KeptLaws.{StepKeeps, finds_none}

both : (a b : Bool) → (a && b) ≡ true → (a ≡ true) × (b ≡ true)
both true b e = (refl, e)
both false b e = absurd (true≢false (sym e))

none_past : {A : Type 0} (l : List A) (i : ℕ) → slice_get l i ≡ None → length l ≤ i
none_past [] i e = omega arith
none_past (x ∷ l) zero e = cc
none_past (x ∷ l) (suc i) e = omega (arith, none_past l i e)

pub some_below : {A : Type 0} (l : List A) (i : ℕ) (x : A) → slice_get l i ≡ Some x → i < length l
some_below [] i x e = cc
some_below (y ∷ l) zero x e = omega arith
some_below (y ∷ l) (suc i) x e = omega (arith, some_below l i x e)

pub at_index : {A : Type 0} (l : List A) (i : ℕ) (d : A) → i < length l → slice_get l i ≡ Some (slice_index_or l i d)
at_index [] i d h = absurd (omega (arith, h))
at_index (x ∷ l) zero d h = refl
at_index (x ∷ l) (suc i) d h = at_index l i d (omega (arith, h))

some_same : {A : Type 0} {x y : A} → Some x ≡ Some y → x ≡ y
some_same e = cc

-- a test does not ask for the text
pub passes_alike : (text : List ℕ) (unicode : Bool) (test : plain.CharTest) (c : ℕ) → passes [] unicode test c ≡ passes text unicode test c
passes_alike text unicode (plain.AnyChar newline crlf) c = refl
passes_alike text unicode (plain.OneChar d casei) c = refl
passes_alike text unicode (plain.InClass inner casei) c = refl

-- past the end no character is taken
pub past_end : (text : List ℕ) (f : ℕ → Bool) (i : ℕ) → slice_get text i ≡ None → past_char text f i ≡ None
past_end text f i e =
    ap (option_and_then (λ c. if f c then Some (i + len_utf8 c) else None)) (char_at_past text i (none_past text i e))

-- one of ASCII is one byte
pub skip_ascii : (text : List ℕ) (f : ℕ → Bool) (i b : ℕ) → slice_get text i ≡ Some b → b < 128 → (passed : Bool) → f b ≡ passed →
    past_char text f i ≡ (if passed then Some (i + 1) else None)
skip_ascii text f i b here small passed e =
    ap (option_and_then (λ c. if f c then Some (i + len_utf8 c) else None)) (char_at_ascii text i b here small)
    ∙ ap (λ n. if f b then Some (i + n) else None) (len_utf8_ascii b small)
    ∙ ap (λ a. if a then Some (i + 1) else None) e

-- ---- the iterations that were begun

-- of the loop around one less than the counter, and the last is not asked whether it moves
abbrev pub IsIn : (counter : ℕ) → List LoopCounter → Type 0
IsIn counter [] = ⊥
IsIn counter (t ∷ ts) = (t.count + 1 ≡ counter) × (t.since ≡ None)

pub record IsReached (counter : ℕ) (counters : List LoopCounter) : Type 0 where
  pub comes : 0 < counter
  pub known : counter < 255 → IsIn counter counters

reached_any : (counters : List LoopCounter) → IsReached 255 counters
reached_any counters = record { comes = omega arith; known = λ small. absurd (omega (arith, small)) }

pub reached_there : (there counter : ℕ) (counters : List LoopCounter) → (there == counter || there == 255) ≡ true → IsReached counter counters →
    IsReached there counters
reached_there there counter counters e h = go (there == counter) (there == 255) refl refl e
  where
    go : (a b : Bool) → (there == counter) ≡ a → (there == 255) ≡ b → (a || b) ≡ true → IsReached there counters
    go true b p q e = subst (λ w. IsReached w counters) (sym (eqb-true there counter p)) h
    go false true p q e = subst (λ w. IsReached w counters) (sym (eqb-true there 255 q)) (reached_any counters)
    go false false p q e = absurd (true≢false (sym e))

-- where a search begins
pub first_reached : (reached : List ℕ) → covers reached 0 255 ≡ true → IsReached (slice_index_or reached 0 0) []
first_reached reached first = reached_there (slice_index_or reached 0 0) 255 [] first (reached_any [])

past_is_last : (hi : Option ℕ) (count counter : ℕ) → count + 1 ≡ counter → is_last hi count ≡ is_past hi counter
past_is_last None count counter is = refl
past_is_last (Some hi) count counter is = grind (arith, nat_tests)

no_since : (asks few : Bool) (place : ℕ) → few ≡ true → (if asks && not few then Some place else None) ≡ None
no_since true true place e = refl
no_since true false place e = absurd (true≢false (sym e))
no_since false few place e = refl

count_next : (lo : ℕ) (hi : Option ℕ) (count : ℕ) → count < lo → next_count lo hi count ≡ count + 1
count_next lo None count few = omega (arith, few)
count_next lo (Some hi) count few = refl

-- where so many were begun, the head of the loop goes one way alone
module _ (l : plain.Loop) (counter : ℕ) (place : ℕ) (t : LoopCounter) (small : counter < 255) (is : t.count + 1 ≡ counter) (none : t.since ≡ None) where
  over_by : counted.is_over l place t ≡ is_past l.hi counter
  over_by = ap₂ (λ a b. a || b) (ap (has_stayed place) none) (past_is_last l.hi t.count counter is)

  is_known : nat_lt counter 255 ≡ true
  is_known = grind (arith, nat_tests)

  over_there : counted.is_over l place t ≡ is_over l counter
  over_there = over_by ∙ ap (λ a. a && is_past l.hi counter) (sym is_known)

  few_begun : is_short l counter ≡ true → nat_lt t.count l.lo ≡ true
  few_begun e = let lo = leb-true counter l.lo (both (nat_lt counter 255) (nat_le counter l.lo) e).1 in grind (arith, nat_tests)

  next_reached : (ts : List LoopCounter) → is_short l counter ≡ true → IsReached (counter + 1) (next_counter l place t ∷ ts)
  next_reached ts e =
      let few : t.count < l.lo = ltb-true t.count l.lo (few_begun e) in
      record {
        comes = omega arith;
        known = λ more. (ap (λ n. n + 1) (count_next l.lo l.hi t.count few ∙ is), no_since l.asks_moved (nat_lt t.count l.lo) place (few_begun e));
      }

-- ---- levels

module _ (unicode : Bool) (states : List NfaState) where
  pub one_more : (reached : List ℕ) (levels : List (List Bool)) (last : List ℕ) (ascii : List Bool) (after : List ℕ) →
      AreLevels unicode states reached levels last → IsLevel unicode states last ascii after →
      AreLevels unicode states reached (levels ++ (ascii ∷ [])) after
  one_more reached [] last ascii after e h = (after, (subst (λ r. IsLevel unicode states r ascii after) (sym e) h, refl))
  one_more reached (level ∷ levels) last ascii after (next, (is, more)) h =
      (next, (is, one_more next levels last ascii after more h))

-- ---- what leads on from a state that is reached, where the property holds of what is reached at the same place

module _ (text : List ℕ) (unicode : Bool) (states : List NfaState) (P : NfaConfig → Type 0) where
  abbrev pub StepInside : StepResult → Type 0
  StepInside = StepKeeps P

  holds_inside : (s : NfaConfig) (b : Bool) → P (forward s) → StepInside (if b then Goes (forward s) else Lost)
  holds_inside s true h = h
  holds_inside s false h = tt

  module _ (l : plain.Loop) (on off : NfaConfig) where
    abbrev head : (over few : Bool) → StepResult
    head over few = if over then Tries true off [] else if few then Tries true on [] else choice_step l.greedy on off

    either_inside : (over few : Bool) → P on → P off → StepInside (head over few)
    either_inside over few h k = go over few l.greedy
      where
        go : (over few greedy : Bool) →
            StepInside (if over then Tries true off [] else if few then Tries true on [] else choice_step greedy on off)
        go true few greedy = (k, tt)
        go false true greedy = (h, tt)
        go false false true = (h, (k, tt))
        go false false false = (k, (h, tt))

    on_inside : (over few : Bool) → over ≡ false → few ≡ true → P on → StepInside (head over few)
    on_inside true few e f h = absurd (true≢false e)
    on_inside false true e f h = (h, tt)
    on_inside false false e f h = absurd (true≢false (sym f))

    off_inside : (over few : Bool) → over ≡ true → P off → StepInside (head over few)
    off_inside true few e h = (h, tt)
    off_inside false few e h = absurd (true≢false (sym e))

  -- past a character, where the property holds behind each of ASCII that stands here and passes
  module _ (s : NfaConfig) (test : plain.CharTest) where
    abbrev past : Option ℕ
    past = past_char text (passes text unicode test) s.place

    by_past : (o : Option ℕ) → past ≡ o → StepInside (goes_past s o) → StepInside (goes_past s past)
    by_past o e h = subst (λ o. StepInside (goes_past s o)) (sym e) h

    by_passed : (b : ℕ) → slice_get text s.place ≡ Some b → b < 128 → (passed : Bool) → passes text unicode test b ≡ passed →
        (passes [] unicode test b ≡ true → P (record (forward s) { place = s.place + 1 })) → StepInside (goes_past s past)
    by_passed b at small false e behind = by_past None (skip_ascii text (passes text unicode test) s.place b at small false e) tt
    by_passed b at small true e behind =
        by_past (Some (s.place + 1)) (skip_ascii text (passes text unicode test) s.place b at small true e)
        (behind (passes_alike text unicode test b ∙ e))

    -- one beyond ASCII stands here, and none such passes
    by_others : (b : ℕ) → slice_get text s.place ≡ Some b → 128 ≤ b → LacksOthers (passes text unicode test) → StepInside (goes_past s past)
    by_others b at far lacks = by_past None (lacks_here text (passes text unicode test) s.place b at far lacks) tt

    -- what is to be known of a byte that stands here
    abbrev pub Inside_behind : ℕ → Type 0
    Inside_behind b =
        ((b < 128) × (passes [] unicode test b ≡ true → P (record (forward s) { place = s.place + 1 })))
        ⊎ ((128 ≤ b) × LacksOthers (passes text unicode test))

    pub takes_inside : (o : Option ℕ) → slice_get text s.place ≡ o → ((b : ℕ) → o ≡ Some b → Inside_behind b) → StepInside (goes_past s past)
    takes_inside None at behind = by_past None (past_end text (passes text unicode test) s.place at) tt
    takes_inside (Some b) at behind = elim (behind b refl) [
      | inl h ↦ by_passed b at h.0 (passes text unicode test b) refl h.1
      | inr h ↦ by_others b at h.0 h.1
    ]

  module _ (s : NfaConfig) (reached : List ℕ) (here : IsReached (slice_index_or reached s.at 0) s.counters)
      (keeps : (t : NfaConfig) → t.place ≡ s.place → IsReached (slice_index_or reached t.at 0) t.counters → P t) where
    abbrev counter : ℕ
    counter = slice_index_or reached s.at 0

    -- at the same place
    stays_at : (t : NfaConfig) → t.place ≡ s.place → (w : ℕ) → covers reached t.at w ≡ true → IsReached w t.counters → P t
    stays_at t same w covered there = keeps t same (reached_there (slice_index_or reached t.at 0) w t.counters covered there)

    close_inside : (g : ℕ) (opened : List ℕ) → covers reached (s.at + 1) counter ≡ true → StepInside (close_step g s opened)
    close_inside g [] covered = stays_at (forward s) refl counter covered here
    close_inside g (i ∷ is) covered =
        stays_at (record (forward s) { opened = is; spans = (g, (i, s.place)) ∷ s.spans }) refl counter covered here

    module _ (l : plain.Loop) (off : ℕ) (t : LoopCounter) (ts : List LoopCounter) (h : IsReached counter (t ∷ ts)) where
      abbrev into : NfaConfig
      into = record (forward s) { counters = next_counter l s.place t ∷ ts }

      abbrev out_of : NfaConfig
      out_of = record (goes_to off s) { counters = ts }

      counter_inside : (over short : Bool) → is_over l counter ≡ over → is_short l counter ≡ short →
          counter_loop_within reached s.at counter off over short ≡ true → StepInside (counter_loop_step l off s (t ∷ ts))
      counter_inside true short o e leads =
          let small : counter < 255 = ltb-true counter 255 (both (nat_lt counter 255) (is_past l.hi counter) o).0 in
          let k = h.known small in
          off_inside l into out_of (counted.is_over l s.place t) (nat_lt t.count l.lo) (over_there l counter s.place t small k.0 k.1 ∙ o)
          (stays_at out_of refl 255 leads (reached_any ts))
      counter_inside false true o e leads =
          let small : counter < 255 = ltb-true counter 255 (both (nat_lt counter 255) (nat_le counter l.lo) e).0 in
          let k = h.known small in
          on_inside l into out_of (counted.is_over l s.place t) (nat_lt t.count l.lo) (over_there l counter s.place t small k.0 k.1 ∙ o)
          (few_begun l counter s.place t small k.0 k.1 e)
          (stays_at into refl (counter + 1) leads (next_reached l counter s.place t small k.0 k.1 ts e))
      counter_inside false false o e leads =
          let r = both (covers reached (s.at + 1) 255) (covers reached off 255) leads in
          either_inside l into out_of (counted.is_over l s.place t) (nat_lt t.count l.lo)
          (stays_at into refl 255 r.0 (reached_any (next_counter l s.place t ∷ ts))) (stays_at out_of refl 255 r.1 (reached_any ts))

    counter_loop_inside : (l : plain.Loop) (off : ℕ) (counters : List LoopCounter) → IsReached counter counters →
        counter_loop_within reached s.at counter off (is_over l counter) (is_short l counter) ≡ true → StepInside (counter_loop_step l off s counters)
    counter_loop_inside l off [] h leads = tt
    counter_loop_inside l off (t ∷ ts) h leads = counter_inside l off t ts h (is_over l counter) (is_short l counter) refl refl leads

    two : (a b : ℕ) → (covers reached a counter && covers reached b counter) ≡ true → P (goes_to a s) × (P (goes_to b s) × Unit {0})
    two a b e =
        let r = both (covers reached a counter) (covers reached b counter) e in
        (stays_at (goes_to a s) refl counter r.0 here, (stays_at (goes_to b s) refl counter r.1 here, tt))

    -- but for a character, which has to be taken so
    pub steps_inside : (after : List ℕ) (p : NfaState) → steps_within reached after s.at counter p ≡ true →
        ((test : plain.CharTest) → p ≡ plain.Character test →
        StepInside (goes_past s (past_char text (passes text unicode test) s.place))) →
        StepInside (step_at text unicode (Some p) s)
    steps_inside after plain.Match h takes = absurd (true≢false (sym h))
    steps_inside after (plain.Character test) h takes = takes test refl
    steps_inside after (plain.Holds a) h takes = holds_inside s (holds text s.place unicode a) (stays_at (forward s) refl counter h here)
    steps_inside after plain.Open h takes = stays_at (record (forward s) { opened = s.place ∷ s.opened }) refl counter h here
    steps_inside after (plain.Close g) h takes = close_inside g s.opened h
    steps_inside after (plain.Split a b) h takes = two a b h
    steps_inside after (plain.BranchSplit a b) h takes = two a b h
    steps_inside after (plain.LoopSplit a b) h takes = two a b h
    steps_inside after (plain.Jump to) h takes = stays_at (goes_to to s) refl counter h here
    steps_inside after plain.Join h takes = (stays_at (forward s) refl counter h here, tt)
    steps_inside after plain.CounterBegin h takes =
        stays_at (record (forward s) { counters = record { count = 0; since = None } ∷ s.counters }) refl 1 h
        (record { comes = omega arith; known = λ small. (refl, refl) })
    steps_inside after (plain.CounterLoop l off) h takes = counter_loop_inside l off s.counters here h

-- ---- where a search stands

small_character : (set : List Bool) (c : ℕ) → c < 128 → has_character set c ≡ slice_index_or set c false
small_character set c small = ap (λ i. slice_index_or set i false) (let same : min c 128 ≡ c = omega (arith, small) in same)

pub far_character : (set : List Bool) (c : ℕ) → 128 ≤ c → has_character set c ≡ slice_index_or set 128 false
far_character set c far = ap (λ i. slice_index_or set i false) (let same : min c 128 ≡ 128 = omega (arith, far) in same)

-- an ASCII character stands there that is none of these, or the rest does not follow it, or another one, and none such is
-- among these
pub begun_by_none : (set : List Bool) (rest : Bool) (b : ℕ) → is_begun_by set rest (Some b) ≡ false →
    ((b < 128) × ((slice_index_or set b false && rest) ≡ false)) ⊎ ((128 ≤ b) × (slice_index_or set 128 false ≡ false))
begun_by_none set rest b none = elim (cases_lt b 128) [
  | inl small ↦
      let no : nat_le 128 b ≡ false = grind (arith, nat_tests, small) in
      inl (small, sym (ap₂ (λ h n. h && (n || rest)) (small_character set b small) no) ∙ none)
  | inr far ↦
      let yes : nat_le 128 b ≡ true = grind (arith, nat_tests, far) in
      let beyond : 128 ≤ b = omega (arith, far) in
      inr (beyond, sym (ap₂ (λ h n. h && (n || rest)) (far_character set b beyond) yes ∙ and_true (slice_index_or set 128 false)) ∙ none)
]
  where
    and_true : (a : Bool) → (a && true) ≡ a
    and_true true = refl
    and_true false = refl

-- no character beyond ASCII passes, if the set has none and has each that passes
others_lack : (text : List ℕ) (unicode : Bool) (set : List Bool) (test : plain.CharTest) → TakesAmong unicode set (plain.Character test) →
    slice_index_or set 128 false ≡ false → LacksOthers (passes text unicode test)
others_lack text unicode set test among out c scalar far = go (passes text unicode test c) refl
  where
    go : (v : Bool) → passes text unicode test c ≡ v → v ≡ false
    go false e = refl
    go true e =
        absurd (true≢false (sym (among c scalar (passes_alike text unicode test c ∙ e)) ∙ far_character set c far ∙ out))

ascii_is_scalar : (c : ℕ) → c < 128 → IsScalar c
ascii_is_scalar c small = grind (arith, nat_tests, small)

module _ (text : List ℕ) (unicode : Bool) (states : List NfaState) where
  -- at a state of some level, from which on no such characters stand
  pub record Inside (s : NfaConfig) : Type 0 where
    pub reached : List ℕ
    pub levels : List (List Bool)
    pub last : List ℕ
    pub leads : AreLevels unicode states reached levels last
    pub here : IsReached (slice_index_or reached s.at 0) s.counters
    pub out : may_begin levels text s.place ≡ false

  -- past a character of the level
  pub inside_behind : (s : NfaConfig) (after last : List ℕ) (ascii : List Bool) (levels : List (List Bool)) (counter : ℕ) →
      AreLevels unicode states after levels last → IsReached counter s.counters → covers after (s.at + 1) counter ≡ true →
      (b : ℕ) → (slice_index_or ascii b false && may_begin levels text (s.place + 1)) ≡ false → slice_index_or ascii b false ≡ true →
      Inside (record (forward s) { place = s.place + 1 })
  inside_behind s after last ascii levels counter more here covered b none is_in =
      record {
        reached = after;
        levels = levels;
        last = last;
        leads = more;
        here = reached_there (slice_index_or after (s.at + 1) 0) counter s.counters covered here;
        out = ap (λ a. a && may_begin levels text (s.place + 1)) (sym is_in) ∙ none;
      }

  module _ (s : NfaConfig) (reached : List ℕ) (ascii : List Bool) (levels : List (List Bool)) (after last : List ℕ)
      (level : IsLevel unicode states reached ascii after) (more : AreLevels unicode states after levels last)
      (here : IsReached (slice_index_or reached s.at 0) s.counters)
      (out : may_begin (ascii ∷ levels) text s.place ≡ false) where
    keeps : (t : NfaConfig) → t.place ≡ s.place → IsReached (slice_index_or reached t.at 0) t.counters → Inside t
    keeps t same there =
        record {
          reached = reached;
          levels = ascii ∷ levels;
          last = last;
          leads = (after, (level, more));
          here = there;
          out = ap (may_begin (ascii ∷ levels) text) same ∙ out;
        }

    by_state : (p : NfaState) → IsWithin unicode reached ascii after s.at (Some p) → StepKeeps Inside (step_at text unicode (Some p) s)
    by_state p h =
        steps_inside text unicode states Inside s reached here keeps after p h.0
        (λ test is. takes_inside text unicode states Inside s test (slice_get text s.place) refl
        (λ b at. let takes = subst (TakesAmong unicode ascii) is h.1 in
        elim (begun_by_none ascii (may_begin levels text (s.place + 1)) b (ap (is_begun_by ascii (may_begin levels text (s.place + 1))) (sym at) ∙ out)) [
          | inl none ↦
              inl (
                none.0,
                λ passed.
                    inside_behind s after last ascii levels (slice_index_or reached s.at 0) more here
                    (subst (λ q. steps_within reached after s.at (slice_index_or reached s.at 0) q ≡ true) is h.0) b none.1
                    (sym (small_character ascii b none.0) ∙ takes b (ascii_is_scalar b none.0) passed),
              )
          | inr none ↦ inr (none.0, others_lack text unicode ascii test takes none.1)
        ]))

    step_inside : (o : Option NfaState) → IsWithin unicode reached ascii after s.at o → StepKeeps Inside (step_at text unicode o s)
    step_inside None h = tt
    step_inside (Some p) h = by_state p h

  pub config_inside : (s : NfaConfig) → Inside s → StepKeeps Inside (step_at text unicode (slice_get states s.at) s)
  config_inside s h = go h.levels h.leads h.out
    where
      go : (levels : List (List Bool)) → AreLevels unicode states h.reached levels h.last → may_begin levels text s.place ≡ false →
          StepKeeps Inside (step_at text unicode (slice_get states s.at) s)
      go [] leads out = absurd (true≢false out)
      go (ascii ∷ levels) (after, (level, more)) out =
          step_inside s h.reached ascii levels after h.last level more h.here out (slice_get states s.at)
          (level s.at h.here.comes)

-- the levels that follow on the states reached first are first sets
pub are_first_sets : (unicode : Bool) (states : List NfaState) (reached : List ℕ) (levels : List (List Bool)) (last : List ℕ) →
    covers reached 0 255 ≡ true → AreLevels unicode states reached levels last → AreFirstSets unicode states levels
are_first_sets unicode states reached levels last first leads text place out =
    finds_none (Inside text unicode states) text unicode states (config_inside text unicode states) place begins
  where
    begins : Inside text unicode states (first_config place)
    begins =
        record {
          reached = reached;
          levels = levels;
          last = last;
          leads = leads;
          here = first_reached reached first;
          out = out;
        }

-- ---- states that are reached

module _ (unicode : Bool) (states : List code.NfaState) (reached after : List ℕ) where
  -- the first n states, as far as they are reached, take these characters alone
  abbrev pub AreWithin : (ascii : List Bool) → (n : ℕ) → Type 0
  AreWithin ascii n = (i : ℕ) (p : code.NfaState) → i < n → slice_get states i ≡ Some p → 0 < slice_index_or reached i 0 →
      IsWithin unicode reached ascii after i (Some (state_of p))

  among_more : (ascii more : List Bool) → ((c : ℕ) → slice_index_or ascii c false ≡ true → slice_index_or more c false ≡ true) →
      (p : NfaState) → TakesAmong unicode ascii p → TakesAmong unicode more p
  among_more ascii more kept (plain.Character test) h = λ c scalar e. kept (min c 128) (h c scalar e)
  among_more ascii more kept p h = tt

  pub within_more : (ascii more : List Bool) (n : ℕ) (q : code.NfaState) → n < length states → q ≡ slice_index_or states n q →
      ((c : ℕ) → slice_index_or ascii c false ≡ true → slice_index_or more c false ≡ true) → AreWithin ascii n →
      steps_within reached after n (slice_index_or reached n 0) (state_of q) ≡ true → TakesAmong unicode more (state_of q) →
      AreWithin more (n + 1)
  within_more ascii more n q inside is kept before leads takes = λ i p below at r.
      elim (cases_lt i n) [
        | inl earlier ↦
            let h = before i p earlier at r in
            (h.0, among_more ascii more kept (state_of p) h.1)
        | inr last ↦
            let same : n ≡ i = omega (arith, last, below) in
            let there : q ≡ p = some_same (sym (at_index states n q inside ∙ ap Some (sym is)) ∙ ap (slice_get states) same ∙ at) in
            subst (λ k. IsWithin unicode reached more after k (Some (state_of p))) same
            (subst (λ x. IsWithin unicode reached more after n (Some (state_of x))) there (leads, takes))
      ]

  pub unreached_within : (ascii : List Bool) (n : ℕ) → slice_index_or reached n 0 ≤ 0 → AreWithin ascii n → AreWithin ascii (n + 1)
  unreached_within ascii n out before = λ i p below at r.
      elim (cases_lt i n) [
        | inl earlier ↦ before i p earlier at r
        | inr last ↦
            let same : i ≡ n = omega (arith, last, below) in
            let none : slice_index_or reached i 0 ≡ slice_index_or reached n 0 = ap (λ k. slice_index_or reached k 0) same in
            absurd (omega (arith, r, out, none))
      ]

  pub all_within : (ascii : List Bool) (n : ℕ) → length states ≤ n → AreWithin ascii n →
      IsLevel unicode (map state_of states) reached ascii after
  all_within ascii n all within = λ i r.
      subst (IsWithin unicode reached ascii after i) (sym (slice_get-map state_of states i)) (go i r (slice_get states i) refl)
    where
      go : (i : ℕ) → 0 < slice_index_or reached i 0 → (o : Option code.NfaState) → slice_get states i ≡ o →
          IsWithin unicode reached ascii after i (option_map state_of o)
      go i r None e = tt
      go i r (Some p) e =
          let below = some_below states i p e in
          let small : i < n = omega (arith, below, all) in
          within i p small e r

pub no_take : (unicode : Bool) (ascii : List Bool) (p : code.NfaState) → ((test : code_test.CharTest) → p ≡ variant.Character test → ⊥) →
    TakesAmong unicode ascii (state_of p)
no_take unicode ascii (variant.Character test) apart = absurd (apart test refl)
no_take unicode ascii p apart = tt

-- ---- the characters at the place

begun_small : (set : List Bool) (rest : Bool) (b : ℕ) → b < 128 → is_begun_by set rest (Some b) ≡ (has_character set b && rest)
begun_small set rest b h = ap (λ n. has_character set b && (n || rest)) small
  where
    small : nat_le 128 b ≡ false
    small = grind (arith, nat_tests, h)

begun_other : (set : List Bool) (rest : Bool) (b : ℕ) → 128 ≤ b → has_character set b ≡ true → is_begun_by set rest (Some b) ≡ true
begun_other set rest b h has = ap₂ (λ a n. a && (n || rest)) has other
  where
    other : nat_le 128 b ≡ true
    other = grind (arith, nat_tests, h)

-- the first of the levels that are left
first_left : (levels : List (List Bool)) (text : List ℕ) (n at : ℕ) → n < length levels →
    may_begin (drop n levels) text at ≡ is_begun_by (slice_index_or levels n []) (may_begin (drop (suc n) levels) text (at + 1)) (slice_get text at)
first_left [] text n at h = absurd (omega (arith, h))
first_left (l ∷ levels) text zero at h = refl
first_left (l ∷ levels) text (suc n) at h = first_left levels text n at (omega (arith, h))

module _ (levels : List (List Bool)) (text : List ℕ) (n at : ℕ) (more : n < length levels) where
  abbrev level : List Bool
  level = slice_index_or levels n []

  abbrev rest : Bool
  rest = may_begin (drop (n + 1) levels) text (at + 1)

  asks_level : may_begin (drop n levels) text at ≡ is_begun_by level rest (slice_get text at)
  asks_level = rw (add-one n) (first_left levels text n at more)

  pub level_at_end : length text ≤ at → may_begin (drop n levels) text at ≡ false
  level_at_end over = asks_level ∙ ap (is_begun_by level rest) (slice_get_past text at over)

  -- the byte at the place is none of the level's
  pub level_lacks : at < length text → has_character level (slice_index_or text at 0) ≡ false → may_begin (drop n levels) text at ≡ false
  level_lacks inside lacks =
      asks_level ∙ ap (is_begun_by level rest) (at_index text at 0 inside)
      ∙ ap (λ a. a && (nat_le 128 (slice_index_or text at 0) || rest)) lacks

  pub level_passed : at < length text → 128 ≤ slice_index_or text at 0 → has_character level (slice_index_or text at 0) ≡ true →
      may_begin (drop n levels) text at ≡ true
  level_passed inside other has =
      asks_level ∙ ap (is_begun_by level rest) (at_index text at 0 inside) ∙ begun_other level rest (slice_index_or text at 0) other has

  pub level_asked : at < length text → slice_index_or text at 0 < 128 → has_character level (slice_index_or text at 0) ≡ true →
      may_begin (drop n levels) text at ≡ rest
  level_asked inside small has =
      asks_level ∙ ap (is_begun_by level rest) (at_index text at 0 inside) ∙ begun_small level rest (slice_index_or text at 0) small
      ∙ ap (λ a. a && rest) has
