-- An attempt ends with the chosen admitted state of those that are enumerated.
use Rattle.std.proofs.Common.{◌≡◌, ℕ, zero, suc, ◌+◌, ◌*◌, ◌<◌, ◌≤◌, min, Bool, true, false, ◌&&◌, ◌||◌, not, ◌==◌, if◌then◌else◌, cond, List, [], ◌∷◌, ◌++◌, length, map, flat_map, filter, find, Option, Some, None, option_map, refl, sym, ap, ap₂, ◌∙◌, arith, ne_eqb, lt-ltb, ⊎_elim, ◌-◌, nat_lt}
use Rattle.std.specs.Prelude.{slice_get}
use Rattle.std.proofs.lemmas.Bool.{cases_lt, le-ltb}
use Rattle.regex_hir.specs.Text.{is_some_and, byte_before}
use Rattle.fancy_meaning.specs.Nodes.{group_count}
use Rattle.fancy_meaning.specs.Places.{range_from, chars_between}
use Rattle.fancy_meaning.specs.MatchState.{MatchState, Span, put}
use Rattle.fancy_meaning.specs.Answer.{Search, search_of, span_numbers, as_numbers, reported, longest_from, longest_of, chosen, is_admitted}
use Rattle.fancy_meaning.specs.Numbers.{usize_max}
use Rattle.fancy_meaning.specs.Instr.{Instr, Save, End, RejectEmptyMatchAtEOFFollowingNewline}
use Rattle.fancy_meaning.specs.Config.{Slots, Branch, Config, span_length, longer, Match, Next, Ends}
use Rattle.fancy_meaning.specs.Machine.{fail, is_rejected, is_longest, goes_if, numbers_of}
use Rattle.fancy_meaning.specs.Enumerates.{start_number, end_number}
use Rattle.fancy_composed.proofs.Continuations.{Continuation, Tally, To, to_same, to_eq, to_trans, after, Ground, here, go, resume, failed, step_at_pc}
use Rattle.fancy_laws.proofs.Every.{Every, no_item, item, every_both, every_filter}
use Rattle.fancy_composed.proofs.Alike.{Among, at_head, further, every_among}
use Rattle.fancy_composed.proofs.Enumerates.{Enumerates, none, way}
use Rattle.fancy_composed.proofs.Parts.{put_same, put_other, Stands, After, flag, flag_is, body, whole}

-- these numbers, or else where another continuation leads
abbrev pub or_else : Option (List ℕ) → Continuation → Continuation
or_else None other = other
or_else (Some numbers) other = λ k. Match numbers

-- what is held behind these states
abbrev holds : ℕ → Option (List ℕ) → List MatchState → Option (List ℕ)
holds n held [] = held
holds n held (h ∷ hs) = holds n (Some (longer held (as_numbers n h))) hs

-- no text is so long
abbrev IsSmall : MatchState → Type 0
IsSmall s = s.place < usize_max

span_of_state : (n : ℕ) (s : MatchState) → IsSmall s → span_length (as_numbers n s) ≡ reported s
unfolding as_numbers
span_of_state n s small =
    ap (λ v. if v then 0 else s.place - min s.kept s.place) (ne_eqb s.place usize_max (λ e. omega (arith, e, small)))
    ∙ (let e : s.place - min s.kept s.place ≡ s.place - s.kept = omega arith in e)

-- it is the longest of them
held_is_longest : (n : ℕ) (s : MatchState) {ts : List MatchState} → IsSmall s → Every IsSmall ts →
    holds n (Some (as_numbers n s)) ts ≡ Some (as_numbers n (longest_from s ts))
held_is_longest n s small no_item = refl
held_is_longest n s small (item {x = t} {xs = ts} also rest) =
    ap (λ l. holds n (Some l) ts) (one (nat_lt (reported s) (reported t)) refl)
    ∙ by_test (nat_lt (reported s) (reported t)) (held_is_longest n t also rest) (held_is_longest n s small rest)
  where
    here : (u : Bool) → (if u then as_numbers n t else as_numbers n s) ≡ as_numbers n (if u then t else s)
    here true = refl
    here false = refl

    one : (v : Bool) → nat_lt (reported s) (reported t) ≡ v →
        longer (Some (as_numbers n s)) (as_numbers n t) ≡ as_numbers n (if v then t else s)
    one v e =
        ap₂ (λ i j. if nat_lt i j then as_numbers n t else as_numbers n s) (span_of_state n s small) (span_of_state n t also)
        ∙ ap (λ u. if u then as_numbers n t else as_numbers n s) e
        ∙ here v

    by_test : (v : Bool) → holds n (Some (as_numbers n t)) ts ≡ Some (as_numbers n (longest_from t ts)) →
        holds n (Some (as_numbers n s)) ts ≡ Some (as_numbers n (longest_from s ts)) →
        holds n (Some (as_numbers n (if v then t else s))) ts ≡ Some (as_numbers n (longest_from (if v then t else s) ts))
    by_test true of_t of_s = of_t
    by_test false of_t of_s = of_s

held_is_chosen : (n : ℕ) {hs : List MatchState} → Every IsSmall hs → holds n None hs ≡ option_map (as_numbers n) (longest_of hs)
held_is_chosen n no_item = refl
held_is_chosen n (item {x = h} small rest) = held_is_longest n h small rest

-- what is no longer than what is held changes nothing
held_stays : (n : ℕ) (held : List ℕ) {hs : List MatchState} → Every (λ t. span_length (as_numbers n t) ≤ span_length held) hs →
    holds n (Some held) hs ≡ Some held
held_stays n held no_item = refl
held_stays n held (item {x = h} {xs = hs} le rest) =
    ap (λ v. holds n (Some (if v then as_numbers n h else held)) hs)
    (le-ltb (span_length held) (span_length (as_numbers n h)) le)
    ∙ held_stays n held rest

longer_is_longer : (held : Option (List ℕ)) (numbers : List ℕ) → span_length numbers ≤ span_length (longer held numbers)
longer_is_longer None numbers = omega arith
longer_is_longer (Some old) numbers =
    ⊎_elim {C = span_length numbers ≤ span_length (longer (Some old) numbers)}
    (λ lt.
    let e = ap (λ v. span_length (if v then numbers else old)) (lt-ltb (span_length old) (span_length numbers) lt) in
    omega (arith, e))
    (λ ge.
    let e = ap (λ v. span_length (if v then numbers else old)) (le-ltb (span_length old) (span_length numbers) ge) in
    omega (arith, e, ge))
    (cases_lt (span_length old) (span_length numbers))

pub find_is : (p : MatchState → Bool) (hs : List MatchState) → slice_get (filter p hs) 0 ≡ find p hs
find_is p [] = refl
find_is p (h ∷ hs) =
    let rest = find_is p hs in
    elim (p h) as
    (λ v. slice_get (cond v (h ∷ filter p hs) (filter p hs)) 0 ≡ cond v (Some h) (find p hs)) [
      | true ↦ refl
      | false ↦ rest
    ]

-- at the end of the program, and before it a test where the end of the text asks for one
abbrev pub EndsAt : List Instr → Bool → ℕ → Type 0
EndsAt is true m = (slice_get is m ≡ Some RejectEmptyMatchAtEOFFollowingNewline) × (slice_get is (m + 1) ≡ Some End)
EndsAt is false m = slice_get is m ≡ Some End

module _ (w : Ground) where
  abbrev groups : ℕ
  groups = group_count (whole w)

  abbrev pub searching : Search
  searching = search_of w.plan (w.task).text (w.task).options

  -- ---- the numbers

  pair_numbers : (o : Option Span) → span_numbers o ≡ start_number o ∷ end_number o ∷ []
  pair_numbers None = refl
  pair_numbers (Some (i, j)) = refl

  pairs : (f : ℕ → ℕ) (captures : ℕ → Option Span) (n i : ℕ) →
      ((g : ℕ) → i ≤ g → g < i + n → f (2 * g) ≡ start_number (captures g)) →
      ((g : ℕ) → i ≤ g → g < i + n → f (2 * g + 1) ≡ end_number (captures g)) →
      map f (range_from (2 * i) (2 * n)) ≡ flat_map (λ g. span_numbers (captures g)) (range_from i n)
  pairs f captures zero i a b = refl
  pairs f captures (suc n) i a b =
      let two : 2 * suc n ≡ suc (suc (2 * n)) = omega arith in
      let next : suc (suc (2 * i)) ≡ 2 * suc i = omega arith in
      let odd : suc (2 * i) ≡ 2 * i + 1 = omega arith in
      ap (λ k. map f (range_from (2 * i) k)) two
      ∙ ap₂ (λ x y. x ∷ y ∷ map f (range_from (suc (suc (2 * i))) (2 * n))) (a i (omega arith) (omega arith))
      (ap f odd ∙ b i (omega arith) (omega arith))
      ∙ ap (λ k. start_number (captures i) ∷ end_number (captures i) ∷ map f (range_from k (2 * n))) next
      ∙ ap (λ l. start_number (captures i) ∷ end_number (captures i) ∷ l)
      (pairs f captures n (suc i) (λ g le lt. a g (omega arith) (omega arith)) (λ g le lt. b g (omega arith) (omega arith)))
      ∙ ap (λ l. l ++ flat_map (λ g. span_numbers (captures g)) (range_from (suc i) n)) (sym (pair_numbers (captures i)))

  numbers_are : (h : MatchState) (r : Slots) (pc : ℕ) (marks : List ℕ) (bs : List Branch) (count : Tally) → Stands w h r →
      numbers_of w.task (here w pc h.place (put 1 h.place r) marks bs count) ≡ as_numbers groups h
  unfolding as_numbers
  numbers_are h r pc marks bs count st =
      let slots : Slots = put 1 h.place r in
      let f : ℕ → ℕ = λ s. if s == 0 then min (slots 0) (slots 1) else slots s in
      let all : flag w ≡ suc (suc (2 * groups)) = omega (arith, flag_is w) in
      let zero' : slots 0 ≡ h.kept = put_other r 1 0 h.place (λ x. omega arith) ∙ st.kept in
      let one' : slots 1 ≡ h.place = put_same r 1 1 h.place refl in
      ap (λ n. map f (range_from 0 n)) all
      ∙ ap₂ (λ x y. min x y ∷ y ∷ map f (range_from 2 (2 * groups))) zero' one'
      ∙ ap (λ l. min h.kept h.place ∷ h.place ∷ l) (pairs f h.captures groups 1
      (λ g le lt. ap (λ v. if v then min (slots 0) (slots 1) else slots (2 * g)) (ne_eqb (2 * g) 0 (λ x. omega arith))
      ∙ put_other r 1 (2 * g) h.place (λ x. omega arith)
      ∙ st.starts g le (omega (arith, flag_is w, lt)))
      (λ g le lt. ap (λ v. if v then min (slots 0) (slots 1) else slots (2 * g + 1)) (ne_eqb (2 * g + 1) 0 (λ x. omega arith))
      ∙ put_other r 1 (2 * g + 1) h.place (λ x. omega arith)
      ∙ st.ends g le (omega (arith, flag_is w, lt))))

  -- ---- the end of an attempt

  -- no match from this start is longer than this state's
  abbrev pub is_top : MatchState → Bool
  is_top h = not ((w.task).program).keeps_start
      && chars_between (w.task).text w.start h.place == ((w.task).program).max_size

  -- a tally in which this match is held, if it is longer
  abbrev held_with : MatchState → Tally → Tally
  held_with h count = record { backtracks = count.backtracks; longest = Some (longer count.longest (as_numbers groups h)) }

  -- an admitted state is matched, or held
  abbrev taken : MatchState → List Branch → Tally → Continuation
  taken h bs count =
      if (w.task).leftmost_longest
      then (if is_top h then (λ k. Match (longer count.longest (as_numbers groups h))) else resume w bs (held_with h count))
      else (λ k. Match (as_numbers groups h))

  -- the machine with numbers that are kept
  abbrev ends_as : Config → List ℕ → Next
  ends_as c numbers =
      if (w.task).leftmost_longest
      then (if is_longest w.task c then Ends (Match (longer c.longest numbers))
      else fail w.task (record c { longest = Some (longer c.longest numbers) }))
      else Ends (Match numbers)

  matched : (e : ℕ) (h : MatchState) (r : Slots) (bs : List Branch) (count : Tally) → slice_get (body w) e ≡ Some End →
      Stands w h r → To (go w e h.place (put 1 h.place r) [] bs count)
      (if (w.task).not_empty && h.place == w.start then resume w bs count else taken h bs count)
  matched e h r bs count at st =
      let c : Config = here w e h.place (put 1 h.place r) [] bs count in
      to_trans (step_at_pc w End e h.place (put 1 h.place r) [] bs count at)
      (elim ((w.task).not_empty && h.place == w.start) as
      (λ v. To (after w.task (if v then fail w.task c else ends_as c (numbers_of w.task c)))
      (if v then resume w bs count else taken h bs count)) [
        | true ↦ failed w bs c refl
        | false ↦ to_trans (to_eq (λ k. ap (λ l. after w.task (ends_as c l) k) (numbers_are h r e [] bs count st)))
            (by_option (w.task).leftmost_longest (is_top h))
      ])
    where
      by_option : (v u : Bool) →
          let c : Config = here w e h.place (put 1 h.place r) [] bs count in
          let numbers = as_numbers groups h in
          To
          (after w.task
          (if v then (if u then Ends (Match (longer c.longest numbers)) else fail w.task (record c { longest = Some (longer c.longest numbers) }))
          else Ends (Match numbers)))
          (if v then (if u then (λ k. Match (longer count.longest numbers)) else resume w bs (held_with h count)) else (λ k. Match numbers))
      by_option false u = to_same
      by_option true true = to_same
      by_option true false = failed w bs (here w e h.place (put 1 h.place r) [] bs (held_with h count)) refl

  rejected_or : (m : ℕ) (ix : ℕ) (r : Slots) (bs : List Branch) (count : Tally) →
      slice_get (body w) m ≡ Some RejectEmptyMatchAtEOFFollowingNewline → To (go w m ix r [] bs count)
      (if is_rejected w.task (here w m ix r [] bs count) then resume w bs count else go w (m + 1) ix r [] bs count)
  rejected_or m ix r bs count at =
      let c : Config = here w m ix r [] bs count in
      to_trans (step_at_pc w RejectEmptyMatchAtEOFFollowingNewline m ix r [] bs count at)
      (elim (is_rejected w.task c) as
      (λ v. To (after w.task (goes_if w.task (not v) c)) (if v then resume w bs count else go w (m + 1) ix r [] bs count)) [
        | true ↦ failed w bs c refl
        | false ↦ to_same
      ])

  -- the tests in another order
  in_order : (a b c d : Bool) → (a && b && c && d) ≡ (a && c && b && d)
  in_order false b c d = refl
  in_order true true true d = refl
  in_order true true false d = refl
  in_order true false true d = refl
  in_order true false false d = refl

  -- not the one and not the other
  verdict : (r s : Bool) (x y : Continuation) → (if r then y else (if s then y else x)) ≡ (if not s && not r then x else y)
  verdict true true x y = refl
  verdict true false x y = refl
  verdict false true x y = refl
  verdict false false x y = refl

  to_else : (v : Bool) (x y z : Continuation) → To y z → To (if v then x else y) (if v then x else z)
  to_else true x y z t = to_same
  to_else false x y z t = t

  not_asked : (v : Bool) → ((if v then 1 else usize_max) == usize_max) ≡ not v
  not_asked true = refl
  not_asked false = refl

  -- nothing was taken, at the text's end after an LF
  abbrev empty_at_end : MatchState → Bool
  empty_at_end h =
      h.place == length (w.task).text && is_some_and (byte_before (w.task).text h.place) (λ b. b == 10) && h.place == w.start

  rejected_is : (m : ℕ) (h : MatchState) (r : Slots) (bs : List Branch) (count : Tally) → (w.plan).end_text ≡ true → Stands w h r →
      is_rejected w.task (here w m h.place (put 1 h.place r) [] bs count) ≡ (empty_at_end h && not h.text_end)
  rejected_is m h r bs count e st =
      let end = h.place == length (w.task).text in
      let newline = is_some_and (byte_before (w.task).text h.place) (λ b. b == 10) in
      let slots : Slots = put 1 h.place r in
      let on : ((w.task).program).end_text ≡ true = (w.fits).end_text ∙ e in
      let flagged : slots (flag w) ≡ (if h.text_end then 1 else usize_max) =
      put_other r 1 (flag w) h.place (λ x. omega (arith, flag_is w, x)) ∙ st.flagged on in
      ap (λ v. end && h.place == w.start && newline && (not v || slots (flag w) == usize_max)) on
      ∙ ap (λ n. end && h.place == w.start && newline && n == usize_max) flagged
      ∙ ap (λ v. end && h.place == w.start && newline && v) (not_asked h.text_end)
      ∙ in_order end (h.place == w.start) newline (not h.text_end)

  ends_with : (v : Bool) → (w.plan).end_text ≡ v → (m : ℕ) (h : MatchState) (r : Slots) (bs : List Branch) (count : Tally) →
      slice_get (body w) m ≡ Some (Save 1) → EndsAt (body w) v (m + 1) → Stands w h r → To (go w m h.place r [] bs count)
      (if is_admitted searching w.start h then taken h bs count else resume w bs count)
  ends_with true e m h r bs count save ends st =
      let strict = (w.task).not_empty && h.place == w.start in
      let slots : Slots = put 1 h.place r in
      let match' : Continuation = taken h bs count in
      to_trans (step_at_pc w (Save 1) m h.place r [] bs count save)
      (to_trans (rejected_or (m + 1) h.place slots bs count ends.0)
      (to_trans
      (to_else (is_rejected w.task (here w (m + 1) h.place slots [] bs count)) (resume w bs count)
      (go w (m + 1 + 1) h.place slots [] bs count) (if strict then resume w bs count else match')
      (matched (m + 1 + 1) h r bs count ends.1 st))
      (to_eq (λ k. ap (λ f. f k) (
      ap (λ v. if v then resume w bs count else (if strict then resume w bs count else match'))
      (rejected_is (m + 1) h r bs count e st)
      ∙ verdict (empty_at_end h && not h.text_end) strict match' (resume w bs count)
      ∙ ap (λ v. if not strict && not (v && empty_at_end h && not h.text_end) then match' else resume w bs count) (sym e)
      )))))
  ends_with false e m h r bs count save ends st =
      let strict = (w.task).not_empty && h.place == w.start in
      let slots : Slots = put 1 h.place r in
      let match' : Continuation = taken h bs count in
      to_trans (step_at_pc w (Save 1) m h.place r [] bs count save)
      (to_trans (matched (m + 1) h r bs count ends st)
      (to_eq (λ k. ap (λ f. f k) (
      verdict false strict match' (resume w bs count)
      ∙ ap (λ v. if not strict && not (v && empty_at_end h && not h.text_end) then match' else resume w bs count) (sym e)
      ))))

  -- ---- of all that are enumerated

  -- the first admitted state is matched, or else what a failure leads to
  found_first : (w.task).leftmost_longest ≡ false → (v : Bool) → (w.plan).end_text ≡ v →
      (b n m : ℕ) (slots : Slots) (other : Continuation) {hs : List MatchState} {best : Option (List ℕ)} {o : Continuation} → best ≡ None →
      slice_get (body w) b ≡ Some (Save 1) → EndsAt (body w) v (b + 1) →
      ((count : Tally) → To (w.bottom count) (or_else count.longest other)) → Enumerates w b (After w n m slots) [] [] best hs o →
      To o (or_else (option_map (as_numbers groups) (find (is_admitted searching w.start) hs)) other)
  found_first off v e b n m slots other is save ends rest (none count t) =
      to_trans t (to_trans (rest count) (to_eq (λ k. ap (λ l. or_else l other k) is)))
  found_first off v e b n m slots other is save ends rest (way {h = h} {hs = hs} r over count p fits t next) =
      let later = found_first off v e b n m slots other is save ends rest (next count) in
      let match' : Continuation = λ k. Match (as_numbers groups h) in
      let held : Continuation =
      if is_top h then (λ k. Match (longer count.longest (as_numbers groups h))) else resume w (over ++ []) (held_with h count) in
      to_trans t (to_trans (ends_with v e b h r (over ++ []) count save ends p.stands)
      (to_trans
      (to_eq
      (λ k. ap (λ u. (if is_admitted searching w.start h then (if u then held else match') else resume w (over ++ []) count) k) off))
      (elim (is_admitted searching w.start h) as
      (λ u.
      To (if u then match' else resume w (over ++ []) count)
      (or_else (option_map (as_numbers groups) (cond u (Some h) (find (is_admitted searching w.start) hs))) other)) [
        | true ↦ to_same
        | false ↦ later
      ])))

  -- where none can be longer than a state, none that is enumerated is
  abbrev pub TopsAreLongest : List MatchState → Type 0
  TopsAreLongest hs = (s t : MatchState) → Among s hs → Among t hs → is_top s ≡ true → reported t ≤ reported s

  -- the longest admitted state, the first among equals, is matched, or else what a failure leads to
  found_longest : (w.task).leftmost_longest ≡ true → (v : Bool) → (w.plan).end_text ≡ v →
      (b n m : ℕ) (slots : Slots) (other : Continuation) {hs : List MatchState} {best : Option (List ℕ)} {o : Continuation} →
      Every IsSmall hs → TopsAreLongest hs → slice_get (body w) b ≡ Some (Save 1) → EndsAt (body w) v (b + 1) →
      ((count : Tally) → To (w.bottom count) (or_else count.longest other)) → Enumerates w b (After w n m slots) [] [] best hs o →
      To o (or_else (holds groups best (filter (is_admitted searching w.start) hs)) other)
  found_longest on v e b n m slots other small tops save ends rest (none count t) = to_trans t (rest count)
  found_longest on v e b n m slots other (item tiny small) tops save ends rest (way {h = h} {hs = hs} r over count p fits t next) =
      let admitted = filter (is_admitted searching w.start) hs in
      let later : (c : Tally) → To (resume w (over ++ []) c) (or_else (holds groups c.longest admitted) other) =
      λ c. found_longest on v e b n m slots other small (λ s t i j. tops s t (further i) (further j)) save ends rest (next c) in
      let longest = longer count.longest (as_numbers groups h) in
      let held : Continuation = if is_top h then (λ k. Match longest) else resume w (over ++ []) (held_with h count) in
      to_trans t (to_trans (ends_with v e b h r (over ++ []) count save ends p.stands)
      (to_trans
      (to_eq
      (λ k.
      ap
      (λ u. (if is_admitted searching w.start h then (if u then held else (λ l. Match (as_numbers groups h))) else resume w (over ++ []) count) k)
      on))
      (elim (is_admitted searching w.start h) as
      (λ u.
      To (if u then held else resume w (over ++ []) count)
      (or_else (holds groups count.longest (if u then h ∷ admitted else admitted)) other)) [
        | true ↦ by_top (is_top h) refl (later (held_with h count))
        | false ↦ later count
      ])))
    where
      by_top : (u : Bool) → is_top h ≡ u →
          let longest = longer count.longest (as_numbers groups h) in
          let admitted = filter (is_admitted searching w.start) hs in
          To (resume w (over ++ []) (held_with h count)) (or_else (holds groups (Some longest) admitted) other) →
          To (if u then (λ k. Match longest) else resume w (over ++ []) (held_with h count))
          (or_else (holds groups (Some longest) admitted) other)
      by_top false top later = later
      by_top true top later =
          let longest = longer count.longest (as_numbers groups h) in
          let held = longer_is_longer count.longest (as_numbers groups h) in
          let own = span_of_state groups h tiny in
          let none_longer : Every (λ u. span_length (as_numbers groups u) ≤ span_length longest) hs =
          every_both
          (λ u tiny' le. let e = span_of_state groups u tiny' in omega (arith, e, le, held, own)) small
          (every_among {P = λ u. reported u ≤ reported h} hs (λ u m. tops h u at_head (further m) top)) in
          to_eq
          (λ k. ap (λ l. or_else l other k)
          (sym (held_stays groups longest (every_filter (is_admitted searching w.start) (λ u le x. le) none_longer))))

  -- the chosen admitted state is matched, or else what a failure leads to
  pub found : (b n m : ℕ) (slots : Slots) (other : Continuation) {hs : List MatchState} {o : Continuation} →
      Every IsSmall hs → TopsAreLongest hs → slice_get (body w) b ≡ Some (Save 1) → EndsAt (body w) (w.plan).end_text (b + 1) →
      ((count : Tally) → To (w.bottom count) (or_else count.longest other)) → Enumerates w b (After w n m slots) [] [] None hs o →
      To o
      (or_else
      (option_map (as_numbers groups) (chosen (w.task).leftmost_longest (filter (is_admitted searching w.start) hs))) other)
  found b n m slots other {hs} {o} small tops save ends rest handed = by_option (w.task).leftmost_longest refl
    where
      admitted : List MatchState
      admitted = filter (is_admitted searching w.start) hs

      by_option : (v : Bool) → (w.task).leftmost_longest ≡ v →
          To o (or_else (option_map (as_numbers groups) (chosen v admitted)) other)
      by_option false off =
          to_trans (found_first off (w.plan).end_text refl b n m slots other refl save ends rest handed)
          (to_eq (λ k. ap (λ s. or_else (option_map (as_numbers groups) s) other k) (sym (find_is (is_admitted searching w.start) hs))))
      by_option true on =
          to_trans (found_longest on (w.plan).end_text refl b n m slots other small tops save ends rest handed)
          (to_eq
          (λ k. ap (λ l. or_else l other k)
          (held_is_chosen groups (every_filter (is_admitted searching w.start) (λ u s x. s) small))))
