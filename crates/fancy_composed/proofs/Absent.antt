-- The absent repeater: a loop over characters at which the body has no way enumerates its ways, the longest twice where the
-- body stops it.
use Rattle.std.proofs.Common.{◌≡◌, ℕ, zero, suc, ◌+◌, ◌-◌, ◌<◌, ◌≤◌, Bool, true, false, not, if◌then◌else◌, List, [], ◌∷◌, ◌++◌, length, map, reverse, cond, flat_map, Option, Some, None, option_and_then, IsUtf8, refl, sym, ap, ◌∙◌, subst, arith, ⊎_elim, append-nil}
use Rattle.std.proofs.lemmas.Bool.{cases_lt, ne_eqb, eq-eqb}
use Rattle.std.proofs.lemmas.List.{map-append, reverse-append}
use Rattle.std.proofs.lemmas.Str.{len_utf8_bounds}
use Rattle.std.specs.Char.{len_utf8}
use Rattle.regex_hir.specs.Text.{char_at}
use Rattle.regex_hir.proofs.TextLemmas.{char_at_past}
use Rattle.fancy_meaning.specs.Places.{places_from}
use Rattle.fancy_meaning.specs.Chars.{any_takes}
use Rattle.fancy_meaning.specs.Moves.{past_char}
use Rattle.fancy_meaning.specs.MatchState.{MatchState, Ways, stays, stays_if, moved_to, has_way}
use Rattle.fancy_meaning.specs.Loops.{if_moved, unbounded}
use Rattle.fancy_meaning.specs.Ways.{absent, conditional, unless, moves, take_through}
use Rattle.fancy_meaning.specs.Numbers.{usize_max}
use Rattle.fancy_meaning.specs.Instr.{Instr}
use Rattle.fancy_meaning.specs.Code.{Code, nothing}
use Rattle.fancy_meaning.specs.Code as code
use Rattle.fancy_meaning.specs.Constructs.{absent_code, conditional_code, negative_look_code}
use Rattle.fancy_composed.proofs.Continuations.{Ground}
use Rattle.fancy_composed.proofs.Alike.{among_one, Among, at_head, further, Alike, alike_same, alike_eq, alike_append, alike_trans}
use Rattle.fancy_composed.proofs.Enumerates.{from_first}
use Rattle.fancy_composed.proofs.Parts.{at_place, moves_at, Sound, setting, sound_within, Simulates, Keeps}
use Rattle.fancy_composed.proofs.Places.{char_stands, places_on, places_at_end}
use Rattle.fancy_composed.proofs.Simulates.{conditional_is, simulates_nothing, simulates_unless, simulates_conditional, simulates_alike}
use Rattle.fancy_composed.proofs.LoopSimulates.{simulates_epsilon}
use Rattle.fancy_composed.proofs.Atoms.{simulates_any}
use Rattle.fancy_composed.proofs.Behind.{sound_moved}
use Rattle.fancy_laws.proofs.Characters.{char_ends_at_place}

twice : (s : MatchState) → Alike (s ∷ s ∷ []) (s ∷ [])
twice s = record {
  tests = λ p.
      elim (p s) as (λ v. cond v (Some s) (cond v (Some s) None) ≡ cond v (Some s) None) [ true ↦ refl | false ↦ refl ];
  members = λ x m. first x m;
}
  where
    first : (x : MatchState) → Among x (s ∷ s ∷ []) → Among x (s ∷ [])
    first x at_head = at_head
    first x (further at_head) = at_head
    first x (further (further m)) = elim m [ ]

-- what stays stays sound
pub keeps_test : (w : Ground) (test : MatchState → Bool) → Keeps w (stays_if test)
keeps_test w test s t ok m = by (test s) m
  where
    by : (v : Bool) → Among t (if v then s ∷ [] else []) → Sound w t × (s.place ≤ t.place)
    by true n = let e = among_one n in (subst (Sound w) (sym e) ok, (let p = ap (λ u. u.place) e in omega (arith, p)))
    by false n = elim n [ ]

pub keeps_unless : (w : Ground) (x : Ways) → Keeps w (unless x)
keeps_unless w x s t ok m = keeps_test w (λ u. not (has_way x u)) s t ok m

module _ (w : Ground) (utf8 : IsUtf8 (w.task).text) (x : Ways) where
  abbrev text : List ℕ
  text = (w.task).text

  abbrev any : Ways
  any = moves (setting w) (past_char text (any_takes true false))

  -- a character where the body has no way, and nothing where it has one
  abbrev one_more : Ways
  one_more = conditional (unless x) any stays

  more_where_way : (s : MatchState) → has_way x s ≡ true → one_more s ≡ s ∷ []
  more_where_way s e =
      conditional_is (unless x) any stays s (unless x s) refl
      ∙ ap (λ v. from_first (if not v then s ∷ [] else []) any (s ∷ [])) e

  more_where_none : (s : MatchState) → has_way x s ≡ false → one_more s ≡ any s
  more_where_none s e =
      conditional_is (unless x) any stays s (unless x s) refl
      ∙ ap (λ v. from_first (if not v then s ∷ [] else []) any (s ∷ [])) e

  any_at : (s : MatchState) (o : Option ℕ) → char_at text s.place ≡ o →
      any s ≡ at_place s (option_and_then (λ c. Some (s.place + len_utf8 c)) o)
  any_at s o e =
      moves_at (setting w) (past_char text (any_takes true false)) s _
      (ap (option_and_then (λ c. Some (s.place + len_utf8 c))) e)

  -- the places from one on, whose rest is known
  pub absent_from : (s : MatchState) (rest : List ℕ) (v : Bool) → has_way x s ≡ v → places_from text s.place ≡ s.place ∷ rest →
      absent (setting w) x s ≡ map (λ i. moved_to i s)
      (reverse (if v then [] else take_through (λ i. has_way x (moved_to i s)) rest)) ++ s ∷ []
  absent_from s rest v e f =
      let test : ℕ → Bool = λ i. has_way x (moved_to i s) in
      let mv : ℕ → MatchState = λ i. moved_to i s in
      let tail = if v then [] else take_through test rest in
      ap (λ l. map mv (reverse (take_through test l))) f
      ∙ ap (λ u. map mv (reverse (s.place ∷ (if u then [] else take_through test rest)))) e
      ∙ ap (map mv) (reverse-append (s.place ∷ []) tail)
      ∙ map-append mv (reverse tail) (s.place ∷ [])

  rest_of : (s : MatchState) → Sound w s → (rest : List ℕ) × (places_from text s.place ≡ s.place ∷ rest)
  rest_of s ok =
      ⊎_elim {C = (rest : List ℕ) × (places_from text s.place ≡ s.place ∷ rest)}
      (λ lt.
      let c = char_stands text utf8 s.place ok.place lt in
      (places_from text (s.place + len_utf8 c.0), places_on text utf8 s.place c.0 ok.place c.1))
      (λ ge. let within = sound_within w s ok in ([], places_at_end text s.place (omega arith) ok.place))
      (cases_lt s.place (length text))

  absent_is : (fuel : ℕ) (s : MatchState) → length text < s.place + fuel → Sound w s →
      Alike (unbounded fuel true one_more s) (absent (setting w) x s)
  absent_is zero s le ok = let within = sound_within w s ok in absurd (omega arith)
  absent_is (suc fuel) s le ok = by_way (has_way x s) refl (λ t lt so. absent_is fuel t lt so)
    where
      again : Ways
      again = if_moved s (unbounded fuel true one_more)

      by_way : (v : Bool) → has_way x s ≡ v →
          ((t : MatchState) → length text < t.place + fuel → Sound w t →
          Alike (unbounded fuel true one_more t) (absent (setting w) x t)) →
          Alike (flat_map again (one_more s) ++ s ∷ []) (absent (setting w) x s)
      by_way true e ih =
          let r = rest_of s ok in
          let one : flat_map again (one_more s) ++ s ∷ [] ≡ s ∷ s ∷ [] =
          ap (λ l. flat_map again l ++ s ∷ []) (more_where_way s e)
          ∙ ap (λ v. ((if v then s ∷ [] else unbounded fuel true one_more s) ++ []) ++ s ∷ []) (eq-eqb s.place s.place refl) in
          alike_trans (alike_eq one) (alike_trans (twice s) (alike_eq (sym (absent_from s r.0 true e r.1))))
      by_way false e ih =
          ⊎_elim {C = Alike (flat_map again (one_more s) ++ s ∷ []) (absent (setting w) x s)}
          (λ lt.
          let c = char_stands text utf8 s.place ok.place lt in
          let j = s.place + len_utf8 c.0 in
          let some = len_utf8_bounds c.0 in
          let far = unbounded fuel true one_more (moved_to j s) in
          let one : flat_map again (one_more s) ++ s ∷ [] ≡ far ++ s ∷ [] =
          ap (λ l. flat_map again l ++ s ∷ []) (more_where_none s e ∙ any_at s (Some c.0) c.1)
          ∙ ap (λ v. ((if v then moved_to j s ∷ [] else far) ++ []) ++ s ∷ []) (ne_eqb j s.place (λ q. omega (arith, some, q)))
          ∙ ap (λ l. l ++ s ∷ []) (append-nil far) in
          alike_trans (alike_eq one)
          (alike_trans
          (alike_append
          (ih (moved_to j s) (omega (arith, some, le)) (sound_moved w s j ok (char_ends_at_place text utf8 s.place c.0 ok.place c.1)))
          (alike_same (s ∷ [])))
          (alike_eq (sym (absent_from s (places_from text j) false e (places_on text utf8 s.place c.0 ok.place c.1))))))
          (λ ge.
          let within = sound_within w s ok in
          let one : flat_map again (one_more s) ++ s ∷ [] ≡ s ∷ [] =
          ap (λ l. flat_map again l ++ s ∷ []) (more_where_none s e ∙ any_at s None (char_at_past text s.place ge)) in
          alike_eq (one ∙ sym (absent_from s [] false e (places_at_end text s.place (omega arith) ok.place))))
          (cases_lt s.place (length text))

  keeps_more : Keeps w one_more
  keeps_more s t ok m = by_way (has_way x s) refl
    where
      same : t ≡ s → Sound w t × (s.place ≤ t.place)
      same e = (subst (Sound w) (sym e) ok, (let p = ap (λ u. u.place) e in omega (arith, p)))

      by_char : (o : Option ℕ) → char_at text s.place ≡ o →
          Among t (at_place s (option_and_then (λ c. Some (s.place + len_utf8 c)) o)) → Sound w t × (s.place ≤ t.place)
      by_char None e n = elim n [ ]
      by_char (Some c) e n =
          let is = among_one n in (
            subst (Sound w) (sym is)
                (sound_moved w s (s.place + len_utf8 c) ok (char_ends_at_place text utf8 s.place c ok.place e)),
            (let p = ap (λ u. u.place) is in omega (arith, p)),
          )

      by_way : (v : Bool) → has_way x s ≡ v → Sound w t × (s.place ≤ t.place)
      by_way true e = same (among_one (subst (Among t) (more_where_way s e) m))
      by_way false e =
          by_char (char_at text s.place) refl (subst (Among t) (more_where_none s e ∙ any_at s (char_at text s.place) refl) m)

  pub simulates_absent : (c : Code) → length text < usize_max → Simulates w c x → Simulates w (absent_code c) (absent (setting w) x)
  simulates_absent c fits p =
      simulates_alike w (absent (setting w) x)
      (simulates_epsilon w true (conditional_code (negative_look_code c) (code.one Instr.Any) nothing) one_more
      (simulates_conditional w (negative_look_code c) (code.one Instr.Any) nothing (unless x) any stays (simulates_unless w c x p)
      (keeps_unless w x) (simulates_any w true false) (simulates_nothing w))
      keeps_more fits 0 (omega arith))
      (λ s ok. let within = sound_within w s ok in absent_is (suc (length text) - s.place) s (omega arith) ok)
