-- To go back as many characters as a body takes is to look behind.
use Rattle.std.proofs.Common.{◌≡◌, ◌≢◌, ℕ, zero, suc, ◌<◌, Bool, true, false, not, is_some, if◌then◌else◌, ◌==◌, List, [], ◌∷◌, ◌++◌, length, map, filter, flat_map, Option, Some, None, refl, sym, ap, ap₂, ◌∙◌, subst, arith, ⊎_elim, append-nil}
use Rattle.std.specs.Prelude.{slice_get}
use Rattle.std.proofs.lemmas.Bool.{cond-true, cond-false, cases_lt, ne_eqb, eq-eqb}
use Rattle.fancy_meaning.specs.Places.{is_place, places_back, chars_between, back_by}
use Rattle.fancy_meaning.specs.MatchState.{MatchState, Ways, moved_to}
use Rattle.fancy_meaning.specs.Ways.{ends_here, unless}
use Rattle.fancy_meaning.specs.Sizes.{Size}
use Rattle.fancy_meaning.specs.Numbers.{usize_max}
use Rattle.fancy_meaning.specs.Instr.{GoBack}
use Rattle.fancy_meaning.specs.Code.{Code, nothing, ◌>>◌}
use Rattle.fancy_meaning.specs.Code as code
use Rattle.fancy_meaning.specs.Constructs.{look_code, negative_look_code, behind_code}
use Rattle.fancy_meaning.specs.Premises.{IsSized}
use Rattle.fancy_composed.proofs.Continuations.{Ground}
use Rattle.fancy_composed.proofs.Alike.{Among, at_head, further}
use Rattle.fancy_composed.proofs.Parts.{at_place, Sound, setting, sound_within, Simulates, Keeps}
use Rattle.fancy_composed.proofs.Places.{IsBack, back_by_is, same_end, few_chars}
use Rattle.fancy_composed.proofs.Simulates.{simulates_as, simulates_look, simulates_unless, simulates_back}

-- ---- lists

-- from the place, if there is one
abbrev from_place : Option ℕ → (ℕ → List MatchState) → List MatchState
from_place None g = []
from_place (Some i) g = g i

none_of : (g : ℕ → List MatchState) (is : List ℕ) → ((j i : ℕ) → slice_get is j ≡ Some i → g i ≡ []) → flat_map g is ≡ []
none_of g [] h = refl
none_of g (i ∷ is) h = ap (λ l. l ++ flat_map g is) (h 0 i refl) ∙ none_of g is (λ j k e. h (suc j) k e)

-- where one number alone gives anything
one_of_all : (g : ℕ → List MatchState) (is : List ℕ) (n : ℕ) → ((j i : ℕ) → slice_get is j ≡ Some i → j ≢ n → g i ≡ []) →
    flat_map g is ≡ from_place (slice_get is n) g
one_of_all g [] n h = refl
one_of_all g (i ∷ is) zero h = ap (λ l. g i ++ l) (none_of g is (λ j k e. h (suc j) k e (λ x. omega arith))) ∙ append-nil (g i)
one_of_all g (i ∷ is) (suc n) h =
    ap (λ l. l ++ flat_map g is) (h 0 i refl (λ x. omega arith))
    ∙ one_of_all g is n (λ j k e ne. h (suc j) k e (λ x. ne (omega arith)))

filter_all : (test : MatchState → Bool) (hs : List MatchState) → ((t : MatchState) → Among t hs → test t ≡ true) →
    filter test hs ≡ hs
filter_all test [] h = refl
filter_all test (x ∷ hs) h =
    cond-true (test x) _ _ (h x at_head) ∙ ap (λ l. x ∷ l) (filter_all test hs (λ t m. h t (further m)))

filter_none : (test : MatchState → Bool) (hs : List MatchState) → ((t : MatchState) → Among t hs → test t ≡ false) →
    filter test hs ≡ []
filter_none test [] h = refl
filter_none test (x ∷ hs) h = cond-false (test x) _ _ (h x at_head) ∙ filter_none test hs (λ t m. h t (further m))

map_same : (f : MatchState → MatchState) (hs : List MatchState) → ((t : MatchState) → Among t hs → f t ≡ t) → map f hs ≡ hs
map_same f [] h = refl
map_same f (x ∷ hs) h = ap₂ (λ y l. y ∷ l) (h x at_head) (map_same f hs (λ t m. h t (further m)))

some_map : (f : MatchState → MatchState) (hs : List MatchState) → is_some (slice_get (map f hs) 0) ≡ is_some (slice_get hs 0)
some_map f [] = refl
some_map f (h ∷ hs) = refl

module _ (w : Ground) where
  abbrev text : List ℕ
  text = (w.task).text

  pub sound_moved : (s : MatchState) (i : ℕ) → Sound w s → is_place text i ≡ true → Sound w (moved_to i s)
  sound_moved s i ok at = record { place = at; spans = ok.spans; sizes = ok.sizes }

  -- each way takes as many characters as the size allows
  abbrev pub Sized : Size → Ways → Type 0
  Sized z f = (s t : MatchState) → Sound w s → Among t (f s) → IsSized z (chars_between text s.place t.place)

  module _ (z : Size) (f : Ways) (const : z.is_const ≡ true) (sized : Sized z f) (keeps : Keeps w f)
      (fits : length text < usize_max) where
    -- a body that takes so many characters ends exactly there
    reaches : (s t : MatchState) → Sound w s → Among t (f s) → chars_between text s.place t.place ≡ z.least
    reaches s t ok m =
        let size = sized s t ok m in
        let k = keeps s t ok m in
        let few = few_chars text s.place t.place k.1 in
        let within = sound_within w t k.0 in
        ⊎_elim {C = chars_between text s.place t.place ≡ z.least} (λ lt. size.exact const lt)
        (λ ge. let least = size.at_least in absurd (omega arith)) (cases_lt z.least usize_max)

    pub back_is_behind : (s : MatchState) → Sound w s →
        map (moved_to s.place) (flat_map f (at_place s (back_by text z.least s.place))) ≡ ends_here (setting w) f s
    back_is_behind s ok =
        by_place (back_by text z.least s.place) refl
        ∙ sym
        (one_of_all from_one (places_back text s.place) z.least (λ j i e ne. misses j i (back_by_is text s.place j i e) ne))
      where
        from_one : ℕ → List MatchState
        from_one i = filter (λ t. t.place == s.place) (f (moved_to i s))

        misses : (j i : ℕ) → IsBack text s.place j i → j ≢ z.least → from_one i ≡ []
        misses j i b ne = filter_none (λ t. t.place == s.place) (f (moved_to i s)) (λ t m. ne_eqb t.place s.place (λ e. ne (
            sym b.count ∙ ap (chars_between text i) (sym e) ∙ reaches (moved_to i s) t (sound_moved s i ok b.place) m
            )))

        lands : (i : ℕ) → IsBack text s.place z.least i → (t : MatchState) → Among t (f (moved_to i s)) → t.place ≡ s.place
        lands i b t m =
            let so = sound_moved s i ok b.place in
            let k = keeps (moved_to i s) t so m in
            same_end text i t.place s.place (k.0).place ok.place k.1 b.before (reaches (moved_to i s) t so m ∙ sym b.count)

        by_place : (o : Option ℕ) → back_by text z.least s.place ≡ o →
            map (moved_to s.place) (flat_map f (at_place s o)) ≡ from_place o from_one
        by_place None e = refl
        by_place (Some i) e =
            let b = back_by_is text s.place z.least i e in
            ap (map (moved_to s.place)) (append-nil (f (moved_to i s)))
            ∙ map_same (moved_to s.place) (f (moved_to i s)) (λ t m. ap (λ p. moved_to p t) (sym (lands i b t m)))
            ∙ sym (filter_all (λ t. t.place == s.place) (f (moved_to i s)) (λ t m. eq-eqb t.place s.place (lands i b t m)))

    back_sound : (s : MatchState) (j : ℕ) → Sound w s → back_by text z.least s.place ≡ Some j → Sound w (moved_to j s)
    back_sound s j ok e = sound_moved s j ok (back_by_is text s.place z.least j e).place

    pub simulates_behind : (c : Code) → Simulates w c f → Simulates w (behind_code look_code (z, c)) (ends_here (setting w) f)
    simulates_behind c p =
        subst (λ v. Simulates w (if v then look_code (code.one (GoBack z.least) >> c) else nothing) (ends_here (setting w) f))
        (sym const)
        (simulates_as w (ends_here (setting w) f) (simulates_look w _ _ (simulates_back w z.least c f back_sound p)) back_is_behind)

    pub simulates_not_behind : (c : Code) → Simulates w c f →
        Simulates w (behind_code negative_look_code (z, c)) (unless (ends_here (setting w) f))
    simulates_not_behind c p =
        subst
        (λ v.
        Simulates w (if v then negative_look_code (code.one (GoBack z.least) >> c) else nothing) (unless (ends_here (setting w) f)))
        (sym const)
        (simulates_as w (unless (ends_here (setting w) f)) (simulates_unless w _ _ (simulates_back w z.least c f back_sound p))
        (λ s ok.
        ap (λ v. if not v then s ∷ [] else [])
        (sym (some_map (moved_to s.place) (flat_map f (at_place s (back_by text z.least s.place))))
        ∙ ap (λ l. is_some (slice_get l 0)) (back_is_behind s ok))))
