-- Ways that all take as many characters, and ways that all take some: by the law of sizes, which is assumed here.
use Rattle.std.proofs.Common.{◌≡◌, ℕ, ◌+◌, ◌<◌, ◌≤◌, ◌⊎◌, inl, inr, true, ◌==◌, [], ◌∷◌, flat_map, sym, ap, ◌∙◌, arith, ne_eqb}
use Rattle.std.proofs.lemmas.Bool.{cases_lt}
use Rattle.fancy_meaning.specs.Tree.{Tree}
use Rattle.fancy_meaning.specs.Nodes.{nodes}
use Rattle.fancy_meaning.specs.OpenCalls.{Depths}
use Rattle.fancy_meaning.specs.Places.{chars_between}
use Rattle.fancy_meaning.specs.MatchState.{MatchState, Ways}
use Rattle.fancy_meaning.specs.Ways.{Setting, ways}
use Rattle.fancy_meaning.specs.Sizes.{size}
use Rattle.fancy_meaning.specs.Numbers.{usize_max}
use Rattle.fancy_meaning.specs.Premises.{Analysed, tree_of, IsText, IsSized, IsSoundState}
use Rattle.fancy_meaning.specs.Laws.{SizeLaw}
use Rattle.fancy_laws.proofs.Every.{Every, no_item, item, every_weaker, every_both, every_flat_map}
use Rattle.fancy_delegation.proofs.Items.{IsIn, every_from, every_is_in, contained_is_in}
use Rattle.fancy_delegation.proofs.WaysGoForward.{ways_go_forward}
use Rattle.fancy_laws.proofs.Characters.{chars_add}
use Rattle.fancy_delegation.proofs.Counting.{no_chars, chars_fit, place_within, same_place}

module _ (q : Setting) (whole : Tree) where
  -- a sound state at the place of s or after it
  pub record IsOnward (s t : MatchState) : Type 0 where
    pub sound : IsSoundState q whole t
    pub on : s.place ≤ t.place

  -- from a sound state every way is one
  abbrev pub KeepsSound : Ways → Type 0
  KeepsSound w = (s : MatchState) → IsSoundState q whole s → Every (IsOnward s) (w s)

  abbrev pub TakesExactly : ℕ → Ways → Type 0
  TakesExactly n w = (s : MatchState) → IsSoundState q whole s → Every (λ t. chars_between q.text s.place t.place ≡ n) (w s)

  abbrev pub TakesSome : Ways → Type 0
  TakesSome w = (s : MatchState) → IsSoundState q whole s → Every (λ t. s.place < t.place) (w s)

  -- all ways take as many characters, or each takes some
  pub data Evenly (w : Ways) : Type 0 where
    exactly : (n : ℕ) → TakesExactly n w → Evenly w
    at_least_one : TakesSome w → Evenly w

  pub sound_stays : KeepsSound (λ s. s ∷ [])
  sound_stays s sound = item (record { sound = sound; on = omega arith }) no_item

  pub sound_next : (w v : Ways) → KeepsSound w → KeepsSound v → KeepsSound (λ s. flat_map v (w s))
  sound_next w v h k s sound =
      every_flat_map v (λ t on. every_weaker (λ u on'. record { sound = on'.sound; on = omega (arith, on.on, on'.on) }) (k t on.sound)) (h s sound)

  pub exactly_next : (n m : ℕ) (w v : Ways) → KeepsSound w → KeepsSound v → TakesExactly n w → TakesExactly m v →
      TakesExactly (n + m) (λ s. flat_map v (w s))
  exactly_next n m w v hs ks h k s sound =
      every_flat_map {P = λ t. IsOnward s t × (chars_between q.text s.place t.place ≡ n)} v
      (λ t both. every_both
      (λ u on e. let sum = chars_add q.text s.place t.place u.place (both.0).on on.on in let first = both.1 in omega (arith, sum, first, e))
      (ks t (both.0).sound) (k t (both.0).sound))
      (every_both (λ t on e. (on, e)) (hs s sound) (h s sound))

  pub some_before : (w v : Ways) → KeepsSound w → KeepsSound v → TakesSome w → TakesSome (λ s. flat_map v (w s))
  some_before w v hs ks h s sound =
      every_flat_map {P = λ t. IsOnward s t × (s.place < t.place)} v (λ t both. let lt = both.1 in
      every_weaker (λ u on. omega (arith, lt, on.on)) (ks t (both.0).sound))
      (every_both (λ t on lt. (on, lt)) (hs s sound) (h s sound))

  pub some_after : (w v : Ways) → KeepsSound w → TakesSome v → TakesSome (λ s. flat_map v (w s))
  some_after w v hs k s sound = every_flat_map v (λ t on. every_weaker (λ u lt. omega (arith, lt, on.on)) (k t on.sound)) (hs s sound)

  pub evenly_next : (w v : Ways) → KeepsSound w → KeepsSound v → Evenly w → Evenly v → Evenly (λ s. flat_map v (w s))
  evenly_next w v hs ks (exactly n h) (exactly m k) = exactly (n + m) (exactly_next n m w v hs ks h k)
  evenly_next w v hs ks (at_least_one h) k = at_least_one (some_before w v hs ks h)
  evenly_next w v hs ks (exactly n h) (at_least_one k) = at_least_one (some_after w v hs k)

  -- all ways that take as many end at one place
  pub one_end : (n : ℕ) (w : Ways) → KeepsSound w → TakesExactly n w → (s t u : MatchState) → IsSoundState q whole s →
      IsIn t (w s) → IsIn u (w s) → t.place ≡ u.place
  one_end n w hs h s t u sound i j =
      let on = every_is_in (hs s sound) i in
      let on' = every_is_in (hs s sound) j in
      same_place q.text s.place t.place u.place on.on on'.on (on.sound).place (on'.sound).place
      (every_is_in (h s sound) i ∙ sym (every_is_in (h s sound) j))

  -- and all agree on whether they moved, from any place before
  pub evenly_agree : (w : Ways) → KeepsSound w → Evenly w → (s t u : MatchState) (from : ℕ) → IsSoundState q whole s →
      from ≤ s.place → IsIn t (w s) → IsIn u (w s) → (t.place == from) ≡ (u.place == from)
  evenly_agree w hs (exactly n h) s t u from sound le i j = ap (λ p. p == from) (one_end n w hs h s t u sound i j)
  evenly_agree w hs (at_least_one h) s t u from sound le i j =
      let lt = every_is_in (h s sound) i in
      let lt' = every_is_in (h s sound) j in
      ne_eqb t.place from (λ e. omega (arith, lt, le, e)) ∙ sym (ne_eqb u.place from (λ e. omega (arith, lt', le, e)))

-- ---- the nodes of a tree

module _ (size_law : SizeLaw) (q : Setting) (a : Analysed) (is_text : IsText q.text) (e : Tree) (depths : Depths)
    (there : IsIn e (nodes (tree_of a))) where
  pub ways_keep_sound : KeepsSound q (tree_of a) (ways q (tree_of a) e depths)
  ways_keep_sound s sound =
      every_both (λ t z on. record { sound = z.0; on = on })
      (every_from (ways q (tree_of a) e depths s) (λ t i. size_law q a e depths s t is_text (contained_is_in there) sound (contained_is_in i)))
      (ways_go_forward q (tree_of a) e depths there s)

  pub sizes : (s : MatchState) → IsSoundState q (tree_of a) s →
      Every (λ t. IsSoundState q (tree_of a) t × IsSized (size (tree_of a) e) (chars_between q.text s.place t.place))
      (ways q (tree_of a) e depths s)
  sizes s sound =
      every_from (ways q (tree_of a) e depths s)
      (λ t i. size_law q a e depths s t is_text (contained_is_in there) sound (contained_is_in i))

  pub const_takes : (size (tree_of a) e).is_const ≡ true → TakesExactly q (tree_of a) (size (tree_of a) e).least (ways q (tree_of a) e depths)
  const_takes c s sound = every_weaker (λ t z. here t z.0 z.1 (cases_lt (size (tree_of a) e).least usize_max)) (sizes s sound)
    where
      here : (t : MatchState) → IsSoundState q (tree_of a) t →
          IsSized (size (tree_of a) e) (chars_between q.text s.place t.place) →
          ((size (tree_of a) e).least < usize_max) ⊎ (usize_max ≤ (size (tree_of a) e).least) →
          chars_between q.text s.place t.place ≡ (size (tree_of a) e).least
      here t ok z (inl lt) = z.exact c lt
      here t ok z (inr le) =
          let few = chars_fit q.text s.place t.place in
          let within = place_within q.text t.place ok.place in
          absurd (omega (arith, z.at_least, le, few, within, is_text.fits))

  pub sized_takes : 0 < (size (tree_of a) e).least → TakesSome q (tree_of a) (ways q (tree_of a) e depths)
  sized_takes lt s sound =
      every_both (λ t z on. here t z.1 on (cases_lt s.place t.place)) (sizes s sound) (ways_go_forward q (tree_of a) e depths there s)
    where
      here : (t : MatchState) → IsSized (size (tree_of a) e) (chars_between q.text s.place t.place) →
          s.place ≤ t.place → (s.place < t.place) ⊎ (t.place ≤ s.place) → s.place < t.place
      here t z on (inl l) = l
      here t z on (inr le) = let zero_chars = no_chars q.text s.place t.place le in absurd (omega (arith, z.at_least, lt, zero_chars))
