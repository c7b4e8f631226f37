-- The patterns of nodes go through their ways, with captures.
use Rattle.std.proofs.Common.{◌≡◌, ◌≢◌, ℕ, zero, suc, ◌+◌, ◌*◌, ◌-◌, ◌<◌, ◌≤◌, Bool, true, false, if◌then◌else◌, List, [], ◌∷◌, ◌++◌, length, map, flat_map, Option, Some, None, ◌==◌, nat_lt, refl, sym, ap, ap₂, subst, ◌∙◌, arith, inl, inr, eq-eqb, ne_eqb, lt-ltb}
use Rattle.std.proofs.lemmas.Bool.{cases_eq, cond-false, cond-true, false≢true, and_parts, or_cases}
use Rattle.std.specs.Option.{option_or}
use Rattle.regex_hir.specs.Re.{Re, Rest, Trace, write, empty, byte_in, cat, alt, group, plus, attempt, more_rounds}
use Rattle.regex_hir.specs.Reads.{always_reads}
use Rattle.regex_hir.specs.Meaning.{alt_all, at_least, cat_all, copies, optional, repeat, up_to}
use Rattle.regex_hir.proofs.AttemptLemmas.{attempt_cong, more_rounds_unfold}
use Rattle.fancy_meaning.specs.Tree.{Tree, Concat, Alt, Group, Repeat, trees}
use Rattle.fancy_meaning.specs.Nodes.{group_count}
use Rattle.fancy_meaning.specs.MatchState.{MatchState, Ways, in_order, one_of, put, with_span}
use Rattle.fancy_meaning.specs.Loops.{at_most, if_moved, prefer, required, unbounded}
use Rattle.fancy_meaning.specs.Numbering.{each_numbered, numbered_within}
use Rattle.fancy_meaning.specs.Ways.{Setting, each_ways, ways_with}
use Rattle.fancy_laws.proofs.Every.{Every, no_item, item, every_both}
use Rattle.fancy_agreement.specs.First.{Means, TakesFirstWay, first_some}
use Rattle.fancy_agreement.specs.Captures.{Agree, AreCaptured, Captures, Holds, OpenBelow, SameStarts, Slots, TakesFirstCaptures, pair, span_in}
use Rattle.fancy_agreement.proofs.FirstSome.{first_append, first_flat_map, first_map, first_one, pick}
use Rattle.fancy_agreement.proofs.NodeLaws.{each_goes_on, fails_first}
use Rattle.fancy_agreement.proofs.LastLaws.{reads_moves}
use Rattle.fancy_agreement.proofs.LoopLaws.{attempt_optional, attempt_plus, first_prefer}

-- ---- results that agree

agree_or : (from : ℕ) (slots : Slots) (a c : Option Trace) (b d : Option MatchState) → Agree from slots a b → Agree from slots c d →
    Agree from slots (option_or a c) (option_or b d)
agree_or from slots None c None d h k = k
agree_or from slots None c (Some u) d h k = absurd h
agree_or from slots (Some t) c None d h k = absurd h
agree_or from slots (Some t) c (Some u) d h k = h

agree_pick : (greedy : Bool) (from : ℕ) (slots : Slots) (a c : Option Trace) (b d : Option MatchState) → Agree from slots a b →
    Agree from slots c d → Agree from slots (pick greedy a c) (pick greedy b d)
agree_pick true from slots a c b d h k = agree_or from slots a c b d h k
agree_pick false from slots a c b d h k = agree_or from slots c a d b k h

agree_first : (from : ℕ) (slots : Slots) (f : MatchState → Option Trace) (g : MatchState → Option MatchState) (xs : List MatchState) →
    Every (λ t. Agree from slots (f t) (g t)) xs → Agree from slots (first_some f xs) (first_some g xs)
agree_first from slots f g [] h = tt
agree_first from slots f g (x ∷ xs) (item p h) =
    agree_or from slots (f x) (first_some f xs) (g x) (first_some g xs) p (agree_first from slots f g xs h)

agree_write : (from : ℕ) (slots : Slots) (slot i : ℕ) (r : Option Trace) (o : Option MatchState) →
    Agree from (put slot (Some i) slots) r o → Agree from slots (write slot i r) o
agree_write from slots slot i None None h = tt
agree_write from slots slot i None (Some u) h = absurd h
agree_write from slots slot i (Some t) None h = absurd h
agree_write from slots slot i (Some t) (Some u) h = record { start = h.start; end = h.end; spans = h.spans }

-- ---- nodes whose ways leave captures as they are

-- the way leaves all but the place
pub record Still (s t : MatchState) : Type 0 where
  pub captures : (g : ℕ) → t.captures g ≡ s.captures g
  pub kept : t.kept ≡ s.kept

still_captures : (text : List ℕ) (open_groups : ℕ → Bool) (re : Re) (ways : Ways) → TakesFirstWay text re ways →
    ((s : MatchState) → Every (Still s) (ways s)) → TakesFirstCaptures text open_groups re ways
still_captures text open_groups re ways first still from s slots k next within holds goes =
    subst (λ r. Agree from slots r (first_some next (ways s))) (sym (first s k within))
    (agree_first from slots (λ t. k t.place) next (ways s)
    (every_both
    (λ t st go. goes t slots
    (record { on = go.on; within = go.within; moved = λ reads. reads_moves re reads text s.place t.place go.spells })
    (record { kept = st.kept ∙ holds.kept; on = omega (arith, holds.on, go.on); spans = λ g shut. st.captures g ∙ holds.spans g shut })
    (λ g o. refl))
    (still s)
    (each_goes_on text re ways first s within)))

-- ---- ways in general

module _ (text : List ℕ) (open_groups : ℕ → Bool) where
  stays_captures : TakesFirstCaptures text open_groups empty (λ s. s ∷ [])
  unfolding attempt
  stays_captures from s slots k next within holds goes =
      subst (Agree from slots (k s.place)) (sym (first_one next s))
      (goes s slots (record { on = omega arith; within = within; moved = λ reads. absurd (false≢true reads) }) holds (λ g o. refl))

  fails_captures : TakesFirstCaptures text open_groups (byte_in []) (λ s. [])
  fails_captures = still_captures text open_groups (byte_in []) (λ s. []) (fails_first text) (λ s. no_item)

  then_captures : (a b : Re) (f g : Ways) → TakesFirstCaptures text open_groups a f → TakesFirstCaptures text open_groups b g →
      TakesFirstCaptures text open_groups (cat a b) (λ s. flat_map g (f s))
  unfolding attempt
  then_captures a b f g first second from s slots k next within holds goes =
      subst (Agree from slots (attempt text a (attempt text b k) s.place)) (sym (first_flat_map next g (f s)))
      (first from s slots (attempt text b k) (λ t. first_some next (g t)) within holds
      (λ t new one held same. second from t new k next one.within held
      (λ u newer two hold again. goes u newer
      (record {
        on = omega (arith, one.on, two.on);
        within = two.within;
        moved = λ reads. elim (or_cases (always_reads a) (always_reads b) reads) [
          | inl left ↦ omega (arith, one.moved left, two.on)
          | inr right ↦ omega (arith, one.on, two.moved right)
        ];
      })
      hold
      (λ h o. again h o ∙ same h o))))

  either_captures : (a b : Re) (f g : Ways) → TakesFirstCaptures text open_groups a f → TakesFirstCaptures text open_groups b g →
      TakesFirstCaptures text open_groups (alt a b) (λ s. f s ++ g s)
  unfolding attempt
  either_captures a b f g first second from s slots k next within holds goes =
      subst (Agree from slots (option_or (attempt text a k s.place) (attempt text b k s.place))) (sym (first_append next (f s) (g s)))
      (agree_or from slots (attempt text a k s.place) (attempt text b k s.place) (first_some next (f s)) (first_some next (g s))
      (first from s slots k next within holds (λ t new one. goes t new (record {
        on = one.on;
        within = one.within;
        moved = λ reads. one.moved (and_parts (always_reads a) (always_reads b) reads).0;
      })))
      (second from s slots k next within holds (λ t new one. goes t new (record {
        on = one.on;
        within = one.within;
        moved = λ reads. one.moved (and_parts (always_reads a) (always_reads b) reads).1;
      }))))

  never_optional : (greedy : Bool) (a : Re) → always_reads (optional greedy a) ≡ true → ⊥
  never_optional true a e = false≢true (and_parts (always_reads a) false e).1
  never_optional false a e = false≢true e

  optional_captures : (greedy : Bool) (a : Re) (f : Ways) → TakesFirstCaptures text open_groups a f →
      TakesFirstCaptures text open_groups (optional greedy a) (λ s. prefer greedy (f s) (s ∷ []))
  optional_captures greedy a f first from s slots k next within holds goes =
      subst (λ r. Agree from slots r (first_some next (prefer greedy (f s) (s ∷ [])))) (sym (attempt_optional text greedy a k s.place))
      (subst (Agree from slots (pick greedy (attempt text a k s.place) (k s.place))) (sym (first_prefer greedy next (f s) (s ∷ [])))
      (agree_pick greedy from slots (attempt text a k s.place) (k s.place) (first_some next (f s)) (first_some next (s ∷ []))
      (first from s slots k next within holds (λ t new one. goes t new (record {
        on = one.on;
        within = one.within;
        moved = λ reads. absurd (never_optional greedy a reads);
      })))
      (subst (Agree from slots (k s.place)) (sym (first_one next s))
      (goes s slots (record { on = omega arith; within = within; moved = λ reads. absurd (never_optional greedy a reads) }) holds
      (λ g o. refl)))))

  module _ (a : Re) (body : Ways) (greedy : Bool) (first : TakesFirstCaptures text open_groups a body) where
    at_most_captures : (n : ℕ) → TakesFirstCaptures text open_groups (up_to greedy n a) (at_most n greedy body)
    at_most_captures zero from s = stays_captures from s
    at_most_captures (suc n) from s =
        optional_captures greedy (cat a (up_to greedy n a)) (λ t. flat_map (at_most n greedy body) (body t))
        (then_captures a (up_to greedy n a) body (at_most n greedy body) first (at_most_captures n)) from s

    required_captures : (b : Re) (rest : Ways) → TakesFirstCaptures text open_groups b rest → (n : ℕ) →
        TakesFirstCaptures text open_groups (copies n a b) (required n body rest)
    required_captures b rest after zero = after
    required_captures b rest after (suc n) =
        then_captures a (copies n a b) body (required n body rest) first (required_captures b rest after n)

    -- ---- no bound, where the body always reads

    module _ (reads : always_reads a ≡ true) where
      abbrev more : Rest → Rest
      more k = more_rounds text greedy (attempt text a) k

      -- what follows agrees from each state further on
      abbrev GoesOn : ℕ → MatchState → Slots → Rest → (MatchState → Option MatchState) → Type 0
      GoesOn from s slots k next =
          (t : MatchState) (new : Slots) → s.place ≤ t.place → t.place ≤ length text → Holds from open_groups t new →
          SameStarts open_groups slots new →
          Agree from new (k t.place) (next t)

      round : (n : ℕ) (s t : MatchState) (k : Rest) (next : MatchState → Option MatchState) (from : ℕ) (slots : Slots) →
          s.place < t.place → Agree from slots (more k t.place) (first_some next (unbounded n greedy body t)) →
          Agree from slots (if nat_lt s.place t.place then more k t.place else None)
          (first_some next (if_moved s (unbounded n greedy body) t))
      round n s t k next from slots moved h =
          subst (λ r. Agree from slots r (first_some next (if_moved s (unbounded n greedy body) t)))
          (sym (cond-true (nat_lt s.place t.place) (more k t.place) None (lt-ltb s.place t.place moved)))
          (subst (λ b. Agree from slots (more k t.place) (first_some next (if b then t ∷ [] else unbounded n greedy body t)))
          (sym (ne_eqb t.place s.place (omega (arith, moved)))) h)

      more_captures : (n : ℕ) (from : ℕ) (s : MatchState) (slots : Slots) (k : Rest) (next : MatchState → Option MatchState) →
          s.place ≤ length text → length text < s.place + n → Holds from open_groups s slots → GoesOn from s slots k next →
          Agree from slots (more k s.place) (first_some next (unbounded n greedy body s))
      more_captures zero from s slots k next within room holds goes = absurd (omega (arith, within, room))
      more_captures (suc n) from s slots k next within room holds goes =
          let again : Rest = λ j. if nat_lt s.place j then more k j else None in
          let on = flat_map (if_moved s (unbounded n greedy body)) (body s) in
          subst (λ r. Agree from slots r (first_some next (prefer greedy on (s ∷ []))))
          (sym (more_rounds_unfold text greedy a k s.place))
          (subst (Agree from slots (pick greedy (attempt text a again s.place) (k s.place))) (sym (first_prefer greedy next on (s ∷ [])))
          (agree_pick greedy from slots (attempt text a again s.place) (k s.place) (first_some next on) (first_some next (s ∷ []))
          (subst (Agree from slots (attempt text a again s.place))
          (sym (first_flat_map next (if_moved s (unbounded n greedy body)) (body s)))
          (first from s slots again (λ t. first_some next (if_moved s (unbounded n greedy body) t)) within holds
          (λ t new one held same.
          let moved = one.moved reads in
          round n s t k next from new moved
          (more_captures n from t new k next one.within (omega (arith, moved, room)) held
          (λ u newer on inside hold after. goes u newer (omega (arith, on, one.on)) inside hold (λ h o. after h o ∙ same h o))))))
          (subst (Agree from slots (k s.place)) (sym (first_one next s))
          (goes s slots (omega arith) within holds (λ g o. refl)))))

      abbrev loop : Ways
      loop s = unbounded (suc (length text) - s.place) greedy body s

      abbrev after_first : Rest → ℕ → Rest
      after_first k i j = if nat_lt i j then more k j else k j

      plus_captures : TakesFirstCaptures text open_groups (plus greedy a) (λ s. flat_map loop (body s))
      plus_captures from s slots k next within holds goes =
          subst (λ r. Agree from slots r (first_some next (flat_map loop (body s)))) (sym (attempt_plus text greedy a k s.place))
          (subst (Agree from slots (attempt text a (after_first k s.place) s.place)) (sym (first_flat_map next loop (body s)))
          (first from s slots (after_first k s.place) (λ t. first_some next (loop t)) within holds
          (λ t new one held same.
          let moved = one.moved reads in
          subst (λ r. Agree from new r (first_some next (loop t)))
          (sym (cond-true (nat_lt s.place t.place) (more k t.place) (k t.place) (lt-ltb s.place t.place moved)))
          (more_captures (suc (length text) - t.place) from t new k next one.within (omega (arith, one.within)) held
          (λ u newer on inside hold after. goes u newer
          (record { on = omega (arith, on, one.on); within = inside; moved = λ _. omega (arith, on, moved) })
          hold (λ h o. after h o ∙ same h o))))))

      -- the loop of the kit, with the first round no other than the later ones
      star_is_more : (k : Rest) (i : ℕ) → attempt text (optional greedy (plus greedy a)) k i ≡ more k i
      star_is_more k i =
          attempt_optional text greedy (plus greedy a) k i
          ∙ ap (λ o. pick greedy o (k i))
          (attempt_plus text greedy a k i
          ∙ attempt_cong text a (after_first k i) (λ j. if nat_lt i j then more k j else None) i
          (λ j m. let moved = lt-ltb i j (reads_moves a reads text i j m) in
          cond-true (nat_lt i j) (more k j) (k j) moved ∙ sym (cond-true (nat_lt i j) (more k j) None moved)))
          ∙ sym (more_rounds_unfold text greedy a k i)

      star_captures : TakesFirstCaptures text open_groups (optional greedy (plus greedy a)) loop
      star_captures from s slots k next within holds goes =
          subst (λ r. Agree from slots r (first_some next (loop s))) (sym (star_is_more k s.place))
          (more_captures (suc (length text) - s.place) from s slots k next within (omega (arith, within)) holds
          (λ u newer on inside hold after. goes u newer
          (record { on = on; within = inside; moved = λ r. absurd (never_optional greedy (plus greedy a) r) }) hold after))

      at_least_captures : (n : ℕ) → TakesFirstCaptures text open_groups (at_least greedy n a) (required n body loop)
      at_least_captures zero from s = star_captures from s
      at_least_captures (suc n) from s = go n from s
        where
          go : (n : ℕ) → TakesFirstCaptures text open_groups (copies n a (plus greedy a)) (required (suc n) body loop)
          go zero from s = plus_captures from s
          go (suc n) from s = then_captures a (copies n a (plus greedy a)) body (required (suc n) body loop) first (go n) from s

-- ---- groups

abbrev also_open : ℕ → (ℕ → Bool) → ℕ → Bool
also_open n open_groups = put n true open_groups

other : (n g : ℕ) (open_groups : ℕ → Bool) → g ≢ n → also_open n open_groups g ≡ open_groups g
other n g open_groups ne = cond-false (g == n) true (open_groups g) (ne_eqb g n ne)

not_this : (n g : ℕ) (open_groups : ℕ → Bool) → also_open n open_groups g ≡ false → g ≢ n
not_this n g open_groups shut same =
    false≢true (sym shut ∙ cond-true (g == n) true (open_groups g) (eq-eqb g n same))

put_other : {A : Type 0} (i j : ℕ) (x : A) (f : ℕ → A) → j ≢ i → put i x f j ≡ f j
put_other i j x f ne = cond-false (j == i) x (f j) (ne_eqb j i ne)

put_here : {A : Type 0} (i : ℕ) (x : A) (f : ℕ → A) → put i x f i ≡ x
put_here i x f = cond-true (i == i) x (f i) (eq-eqb i i refl)

module _ (text : List ℕ) (open_groups : ℕ → Bool) (n : ℕ) (below : OpenBelow n open_groups) where
  opens : (from i : ℕ) (s : MatchState) (slots : Slots) → Holds from open_groups s slots →
      Holds from (also_open n open_groups) s (put (2 * n) (Some i) slots)
  opens from i s slots h = record {
    kept = h.kept;
    on = h.on;
    spans = λ g shut.
        let ne = not_this n g open_groups shut in
        h.spans g (sym (other n g open_groups ne) ∙ shut)
        ∙ ap₂ pair (sym (put_other (2 * n) (2 * g) (Some i) slots (omega (arith, ne))))
        (sym (put_other (2 * n) (2 * g + 1) (Some i) slots (omega arith)));
  }

  closes : (from i j : ℕ) (t : MatchState) (slots new : Slots) → Holds from (also_open n open_groups) t new →
      SameStarts (also_open n open_groups) (put (2 * n) (Some i) slots) new →
      Holds from open_groups (with_span n (i, j) t) (put (2 * n + 1) (Some j) new)
  closes from i j t slots new h same = record {
    kept = h.kept;
    on = h.on;
    spans = λ g shut. elim (cases_eq g n) [
      | inl this ↦ subst (λ x. put n (Some (i, j)) t.captures x ≡ span_in (put (2 * n + 1) (Some j) new) x) (sym this)
          (put_here n (Some (i, j)) t.captures
          ∙ ap₂ pair
          (sym (put_other (2 * n + 1) (2 * n) (Some j) new (omega arith)
          ∙ same n (cond-true (n == n) true (open_groups n) (eq-eqb n n refl))
          ∙ put_here (2 * n) (Some i) slots))
          (sym (put_here (2 * n + 1) (Some j) new)))
      | inr ne ↦
          put_other n g (Some (i, j)) t.captures ne
          ∙ h.spans g (other n g open_groups ne ∙ shut)
          ∙ ap₂ pair (sym (put_other (2 * n + 1) (2 * g) (Some j) new (omega arith)))
          (sym (put_other (2 * n + 1) (2 * g + 1) (Some j) new (omega (arith, ne))))
    ];
  }

  same_outside : (i j : ℕ) (slots new : Slots) → SameStarts (also_open n open_groups) (put (2 * n) (Some i) slots) new →
      SameStarts open_groups slots (put (2 * n + 1) (Some j) new)
  same_outside i j slots new same g o =
      let less = below g o in
      let ne : g ≢ n = λ e. omega (arith, less, e) in
      put_other (2 * n + 1) (2 * g) (Some j) new (omega arith)
      ∙ same g (other n g open_groups ne ∙ o)
      ∙ put_other (2 * n) (2 * g) (Some i) slots (omega (arith, less))

  group_captures : (a : Re) (body : Ways) → TakesFirstCaptures text (also_open n open_groups) a body →
      TakesFirstCaptures text open_groups (group n a) (λ s. map (λ t. with_span n (s.place, t.place) t) (body s))
  unfolding attempt
  group_captures a body first from s slots k next within holds goes =
      let i = s.place in
      let close : Rest = λ j. write (2 * n + 1) j (k j) in
      let put_span : MatchState → MatchState = λ t. with_span n (i, t.place) t in
      subst (Agree from slots (write (2 * n) i (attempt text a close i))) (sym (first_map next put_span (body s)))
      (agree_write from slots (2 * n) i (attempt text a close i) (first_some (λ t. next (put_span t)) (body s))
      (first from s (put (2 * n) (Some i) slots) close (λ t. next (put_span t)) within (opens from i s slots holds)
      (λ t new one held same.
      agree_write from new (2 * n + 1) t.place (k t.place) (next (put_span t))
      (goes (put_span t) (put (2 * n + 1) (Some t.place) new)
      (record { on = one.on; within = one.within; moved = one.moved })
      (closes from i t.place t slots new held same)
      (same_outside i t.place slots new same)))))

-- ---- nodes

-- a node whose ways leave captures as they are, whatever number its first group would have
pub record IsStill (e : Tree) : Type 0 where
  pub at : (w : _) (n : ℕ) (q : Setting) (call : ℕ → Ways) (s : MatchState) →
      Every (Still s) (ways_with q call (numbered_within w n e) s)

pub still_captured : (u : Bool) (n : ℕ) (e : Tree) (re : Re) → Means u e re → IsStill e → Captures u n e re
still_captured u n e re m still = record {
  at = λ w q call open_groups is below from s.
      still_captures q.text open_groups re (ways_with q call (numbered_within w n e)) (m.at w n q call is) (still.at w n q call) from s;
}

below_more : (n m : ℕ) (open_groups : ℕ → Bool) → OpenBelow n open_groups → OpenBelow (n + m) open_groups
below_more n m open_groups below g o = omega (arith, below g o)

in_order_captured : (u : Bool) (n : ℕ) (es : List Tree) (res : List Re) → AreCaptured u n es res →
    (w : _) (q : Setting) (call : ℕ → Ways) (open_groups : ℕ → Bool) → q.unicode ≡ u → OpenBelow n open_groups →
    TakesFirstCaptures q.text open_groups (cat_all res) (in_order (each_ways q call (each_numbered w n (trees es))))
in_order_captured u n [] [] h w q call open_groups is below from s = stays_captures q.text open_groups from s
in_order_captured u n [] (re ∷ res) h w q call open_groups is below from s = absurd h
in_order_captured u n (e ∷ es) [] h w q call open_groups is below from s = absurd h
in_order_captured u n (e ∷ es) (re ∷ res) h w q call open_groups is below from s =
    then_captures q.text open_groups re (cat_all res) (ways_with q call (numbered_within w n e))
    (in_order (each_ways q call (each_numbered w (n + group_count e) (trees es))))
    (h.0.at w q call open_groups is below)
    (in_order_captured u (n + group_count e) es res h.1 w q call open_groups is (below_more n (group_count e) open_groups below))
    from s

pub concat_captured : (u : Bool) (n : ℕ) (es : List Tree) (res : List Re) → AreCaptured u n es res →
    Captures u n (Concat (trees es)) (cat_all res)
concat_captured u n es res h = record { at = in_order_captured u n es res h }

branch_captured : (u : Bool) (n : ℕ) (es : List Tree) (res : List Re) → AreCaptured u n es res →
    (w : _) (q : Setting) (call : ℕ → Ways) (open_groups : ℕ → Bool) → q.unicode ≡ u → OpenBelow n open_groups →
    TakesFirstCaptures q.text open_groups (alt_all res) (one_of (each_ways q call (each_numbered w n (trees es))))
branch_captured u n [] [] h w q call open_groups is below from s = fails_captures q.text open_groups from s
branch_captured u n [] (re ∷ res) h w q call open_groups is below from s = absurd h
branch_captured u n (e ∷ es) [] h w q call open_groups is below from s = absurd h
branch_captured u n (e ∷ es) (re ∷ res) h w q call open_groups is below from s =
    either_captures q.text open_groups re (alt_all res) (ways_with q call (numbered_within w n e))
    (one_of (each_ways q call (each_numbered w (n + group_count e) (trees es))))
    (h.0.at w q call open_groups is below)
    (branch_captured u (n + group_count e) es res h.1 w q call open_groups is (below_more n (group_count e) open_groups below))
    from s

pub alt_captured : (u : Bool) (n : ℕ) (es : List Tree) (res : List Re) → AreCaptured u n es res →
    Captures u n (Alt (trees es)) (alt_all res)
alt_captured u n es res h = record { at = branch_captured u n es res h }

below_open : (n : ℕ) (open_groups : ℕ → Bool) → OpenBelow n open_groups → OpenBelow (suc n) (also_open n open_groups)
below_open n open_groups below g o = elim (cases_eq g n) [
  | inl this ↦ omega (arith, this)
  | inr ne ↦ let less = below g (sym (other n g open_groups ne) ∙ o) in omega (arith, less)
]

pub group_captured : (u : Bool) (n g : ℕ) (e : Tree) (re : Re) → Captures u (suc n) e re → Captures u n (Group g e) (group n re)
group_captured u n g e re c = record {
  at = λ w q call open_groups is below from s.
      group_captures q.text open_groups n below re (ways_with q call (numbered_within w (suc n) e))
      (c.at w q call (also_open n open_groups) is (below_open n open_groups below)) from s;
}

pub loop_captured : (u : Bool) (n lo : ℕ) (hi : Option ℕ) (greedy : Bool) (e : Tree) (re : Re) → Captures u n e re →
    (hi ≡ None → always_reads re ≡ true) → Captures u n (Repeat lo hi greedy e) (repeat lo hi greedy re)
unfolding repeat
loop_captured u n lo None greedy e re c reads = record {
  at = λ w q call open_groups is below from s.
      at_least_captures q.text open_groups re (ways_with q call (numbered_within w n e)) greedy
      (c.at w q call open_groups is below) (reads refl) lo from s;
}
loop_captured u n lo (Some hi) greedy e re c reads = record {
  at = λ w q call open_groups is below from s.
      let body = ways_with q call (numbered_within w n e) in
      let first = c.at w q call open_groups is below in
      required_captures q.text open_groups re body greedy first (up_to greedy (hi - lo) re) (at_most (hi - lo) greedy body)
      (at_most_captures q.text open_groups re body greedy first (hi - lo)) lo from s;
}
