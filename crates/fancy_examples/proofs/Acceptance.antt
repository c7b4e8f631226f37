-- Lemmas for trees that no case refuses.
use Rattle.fancy_meaning.specs.Options.{AnalysisOptions}
use Rattle.std.proofs.Common.{◌≡◌, ◌<◌, ℕ, zero, suc, Bool, true, false, ◌&&◌, ◌||◌, List, [], ◌∷◌, Some, refl, arith}
use Rattle.std.specs.Prelude.{◌==◌, nat_le, slice_get}
use Rattle.std.specs.List.{list_any}
use Rattle.std.proofs.lemmas.Bool.{leb-false, eq-eqb, or_right}
use Rattle.fancy_meaning.specs.Tree.{Tree, Backref, SubroutineCall, AstNode}
use Rattle.fancy_meaning.specs.Nodes.{nodes, groups}
use Rattle.fancy_meaning.specs.Numbering.{numbered}
use Rattle.fancy_meaning.specs.WellFormed.{Has, refers}
use Rattle.fancy_meaning.specs.Spots.{Spot, all_spots}
use Rattle.fancy_meaning.specs.Recursion.{Calls, LeadsAtOnce, once, again, IsLeftRecursive}
use Rattle.fancy_meaning.specs.AnalysisRefusals.{CompileError, is_back_to, has_level, spots_in_group, ReadsAfterCall, is_no_group, RefusesBeforeEnd, named_groups_with_numbers, reference_to_0, reference_after_call, unresolved_call, unresolved_node, reference_with_level, lazy_loop, group_out_of_range, left_recursion, is_lazy}
use Rattle.fancy_examples.proofs.Notation.{parsed, no_options}
use Rattle.fancy_examples.proofs.CallsAtOnce.{passed}

-- ---- calls that lead to higher numbers alone, or to lower ones

abbrev pub does_not_rise : Tree → ℕ → Bool
does_not_rise (SubroutineCall h) g = nat_le h g
does_not_rise e g = false

abbrev pub does_not_fall : Tree → ℕ → Bool
does_not_fall (SubroutineCall h) g = nat_le g h
does_not_fall e g = false

abbrev pub at_once : (Tree → ℕ → Bool) → Spot → Bool
at_once test s = test s.node s.owner && (s.position == 0)

found : (whole : Tree) (test : Tree → ℕ → Bool) (g h : ℕ) → Calls whole g 0 h → test (SubroutineCall h) g ≡ true →
    list_any (at_once test) (all_spots whole) ≡ true
found whole test g h c t = passed (at_once test) (all_spots whole) c.spot c.is_there (passes c.spot c.is_call c.owner c.position)
  where
    passes : (s : Spot) → s.node ≡ SubroutineCall h → s.owner ≡ g → s.position ≡ 0 → at_once test s ≡ true
    passes s n o p = rw n (rw o (rw p (rw t refl)))

rises : (whole : Tree) → list_any (at_once does_not_rise) (all_spots whole) ≡ false → (g h : ℕ) → LeadsAtOnce whole g h → g < h
rises whole none g h (once c) = go (nat_le h g) refl
  where
    go : (b : Bool) → nat_le h g ≡ b → g < h
    go true e = absurd (cc (found whole does_not_rise g h c e, none))
    go false e = leb-false h g e
rises whole none g h (again {h = k} a b) = omega (arith, rises whole none g k a, rises whole none k h b)

pub no_rising_cycle : (whole : Tree) → list_any (at_once does_not_rise) (all_spots whole) ≡ false → (n : ℕ) → ¬ IsLeftRecursive whole n
no_rising_cycle whole none n r = absurd (omega (arith, rises whole none _ _ r.cycle))

falls : (whole : Tree) → list_any (at_once does_not_fall) (all_spots whole) ≡ false → (g h : ℕ) → LeadsAtOnce whole g h → h < g
falls whole none g h (once c) = go (nat_le g h) refl
  where
    go : (b : Bool) → nat_le g h ≡ b → h < g
    go true e = absurd (cc (found whole does_not_fall g h c e, none))
    go false e = leb-false g h e
falls whole none g h (again {h = k} a b) = omega (arith, falls whole none g k a, falls whole none k h b)

pub no_falling_cycle : (whole : Tree) → list_any (at_once does_not_fall) (all_spots whole) ≡ false → (n : ℕ) → ¬ IsLeftRecursive whole n
no_falling_cycle whole none n r = absurd (omega (arith, falls whole none _ _ r.cycle))

-- ---- no case but the one that asks whether another holds

abbrev pub is_reference : Tree → Bool
is_reference (Backref g casei) = true
is_reference e = false

abbrev pub is_unresolved : Tree → Bool
is_unresolved (AstNode node) = true
is_unresolved e = false

-- a group with a back reference in it
abbrev pub reads_in : Tree → ℕ × Tree → Bool
reads_in whole h = list_any (λ s. is_reference s.node) (spots_in_group whole h.0 h.1)

some_is : {X : Type 0} (y x : X) → Some y ≡ Some x → y ≡ x
some_is y x e = cc (e)

got : {X : Type 0} (test : X → Bool) (xs : List X) (k : ℕ) (x : X) → slice_get xs k ≡ Some x → test x ≡ true → list_any test xs ≡ true
got test [] k x e t = cc (e)
got test (y ∷ ys) zero x e t = rw (some_is y x e) (rw t refl)
got test (y ∷ ys) (suc k) x e t = rw (got test ys k x e t) (or_right (test y) true refl)

pub reads_nothing : (whole : Tree) → list_any (reads_in whole) (groups whole) ≡ false → (g : ℕ) → ¬ ReadsAfterCall whole g
reads_nothing whole none g r =
    cc (
      passed (reads_in whole) (groups whole) (g, r.body) r.is_group
          (got (λ s. is_reference s.node) (spots_in_group whole g r.body) r.at_read r.read r.is_read
          (rw (r.is_reference) refl)),
      none,
    )

-- ---- back references behind calls of their groups

abbrev pub is_own_call : ℕ → Spot → Bool
is_own_call g s = go s.node && (s.owner == g)
  where
    go : Tree → Bool
    go (SubroutineCall h) = h == g
    go e = false

abbrev pub is_own_read : ℕ → Spot → Bool
is_own_read g s = go s.node
  where
    go : Tree → Bool
    go (Backref h casei) = h == g
    go e = false

-- an own read stands behind an own call
abbrev pub reads_behind : ℕ → List Spot → Bool
reads_behind g [] = false
reads_behind g (s ∷ ss) = (is_own_call g s && list_any (is_own_read g) ss) || reads_behind g ss

same : (g : ℕ) → (g == g) ≡ true
same g = eq-eqb g g refl

behind : (g : ℕ) (ss : List Spot) (i j : ℕ) (c r : Spot) → i < j → slice_get ss i ≡ Some c → slice_get ss j ≡ Some r →
    is_own_call g c ≡ true → is_own_read g r ≡ true → reads_behind g ss ≡ true
behind g [] i j c r l at_i at_j call read = cc (at_i)
behind g (s ∷ ss) zero zero c r l at_i at_j call read = absurd (omega (arith, l))
behind g (s ∷ ss) zero (suc j) c r l at_i at_j call read =
    rw (some_is s c at_i) (rw call (rw (got (is_own_read g) ss j r at_j read) refl))
behind g (s ∷ ss) (suc i) zero c r l at_i at_j call read = absurd (omega (arith, l))
behind g (s ∷ ss) (suc i) (suc j) c r l at_i at_j call read =
    rw (behind g ss i j c r (omega (arith, l)) at_i at_j call read) (or_right (is_own_call g s && list_any (is_own_read g) ss) true refl)

pub reads_before_calls : (whole : Tree) →
    list_any (λ h. reads_behind h.0 (spots_in_group whole h.0 h.1)) (groups whole) ≡ false → (g : ℕ) →
    ¬ ReadsAfterCall whole g
reads_before_calls whole none g r =
    cc (
      passed (λ h. reads_behind h.0 (spots_in_group whole h.0 h.1)) (groups whole) (g, r.body) r.is_group
          (behind g (spots_in_group whole g r.body) r.at_call r.at_read r.call r.read r.in_order r.is_there r.is_read
          (rw (r.is_call) (rw (same g) (rw (r.is_own) (same g)))) (rw (r.is_reference) (same g))),
      none,
    )

-- with the option of the longest match, or without
abbrev pub options_with : Bool → AnalysisOptions
options_with longest = record no_options { leftmost_longest = longest }

pub not_refused_by : (longest : Bool) (e : Tree) →
    let whole = numbered 1 e in
    (longest ≡ true → list_any is_lazy (nodes whole) ≡ false) →
    list_any (is_back_to 0) (nodes whole) ≡ false → list_any is_unresolved (nodes whole) ≡ false → list_any has_level (nodes whole) ≡ false →
    ((g : ℕ) → ¬ ReadsAfterCall whole g) →
    ((g : ℕ) → Has whole (refers g) → is_no_group (parsed e) no_options g ≡ false) →
    ((n : ℕ) → ¬ IsLeftRecursive whole n) →
    (error : CompileError) → ¬ RefusesBeforeEnd (parsed e) (options_with longest) error
not_refused_by longest e greedy back unresolved levels reads references cycles error (named_groups_with_numbers t n) = cc (t)
not_refused_by longest e greedy back unresolved levels reads references cycles error (reference_to_0 t) = cc (t, back)
not_refused_by longest e greedy back unresolved levels reads references cycles error (reference_after_call g r) = reads g r
not_refused_by longest e greedy back unresolved levels reads references cycles error (unresolved_call c) = cc (passed is_unresolved _ _ c refl, unresolved)
not_refused_by longest e greedy back unresolved levels reads references cycles error (unresolved_node c) = cc (passed is_unresolved _ _ c refl, unresolved)
not_refused_by longest e greedy back unresolved levels reads references cycles error (reference_with_level t) = cc (t, levels)
not_refused_by longest e greedy back unresolved levels reads references cycles error (lazy_loop on t) = cc (greedy on, t)
not_refused_by longest e greedy back unresolved levels reads references cycles error (group_out_of_range g t out) = cc (references g t, out)
not_refused_by longest e greedy back unresolved levels reads references cycles error (left_recursion g text r d) = cycles g (r.is_one)

pub not_refused_before_end : (e : Tree) →
    let whole = numbered 1 e in
    list_any (is_back_to 0) (nodes whole) ≡ false → list_any is_unresolved (nodes whole) ≡ false → list_any has_level (nodes whole) ≡ false →
    ((g : ℕ) → ¬ ReadsAfterCall whole g) →
    ((g : ℕ) → Has whole (refers g) → is_no_group (parsed e) no_options g ≡ false) →
    ((n : ℕ) → ¬ IsLeftRecursive whole n) →
    (error : CompileError) → ¬ RefusesBeforeEnd (parsed e) no_options error
not_refused_before_end e = not_refused_by false e (λ on. cc (on))
