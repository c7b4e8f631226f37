-- References of an accepted tree name groups, so that their slots have numbers.
use Rattle.std.proofs.Common.{◌≡◌, ℕ, ◌+◌, ◌-◌, ◌^◌, ◌<◌, ◌≤◌, ◌||◌, Bool, true, false, if◌then◌else◌, nat_lt, Contains, true≢false, refl, sym, ap, ◌∙◌, arith, lt-ltb, leb-true, eq-eqb}
use Rattle.std.specs.List.{list_any}
use Rattle.std.proofs.lemmas.List.Folds.{list_any_at}
use Rattle.fancy_meaning.specs.Tree.{Tree, Backref}
use Rattle.fancy_meaning.specs.AnalysisRefusals.{CompileError, InvalidBackref, AnalysisRefuses, before_end, group_out_of_range, is_no_group}
use Rattle.fancy_meaning.specs.CompileRefusals.{IsWritten}
use Rattle.fancy_meaning.specs.Nodes.{nodes, group_count}
use Rattle.fancy_meaning.specs.Premises.{Analysed, analysis}
use Rattle.fancy_meaning.specs.WellFormed.{refers}
use Rattle.fancy_composed.proofs.Written.{written_is_node}
use Rattle.fancy_code.specs.Kinds.{is_out_of_range}

module _ (a : Analysed) (few : group_count ((analysis a).tree) ≤ 1_000_000)
    (allowed : (error : CompileError) → ¬ AnalysisRefuses a.parsed a.options error) where
  abbrev whole : Tree
  whole = (analysis a).tree

  reference_named : (g : ℕ) (casei : Bool) → Contains (nodes whole) (Backref g casei) → list_any (refers g) (nodes whole) ≡ true
  reference_named g casei c = list_any_at (refers g) (nodes whole) c.0 (Backref g casei) c.1 (ap (refers g) c.2 ∙ eq-eqb g g refl)

  or_true : (b : Bool) → (b || true) ≡ true
  or_true true = refl
  or_true false = refl

  first_small : (explicit : Bool) → (if explicit then 0 else 1) ≤ 1
  first_small true = omega arith
  first_small false = omega arith

  too_far : (g : ℕ) → 2 ^ 63 ≤ g → is_no_group a.parsed a.options g ≡ true
  too_far g far =
      let first = if (a.options).explicit_capture_group_0 then 0 else 1 in
      let past : first + group_count whole - 1 < g = omega (arith, far, few, first_small (a.options).explicit_capture_group_0) in
      ap (λ b. nat_lt g first || b) (lt-ltb (first + group_count whole - 1) g past) ∙ or_true (nat_lt g first)

  pub all_in_range : (e : Tree) → IsWritten whole e → ¬ (is_out_of_range e ≡ true)
  all_in_range (Backref g casei) w h =
      allowed (InvalidBackref g)
      (before_end (group_out_of_range g (reference_named g casei (written_is_node whole (Backref g casei) w)) (too_far g (leb-true (2 ^ 63) g h))))
  all_in_range e w h = true≢false (sym h)
