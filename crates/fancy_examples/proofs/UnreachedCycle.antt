-- A group that calls itself first, and that no reachable part calls: it is accepted, and the depth of calls bounds it.
use Rattle.std.proofs.Common.{◌≡◌, ◌≤◌, ℕ, Bool, true, false, ◌&&◌, not, [], ◌∷◌, Some, refl, arith, ◌⊎◌, inl, inr}
use Rattle.std.specs.Prelude.{◌==◌, nat_le, codes}
use Rattle.std.proofs.lemmas.Bool.{leb-true, le-leb}
use Rattle.fancy_meaning.specs.Tree.{Tree, Group, SubroutineCall}
use Rattle.fancy_meaning.specs.Numbering.{numbered}
use Rattle.fancy_meaning.specs.Spots.{Spot, all_spots}
use Rattle.fancy_meaning.specs.Recursion.{Calls, IsOuter, IsReachable, the_whole, outer, by_call, LeadsAtOnce, IsLeftRecursive, CanEnd, ends_with_parts, one_ends, none_left, and_more, this_one, a_later}
use Rattle.fancy_meaning.specs.AnalysisRefusals.{CompileError, AnalysisRefuses, before_end, never_ends}
use Rattle.fancy_examples.proofs.Notation.{Answered, plain, from, parsed, no_options, lit, cat, alt, grp, call, row}
use Rattle.fancy_examples.proofs.CallsAtOnce.{passed, leaves}
use Rattle.fancy_examples.proofs.Acceptance.{reads_nothing, not_refused_before_end}

abbrev cycle : Tree
cycle = grp (grp (alt (cat (call 2 ∷ lit "a" ∷ []) ∷ lit "b" ∷ [])))

abbrev whole : Tree
whole = numbered 1 cycle

-- a call in what has a number at most 1
abbrev calls_early : Tree → ℕ → Bool
calls_early (SubroutineCall h) g = nat_le g 1
calls_early e g = false

-- a group at the top, with a number above 1
abbrev is_late : Tree → ℕ → Bool
is_late (Group h e) g = not (nat_le h 1) && (g == 0)
is_late e g = false

no_early_call : {g at h : ℕ} → g ≤ 1 → ¬ Calls whole g at h
unfolding row
no_early_call {g} {at} {h} l c = cc (passed (λ s. calls_early s.node s.owner) (all_spots whole) c.spot c.is_there (passes c.spot c.is_call c.owner))
  where
    passes : (s : Spot) → s.node ≡ SubroutineCall h → s.owner ≡ g → calls_early s.node s.owner ≡ true
    passes s n o = rw n (rw o (le-leb g 1 l))

outer_is_early : {g : ℕ} → IsOuter whole g → g ≤ 1
unfolding row
outer_is_early {g} o = go (nat_le g 1) refl
  where
    go : (b : Bool) → nat_le g 1 ≡ b → g ≤ 1
    go true e = leb-true g 1 e
    go false e = cc (passed (λ s. is_late s.node s.owner) (all_spots whole) o.spot o.is_there (rw (o.is_group) (rw (o.owner) (rw e refl))))

reached : {n : ℕ} → IsReachable whole n → n ≤ 1
reached the_whole = omega arith
reached (outer o) = outer_is_early o
reached (by_call r c) = absurd (no_early_call (reached r) c)

never_recurs : (n : ℕ) → ¬ IsLeftRecursive whole n
never_recurs n r = go r.leads r.cycle
  where
    early : n ≤ 1
    early = reached r.is_reachable

    go : {c : ℕ} → (c ≡ n) ⊎ LeadsAtOnce whole n c → LeadsAtOnce whole c c → ⊥
    go (inl e) l = no_early_call (omega (arith, early, e)) (leaves l).1
    go (inr m) l = no_early_call early (leaves m).1

ends : CanEnd whole whole
unfolding row
ends =
    ends_with_parts tt
    (and_more (ends_with_parts tt (and_more (one_ends (a_later (this_one (ends_with_parts tt none_left)))) none_left))
    none_left)

cycle_is_accepted : (error : CompileError) → ¬ AnalysisRefuses (parsed cycle) no_options error
unfolding row
cycle_is_accepted error (before_end r) =
    not_refused_before_end cycle refl refl refl (reads_nothing _ refl) (λ g t. cc (t)) never_recurs error r
cycle_is_accepted error (never_ends t n r) = n ends

cycle_answers : Answered (plain cycle) (codes "baa") (from 0) (Some (0 ∷ 3 ∷ 0 ∷ 3 ∷ 0 ∷ 3 ∷ []))
unfolding row
cycle_answers = (refl, refl, refl)
