-- What is written out decides what `compile` refuses, and whether an absent node stands below a repeater.
use Rattle.std.proofs.Common.{◌≡◌, Bool, true, false, [], ◌∷◌, Some, refl, ap, subst, ◌⊎◌, inl, inr, length}
use Rattle.std.specs.Prelude.{codes}
use Rattle.fancy_meaning.specs.Tree.{Tree, none, more, KeepOut, DefineGroup, AbsentRepeater, Literal, Concat, Repeat}
use Rattle.fancy_meaning.specs.Nodes.{is_absent}
use Rattle.fancy_meaning.specs.Layout.{layout}
use Rattle.fancy_meaning.specs.Instr.{Instr, End}
use Rattle.fancy_meaning.specs.AnalysisRefusals.{CompileError, FeatureNotYetSupported}
use Rattle.fancy_meaning.specs.CompileRefusals.{IsWritten, root, part, callee, IsAmong, here, there, RefusesNode, CompileRefuses, refused_node, too_long, bytes_mode, control_verb, absent_in_hard_repeater, absent_other, variable_lookbehind, existence_with_level, missing_group, no_class, written_parts}
use Rattle.fancy_examples.proofs.PlainTrees.{none_among}
use Rattle.fancy_examples.proofs.Notation.{Answered, Undelegated, plain, explicit, from, code, lit, cat, alt, star, rep, call, behind, row}

-- ---- absent nodes below a repeater

absent_in_definitions_below_hard : CompileRefuses
    (plain (AbsentRepeater (cat (KeepOut ∷ DefineGroup (AbsentRepeater (lit "a")) ∷ []))))
    (length (layout (plain (AbsentRepeater (cat (KeepOut ∷ DefineGroup (AbsentRepeater (lit "a")) ∷ []))))).body)
    FeatureNotYetSupported
unfolding row
absent_in_definitions_below_hard = refused_node root (absent_in_hard_repeater refl refl)

absent_never_entered_below_hard : CompileRefuses
    (plain (AbsentRepeater (cat (KeepOut ∷ rep 0 0 (AbsentRepeater (lit "a")) ∷ []))))
    (length (layout (plain (AbsentRepeater (cat (KeepOut ∷ rep 0 0 (AbsentRepeater (lit "a")) ∷ []))))).body)
    FeatureNotYetSupported
unfolding row
absent_never_entered_below_hard = refused_node root (absent_in_hard_repeater refl refl)

absent_in_definitions_below_easy : Answered
    (plain (AbsentRepeater (cat (lit "a" ∷ DefineGroup (AbsentRepeater (lit "b")) ∷ [])))) (codes "ba") (from 0)
    (Some (0 ∷ 1 ∷ []))
unfolding row
absent_in_definitions_below_easy = (refl, refl, refl)

-- ---- a lookbehind that is refused is not written

variable_lookbehind_is_not_written : Undelegated (explicit (cat (behind (star 0 (lit "a")) ∷ lit "b" ∷ []))) (code "b" ∷ End ∷ [])
unfolding row
variable_lookbehind_is_not_written = refl

variable_branch_is_not_written : Undelegated (explicit (behind (alt (lit "a" ∷ star 0 (lit "b") ∷ []))))
    (Instr.Split 1 6 ∷ Instr.Save 0 ∷ Instr.GoBack 1 ∷ code "a" ∷ Instr.Restore 0 ∷ Instr.Jmp 6 ∷ End ∷ [])
unfolding row
variable_branch_is_not_written = refl

-- ---- a lookbehind that is never entered is not refused

abbrev loop : Tree
loop = rep 0 0 (cat (behind (cat (lit "a" ∷ star 1 (lit "b") ∷ [])) ∷ lit "x" ∷ []))

abbrev never_entered : Tree
never_entered = cat (loop ∷ lit "y" ∷ [])

one_of_two : {e c d : Tree} → IsAmong e (more c (more d none)) → (e ≡ c) ⊎ (e ≡ d)
one_of_two here = inl refl
one_of_two (there here) = inr refl
one_of_two (there (there a)) = absurd (none_among a)

-- the tree, the loop and the letter are written
written_is : {e : Tree} → IsWritten never_entered e → (e ≡ never_entered) ⊎ ((e ≡ loop) ⊎ (e ≡ lit "y"))
written_is root = inl refl
written_is (part {d} {e} w a) = go (written_is w)
  where
    go : (d ≡ never_entered) ⊎ ((d ≡ loop) ⊎ (d ≡ lit "y")) → (e ≡ never_entered) ⊎ ((e ≡ loop) ⊎ (e ≡ lit "y"))
    go (inl p) = inr (one_of_two (subst (λ t. IsAmong e (written_parts t)) p a))
    go (inr (inl p)) = absurd (none_among (subst (λ t. IsAmong e (written_parts t)) p a))
    go (inr (inr p)) = absurd (none_among (subst (λ t. IsAmong e (written_parts t)) p a))
written_is (callee {g} {e} w t) = go (written_is w)
  where
    go : (call g ≡ never_entered) ⊎ ((call g ≡ loop) ⊎ (call g ≡ lit "y")) → (e ≡ never_entered) ⊎ ((e ≡ loop) ⊎ (e ≡ lit "y"))
    go (inl p) = cc (p)
    go (inr (inl p)) = cc (p)
    go (inr (inr p)) = cc (p)

abbrev is_quiet : Tree → Bool
is_quiet (Concat es) = true
is_quiet (Repeat lo hi greedy e) = true
is_quiet (Literal c casei) = true
is_quiet e = false

-- a sequence, a loop or a letter is no refused node
quiet : {e x : Tree} {error : CompileError} → RefusesNode (plain never_entered) e error → e ≡ x → is_quiet x ≡ true → is_absent x ≡ false → ⊥
quiet existence_with_level p q n = cc (ap is_quiet p, q)
quiet (control_verb v) p q n = cc (ap is_quiet p, q)
quiet (absent_in_hard_repeater h a) p q n = cc (ap is_quiet p, q)
quiet (absent_other t v) p q n = cc (ap is_absent p, t, n)
quiet (variable_lookbehind v) p q n = cc (ap is_quiet p, q)
quiet (missing_group t) p q n = cc (ap is_quiet p, q)
quiet (no_class {inner} {casei} c) p q n = cc (ap is_quiet p, q)

never_entered_is_not_refused : (error : CompileError) → ¬ CompileRefuses (plain never_entered) (length (layout (plain never_entered)).body) error
unfolding row
never_entered_is_not_refused error (refused_node {e} w r) = go (written_is w)
  where
    go : (e ≡ never_entered) ⊎ ((e ≡ loop) ⊎ (e ≡ lit "y")) → ⊥
    go (inl p) = quiet r p refl refl
    go (inr (inl p)) = quiet r p refl refl
    go (inr (inr p)) = quiet r p refl refl
never_entered_is_not_refused error (too_long p l) = cc (p)
never_entered_is_not_refused error (bytes_mode n) = n refl
