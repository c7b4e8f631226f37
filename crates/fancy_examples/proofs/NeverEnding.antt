-- Trees that are refused since they never end.
use Rattle.std.proofs.Common.{◌≡◌, ℕ, [], ◌∷◌, Some, refl, ap, subst, sym, ◌∙◌}
use Rattle.fancy_meaning.specs.Tree.{Tree, Trees, none, more, parts, Group, SubroutineCall}
use Rattle.fancy_meaning.specs.Nodes.{target}
use Rattle.fancy_meaning.specs.Numbering.{numbered}
use Rattle.fancy_meaning.specs.Recursion.{CanEnd, AllEnd, EndsWithParts, ends_with_parts, one_ends, not_required, body_ends, false_branch_ends, true_branch_ends, target_ends, no_target, none_left, and_more}
use Rattle.fancy_meaning.specs.AnalysisRefusals.{NeverEndingRecursion, AnalysisRefuses, never_ends}
use Rattle.fancy_examples.proofs.Notation.{parsed, no_options, lit, cat, grp, call, row}
use Rattle.fancy_examples.proofs.Acceptance.{no_rising_cycle, reads_nothing, not_refused_before_end}

-- a letter, and the same once more
abbrev endless : ℕ → Tree
endless g = cat (lit "a" ∷ call g ∷ [])

module _ (whole : Tree) (g : ℕ) (is_target : target whole g ≡ Some (endless g)) where
  mutual
    never : {e : Tree} → CanEnd whole e → e ≡ endless g → ⊥
    never (ends_with_parts t all) eq = never_parts all (ap parts eq)
    never (one_ends s) eq = cc (eq)
    never not_required eq = cc (eq)
    never (body_ends d) eq = cc (eq)
    never (false_branch_ends d) eq = cc (eq)
    never (true_branch_ends c d) eq = cc (eq)
    never (target_ends t d) eq = cc (eq)
    never (no_target t) eq = cc (eq)

    never_parts : {es : Trees} → AllEnd whole es → es ≡ more (lit "a") (more (call g) none) → ⊥
    never_parts none_left eq = cc (eq)
    never_parts (and_more d ds) eq = never_rest ds (cc (eq))

    never_rest : {es : Trees} → AllEnd whole es → es ≡ more (call g) none → ⊥
    never_rest none_left eq = cc (eq)
    never_rest (and_more d ds) eq = never_call d (cc (eq))

    never_call : {e : Tree} → CanEnd whole e → e ≡ SubroutineCall g → ⊥
    never_call (ends_with_parts t all) eq = subst EndsWithParts eq t
    never_call (one_ends s) eq = cc (eq)
    never_call not_required eq = cc (eq)
    never_call (body_ends d) eq = cc (eq)
    never_call (false_branch_ends d) eq = cc (eq)
    never_call (true_branch_ends c d) eq = cc (eq)
    never_call (target_ends t d) eq = never d (cc (sym t ∙ (ap (target whole) (cc (eq)) ∙ is_target)))
    never_call (no_target t) eq = cc (sym t ∙ (ap (target whole) (cc (eq)) ∙ is_target))

calls_the_whole_again : AnalysisRefuses (parsed (endless 0)) no_options NeverEndingRecursion
unfolding row
calls_the_whole_again =
    never_ends refl (λ d. never (numbered 1 (endless 0)) 0 refl d refl)
    (not_refused_before_end (endless 0) refl refl refl (reads_nothing _ refl) (λ g t. cc (t)) (no_rising_cycle _ refl))

abbrev endless_group : Tree
endless_group = grp (endless 1)

group_never_ends : {e : Tree} → CanEnd (numbered 1 endless_group) e → e ≡ Group 1 (endless 1) → ⊥
unfolding row
group_never_ends (ends_with_parts t all) eq = body_never_ends all (ap parts eq)
  where
    body_never_ends : {es : Trees} → AllEnd (numbered 1 endless_group) es → es ≡ more (endless 1) none → ⊥
    body_never_ends none_left p = cc (p)
    body_never_ends (and_more d ds) p = never (numbered 1 endless_group) 1 refl d (cc (p))
group_never_ends (one_ends s) eq = cc (eq)
group_never_ends not_required eq = cc (eq)
group_never_ends (body_ends d) eq = cc (eq)
group_never_ends (false_branch_ends d) eq = cc (eq)
group_never_ends (true_branch_ends c d) eq = cc (eq)
group_never_ends (target_ends t d) eq = cc (eq)
group_never_ends (no_target t) eq = cc (eq)

calls_its_group_again : AnalysisRefuses (parsed endless_group) no_options NeverEndingRecursion
unfolding row
calls_its_group_again =
    never_ends refl (λ d. group_never_ends d refl)
    (not_refused_before_end endless_group refl refl refl (reads_nothing _ refl) (λ g t. cc (t)) (no_rising_cycle _ refl))
