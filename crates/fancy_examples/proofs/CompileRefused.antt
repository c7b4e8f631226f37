-- Trees that are analysed and that `compile` refuses. A group that calls itself twice is left out: its program takes too
-- long to compute.
use Rattle.std.proofs.Common.{ℕ, Bool, [], ◌∷◌, Some, refl, arith, length}
use Rattle.std.specs.Prelude.{pos}
use Rattle.fancy_meaning.specs.Tree.{Tree, BackrefExists, Control, Commit, Accept, Conditional, AbsentRepeater, AbsentStopper, AbsentExpression, AbsentClear}
use Rattle.fancy_meaning.specs.Options.{Plan, plan_of, Ascii, UnicodeBytes}
use Rattle.fancy_meaning.specs.Layout.{layout}
use Rattle.fancy_meaning.specs.AnalysisRefusals.{CompileError, FeatureNotYetSupported, VariableLookBehindRequiresFeature, SubroutineCallTargetNotFound, PatternTooComplex}
use Rattle.fancy_meaning.specs.CompileRefusals.{root, part, here, there, CompileRefuses, refused_node, too_long, bytes_mode, existence_with_level, control_verb, absent_in_hard_repeater, absent_other, variable_lookbehind, missing_group}
use Rattle.fancy_examples.proofs.Notation.{plain, default_compile, no_options, lit, cat, alt, grp, star, call, behind, nbehind, row}

abbrev Refused : Plan → CompileError → Type 0
Refused p = CompileRefuses p (length (layout p).body)

commit : Refused (plain (Control Commit)) FeatureNotYetSupported
unfolding row
commit = refused_node root (control_verb (λ e. cc))

accept_in_a_loop : Refused (plain (star 0 (Control Accept))) FeatureNotYetSupported
unfolding row
accept_in_a_loop = refused_node (part root here) (control_verb (λ e. cc))

absent_clear : Refused (plain AbsentClear) FeatureNotYetSupported
unfolding row
absent_clear = refused_node root (absent_other refl (λ d e. cc))

absent_stopper : Refused (plain (cat (lit "a" ∷ AbsentStopper (lit "b") ∷ []))) FeatureNotYetSupported
unfolding row
absent_stopper = refused_node (part root (there here)) (absent_other refl (λ d e. cc))

absent_expression : Refused (plain (AbsentExpression (lit "a") (lit "b"))) FeatureNotYetSupported
unfolding row
absent_expression = refused_node root (absent_other refl (λ d e. cc))

absent_in_absent : Refused (plain (AbsentRepeater (AbsentRepeater (lit "abc")))) FeatureNotYetSupported
unfolding row
absent_in_absent = refused_node root (absent_in_hard_repeater refl refl)

leveled_existence : Refused
    (plain (cat (grp (lit "a") ∷ Conditional (BackrefExists 1 (Some (pos 0))) (lit "b") (lit "c") ∷ [])))
    FeatureNotYetSupported
unfolding row
leveled_existence = refused_node (part (part root (there here)) here) existence_with_level

variable_behind : Refused (plain (cat (behind (cat (lit "a" ∷ star 1 (lit "b") ∷ [])) ∷ lit "x" ∷ []))) VariableLookBehindRequiresFeature
unfolding row
variable_behind = refused_node (part root here) (variable_lookbehind record {
  is_lookbehind = refl;
  body_varies = λ e. cc;
  branch = cat (lit "a" ∷ star 1 (lit "b") ∷ []);
  is_branch = here;
  branch_varies = λ e. cc;
})

variable_branch_not_behind : Refused (plain (nbehind (alt (lit "a" ∷ star 0 (lit "b") ∷ [])))) VariableLookBehindRequiresFeature
unfolding row
variable_branch_not_behind = refused_node root (variable_lookbehind record {
  is_lookbehind = refl;
  body_varies = λ e. cc;
  branch = star 0 (lit "b");
  is_branch = there here;
  branch_varies = λ e. cc;
})

-- an alternation in an alternation is one branch
nested_branches_behind : Refused (plain (behind (alt (lit "a" ∷ alt (lit "b" ∷ lit "cd" ∷ []) ∷ [])))) VariableLookBehindRequiresFeature
unfolding row
nested_branches_behind = refused_node root (variable_lookbehind record {
  is_lookbehind = refl;
  body_varies = λ e. cc;
  branch = alt (lit "b" ∷ lit "cd" ∷ []);
  is_branch = there here;
  branch_varies = λ e. cc;
})

call_of_no_group : Refused (plain (call 7)) SubroutineCallTargetNotFound
unfolding row
call_of_no_group = refused_node root (missing_group refl)

abbrev at_most : ℕ → Tree → Plan
at_most n e = plan_of e no_options (record default_compile { anchored = Bool.true; max_prog_size = Some n })

three_are_too_few : Refused (at_most 3 (lit "abc")) PatternTooComplex
unfolding row
three_are_too_few = too_long refl (omega arith)

one_less_than_all_calls : Refused (at_most 123 (grp (alt (cat (lit "a" ∷ call 1 ∷ []) ∷ lit "b" ∷ [])))) PatternTooComplex
unfolding row
one_less_than_all_calls = too_long refl (omega arith)

ascii_bytes : Refused (plan_of (lit "a") no_options (record default_compile { bytes_mode = Ascii })) FeatureNotYetSupported
unfolding row
ascii_bytes = bytes_mode (λ e. cc)

unicode_bytes : Refused (plan_of (lit "a") no_options (record default_compile { bytes_mode = UnicodeBytes })) FeatureNotYetSupported
unfolding row
unicode_bytes = bytes_mode (λ e. cc)
