-- Inputs that meet every premise of the headline, with and without delegates.
use Rattle.std.proofs.Common.{zero, suc, [], ◌∷◌, refl, subst, arith, length, ℕ, Bool, true, false}
use Rattle.std.specs.Prelude.{Contains, codes}
use Rattle.fancy_meaning.specs.Tree.{Tree, Backref}
use Rattle.fancy_meaning.specs.WellFormed.{IsWellFormed, IsFine}
use Rattle.fancy_meaning.specs.Layout.{layout, undelegated_layout}
use Rattle.fancy_meaning.specs.Nodes.{nodes}
use Rattle.fancy_meaning.specs.AnalysisRefusals.{CompileError, AnalysisRefuses, before_end, never_ends}
use Rattle.fancy_meaning.specs.CompileRefusals.{CompileRefuses, refused_node, too_long, bytes_mode}
use Rattle.fancy_meaning.specs.Premises.{Input, plan, IsAccepted, IsFit}
use Rattle.fancy_examples.proofs.Notation.{parsed, no_options, default_compile, from, lit, cat, alt, grp, row, for_longest}
use Rattle.fancy_examples.proofs.CallsAtOnce.{passed}
use Rattle.fancy_examples.proofs.Acceptance.{is_reference, no_rising_cycle, reads_nothing, not_refused_before_end, options_with, not_refused_by}
use Rattle.fancy_examples.proofs.PlainTrees.{written_is_plain, plain_is_not_refused}

abbrev first_path : Tree
first_path = cat (lit "a" ∷ grp (alt (lit "b" ∷ lit "bc" ∷ [])) ∷ lit "d" ∷ [])

-- with the option of the longest match, or without
abbrev input : Bool → Input
input longest = record { parsed = parsed first_path; analysis = options_with longest; options = default_compile }

nodes_are_fine : (e : Tree) → Contains (nodes first_path) e → IsFine e
nodes_are_fine e (zero, l, p) = subst IsFine p tt
nodes_are_fine e (suc zero, l, p) = subst IsFine p refl
nodes_are_fine e (suc (suc zero), l, p) = subst IsFine p tt
nodes_are_fine e (suc (suc (suc zero)), l, p) = subst IsFine p tt
nodes_are_fine e (suc (suc (suc (suc zero))), l, p) = subst IsFine p refl
nodes_are_fine e (suc (suc (suc (suc (suc zero)))), l, p) = subst IsFine p tt
nodes_are_fine e (suc (suc (suc (suc (suc (suc zero))))), l, p) = subst IsFine p refl
nodes_are_fine e (suc (suc (suc (suc (suc (suc (suc zero)))))), l, p) = subst IsFine p refl
nodes_are_fine e (suc (suc (suc (suc (suc (suc (suc (suc zero))))))), l, p) = subst IsFine p refl
nodes_are_fine e (suc (suc (suc (suc (suc (suc (suc (suc (suc k)))))))), l, p) = absurd (omega (arith, l))

is_well_formed : IsWellFormed (parsed first_path)
unfolding row
is_well_formed = record {
  fine = nodes_are_fine;
  groups = refl;
  not_too_many = omega arith;
  calls = λ t. cc (t);
  no_calls = λ t. refl;
  backrefs = λ g casei c l. cc (passed is_reference (nodes first_path) (Backref g casei) c refl);
  only_references = λ g c. absurd (omega (arith, c.1));
  out_of_range = tt;
}

is_analysed : (longest : Bool) (error : CompileError) → ¬ AnalysisRefuses (parsed first_path) (options_with longest) error
unfolding row
is_analysed longest error (before_end r) =
    not_refused_by longest first_path (λ on. refl) refl refl refl (reads_nothing _ refl) (λ g t. cc (t)) (no_rising_cycle _ refl) error r
is_analysed longest error (never_ends t n r) = cc (t)

is_compiled : (longest : Bool) (instructions : ℕ) (error : CompileError) → ¬ CompileRefuses (plan (input longest)) instructions error
unfolding row
is_compiled longest instructions error (refused_node w r) = plain_is_not_refused (written_is_plain refl w) r
is_compiled longest instructions error (too_long p l) = cc (p)
is_compiled longest instructions error (bytes_mode n) = n refl

accepted : (longest : Bool) (instructions : ℕ) → IsAccepted (input longest) instructions
accepted longest instructions = record {
  well_formed = is_well_formed;
  same_end_text = λ t. cc (t);
  analysed = is_analysed longest;
  compiled = is_compiled longest instructions;
  implicit_group_0 = refl;
}

accepted_with_delegates : (longest : Bool) → IsAccepted (input longest) (length (layout (plan (input longest))).body)
accepted_with_delegates longest = accepted longest (length (layout (plan (input longest))).body)

accepted_without_delegates : (longest : Bool) → IsAccepted (input longest) (length (undelegated_layout (plan (input longest))).body)
accepted_without_delegates longest = accepted longest (length (undelegated_layout (plan (input longest))).body)

fits_for_longest : IsFit (input true) (codes "abcd") for_longest
unfolding row
fits_for_longest = record {
  is_text = record { utf8 = (codes "abcd", (refl, refl)); fits = omega arith };
  pos = refl;
  not_empty = λ t. cc (t);
  longest = λ t. refl;
}

fits : IsFit (input false) (codes "abcd") (from 0)
unfolding row
fits = record {
  is_text = record { utf8 = (codes "abcd", (refl, refl)); fits = omega arith };
  pos = refl;
  not_empty = λ t. cc (t);
  longest = λ t. cc (t);
}
