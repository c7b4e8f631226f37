-- Trees that their analysis refuses.
use Rattle.std.proofs.Common.{ℕ, true, false, List, [], ◌∷◌, refl, arith}
use Rattle.std.specs.Prelude.{codes, pos}
use Rattle.fancy_meaning.specs.Tree.{Tree, AstNode, BackrefWithLevel, UnresolvedCall, UnresolvedOther}
use Rattle.fancy_meaning.specs.Options.{ParsedTree}
use Rattle.fancy_meaning.specs.AnalysisRefusals.{InvalidBackref, FeatureNotYetSupported, SubroutineCallTargetNotFound, UnresolvedAstNode, NamedBackrefOnly, AnalysisRefuses, before_end, named_groups_with_numbers, reference_to_0, reference_after_call, unresolved_call, unresolved_node, reference_with_level, group_out_of_range}
use Rattle.fancy_examples.proofs.Notation.{parsed, no_options, lit, cat, alt, grp, ref, has, call, row}

reference_to_group_0 : AnalysisRefuses (parsed (ref 0)) no_options (InvalidBackref 0)
unfolding row
reference_to_group_0 = before_end (reference_to_0 refl)

reference_to_no_group : AnalysisRefuses (parsed (cat (grp (lit "a") ∷ ref 2 ∷ []))) no_options (InvalidBackref 2)
unfolding row
reference_to_no_group = before_end (group_out_of_range 2 refl refl)

existence_of_no_group : AnalysisRefuses (parsed (has 1)) no_options (InvalidBackref 1)
unfolding row
existence_of_no_group = before_end (group_out_of_range 1 refl refl)

leveled_reference : AnalysisRefuses (parsed (cat (grp (lit "a") ∷ BackrefWithLevel 1 (pos 0) false ∷ []))) no_options FeatureNotYetSupported
unfolding row
leveled_reference = before_end (reference_with_level refl)

call_by_name : AnalysisRefuses (parsed (cat (lit "a" ∷ AstNode UnresolvedCall ∷ []))) no_options SubroutineCallTargetNotFound
unfolding row
call_by_name = before_end (unresolved_call (2, omega arith, refl))

reference_by_name : AnalysisRefuses (parsed (AstNode UnresolvedOther)) no_options UnresolvedAstNode
unfolding row
reference_by_name = before_end (unresolved_node (0, omega arith, refl))

abbrev named : List (List ℕ × List ℕ) → Tree → ParsedTree
named names e = record (parsed e) { named_groups = names }

name_beside_a_number : AnalysisRefuses
    (record (named ((codes "expr", 1 ∷ []) ∷ []) (cat (grp (lit "a") ∷ ref 1 ∷ []))) {
      numbered_groups_ignored =
          true;
    }) no_options NamedBackrefOnly
unfolding row
name_beside_a_number = before_end (named_groups_with_numbers refl (λ e. cc))

-- in its own group, behind a call of it
reference_behind_its_call : AnalysisRefuses (parsed (grp (alt (lit "b" ∷ cat (lit "a" ∷ call 1 ∷ ref 1 ∷ []) ∷ []))))
    no_options FeatureNotYetSupported
unfolding row
reference_behind_its_call = before_end (reference_after_call 1 record {
  body = alt (lit "b" ∷ cat (lit "a" ∷ call 1 ∷ ref 1 ∷ []) ∷ []);
  is_group = (0, omega arith, refl);
  at_call = 4;
  at_read = 5;
  in_order = omega arith;
  call = record { node = call 1; owner = 1; position = 1; is_skipped = false };
  is_there = refl;
  is_call = refl;
  is_own = refl;
  read = record { node = ref 1; owner = 1; position = 2; is_skipped = false };
  casei = false;
  is_read = refl;
  is_reference = refl;
})
