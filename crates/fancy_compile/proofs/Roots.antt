-- The root of an analysed tree.
use Rattle.std.proofs.Common.{◌≡◌, ℕ, ◌+◌, ◌≤◌, if◌then◌else◌, Contains, sym, ap, ◌∙◌, subst, arith}
use Rattle.std.proofs.lemmas.Bool.{or_parts}
use Rattle.fancy_meaning.specs.Tree as plain
use Rattle.fancy_meaning.specs.Nodes.{group_count, nodes}
use Rattle.fancy_meaning.specs.Hard.{is_hard}
use Rattle.fancy_laws.proofs.Orderly.{analysed_is_fine}
use Rattle.fancy_meaning.specs.Numbering.{numbered}
use Rattle.fancy_meaning.specs.Premises.{Analysed, analysis}
use Rattle.fancy_info.specs.declared.info.Info.{Info}
use Rattle.fancy_info.specs.declared.info.Info.TheViews.{out-Info}
use Rattle.fancy_info.specs.Infos.{IsRoot, info_tree}
use Rattle.fancy_info.proofs.Unfolded.{tree_out}
use Rattle.fancy_expr.proofs.Numbered.{count-numbered}
use Rattle.fancy_compile.specs.AnalysedNodes.{IsFineTree, IsKnown}

module _ (a : Analysed) (i : Info) (r : IsRoot (analysis a) i) where
  pub root_known : IsKnown (analysis a) i
  root_known = record {
    node = r.node;
    children = r.children;
    easy = λ h. ap (is_hard (analysis a)) r.tree ∙ (or_parts (is_hard (analysis a) (analysis a).tree) _ (sym r.hard ∙ h)).0;
  }

  pub root_fine : IsFineTree (info_tree i)
  root_fine d c = analysed_is_fine a d (subst (λ e. Contains (nodes e) d) r.tree c)

  pub root_count : (out-Info i).end_group ≡ (out-Info i).start_group + group_count ((analysis a).tree)
  root_count = r.node.end_group ∙ ap (λ e. (out-Info i).start_group + group_count e) (sym (tree_out i) ∙ r.tree)

  numbered_count : (n : ℕ) (e : plain.Tree) → group_count (numbered n e) ≡ group_count e
  unfolding numbered
  numbered_count n e = count-numbered plain.NoLook n e

  pub few_groups : group_count ((analysis a).tree) ≤ 1_000_000
  few_groups = omega (
    arith,
    numbered_count (if (a.options).explicit_capture_group_0 then 0 else 1)
        (a.parsed).tree,
    (a.well_formed).groups,
    (a.well_formed).not_too_many,
  )
