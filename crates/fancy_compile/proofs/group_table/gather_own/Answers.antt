use Rattle.std.proofs.Common.{◌++◌, ◌∷◌, [], sym, ap, ◌∙◌, subst}
use Rattle.std.proofs.lemmas.List.{map-append}
use Rattle.fancy_info.specs.Infos.{info_tree}
use Rattle.fancy_expr.specs.Each.{Each}
use Rattle.fancy_compile.specs.GroupTables.{IsEntry}
use Rattle.fancy_compile.specs.GroupTables.{is_group, own_trees, trees_of}
use Rattle.fancy_compile.proofs.EachLaws.{each_append}
use Rattle.fancy_compile.proofs.group_table.gather_own.Goals as goal

pub returns : goal.returns
returns c =
    let i = c.args.info.now in
    let g = ap is_group (sym c.expr.ensures) ∙ sym c.is_group.ensures ∙ c.if-not-is_group.false in
    record {
      nodes = ap trees_of c.in_ok-push.ensures.items
          ∙ map-append (λ x. info_tree x.now) c.args.nodes.now.items (c.args.info ∷ [])
          ∙ ap (λ l. trees_of c.args.nodes.now.items ++ l) (sym (ap (λ t. own_trees t (info_tree i)) g));
      known = λ a most k fine le all.
          subst (Each (IsEntry a most)) (sym c.in_ok-push.ensures.items)
          (each_append (IsEntry a most) c.args.nodes.now.items c.args.info all (k, le, fine));
    }
