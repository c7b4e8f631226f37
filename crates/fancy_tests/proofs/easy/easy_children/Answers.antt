use Rattle.std.proofs.Common.{◌≡◌, true, not, sym, ◌∙◌, subst}
use Rattle.std.specs.List.{list_all}
use Rattle.fancy_expr.specs.Views.{parsed_of}
use Rattle.fancy_meaning.specs.Premises.{Analysed}
use Rattle.fancy_info.specs.Infos.{info_facts}
use Rattle.fancy_fragments.specs.Nodes.{AreEasyNeighbours}
use Rattle.fancy_tests.proofs.Children.{neighbours}
use Rattle.fancy_tests.proofs.easy.easy_children.Goals as goal

pub returns-then-are_easy : goal.returns-then-are_easy
returns-then-are_easy c =
    let a : Analysed = record {
      parsed = parsed_of c.args.tree.now;
      options = c.requires.analysis.0;
      well_formed = c.requires.tree.0;
    } in
    let same = c.children-children.ensures in
    subst AreEasyNeighbours (sym same) (neighbours a c.args.info.now c.requires.analysis.1.root
    (subst (λ l. list_all (λ i. not (info_facts i).hard) l ≡ true) same (sym c.are_easy.ensures ∙ c.if-are_easy.true)))
