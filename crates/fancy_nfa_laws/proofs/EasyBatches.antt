-- What is delegated of an analysed tree is easy and fine throughout.
use Rattle.std.proofs.Common.{List}
use Rattle.fancy_meaning.specs.Tree.{Tree}
use Rattle.fancy_meaning.specs.Nodes.{nodes}
use Rattle.fancy_meaning.specs.Premises.{Analysed, analysis, tree_of}
use Rattle.fancy_laws.proofs.Every.{Every, no_item, item}
use Rattle.fancy_laws.proofs.Orderly.{analysed_is_fine}
use Rattle.fancy_delegation.proofs.Items.{is_in_contained, contained_is_in}
use Rattle.fancy_delegation.proofs.Nodes.{node_below}
use Rattle.fancy_delegation.proofs.RefinedDelegates.{IsDelegated}
use Rattle.fancy_nfa_laws.specs.FirstWays.{AreEasy}

pub delegated_are_easy : (a : Analysed) {es : List Tree} → Every (IsDelegated a) es → AreEasy (analysis a) es
delegated_are_easy a no_item = tt
delegated_are_easy a (item {x = e} h hs) = (
  h.easy,
  (λ d c. analysed_is_fine a d (contained_is_in (node_below (tree_of a) (is_in_contained (nodes e) d c) h.there))),
  delegated_are_easy a hs,
)
