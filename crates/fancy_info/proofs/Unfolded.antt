-- What an `Info` says, a layer at a time.
use Rattle.std.proofs.Common.{◌≡◌, List, [], ◌∷◌, map, refl, sym, ap, ◌∙◌, subst}
use Rattle.fancy_info.specs.declared.info.Info.{Info}
use Rattle.fancy_info.specs.declared.info.Info.TheOpen.{Info-F}
use Rattle.fancy_info.specs.declared.info.Info.TheViews.{out-Info, roll-Info, roll-out-Info}
use Rattle.fancy_info.specs.declared.info.Info.TheFolds.{rec-roll-Info, fold-roll-Info, fold_out-Info, map-Info}
use Rattle.fancy_meaning.specs.Tree.{Tree, trees}
use Rattle.fancy_info.specs.Infos.{node_over, tree_step, info_tree, info_children, Facts, facts, info_facts, EachNode, each_step}
use Rattle.fancy_expr.specs.Each.{Each}
use Rattle.fancy_expr.specs.Walk.{within_of}

map_same : {X : Type 0} (l : List X) → map (λ x. x) l ≡ l
map_same [] = refl
map_same (x ∷ l) = ap (λ m. x ∷ m) (map_same l)

all_through : {X Y : Type 0} (v : X → Y) (k : Y → Type 0) (l : List X) → Each (λ x. k (v x)) l ≡ Each k (map v l)
all_through v k [] = refl
all_through v k (x ∷ l) = ap (λ t. k (v x) × t) (all_through v k l)

pub tree_roll : (i : Info-F Info) → info_tree (roll-Info i) ≡ node_over i.expr.now i.start_group (within_of i.within) (trees (map info_tree i.children.items))
tree_roll i = fold-roll-Info Tree tree_step i

pub tree_out : (i : Info) →
    info_tree i ≡ node_over (out-Info i).expr.now (out-Info i).start_group (within_of (out-Info i).within) (trees (map info_tree (info_children i)))
tree_out i = fold_out-Info Tree tree_step i

module _ (P : Facts → List Info → Type 0) where
  -- what is said of a layer's children does not hang on how they are held
  step_through : {X : Type 0} (v : X → Info) (k : Info → Type 0) (x : Info-F X) →
      each_step P X v (λ p. k (v p)) x ≡ each_step P Info (λ y. y) k (map-Info X Info v x)
  step_through v k x =
      ap (λ l. P (facts x) l × Each (λ p. k (v p)) x.children.items) (sym (map_same (map v x.children.items)))
      ∙ ap (λ t. P (facts x) (map (λ y. y) (map v x.children.items)) × t) (all_through v k x.children.items)

  -- a layer's own facts
  abbrev layer : Info-F Info → Type 0
  layer i = each_step P Info (λ x. x) (EachNode P) i

  layer_roll : (i : Info-F Info) → EachNode P (roll-Info i) ≡ layer i
  layer_roll i = rec-roll-Info (Type 0) (each_step P) (λ X v k x. step_through v k x) i

  layer_out : (i : Info) → EachNode P i ≡ layer (out-Info i)
  layer_out i = ap (EachNode P) (sym (roll-out-Info i)) ∙ layer_roll (out-Info i)

  -- a node that is made of its parts
  pub each_made : (i : Info-F Info) → P (facts i) i.children.items → Each (EachNode P) i.children.items → EachNode P (roll-Info i)
  each_made i here under = subst (λ t. t) (sym (layer_roll i)) (subst (λ l. P (facts i) l) (sym (map_same i.children.items)) here, under)

  -- what holds of a node
  pub each_here : (i : Info) → EachNode P i → P (info_facts i) (info_children i)
  each_here i h = subst (λ l. P (info_facts i) l) (map_same (info_children i)) (subst (λ t. t) (layer_out i) h).0

  -- what holds of its children
  pub each_below : (i : Info) → EachNode P i → Each (EachNode P) (info_children i)
  each_below i h = (subst (λ t. t) (layer_out i) h).1
