-- The rules: of what is one after the other, of branches, and of what is repeated once.
use Rattle.std.proofs.Common.{◌≡◌, ℕ, List, [], ◌∷◌, ◌++◌, flat_map, filter_map, None, refl, sym, ap, ◌∙◌, append_assoc, append-nil}
use Rattle.std.proofs.Math.Path.{fun_ext}
use Rattle.std.specs.List.{cons_option}
use Rattle.std.proofs.lemmas.Grind.{flat_map-append}
use Rattle.std.proofs.lemmas.List.Elements.{filter_map-append}
use Rattle.fancy_meaning.specs.Tree.{Tree, Trees, none, more, Concat, Alt, LookAround, LookBehind}
use Rattle.fancy_meaning.specs.Nodes.{nodes, nodes_of_each, as_group, groups}
use Rattle.fancy_meaning.specs.Loops.{required, at_most}
use Rattle.fancy_meaning.specs.MatchState.{MatchState, Ways, stays, in_order, one_of}
use Rattle.fancy_meaning.specs.Ways.{Setting, looks, ways_with, each_ways}
use Rattle.fancy_laws.proofs.Looks.{has_branches}
use Rattle.fancy_rewriting.specs.Contexts.{followed_by}
use Rattle.fancy_rewriting.specs.Rewriting.{IsNoAlternation, Rewrites, concat_of_one, alternation_of_one, once, nested_concat, nested_alternation}
use Rattle.fancy_rewriting.proofs.Replaced.{Same, SameBehind}

-- ---- lists

-- where each state stays
staying : (w : Ways) → ((s : MatchState) → w s ≡ s ∷ []) → (ss : List MatchState) → flat_map w ss ≡ ss
staying w h [] = refl
staying w h (s ∷ ss) = ap (λ l. l ++ flat_map w ss) (h s) ∙ ap (λ l. s ∷ l) (staying w h ss)

flat_through : (f g : Ways) (ss : List MatchState) → flat_map g (flat_map f ss) ≡ flat_map (λ s. flat_map g (f s)) ss
flat_through f g [] = refl
flat_through f g (s ∷ ss) =
    flat_map-append g (f s) (flat_map f ss) ∙ ap (λ l. flat_map g (f s) ++ l) (flat_through f g ss)

module _ (q : Setting) (call : ℕ → Ways) where
  -- some in order, and then others
  in_order_both : (es after : Trees) (s : MatchState) →
      flat_map (in_order (each_ways q call after)) (in_order (each_ways q call es) s)
      ≡ in_order (each_ways q call (followed_by es after)) s
  in_order_both none after s = append-nil (in_order (each_ways q call after) s)
  in_order_both (more e es) after s =
      flat_through (in_order (each_ways q call es)) (in_order (each_ways q call after)) (ways_with q call e s)
      ∙ ap (λ w. flat_map w (ways_with q call e s)) (fun_ext (in_order_both es after))

  flat_concat : (before es after : Trees) →
      in_order (each_ways q call (followed_by before (more (Concat es) after)))
      ≡ in_order (each_ways q call (followed_by before (followed_by es after)))
  flat_concat none es after = fun_ext (in_order_both es after)
  flat_concat (more b bs) es after = ap {B = Ways} (λ w s. flat_map w (ways_with q call b s)) (flat_concat bs es after)

  one_of_both : (es after : Trees) (s : MatchState) →
      one_of (each_ways q call es) s ++ one_of (each_ways q call after) s ≡ one_of (each_ways q call (followed_by es after)) s
  one_of_both none after s = refl
  one_of_both (more e es) after s =
      append_assoc (ways_with q call e s) (one_of (each_ways q call es) s) (one_of (each_ways q call after) s)
      ∙ ap (λ l. ways_with q call e s ++ l) (one_of_both es after s)

  flat_alternation : (before es after : Trees) →
      one_of (each_ways q call (followed_by before (more (Alt es) after)))
      ≡ one_of (each_ways q call (followed_by before (followed_by es after)))
  flat_alternation none es after = fun_ext (one_of_both es after)
  flat_alternation (more b bs) es after = ap {B = Ways} (λ w s. ways_with q call b s ++ w s) (flat_alternation bs es after)

  pub rule_keeps_ways : {e f : Tree} → Rewrites e f → Same q call e f
  rule_keeps_ways (concat_of_one e) = fun_ext (λ s. staying stays (λ t. refl) (ways_with q call e s))
  rule_keeps_ways (alternation_of_one e) = fun_ext (λ s. append-nil (ways_with q call e s))
  rule_keeps_ways (once greedy e) =
      fun_ext
      (λ s. staying (required 0 (ways_with q call e) (at_most 0 greedy (ways_with q call e))) (λ t. refl) (ways_with q call e s))
  rule_keeps_ways (nested_concat before es after) = flat_concat before es after
  rule_keeps_ways (nested_alternation before es after) = flat_alternation before es after

  -- ---- the body of a look-behind

  abbrev behind_one : Ways → Ways
  behind_one w = looks q LookBehind (w ∷ [])

  behind_of : (e : Tree) → IsNoAlternation e → ways_with q call (LookAround LookBehind e) ≡ behind_one (ways_with q call e)
  behind_of e no_alt =
      let b = has_branches q call e in
      b.of_look LookBehind ∙ ap (looks q LookBehind) (b.alone no_alt)

  pub rule_keeps_behind : {e f : Tree} → Rewrites e f → IsNoAlternation f → SameBehind q call e f
  rule_keeps_behind (concat_of_one e) no_alt = ap behind_one (rule_keeps_ways (concat_of_one e)) ∙ sym (behind_of e no_alt)
  rule_keeps_behind (alternation_of_one e) no_alt = sym (behind_of e no_alt)
  rule_keeps_behind (once greedy e) no_alt = ap behind_one (rule_keeps_ways (once greedy e)) ∙ sym (behind_of e no_alt)
  rule_keeps_behind (nested_concat before es after) no_alt = ap behind_one (flat_concat before es after)
  rule_keeps_behind (nested_alternation before es after) no_alt = absurd (no_alt (followed_by before (followed_by es after)) refl)

-- ---- groups

abbrev groups_in : List Tree → List (ℕ × Tree)
groups_in = filter_map as_group

nodes_of_both : (es after : Trees) → nodes_of_each es ++ nodes_of_each after ≡ nodes_of_each (followed_by es after)
nodes_of_both none after = refl
nodes_of_both (more e es) after =
    append_assoc (nodes e) (nodes_of_each es) (nodes_of_each after) ∙ ap (λ l. nodes e ++ l) (nodes_of_both es after)

-- a node that is no group, and has these below
abbrev IsOver : Tree → Trees → Type 0
IsOver e es = (nodes e ≡ e ∷ nodes_of_each es) × (as_group e ≡ None)

flat_groups : (e : Tree) (es before after : Trees) → IsOver e es →
    groups_in (nodes_of_each (followed_by before (more e after)))
    ≡ groups_in (nodes_of_each (followed_by before (followed_by es after)))
flat_groups e es none after over =
    ap (λ l. groups_in (l ++ nodes_of_each after)) over.0
    ∙ ap (λ o. cons_option o (groups_in (nodes_of_each es ++ nodes_of_each after))) over.1
    ∙ ap groups_in (nodes_of_both es after)
flat_groups e es (more b bs) after over =
    filter_map-append as_group (nodes b) (nodes_of_each (followed_by bs (more e after)))
    ∙ ap (λ l. groups_in (nodes b) ++ l) (flat_groups e es bs after over)
    ∙ sym (filter_map-append as_group (nodes b) (nodes_of_each (followed_by bs (followed_by es after))))

pub rule_keeps_groups : {e f : Tree} → Rewrites e f → groups e ≡ groups f
unfolding groups
rule_keeps_groups (concat_of_one e) = ap groups_in (append-nil (nodes e))
rule_keeps_groups (alternation_of_one e) = ap groups_in (append-nil (nodes e))
rule_keeps_groups (once greedy e) = refl
rule_keeps_groups (nested_concat before es after) = flat_groups (Concat es) es before after (refl, refl)
rule_keeps_groups (nested_alternation before es after) = flat_groups (Alt es) es before after (refl, refl)
