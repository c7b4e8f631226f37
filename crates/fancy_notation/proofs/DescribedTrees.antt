-- What comes with a tree that was read says of it what is so.
use Rattle.std.proofs.Common.{◌≡◌, ◌≤◌, Bool, true, false, ◌||◌, List, [], ◌∷◌, ◌++◌, filter_map, refl, sym, ap, ◌∙◌, subst, append_assoc, append-nil}
use Rattle.std.specs.List.{list_any}
use Rattle.std.proofs.lemmas.Bool.{or_parts, or_from, true≢false}
use Rattle.fancy_meaning.specs.Tree.{Tree, Backref, BackrefWithLevel, BackrefExists, SubroutineCall, AstNode, UnresolvedCall, UnresolvedOther}
use Rattle.fancy_meaning.specs.Nodes.{nodes, group_count}
use Rattle.fancy_meaning.specs.WellFormed.{is_call, is_any_call, most_groups}
use Rattle.fancy_expr.specs.declared.expr.ExprTree.{ExprTree}
use Rattle.fancy_expr.specs.Views.{tree_of}
use Rattle.fancy_expr.specs.Sound.{AllSound, IsWellFormedTree}
use Rattle.fancy_expr.specs.BackReferences.{referred_to, references, first_past, up_to}
use Rattle.fancy_expr.proofs.DescribedTrees.{well_described}
use Rattle.fancy_notation.specs.References.{Referenced, no_references, with_node, with_nodes}
use Rattle.fancy_notation.specs.Described.{names_number, IsDescribed}

-- ---- what is gathered

or_false : (b x : Bool) → ((b || false) || x) ≡ (b || x)
or_false true x = refl
or_false false x = refl

or_true : (b x : Bool) → (b || true) ≡ (b || (true || x))
or_true true x = refl
or_true false x = refl

or_called : (b x : Bool) → ((b || true) || x) ≡ (b || (true || x))
or_called true x = refl
or_called false x = refl

pub with_node-references : (s : Referenced) (es : List Tree) → (with_nodes s es).references ≡ s.references ++ filter_map referred_to es
with_node-references s [] = sym (append-nil s.references)
with_node-references s (Backref g casei ∷ es) =
    with_node-references (with_node s (Backref g casei)) es ∙ append_assoc s.references (g ∷ []) (filter_map referred_to es)
with_node-references s (BackrefWithLevel g level casei ∷ es) =
    with_node-references (with_node s (BackrefWithLevel g level casei)) es ∙ append_assoc s.references (g ∷ []) (filter_map referred_to es)
with_node-references s (e ∷ es) = with_node-references (with_node s e) es

numeric_from : (b x : Bool) → true ≡ (b || (true || x))
numeric_from true x = refl
numeric_from false x = refl

pub with_node-numeric : (s : Referenced) (es : List Tree) → (with_nodes s es).numeric ≡ (s.numeric || list_any names_number es)
with_node-numeric s [] = sym (no_more s.numeric)
  where
    no_more : (b : Bool) → (b || false) ≡ b
    no_more true = refl
    no_more false = refl
with_node-numeric s (Backref g casei ∷ es) = with_node-numeric (with_node s (Backref g casei)) es ∙ numeric_from s.numeric (list_any names_number es)
with_node-numeric s (BackrefWithLevel g level casei ∷ es) =
    with_node-numeric (with_node s (BackrefWithLevel g level casei)) es ∙ numeric_from s.numeric (list_any names_number es)
with_node-numeric s (BackrefExists g level ∷ es) =
    with_node-numeric (with_node s (BackrefExists g level)) es ∙ numeric_from s.numeric (list_any names_number es)
with_node-numeric s (SubroutineCall g ∷ es) = with_node-numeric (with_node s (SubroutineCall g)) es ∙ numeric_from s.numeric (list_any names_number es)
with_node-numeric s (e ∷ es) = with_node-numeric (with_node s e) es

pub with_node-calls : (s : Referenced) (es : List Tree) → (with_nodes s es).calls ≡ (s.calls || list_any is_call es)
with_node-calls s [] = sym (no_more s.calls)
  where
    no_more : (b : Bool) → (b || false) ≡ b
    no_more true = refl
    no_more false = refl
with_node-calls s (Backref g casei ∷ es) = with_node-calls (with_node s (Backref g casei)) es ∙ or_false s.calls (list_any is_call es)
with_node-calls s (BackrefWithLevel g level casei ∷ es) =
    with_node-calls (with_node s (BackrefWithLevel g level casei)) es ∙ or_false s.calls (list_any is_call es)
with_node-calls s (BackrefExists g level ∷ es) = with_node-calls (with_node s (BackrefExists g level)) es ∙ or_false s.calls (list_any is_call es)
with_node-calls s (SubroutineCall g ∷ es) = with_node-calls (with_node s (SubroutineCall g)) es ∙ or_called s.calls (list_any is_call es)
with_node-calls s (e ∷ es) = with_node-calls (with_node s e) es

-- ---- calls

no_call : (es : List Tree) → list_any is_any_call es ≡ false → list_any is_call es ≡ false
no_call [] h = refl
no_call (AstNode UnresolvedCall ∷ es) h = absurd (true≢false h)
no_call (AstNode UnresolvedOther ∷ es) h = no_call es h
no_call (e ∷ es) h = let p = or_parts (is_call e) (list_any is_any_call es) h in or_from _ _ p.0 (no_call es p.1)

-- ---- the tree

pub well_formed : (t : ExprTree) → AllSound t.expr → t.total_groups ≡ group_count (tree_of t.expr) → group_count (tree_of t.expr) ≤ most_groups →
    IsDescribed t → IsWellFormedTree t
well_formed t sound count few d =
    well_described t sound count (subst (λ n. n ≤ most_groups) (sym count) few) (λ h. d.calls ∙ h) (λ h. d.calls ∙ no_call (nodes (tree_of t.expr)) h)
    d.backrefs d.out_of_range

-- what was gathered describes the tree
pub described_by : (t : ExprTree) (s : Referenced) → s ≡ with_nodes no_references (nodes (tree_of t.expr)) →
    t.backrefs.keys ≡ up_to t.total_groups [] s.references → t.out_of_range_backref ≡ first_past t.total_groups s.references →
    t.numeric_capture_group_references ≡ s.numeric → t.contains_subroutines ≡ s.calls → t.numbered_groups_ignored ≡ false → t.named_groups.entries ≡ [] →
    IsDescribed t
described_by t s is backrefs past numeric calls ignored named =
    let whole = nodes (tree_of t.expr) in
    let refs : s.references ≡ references (tree_of t.expr) = ap (λ r. r.references) is ∙ with_node-references no_references whole in
    record {
      backrefs = backrefs ∙ ap (up_to t.total_groups []) refs;
      out_of_range = past ∙ ap (first_past t.total_groups) refs;
      numeric = numeric ∙ ap (λ r. r.numeric) is ∙ with_node-numeric no_references whole;
      calls = calls ∙ ap (λ r. r.calls) is ∙ with_node-calls no_references whole;
      not_ignored = ignored;
      not_named = named;
    }
