-- What a call finds in the table of groups.
use Rattle.std.proofs.Common.{◌≡◌, ℕ, suc, ◌+◌, ◌-◌, ◌<◌, ◌≤◌, ◌==◌, ◌&&◌, ◌||◌, Bool, true, false, List, [], ◌∷◌, length, map, get_or, if◌then◌else◌, Some, None, nat_eq, nat_lt, nat_le, true≢false, refl, sym, ap, ◌∙◌, subst, arith, eq-eqb, ne_eqb, lt-ltb, ltb-true, ltb-false, leb-true, leb-false, eqb-true, Bor}
use Rattle.std.specs.Prelude.{slice_index_or}
use Rattle.std.specs.List.{list_any}
use Rattle.std.proofs.lemmas.Bool.{and_parts}
use Rattle.std.proofs.lemmas.List.{get_or_default, length-map}
use Rattle.std.proofs.Math.ListN.{get_or-map}
use Rattle.fancy_meaning.specs.Tree as plain
use Rattle.fancy_meaning.specs.Tree.{Tree, Group}
use Rattle.fancy_meaning.specs.Marks.{marked_groups}
use Rattle.fancy_meaning.specs.Nodes.{groups, target}
use Rattle.fancy_meaning.specs.Numbering.{numbered}
use Rattle.fancy_meaning.specs.Options.{Analysis}
use Rattle.fancy_meaning.specs.Places.{range_from}
use Rattle.fancy_meaning.specs.Premises.{Analysed, analysis}
use Rattle.fancy_info.specs.declared.info.Info.{Info}
use Rattle.fancy_info.specs.Infos.{info_tree, IsRoot}
use Rattle.fancy_expr.specs.Each.{Each}
use Rattle.fancy_info.proofs.GroupNumbers.{numbers}
use Rattle.fancy_compile.specs.declared.scope.Scope.{Scope}
use Rattle.fancy_compile.specs.declared.group_table.GroupTable.{GroupTable}
use Rattle.fancy_info.specs.NodeCounts.{node_count}
use Rattle.fancy_compile.specs.GroupTables.{AreNumbered, IsEntry, group_node, has_target}
use Rattle.fancy_compile.specs.Nodes.{IsScopeOf}
use Rattle.fancy_compile.specs.GroupTables.{IsTable, group_trees}
use Rattle.fancy_info.proofs.Children.{each_at}
use Rattle.fancy_compile.proofs.GroupTable.{number_at, target_below, target_past, target_at}
use Rattle.fancy_compile.proofs.Roots.{root_fine, root_known}

zero_calls : (whole : Tree) (g : ℕ) → g ≡ 0 → target whole g ≡ Some whole
unfolding target
zero_calls whole g is = ap (target whole) is

module _ (a : Analysis) (scope : Scope) (s : IsScopeOf a scope) (g : ℕ) where
  abbrev first : ℕ
  first = scope.groups.now.first

  abbrev entries : List (Bor Info)
  entries = scope.groups.now.nodes.items

  as_many : length (groups a.tree) ≡ length entries
  as_many = sym (length-map (groups a.tree) group_node) ∙ ap length (sym s.nodes) ∙ length-map entries (λ b. info_tree b.now)

  pub zero_target : g ≡ 0 → target a.tree g ≡ Some a.tree
  zero_target is = zero_calls a.tree g is

  -- the test of the table
  abbrev in_table : Bool
  in_table = nat_le first g && nat_lt (g - first) (length entries)

  test_of : ¬ (g ≡ 0) → has_target scope.groups.now g ≡ in_table
  test_of h = ap (λ b. b || in_table) (ne_eqb g 0 h)

  pub in_range : ¬ (g ≡ 0) → has_target scope.groups.now g ≡ true → (first ≤ g) × (g - first < length entries)
  in_range h found =
      let both = and_parts (nat_le first g) (nat_lt (g - first) (length entries)) (sym (test_of h) ∙ found) in
      (leb-true first g both.0, ltb-true (g - first) (length entries) both.1)

  no_body : ¬ (g ≡ 0) → (low : Bool) → nat_le first g ≡ low → (low && nat_lt (g - first) (length entries)) ≡ false → target a.tree g ≡ None
  no_body h false is missing = target_below a.tree first g s.numbers h (leb-false first g is)
  no_body h true is missing =
      let low = leb-true first g is in
      target_past a.tree first g s.numbers h (g - first) (omega (arith, low)) (omega (arith, as_many, ltb-false (g - first) (length entries) missing))

  pub no_target : has_target scope.groups.now g ≡ false → target a.tree g ≡ None
  no_target missing = by_zero (g == 0) refl
    where
      by_zero : (b : Bool) → (g == 0) ≡ b → target a.tree g ≡ None
      by_zero true is = absurd (true≢false (sym (ap (λ b. b || in_table) is) ∙ missing))
      by_zero false is = no_body (λ e. true≢false (sym (eq-eqb g 0 e) ∙ is)) (nat_le first g) refl (sym (ap (λ b. b || in_table) is) ∙ missing)

  module _ (b : Bor Info) (low : first ≤ g) (lt : g - first < length entries) (at : b ≡ get_or entries (g - first) b) where
    inside : g - first < length (groups a.tree)
    inside = omega (arith, lt, as_many)

    -- the group of the number
    abbrev found_group : ℕ × Tree
    found_group = get_or (groups a.tree) (g - first) (0, a.tree)

    abbrev pub found_body : Tree
    found_body = found_group.1

    pub found_target : ¬ (g ≡ 0) → target a.tree g ≡ Some found_body
    found_target h =
        target_at a.tree first g s.numbers h (g - first) (omega (arith, low)) a.tree inside
        ∙ ap Some (get_or-map (λ x. x.1) (groups a.tree) (g - first) (0, a.tree))

    pub found_tree : info_tree b.now ≡ Group g found_body
    found_tree =
        let k = g - first in
        let number : found_group.0 ≡ g = omega (arith, number_at first k (groups a.tree) (0, a.tree) s.numbers inside, low) in
        ap (λ x. info_tree x.now) at ∙ sym (get_or-map (λ x. info_tree x.now) entries k b)
        ∙ ap (λ l. get_or l k (info_tree b.now)) s.nodes
        ∙ get_or_default (map group_node (groups a.tree)) k (info_tree b.now) (group_node (0, a.tree))
        (omega (arith, inside, length-map (groups a.tree) group_node))
        ∙ get_or-map group_node (groups a.tree) k (0, a.tree)
        ∙ ap (λ n. Group n found_body) number

    pub found_facts : IsEntry a (node_count scope.root.now) b
    found_facts = each_at (IsEntry a (node_count scope.root.now)) entries (g - first) b s.known lt at

    pub found_starts : slice_index_or scope.groups.now.starts.items (g - first) false ≡ list_any (nat_eq g) (marked_groups a.tree a.tree)
    found_starts =
        let here : first + (g - first) ≡ g = omega (arith, low) in
        s.starts (g - first) ∙ ap (λ t. t && list_any (nat_eq (first + (g - first))) (marked_groups a.tree a.tree)) (lt-ltb (g - first) (length entries) lt)
        ∙ ap (λ n. list_any (nat_eq n) (marked_groups a.tree a.tree)) here

  -- something is called
  pub some_target : has_target scope.groups.now g ≡ true → (b : Tree) × (target a.tree g ≡ Some b)
  some_target found = by_zero (g == 0) refl
    where
      by_zero : (b : Bool) → (g == 0) ≡ b → (b : Tree) × (target a.tree g ≡ Some b)
      by_zero true is = (a.tree, zero_target (eqb-true g 0 is))
      by_zero false is =
          let h = λ (e : g ≡ 0). true≢false (sym (eq-eqb g 0 e) ∙ is) in
          let range = in_range h found in (
            get_or (map (λ h. h.1) (groups a.tree)) (g - first) a.tree,
            target_at a.tree first g s.numbers h (g - first) (omega (arith, range.0)) a.tree
                (omega (arith, range.1, as_many)),
          )

-- ---- the table of an analysed tree

abbrev head_of : List ℕ → ℕ
head_of [] = 0
head_of (x ∷ xs) = x

abbrev tail_of : List ℕ → List ℕ
tail_of [] = []
tail_of (x ∷ xs) = xs

numbered_by : (n : ℕ) (hs : List (ℕ × Tree)) → map (λ h. h.0) hs ≡ range_from n (length hs) → AreNumbered n hs
numbered_by n [] e = tt
numbered_by n (h ∷ hs) e = (ap head_of e, numbered_by (suc n) hs (ap tail_of e))

module _ (a : Analysed) (i : Info) (r : IsRoot (analysis a) i) (first : ℕ) (g : GroupTable) (t : IsTable i first g) where
  pub table_nodes : map (λ b. info_tree b.now) g.nodes.items ≡ map group_node (groups (analysis a).tree)
  table_nodes = (t.nodes).nodes (analysis a) (root_known a i r) ∙ ap group_trees r.tree

  pub table_known : Each (IsEntry (analysis a) (node_count i)) g.nodes.items
  table_known = (t.nodes).known (analysis a) (node_count i) (root_known a i r) (root_fine a i r) (omega arith) tt

  pub table_starts : (k : ℕ) → slice_index_or g.starts.items k false ≡ (nat_lt k (length g.nodes.items) && list_any (nat_eq (g.first + k))
      (marked_groups (analysis a).tree (analysis a).tree))
  table_starts k =
      t.starts (analysis a) (root_known a i r) k
      ∙ ap (λ n. nat_lt k (length g.nodes.items) && list_any (nat_eq (n + k)) (marked_groups (analysis a).tree (info_tree i))) (sym t.from)
      ∙ ap (λ e. nat_lt k (length g.nodes.items) && list_any (nat_eq (g.first + k)) (marked_groups (analysis a).tree e)) r.tree

  numbers_from : (n : ℕ) (e : Tree) → AreNumbered n (groups (numbered n e))
  unfolding numbered
  numbers_from n e = numbered_by n (groups (numbered n e)) (numbers plain.NoLook n e)

  pub table_numbers : first ≡ (if (a.options).explicit_capture_group_0 then 0 else 1) → AreNumbered g.first (groups (analysis a).tree)
  table_numbers is = subst (λ n. AreNumbered n (groups (analysis a).tree)) (sym (t.from ∙ is))
      (numbers_from (if (a.options).explicit_capture_group_0 then 0 else 1) (a.parsed).tree)
