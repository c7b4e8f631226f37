-- Code that enumerates a list which refines the ways of a node in its context: what each construct makes of it.
use Rattle.std.proofs.Common.{◌≡◌, Bool, true, false, not, ◌&&◌, ◌||◌, if◌then◌else◌, List, [], ◌∷◌, ◌++◌, length, map, drop, take_while, refl, sym, ap, ◌∙◌, subst, append-nil, map-id}
use Rattle.std.proofs.lemmas.Bool.{and_parts, not-true}
use Rattle.std.proofs.lemmas.List.{map-append}
use Rattle.std.proofs.lemmas.List.Concat.{flat_map_single}
use Rattle.fancy_meaning.specs.Tree.{Tree}
use Rattle.fancy_meaning.specs.OpenCalls.{Depths}
use Rattle.fancy_meaning.specs.MatchState.{MatchState, Ways, and_then, in_order, one_of}
use Rattle.fancy_meaning.specs.Ways.{ways}
use Rattle.fancy_meaning.specs.Sizes.{size}
use Rattle.fancy_meaning.specs.Hard.{is_hard}
use Rattle.fancy_meaning.specs.Code.{Code, ◌>>◌, in_turn, branches}
use Rattle.fancy_meaning.specs.Batches.{batch}
use Rattle.fancy_meaning.specs.Layout.{Part, in_context, is_prefix, is_suffix, concat_code}
use Rattle.fancy_meaning.specs.CompileRefusals.{IsWritten}
use Rattle.fancy_meaning.specs.Premises.{Analysed, analysis, tree_of}
use Rattle.fancy_laws.proofs.Every.{Every, no_item, item, every_weaker, every_map, every_append_parts}
use Rattle.fancy_laws.proofs.Splits.{back_while, before_back, cut_in_three}
use Rattle.fancy_delegation.proofs.Splits.{front_passes, back_passes}
use Rattle.fancy_delegation.proofs.Refined.{IsPart, EqualUpTo, EachEqualUpTo, no_part, and_part, part_in_order, key_equal_as, key_equal_or_else, key_equal_in_order, handed_sound}
use Rattle.fancy_delegation.proofs.RefinedDelegates.{plan_for, IsDelegated, IsConst, first_of_batch, part_of_tree, key_equal_batch}
use Rattle.fancy_delegation.proofs.RefinedConcat.{key_equal_delegate, key_equal_concat}
use Rattle.fancy_delegation.proofs.EnumeratesWays.{Setup}

-- which nodes are left to a plain search
abbrev pub is_easy : Analysed → Tree → Bool
is_easy a e = not (is_hard (analysis a) e)

module _ (given : Setup) (depths : Depths) where
  abbrev pub means : Tree → Ways
  means e = ways given.setting (tree_of given.tree) e depths

  -- the code enumerates a list that refines these ways
  pub record Refined (in_hard : Bool) (c : Code) (f : Ways) : Type 0 where
    pub handed : Ways
    pub simulates : given.Simulates c handed
    pub key_equal : EqualUpTo (plan_for given.tree given.options) given.setting in_hard handed f

  pub part_of : (e : Tree) → IsWritten (tree_of given.tree) e → IsPart (plan_for given.tree given.options) given.setting (means e)
  part_of e wr = part_of_tree given.size_law given.tree given.options given.setting given.is_text depths e ((given.ready).there e wr)

  pub delegated : (e : Tree) → IsWritten (tree_of given.tree) e → is_easy given.tree e ≡ true → IsDelegated given.tree e
  delegated e wr easy = record { there = (given.ready).there e wr; easy = not-true (is_hard (analysis given.tree) e) easy }

  -- an easy node is a delegate of itself in an easy context, where this test passes too
  pub batch_refined : (e : Tree) (test : Bool) → (test ≡ true → is_easy given.tree e ≡ true) →
      (code : Bool → Code) (in_hard : Bool) → IsWritten (tree_of given.tree) e →
      Refined in_hard (code in_hard) (means e) →
      Refined in_hard (if test && not in_hard then batch (given.options).unicode (e ∷ []) else code in_hard) (means e)
  batch_refined e test easy code in_hard wr h = here (test && not in_hard) refl
    where
      alone : (s : MatchState) → in_order (means e ∷ []) s ≡ means e s
      alone s = flat_map_single (λ t. t) (means e s) ∙ map-id (means e s)

      at_easy : (v : Bool) → (test && not v) ≡ true → Refined v (batch (given.options).unicode (e ∷ [])) (means e)
      at_easy true both = let off = (and_parts test false both).1 in cc
      at_easy false both =
          let d = item (delegated e wr (easy (and_parts test true both).0)) no_item in
          record {
            handed = first_of_batch given.setting given.tree depths (e ∷ []);
            simulates = (given.laws).enumerates_batch (e ∷ []) depths d (item wr no_item);
            key_equal =
                key_equal_as (plan_for given.tree given.options) given.setting false
                (first_of_batch given.setting given.tree depths (e ∷ [])) (in_order (means e ∷ [])) (means e)
                (λ s ok. alone s)
                (key_equal_batch given.size_law given.tree given.options given.setting given.is_text depths
                given.same_end_text d);
          }

      here : (v : Bool) → (test && not in_hard) ≡ v → Refined in_hard (if v then batch (given.options).unicode (e ∷ []) else code in_hard) (means e)
      here true both = at_easy in_hard both
      here false both = h

  pub context_refined : (e : Tree) (code : Bool → Code) (in_hard : Bool) → IsWritten (tree_of given.tree) e →
      Refined in_hard (code in_hard) (means e) →
      Refined in_hard (in_context (plan_for given.tree given.options) (is_easy given.tree) e code in_hard) (means e)
  context_refined e code in_hard wr h = batch_refined e (is_easy given.tree e) (λ y. y) code in_hard wr h

  -- ---- several children

  abbrev pub trees_of : List Part → List Tree
  trees_of ws = map (λ w. w.tree) ws

  -- a child, written out, with its code in a context
  abbrev pub ChildRefined : Bool → Part → Type 0
  ChildRefined in_hard w = IsWritten (tree_of given.tree) w.tree × Refined in_hard (w.code in_hard) (means w.tree)

  -- one after the other
  record InTurn (c : Code) (fs : List Ways) : Type 0 where
    handed : List Ways
    simulates : given.Simulates c (in_order handed)
    key_equal : EachEqualUpTo (plan_for given.tree given.options) given.setting true handed fs

  children_in_turn : {ws : List Part} → Every (ChildRefined true) ws → InTurn (in_turn (map (λ w. w.code true) ws)) (map means (trees_of ws))
  children_in_turn no_item = record { handed = []; simulates = (given.laws).enumerates_here; key_equal = no_part }
  children_in_turn (item {x = w} {xs = ws} h hs) =
      let rest = children_in_turn hs in
      let first = h.1 in
      record {
        handed = first.handed ∷ rest.handed;
        simulates =
            (given.laws).enumerates_next (w.code true) (in_turn (map (λ u. u.code true) ws)) first.handed
            (in_order rest.handed)
            (handed_sound (plan_for given.tree given.options) given.setting true first.handed (means w.tree)
            (part_of w.tree h.0) first.key_equal) first.simulates rest.simulates;
        key_equal = and_part first.key_equal rest.key_equal;
      }

  -- each of these in turn
  pub data EachRefined (in_hard : Bool) : List Code → List Ways → Type 0 where
    no_choice : EachRefined in_hard [] []
    and_choice : {c : Code} {f : Ways} {cs : List Code} {fs : List Ways} → Refined in_hard c f →
        EachRefined in_hard cs fs → EachRefined in_hard (c ∷ cs) (f ∷ fs)

  pub choice_refined : (in_hard : Bool) {c : Code} {f : Ways} {cs : List Code} {fs : List Ways} →
      Refined in_hard c f → EachRefined in_hard cs fs → Refined in_hard (branches (c ∷ cs)) (one_of (f ∷ fs))
  choice_refined in_hard {c} {f} h no_choice = record {
    handed = h.handed;
    simulates = h.simulates;
    key_equal = key_equal_as (plan_for given.tree given.options) given.setting in_hard h.handed f (one_of (f ∷ [])) (λ s ok. sym (append-nil (f s))) h.key_equal;
  }
  choice_refined in_hard {c} {f} h (and_choice {c = d} {f = g} {cs = cs} {fs = fs} k ks) =
      let rest = choice_refined in_hard k ks in
      record {
        handed = λ s. h.handed s ++ rest.handed s;
        simulates = (given.laws).enumerates_branch c (branches (d ∷ cs)) h.handed rest.handed h.simulates rest.simulates;
        key_equal = key_equal_or_else (plan_for given.tree given.options) given.setting in_hard h.handed f rest.handed (one_of (g ∷ fs)) h.key_equal rest.key_equal;
      }

  pub children_refined : (in_hard : Bool) {ws : List Part} → Every (ChildRefined in_hard) ws →
      EachRefined in_hard (map (λ w. w.code in_hard) ws) (map means (trees_of ws))
  children_refined in_hard no_item = no_choice
  children_refined in_hard (item h hs) = and_choice h.1 (children_refined in_hard hs)

  -- ---- a sequence

  const_where_hard : (in_hard const : Bool) → (not in_hard || const) ≡ true → in_hard ≡ true → const ≡ true
  const_where_hard true const e hard = e
  const_where_hard false const e hard = cc

  prefix_tells : (w : Part) → is_prefix (plan_for given.tree given.options) (is_easy given.tree) w ≡ true →
      (is_easy given.tree w.tree ≡ true) × ((size (tree_of given.tree) w.tree).is_const ≡ true)
  prefix_tells w e = and_parts (is_easy given.tree w.tree) (size (tree_of given.tree) w.tree).is_const e

  suffix_tells : (in_hard : Bool) (w : Part) →
      is_suffix (plan_for given.tree given.options) (is_easy given.tree) in_hard w ≡ true →
      (is_easy given.tree w.tree ≡ true) × (in_hard ≡ true → (size (tree_of given.tree) w.tree).is_const ≡ true)
  suffix_tells in_hard w e =
      let parts = and_parts (is_easy given.tree w.tree) (not in_hard || (size (tree_of given.tree) w.tree).is_const) e in
      (parts.0, const_where_hard in_hard (size (tree_of given.tree) w.tree).is_const parts.1)

  written_trees : {ws : List Part} → Every (ChildRefined true) ws → Every (IsWritten (tree_of given.tree)) (trees_of ws)
  written_trees no_item = no_item
  written_trees (item h hs) = item h.0 (written_trees hs)

  delegated_trees : {ws : List Part} → Every (ChildRefined true) ws →
      Every (λ w. is_easy given.tree w.tree ≡ true) ws → Every (IsDelegated given.tree) (trees_of ws)
  delegated_trees no_item no_item = no_item
  delegated_trees (item {x = w} h hs) (item e es) = item (delegated w.tree h.0 e) (delegated_trees hs es)

  const_trees : {ws : List Part} → Every (λ w. (size (tree_of given.tree) w.tree).is_const ≡ true) ws → Every (IsConst given.tree) (trees_of ws)
  const_trees no_item = no_item
  const_trees (item c cs) = item c (const_trees cs)

  -- the cut into a front and a back that are delegates, and what stands between
  cut_refined : (in_hard : Bool) (front middle back : List Part) →
      Every (IsWritten (tree_of given.tree)) (trees_of front) → Every (IsDelegated given.tree) (trees_of front) →
      Every (IsConst given.tree) (trees_of front) → Every (ChildRefined true) middle →
      Every (IsWritten (tree_of given.tree)) (trees_of back) → Every (IsDelegated given.tree) (trees_of back) →
      (in_hard ≡ true → Every (IsConst given.tree) (trees_of back)) →
      Refined in_hard
      (batch (given.options).unicode (trees_of front)
      >> (in_turn (map (λ w. w.code true) middle) >> batch (given.options).unicode (trees_of back)))
      (in_order (map means (trees_of front ++ (trees_of middle ++ trees_of back))))
  cut_refined in_hard front middle back fw fd fc mh bw bd bc =
      let first = first_of_batch given.setting given.tree depths (trees_of front) in
      let last = first_of_batch given.setting given.tree depths (trees_of back) in
      let mw = written_trees mh in
      let mid = children_in_turn mh in
      let parts : Every (IsPart (plan_for given.tree given.options) given.setting) (map means (trees_of middle)) = every_map means part_of mw in
      let mid_key_equal = key_equal_in_order (plan_for given.tree given.options) given.setting parts mid.key_equal in
      let front_key_equal =
      key_equal_delegate given.size_law given.tree given.options given.setting given.is_text depths given.same_end_text
      true (trees_of front) fd (λ e. fc) in
      let front_part : IsPart (plan_for given.tree given.options) given.setting (in_order (map means (trees_of front))) =
      part_in_order (plan_for given.tree given.options) given.setting (every_map means part_of fw) in
      let between = in_turn (map (λ w. w.code true) middle) in
      record {
        handed = and_then first (and_then (in_order mid.handed) last);
        simulates =
            (given.laws).enumerates_next (batch (given.options).unicode (trees_of front))
            (between >> batch (given.options).unicode (trees_of back)) first (and_then (in_order mid.handed) last)
            (handed_sound (plan_for given.tree given.options) given.setting true first (in_order (map means (trees_of front))) front_part front_key_equal)
            ((given.laws).enumerates_batch (trees_of front) depths fd fw)
            ((given.laws).enumerates_next between (batch (given.options).unicode (trees_of back)) (in_order mid.handed) last
            (handed_sound (plan_for given.tree given.options) given.setting true (in_order mid.handed)
            (in_order (map means (trees_of middle)))
            (part_in_order (plan_for given.tree given.options) given.setting parts) mid_key_equal)
            mid.simulates ((given.laws).enumerates_batch (trees_of back) depths bd bw));
        key_equal =
            key_equal_concat given.size_law given.tree given.options given.setting given.is_text depths
            given.same_end_text in_hard (trees_of front) (trees_of middle) (trees_of back) mid.handed fd fc
            (every_weaker (given.ready).there mw) mid.key_equal bd bc;
      }

  pub concat_refined : (in_hard : Bool) (ws : List Part) → Every (ChildRefined true) ws →
      Refined in_hard (concat_code (plan_for given.tree given.options) (is_easy given.tree) ws in_hard)
      (in_order (map means (trees_of ws)))
  concat_refined in_hard ws h =
      let in_front = is_prefix (plan_for given.tree given.options) (is_easy given.tree) in
      let in_back = is_suffix (plan_for given.tree given.options) (is_easy given.tree) in_hard in
      let front = take_while in_front ws in
      let rest = drop (length front) ws in
      let middle = before_back in_back rest in
      let back = back_while in_back rest in
      let cut = cut_in_three in_front in_back ws in
      let parts = every_append_parts front (middle ++ back) (subst (Every (ChildRefined true)) (sym cut) h) in
      let others = every_append_parts middle back parts.1 in
      subst (λ es. Refined in_hard (concat_code (plan_for given.tree given.options) (is_easy given.tree) ws in_hard) (in_order (map means es)))
      (sym (map-append (λ w. w.tree) front (middle ++ back) ∙ ap (λ l. trees_of front ++ l) (map-append (λ w. w.tree) middle back)) ∙ ap trees_of cut)
      (cut_refined in_hard front middle back
      (written_trees parts.0)
      (delegated_trees parts.0 (every_weaker (λ w e. (prefix_tells w e).0) (front_passes in_front ws)))
      (const_trees (every_weaker (λ w e. (prefix_tells w e).1) (front_passes in_front ws)))
      others.0 (written_trees others.1)
      (delegated_trees others.1 (every_weaker (λ w e. (suffix_tells in_hard w e).0) (back_passes in_back rest)))
      (λ hard. const_trees (every_weaker (λ w e. (suffix_tells in_hard w e).1 hard) (back_passes in_back rest))))
