-- Neighbours and branches, one by one.
use Rattle.std.proofs.Common.{◌≡◌, ℕ, suc, ◌+◌, ◌<◌, ◌≤◌, ◌&&◌, Bool, true, false, not, List, [], ◌∷◌, ◌++◌, length, map, drop, get_or, refl, sym, ap, ◌∙◌, subst, arith, length-drop}
use Rattle.std.proofs.lemmas.List.{drop_all}
use Rattle.fancy_meaning.specs.Tree.{Tree, trees, Concat, Alt}
use Rattle.fancy_expr.specs.Each.{Each}
use Rattle.fancy_meaning.specs.Batches.{batch}
use Rattle.fancy_meaning.specs.Instr.{Instr}
use Rattle.fancy_meaning.specs.Code.{Code, nothing, one, ◌>>◌, in_turn, branch, branches}
use Rattle.fancy_meaning.specs.Marks.{takes_nothing}
use Rattle.fancy_code.specs.Sites.{Site, HasRoom, within_node}
use Rattle.fancy_meaning.specs.Sizes.{Size, size}
use Rattle.fancy_info.specs.declared.info.Info.{Info}
use Rattle.fancy_info.specs.Infos.{info_tree, info_hard, info_size, IsAnalysed}
use Rattle.fancy_code.specs.Arounds.{around_code, not_behind}
use Rattle.fancy_code.specs.Drafts.{Draft, Writes, code_in, written_code, node_code, with_patch, with_jumps}
use Rattle.fancy_compile.specs.AnalysedNodes.{IsKnown, back_of, front_of, middle_of}
use Rattle.fancy_compile.specs.Nodes.{codes_in_turn, codes_of_branches, codes_of_none, branch_over}
use Rattle.fancy_code.proofs.Writing.{wrote_nothing, wrote_then, without_nothing}
use Rattle.fancy_code.proofs.Patches.{wrote_both, patched_length, with_jumps_last}
use Rattle.fancy_code.proofs.Written.{wrote_node, safe_fine}
use Rattle.fancy_info.proofs.Children.{rest_at}
use Rattle.fancy_compile.proofs.Known.{hard_child, children_trees, size_known}
use Rattle.fancy_compile.proofs.Concat.{alt_by, concat_by, concat_parts, is_first}

branches_more : (c : Code) (cs : List Code) → 0 < length cs → branches (c ∷ cs) ≡ branch c (branches cs)
branches_more c [] h = absurd (omega arith)
branches_more c (d ∷ cs) h = refl

module _ (p : Site) (call : ℕ → Bool → Code) where
  -- what is left of neighbours, and of branches
  abbrev pub LeftInTurn : Bool → List Info → Draft → Draft → Type 0
  LeftInTurn first is t u = Writes p (in_turn (codes_in_turn p call first (map info_tree is))) (map info_tree is) t u

  abbrev pub LeftBranches : Bool → Bool → List Info → Draft → Draft → Type 0
  LeftBranches is_behind in_hard is t u = Writes p (branches (codes_of_branches p call is_behind in_hard (map info_tree is))) (map info_tree is) t u

  abbrev pub LeftNone : List Info → Draft → Draft → Type 0
  LeftNone is t u = Writes p (in_turn (codes_of_none p call (map info_tree is))) (map info_tree is) t u

  -- a child by its own hardness
  pub wrote_child : (x : Info) → IsAnalysed p.analysis x → (at_start in_hard : Bool) (s t : Draft)
      → Writes p (code_in p call (not (info_hard x)) (info_tree x) at_start in_hard) (info_tree x ∷ []) s t
      → Writes p (node_code p call (info_tree x) at_start in_hard) (info_tree x ∷ []) s t
  wrote_child x h at_start in_hard s t w =
      subst (λ b. Writes p (code_in p call (not b) (info_tree x) at_start in_hard) (info_tree x ∷ []) s t) (hard_child p.analysis x h) w

  -- a branch by its size
  pub at_branch : (is_behind in_hard : Bool) (x : Info) → IsKnown p.analysis x → (t u : Draft)
      → Writes p (branch_over is_behind (info_size x).least (node_code p call (info_tree x) false in_hard)) (info_tree x ∷ []) t u
      → Writes p (branch_over is_behind (size p.analysis.tree (info_tree x)).least (node_code p call (info_tree x) false in_hard)) (info_tree x ∷ []) t u
  at_branch is_behind in_hard x known t u h =
      subst (λ (z : Size). Writes p (branch_over is_behind z.least (node_code p call (info_tree x) false in_hard)) (info_tree x ∷ []) t u)
      (size_known x p.analysis known) h

  codes_length : (is_behind in_hard : Bool) (is : List Info) → length (codes_of_branches p call is_behind in_hard (map info_tree is)) ≡ length is
  codes_length is_behind in_hard [] = refl
  codes_length is_behind in_hard (i ∷ is) = ap suc (codes_length is_behind in_hard is)

  module _ (l : List Info) (i : ℕ) (x : Info) (lt : i < length l) (at : x ≡ get_or l i x) (t : Draft) where
    pub in_turn_step : (first next : Bool) (t' u : Draft) → next ≡ (first && takes_nothing p.analysis.tree (info_tree x))
        → Writes p (node_code p call (info_tree x) first true) (info_tree x ∷ []) t t' → LeftInTurn next (drop (i + 1) l) t' u → LeftInTurn first (drop i l) t u
    in_turn_step first next t' u is h g =
        subst (λ m. LeftInTurn first m t u) (sym (rest_at l i x lt at))
        (wrote_then p (node_code p call (info_tree x) first true)
        (in_turn (codes_in_turn p call (first && takes_nothing p.analysis.tree (info_tree x)) (map info_tree (drop (i + 1) l))))
        (info_tree x ∷ []) _ t t' u h (subst (λ b. LeftInTurn b (drop (i + 1) l) t' u) is g))

    pub none_step : (t' u : Draft) → Writes p (around_code (not_behind (size p.analysis.tree (info_tree x)).least)
        (node_code p call (info_tree x) false false)) (info_tree x ∷ []) t t' → LeftNone (drop (i + 1) l) t' u → LeftNone (drop i l) t u
    none_step t' u h g =
        subst (λ m. LeftNone m t u) (sym (rest_at l i x lt at))
        (wrote_then p (around_code (not_behind (size p.analysis.tree (info_tree x)).least) (node_code p call (info_tree x) false false))
        (in_turn (codes_of_none p call (map info_tree (drop (i + 1) l)))) (info_tree x ∷ []) _ t t' u h g)

    module _ (is_behind in_hard : Bool) where
      abbrev here : Code
      here = branch_over is_behind (size p.analysis.tree (info_tree x)).least (node_code p call (info_tree x) false in_hard)

      pub last_step : (t' u : Draft) → length l ≤ i + 1 → Writes p here (info_tree x ∷ []) t t' → LeftBranches is_behind in_hard (drop (i + 1) l) t' u
          → LeftBranches is_behind in_hard (drop i l) t u
      last_step t' u end h g =
          subst (λ m. LeftBranches is_behind in_hard m t u) (sym (rest_at l i x lt at))
          (subst (λ m. LeftBranches is_behind in_hard (x ∷ m) t u) (sym (drop_all (i + 1) l end))
          (without_nothing p here (info_tree x ∷ []) t u
          (wrote_then p here nothing (info_tree x ∷ []) [] t t' u h (subst (λ m. LeftBranches is_behind in_hard m t' u) (drop_all (i + 1) l end) g))))

      module _ (more : i + 1 < length l) (t1 t2 t3 u : Draft) (split jump : ℕ) (y z : Instr) (split_is : split ≡ length t.instrs)
          (jump_is : jump ≡ length t2.instrs) where
        abbrev rest : List Info
        rest = drop (i + 1) l

        abbrev w : Draft
        w = with_patch t2 split (Instr.Split (split + 1) (jump + 1))

        pub branch_step : Writes p (one y) [] t t1 → Writes p here (info_tree x ∷ []) t1 t2 → Writes p (one z) [] w t3
            → LeftBranches is_behind in_hard rest t3 u → LeftBranches is_behind in_hard (drop i l) t (with_patch u jump (Instr.Jmp (length u.instrs)))
        branch_step hy hx hz g =
            let left : 0 < length (codes_of_branches p call is_behind in_hard (map info_tree rest)) = omega
            (arith, codes_length is_behind in_hard rest, length-drop (i + 1) l) in
            let b = branches (codes_of_branches p call is_behind in_hard (map info_tree rest)) in
            let all = wrote_both p (info_tree x ∷ []) (map info_tree rest) here b t t1 t2 t3 u split jump y z split_is jump_is hy hx hz g in
            subst (λ m. LeftBranches is_behind in_hard m t (with_patch u jump (Instr.Jmp (length u.instrs)))) (sym (rest_at l i x lt at))
            (subst (λ k. Writes p k (info_tree x ∷ map info_tree rest) t (with_patch u jump (Instr.Jmp (length u.instrs))))
            (sym (branches_more here _ left)) all)

  -- the jumps with one more
  pub jumps_more : (is_behind in_hard : Bool) (is : List Info) (s u : Draft) (js ks : List ℕ) (j : ℕ) → ks ≡ js ++ j ∷ []
      → LeftBranches is_behind in_hard is s (with_jumps js (length (with_patch u j (Instr.Jmp (length u.instrs))).instrs)
      (with_patch u j (Instr.Jmp (length u.instrs)))) → LeftBranches is_behind in_hard is s (with_jumps ks (length u.instrs) u)
  jumps_more is_behind in_hard is s u js ks j more h =
      subst (LeftBranches is_behind in_hard is s)
      (ap (λ n. with_jumps js n (with_patch u j (Instr.Jmp (length u.instrs)))) (patched_length u j (Instr.Jmp (length u.instrs)))
      ∙ sym (with_jumps_last js j (length u.instrs) u) ∙ ap (λ m. with_jumps m (length u.instrs) u) (sym more))
      h

  pub no_more_in_turn : (first : Bool) (l : List Info) (i : ℕ) (t : Draft) → length l ≤ i → LeftInTurn first (drop i l) t t
  no_more_in_turn first l i t end = subst (λ m. LeftInTurn first m t t) (sym (drop_all i l end)) (wrote_nothing p t)

  pub no_more_none : (l : List Info) (i : ℕ) (t : Draft) → length l ≤ i → LeftNone (drop i l) t t
  no_more_none l i t end = subst (λ m. LeftNone m t t) (sym (drop_all i l end)) (wrote_nothing p t)

  pub no_more_branches : (is_behind in_hard : Bool) (l : List Info) (i : ℕ) (t : Draft) → length l ≤ i → LeftBranches is_behind in_hard (drop i l) t t
  no_more_branches is_behind in_hard l i t end = subst (λ m. LeftBranches is_behind in_hard m t t) (sym (drop_all i l end)) (wrote_nothing p t)

  -- ---- the nodes

  -- the children of a concatenation, in three
  module _ (at_start in_hard : Bool) (is : List Info) (each : Each (IsAnalysed p.analysis) is) (front middle back : List Info) (first : Bool)
      (s t u v : Draft) where
    abbrev three : List Tree
    three = map info_tree (front_of is) ++ (map info_tree (middle_of in_hard is) ++ map info_tree (back_of in_hard is))

    abbrev Batches : List Info → Draft → Draft → Type 0
    Batches l = Writes p (batch p.unicode (map info_tree l)) (map info_tree l)

    pub wrote_three : front ≡ front_of is → middle ≡ middle_of in_hard is → back ≡ back_of in_hard is → first ≡ is_first p call at_start in_hard is each
        → Batches front s t → LeftInTurn first middle t u → Batches back u v
        → Writes p (written_code p call (Concat (trees (map info_tree is))) at_start in_hard) (map info_tree is) s v
    wrote_three front_is middle_is back_is first_is a b c =
        let begins = batch p.unicode (map info_tree (front_of is)) in
        let goes = in_turn (codes_in_turn p call (is_first p call at_start in_hard is each) (map info_tree (middle_of in_hard is))) in
        let ends = batch p.unicode (map info_tree (back_of in_hard is)) in
        subst (λ ds. Writes p (written_code p call (Concat (trees (map info_tree is))) at_start in_hard) ds s v)
        (concat_parts p call at_start in_hard is each)
        (subst (λ k. Writes p k three s v) (sym (concat_by p call at_start in_hard is each))
        (wrote_then p begins (goes >> ends) _ _ s t v (subst (λ l. Batches l s t) front_is a)
        (wrote_then p goes ends _ _ t u v
        (subst (λ x. LeftInTurn x (middle_of in_hard is) t u) first_is (subst (λ l. LeftInTurn first l t u) middle_is b))
        (subst (λ l. Batches l u v) back_is c))))

  module _ (room : HasRoom p) (es : List Tree) (at_start in_hard : Bool) (s t : Draft) where
    pub wrote_concat : Writes (within_node p) (written_code p call (Concat (trees es)) at_start in_hard) es s t
        → Writes p (written_code p call (Concat (trees es)) at_start in_hard) (Concat (trees es) ∷ []) s t
    wrote_concat h =
        wrote_node p room _ (Concat (trees es)) s t (safe_fine p (Concat (trees es)) refl refl)
        (subst (λ ds. Writes (within_node p) (written_code p call (Concat (trees es)) at_start in_hard) ds s t) (sym (children_trees es)) h)

    pub wrote_alt : Writes (within_node p) (branches (codes_of_branches p call false in_hard es)) es s t
        → Writes p (written_code p call (Alt (trees es)) at_start in_hard) (Alt (trees es) ∷ []) s t
    wrote_alt h =
        subst (λ k. Writes p k (Alt (trees es) ∷ []) s t) (sym (alt_by p call at_start in_hard es))
        (wrote_node p room _ (Alt (trees es)) s t (safe_fine p (Alt (trees es)) refl refl)
        (subst (λ ds. Writes (within_node p) (branches (codes_of_branches p call false in_hard es)) ds s t) (sym (children_trees es)) h))
