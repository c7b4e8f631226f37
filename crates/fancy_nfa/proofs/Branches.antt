-- Nodes in a sequence, and branches, one by one.
use Rattle.std.proofs.Common.{◌≡◌, ℕ, suc, ◌+◌, ◌<◌, ◌≤◌, Bool, false, List, [], ◌∷◌, ◌++◌, length, drop, get_or, refl, sym, ap, ◌∙◌, subst, arith, append_assoc, length-append, length-drop, append-nil}
use Rattle.std.specs.Prelude.{slice_set}
use Rattle.std.proofs.lemmas.List.{drop_all, length-set}
use Rattle.std.proofs.Math.Seq.{set-append_seam}
use Rattle.fancy_meaning.specs.Tree.{Tree}
use Rattle.fancy_meaning.specs.Options.{Analysis}
use Rattle.fancy_info.specs.declared.info.Info.{Info}
use Rattle.fancy_info.specs.Infos.{info_tree}
use Rattle.fancy_nfa_laws.specs.NfaStates as plain
use Rattle.fancy_nfa_laws.specs.NfaCode.{NfaCode, branch, branches, in_sequence, laid, each_laid}
use Rattle.fancy_nfa.specs.declared.layout.Layout.{Layout}
use Rattle.fancy_nfa.specs.ClassTexts.{texts_of, texts_in, AreClasses}
use Rattle.fancy_nfa.specs.Shapes.{branch_choice, ended_by_jump, with_jumps}
use Rattle.fancy_nfa.specs.Layouts.{states_in, Replaces, Adds}
use Rattle.fancy_nfa.specs.Neighbours.{trees_of}
use Rattle.fancy_info.proofs.Children.{rest_at}
use Rattle.fancy_nfa.proofs.Laid.{adds_then, same_states, with_jumps_last}
use Rattle.fancy_nfa.proofs.Texts.{texts_more, classes_more}

pub each_length : (w : Tree) (is : List Info) → length (each_laid w (trees_of is)) ≡ length is
each_length w [] = refl
each_length w (i ∷ is) = ap suc (each_length w is)

-- ---- a sequence

module _ (a : Analysis) where
  -- these nodes are added one after the other
  abbrev pub AddsEach : List Info → Layout → Layout → Type 0
  AddsEach is s t = Adds (in_sequence (each_laid a.tree (trees_of is))) (texts_in (trees_of is)) s t

  pub sequence_step : (l : List Info) (i : ℕ) (x : Info) → i < length l → x ≡ get_or l i x → (s t u : Layout) →
      Adds (laid a.tree (info_tree x)) (texts_of (info_tree x)) s t → AddsEach (drop (i + 1) l) t u → AddsEach (drop i l) s u
  sequence_step l i x lt at s t u h g =
      let rest = drop (i + 1) l in
      subst (λ m. AddsEach m s u) (sym (rest_at l i x lt at))
      (adds_then (laid a.tree (info_tree x)) (in_sequence (each_laid a.tree (trees_of rest))) s t u (texts_of (info_tree x)) (texts_in (trees_of rest))
      (texts_in (trees_of (x ∷ rest))) (λ inner casei. texts_more inner casei (info_tree x) (trees_of rest)) h g)

  none_left : (s : Layout) → AddsEach [] s s
  none_left s = record {
    added = subst (λ l. Replaces l s s) (sym (append-nil (states_in s))) (same_states s);
    classes = λ inner casei h. elim h.1.0 [ ];
  }

  pub sequence_end : (l : List Info) (i : ℕ) (s : Layout) → length l ≤ i → AddsEach (drop i l) s s
  sequence_end l i s end = subst (λ m. AddsEach m s s) (sym (drop_all i l end)) (none_left s)

-- ---- branches

branches_more : (choice : ℕ → ℕ → plain.NfaState) (c : NfaCode) (cs : List NfaCode) → 0 < length cs →
    branches choice (c ∷ cs) ≡ branch choice c (branches plain.BranchSplit cs)
branches_more choice c [] h = absurd (omega arith)
branches_more choice c (d ∷ cs) h = refl

module _ (is_first : Bool) (p q : List plain.NfaState) (c b : NfaCode) (jump : ℕ) (is : q ≡ p ++ ended_by_jump is_first c (length p))
    (end : jump + 1 ≡ length q) where
  abbrev base : ℕ
  base = length p + 1

  abbrev first : List plain.NfaState
  first = c base

  abbrev other : ℕ
  other = base + length first + 1

  abbrev choice : plain.NfaState
  choice = branch_choice is_first base other

  abbrev before : List plain.NfaState
  before = p ++ choice ∷ first

  below_length : length (first ++ plain.Jump 0 ∷ []) ≡ length first + 1
  below_length = length-append first (plain.Jump 0 ∷ [])

  -- the jump stands last
  jump_last : q ≡ before ++ plain.Jump 0 ∷ []
  jump_last =
      let target : base + length (first ++ plain.Jump 0 ∷ []) ≡ other = omega (arith, below_length) in
      is ∙ ap (λ n. p ++ branch_choice is_first base n ∷ (first ++ plain.Jump 0 ∷ [])) target
      ∙ sym (append_assoc p (choice ∷ first) (plain.Jump 0 ∷ []))

  q_length : length q ≡ other
  q_length = omega (arith, ap length jump_last, length-append before (plain.Jump 0 ∷ []), length-append p (choice ∷ first))

  -- the branch, and then the others
  abbrev all : List plain.NfaState
  all = q ++ b (length q)

  branch_patched : slice_set all jump (plain.Jump (length all)) ≡ p ++ branch (branch_choice is_first) c b (length p)
  branch_patched =
      let second = b other in
      let flat : all ≡ before ++ plain.Jump 0 ∷ second =
      ap (λ n. q ++ b n) q_length ∙ ap (λ l. l ++ second) jump_last ∙ append_assoc before (plain.Jump 0 ∷ []) second in
      let at : jump ≡ length before = omega (arith, end, ap length jump_last, length-append before (plain.Jump 0 ∷ [])) in
      let last : length all ≡ other + length second = omega
      (arith, q_length, length-append q (b (length q)), ap (λ n. length (b n)) q_length) in
      ap (λ n. slice_set all n (plain.Jump (length all))) at
      ∙ ap (λ l. slice_set l (length before) (plain.Jump (length all))) flat
      ∙ set-append_seam before (plain.Jump 0) second (plain.Jump (length all))
      ∙ append_assoc p (choice ∷ first) (plain.Jump (length all) ∷ second)
      ∙ ap (λ n. p ++ choice ∷ (first ++ plain.Jump n ∷ second)) last

  pub branch_jumps : (js : List ℕ) → with_jumps (js ++ jump ∷ []) (length all) all
      ≡ with_jumps js (length (p ++ branch (branch_choice is_first) c b (length p))) (p ++ branch (branch_choice is_first) c b (length p))
  branch_jumps js =
      let long : length all ≡ length (p ++ branch (branch_choice is_first) c b (length p)) =
      sym (length-set all jump (plain.Jump (length all))) ∙ ap length branch_patched in
      with_jumps_last js jump (length all) all ∙ ap (with_jumps js (length all)) branch_patched
      ∙ ap (λ n. with_jumps js n (p ++ branch (branch_choice is_first) c b (length p))) long

module _ (a : Analysis) where
  -- the states once these branches are added, whose jumps to the end have no target yet
  abbrev pub with_branches : Layout → Bool → List Info → List plain.NfaState
  with_branches s is_first is =
      states_in s ++ branches (branch_choice is_first) (each_laid a.tree (trees_of is)) (length (states_in s))

  module _ (l : List Info) (i : ℕ) (x : Info) (lt : i < length l) (at : x ≡ get_or l i x) (is_first : Bool) (s t : Layout) where
    abbrev rest : List Info
    rest = drop (i + 1) l

    pub branch_step : i + 1 < length l → Adds (ended_by_jump is_first (laid a.tree (info_tree x))) (texts_of (info_tree x)) s t → (jump : ℕ) →
        jump + 1 ≡ length (states_in t) → (js : List ℕ) →
        with_jumps (js ++ jump ∷ []) (length (with_branches t false rest)) (with_branches t false rest)
        ≡ with_jumps js (length (with_branches s is_first (drop i l))) (with_branches s is_first (drop i l))
    branch_step left h jump end js =
        let cs = each_laid a.tree (trees_of rest) in
        let more : 0 < length cs = omega (arith, each_length a.tree rest, length-drop (i + 1) l) in
        branch_jumps is_first (states_in s) (states_in t) (laid a.tree (info_tree x)) (branches plain.BranchSplit cs) jump h.added.states end js
        ∙ ap (λ (c : NfaCode). with_jumps js (length (states_in s ++ c (length (states_in s)))) (states_in s ++ c (length (states_in s))))
        (sym (branches_more (branch_choice is_first) (laid a.tree (info_tree x)) cs more))
        ∙ ap (λ m. with_jumps js (length (with_branches s is_first m)) (with_branches s is_first m)) (sym (rest_at l i x lt at))

    -- the last branch is added as it is
    pub branch_end : length l ≤ i + 1 → Adds (laid a.tree (info_tree x)) (texts_of (info_tree x)) s t → with_branches s is_first (drop i l) ≡ states_in t
    branch_end end h =
        ap (with_branches s is_first) (rest_at l i x lt at ∙ ap (λ m. x ∷ m) (drop_all (i + 1) l end)) ∙ sym h.added.states

-- ---- the class texts that are left

module _ (unicode : Bool) (l : List Info) (i : ℕ) where
  pub classes_step : (x : Info) → i < length l → x ≡ get_or l i x → AreClasses unicode (texts_of (info_tree x)) →
      AreClasses unicode (texts_in (trees_of (drop (i + 1) l))) → AreClasses unicode (texts_in (trees_of (drop i l)))
  classes_step x lt at h g =
      subst (λ m. AreClasses unicode (texts_in (trees_of m))) (sym (rest_at l i x lt at))
      (classes_more unicode (info_tree x) (trees_of (drop (i + 1) l)) h g)

  pub classes_end : length l ≤ i → AreClasses unicode (texts_in (trees_of (drop i l)))
  classes_end end = subst (λ m. AreClasses unicode (texts_in (trees_of m))) (sym (drop_all i l end)) (λ inner casei h. elim h.1.0 [ ])
