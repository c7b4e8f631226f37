-- How deep easy nodes nest, by what stands in them.
use Rattle.std.proofs.Common.{◌≡◌, ℕ, zero, suc, ◌-◌, ◌<◌, ◌==◌, ◌^◌, ◌+◌, ◌≤◌, Bool, true, false, not, if◌then◌else◌, List, [], ◌∷◌, length, map, drop, get_or, inl, inr, Option, Some, None, option_map, true≢false, refl, sym, ap, ◌∙◌, subst, arith, eqb-true}
use Rattle.std.proofs.lemmas.List.{drop_all, length-map}
use Rattle.fancy_meaning.specs.CompileRefusals.{IsAmong, here, there, written_parts}
use Rattle.fancy_meaning.specs.Hard.{is_hard}
use Rattle.fancy_meaning.specs.OpenCalls.{Depths}
use Rattle.fancy_meaning.specs.Options.{Analysis}
use Rattle.fancy_meaning.specs.Spots.{is_never}
use Rattle.fancy_meaning.specs.Tree as plain
use Rattle.fancy_meaning.specs.Tree.{Tree, Trees, none, more, trees, parts, Repeat, SubroutineCall}
use Rattle.fancy_expr.specs.declared.expr.Absent.{Absent}
use Rattle.fancy_expr.specs.declared.expr.Absent.TheVariants as code_absent
use Rattle.fancy_expr.specs.declared.expr.Expr.{Expr}
use Rattle.fancy_expr.specs.declared.expr.Expr.TheVariants as code
use Rattle.fancy_expr.specs.Each.{Each}
use Rattle.fancy_expr.specs.Views.{bound_of}
use Rattle.fancy_info.specs.declared.info.Info.{Info}
use Rattle.fancy_info.specs.declared.info.Info.TheViews.{out-Info}
use Rattle.fancy_info.specs.Infos.{nth, node_over, absent_over, info_tree, info_children, info_within, IsFound, IsAnalysed}
use Rattle.fancy_info.proofs.Children.{rest_at}
use Rattle.fancy_info.proofs.OverParts.{over-parts}
use Rattle.fancy_info.proofs.Unfolded.{tree_out, each_below}
use Rattle.fancy_nfa.specs.Neighbours.{IsEasy}
use Rattle.fancy_code.specs.Faults.{too_deep, StayWithin, HasRejected}
use Rattle.fancy_code.specs.Nesting.{NestsDeeper, NestsOver, alone, over_part, over_called}
use Rattle.fancy_code.specs.Sites.{Site}
use Rattle.fancy_code.proofs.EasyClasses.{easy_part}
use Rattle.fancy_compile.specs.Nests.{is_entered, IsDeeper, IsNoDeeper, OneDeeper, NoneDeeper}
use Rattle.fancy_compile.proofs.Known.{known_child}

-- ---- what is written out with an easy node

loop_parts : (lo : ℕ) (hi : Option ℕ) (greedy : Bool) (e : Tree) → is_never hi ≡ false → written_parts (Repeat lo hi greedy e) ≡ more e none
loop_parts lo None greedy e h = refl
loop_parts lo (Some zero) greedy e h = absurd (true≢false h)
loop_parts lo (Some (suc n)) greedy e h = refl

entered_bound : (b : Bool) (n : ℕ) → is_never (if b then None else Some (suc n)) ≡ false
entered_bound true n = refl
entered_bound false n = refl

entered_loop : (hi : ℕ) → not (hi == 0) ≡ true → is_never (bound_of hi) ≡ false
entered_loop zero h = absurd (true≢false (sym h))
entered_loop (suc n) h = entered_bound (suc n == 2 ^ 64 - 1) n

never_entered : (b : Bool) → not b ≡ false → b ≡ true
never_entered true h = refl
never_entered false h = absurd (true≢false h)

module _ (a : Analysis) (n : ℕ) (w : plain.Within) (ts : Trees) where
  absent_parts : (x : Absent) → is_hard a (absent_over x ts) ≡ false → written_parts (absent_over x ts) ≡ parts (absent_over x ts)
  absent_parts (code_absent.Repeater' b e) h = refl
  absent_parts (code_absent.Expression' b x c e) h = cc
  absent_parts (code_absent.Stopper' b e) h = cc
  absent_parts code_absent.Clear h = refl

  entered_parts : (e : Expr) → is_hard a (node_over e n w ts) ≡ false → is_entered e ≡ true → written_parts (node_over e n w ts) ≡ parts (node_over e n w ts)
  entered_parts (code.Repeat' b e lo hi greedy) h is = loop_parts lo (bound_of hi) greedy _ (entered_loop hi is)
  entered_parts (code.DefineGroup' b e) h is = absurd (true≢false (sym is))
  entered_parts (code.Absent x) h is = absent_parts x h
  entered_parts e h is = refl

  parts_not_entered : (e : Expr) → is_entered e ≡ false → written_parts (node_over e n w ts) ≡ none
  parts_not_entered (code.Repeat' b e lo hi greedy) is =
      ap (λ m. written_parts (Repeat lo (bound_of m) greedy (nth ts 0))) (eqb-true hi 0 (never_entered (hi == 0) is))
  parts_not_entered (code.DefineGroup' b e) is = refl
  parts_not_entered e is = absurd (true≢false is)

easy_among : (a : Analysis) (l : List Info) → Each (IsAnalysed a) l →
    ((c : Tree) → IsAmong c (trees (map info_tree l)) → is_hard a c ≡ false) → Each (IsEasy a) l
easy_among a [] h easy = tt
easy_among a (i ∷ l) h easy = (record { analysed = h.0; easy = easy (info_tree i) here }, easy_among a l h.1 (λ c m. easy c (there m)))

module _ (a : Analysis) (i : Info) (h : IsEasy a i) (e : Expr) (at : (out-Info i).expr.now ≡ e) where
  abbrev below_it : List Tree
  below_it = map info_tree (info_children i)

  abbrev over : Expr → Tree
  over x = node_over x (out-Info i).start_group (info_within i) (trees below_it)

  tree_is : info_tree i ≡ over e
  tree_is = tree_out i ∙ ap over at

  pub children_written : is_entered e ≡ true → written_parts (info_tree i) ≡ trees below_it
  children_written is =
      let easy = ap (is_hard a) (sym tree_is) ∙ h.easy in
      ap written_parts tree_is ∙ entered_parts a (out-Info i).start_group (info_within i) (trees below_it) e easy is
      ∙ ap (λ x. parts (over x)) (sym at)
      ∙ over-parts (out-Info i).expr.now (out-Info i).start_group (info_within i) below_it
      (length-map (info_children i) info_tree ∙ ((known_child a i h.analysed).node).arity)

  pub none_written : is_entered e ≡ false → written_parts (info_tree i) ≡ none
  none_written is = ap written_parts tree_is ∙ parts_not_entered a (out-Info i).start_group (info_within i) (trees below_it) e is

  pub children_easy : is_entered e ≡ true → Each (IsEasy a) (info_children i)
  children_easy is =
      easy_among a (info_children i) (each_below (IsFound a) i h.analysed)
      (λ c m. easy_part a (info_tree i) c h.easy (subst (IsAmong c) (sym (children_written is)) m))

-- ---- how deep a node nests

module _ (whole : Tree) (calls : Depths) where
  -- an easy node is no call
  pub no_deeper : (a : Analysis) (e : Tree) → is_hard a e ≡ false → (n : ℕ) → ((c : Tree) → IsAmong c (written_parts e) → ¬ NestsDeeper whole calls n c)
      → ¬ NestsDeeper whole calls (suc n) e
  no_deeper a e easy n each (over_part {c = c} i h) = each c i h
  no_deeper a (SubroutineCall g) easy n each (over_called lt at h) = cc

one_less : (n : ℕ) → ¬ (n ≡ 0) → n ≡ suc (n - 1)
one_less n h = omega (arith, h)

pub deeper_by_one : (e : Tree) (es : List Info) (most : ℕ) → ¬ (most ≡ 0) → written_parts e ≡ trees (map info_tree es) →
    OneDeeper (most - 1) es → IsDeeper most e
deeper_by_one e es most some written (c, i, h) = λ whole calls.
    subst (λ n. NestsDeeper whole calls n e) (sym (one_less most some)) (over_part (subst (IsAmong c) (sym written) i) (h whole calls))

pub no_deeper_by_all : (a : Analysis) (e : Tree) → is_hard a e ≡ false → (es : Trees) (most : ℕ) → ¬ (most ≡ 0) → written_parts e ≡ es
    → ((c : Tree) → IsAmong c es → IsNoDeeper (most - 1) c) → IsNoDeeper most e
no_deeper_by_all a e easy es most some written each = λ whole calls.
    subst (λ n. ¬ NestsDeeper whole calls n e) (sym (one_less most some))
    (no_deeper whole calls a e easy (most - 1) (λ c i. each c (subst (IsAmong c) written i) whole calls))

pub none_below : (c : Tree) → (most : ℕ) → IsAmong c none → IsNoDeeper most c
none_below c most i = elim i [ ]

-- ---- neighbours

among_at : (l : List Info) (i : ℕ) (x : Info) → i < length l → x ≡ get_or l i x → IsAmong (info_tree x) (trees (map info_tree l))
among_at [] i x lt at = absurd (omega arith)
among_at (y ∷ l) zero x lt at = subst (λ z. IsAmong (info_tree z) (trees (map info_tree (y ∷ l)))) (sym at) here
among_at (y ∷ l) (suc i) x lt at = there (among_at l i x (omega arith) at)

pub one_at : (l : List Info) (i : ℕ) (x : Info) (most : ℕ) → i < length l → x ≡ get_or l i x → IsDeeper most (info_tree x) → OneDeeper most l
one_at l i x most lt at h = (info_tree x, among_at l i x lt at, h)

none_more : (x : Info) (l : List Info) (most : ℕ) → IsNoDeeper most (info_tree x) → NoneDeeper most l → NoneDeeper most (x ∷ l)
none_more x l most h rest e here = h
none_more x l most h rest e (there i) = rest e i

pub none_at : (l : List Info) (i : ℕ) (x : Info) (most : ℕ) → i < length l → x ≡ get_or l i x → IsNoDeeper most (info_tree x)
    → NoneDeeper most (drop (i + 1) l) → NoneDeeper most (drop i l)
none_at l i x most lt at h rest = subst (NoneDeeper most) (sym (rest_at l i x lt at)) (none_more x (drop (i + 1) l) most h rest)

pub none_left : (l : List Info) (i : ℕ) (most : ℕ) → length l ≤ i → NoneDeeper most (drop i l)
none_left l i most end = subst (NoneDeeper most) (sym (drop_all i l end)) (λ e i. none_below e most i)

-- ---- at a site

module _ (p : Site) where
  pub stay_within : (most : ℕ) → p.room ≡ Some most → (is : List Info) → NoneDeeper most is → StayWithin p (map info_tree is)
  stay_within most room [] h = tt
  stay_within most room (i ∷ is) h = (
    λ deep. h (info_tree i) here p.analysis.tree p.depths (subst (λ r. NestsOver p.analysis.tree p.depths r (info_tree i)) room deep),
    stay_within most room is (λ e m. h e (there m)),
  )

  pub no_limit : p.room ≡ None → (is : List Info) → StayWithin p (map info_tree is)
  no_limit room [] = tt
  no_limit room (i ∷ is) = (λ deep. subst (λ r. NestsOver p.analysis.tree p.depths r (info_tree i)) room deep, no_limit room is)

  one_deep : (most : ℕ) → p.room ≡ Some most → (is : List Info) (e : Tree) → IsAmong e (trees (map info_tree is)) → IsDeeper most e
      → HasRejected p (map info_tree is) too_deep
  one_deep most room [] e i h = elim i [ ]
  one_deep most room (i ∷ is) e here h =
      inl (subst (λ r. NestsOver p.analysis.tree p.depths r (info_tree i)) (sym room) (h p.analysis.tree p.depths))
  one_deep most room (i ∷ is) e (there m) h = inr (one_deep most room is e m h)

  pub some_deep : (most : ℕ) → p.room ≡ Some most → (is : List Info) → OneDeeper most is → HasRejected p (map info_tree is) too_deep
  some_deep most room is h = one_deep most room is h.0 h.1 h.2
