-- The range of the groups of neighbouring nodes.
use Rattle.std.proofs.Common.{◌≡◌, ℕ, zero, suc, ◌+◌, ◌-◌, Bool, true, false, ◌==◌, if◌then◌else◌, List, [], ◌∷◌, ◌++◌, length, map, flat_map, slice_get, Some, None, refl, sym, ap, ap₂, subst, ◌∙◌, arith, length-append}
use Rattle.std.proofs.lemmas.Bool.{eq-eqb, ne_eqb}
use Rattle.std.proofs.lemmas.List.{map-append}
use Rattle.fancy_meaning.specs.Tree.{Tree, Within}
use Rattle.fancy_meaning.specs.Batches.{group_range}
use Rattle.fancy_meaning.specs.Nodes.{groups, group_count}
use Rattle.fancy_meaning.specs.Options.{Analysis}
use Rattle.fancy_meaning.specs.Places.{range_from}
use Rattle.fancy_expr.specs.Each.{Each}
use Rattle.fancy_expr.proofs.Numbered.{count-numbered}
use Rattle.fancy_info.specs.declared.info.Info.{Info}
use Rattle.fancy_info.specs.declared.info.Info.TheViews.{out-Info}
use Rattle.fancy_info.specs.Infos.{info_tree, info_within, AreInTurn, IsAnalysed}
use Rattle.fancy_info.proofs.GroupNumbers.{numbers}
use Rattle.fancy_fragments.specs.declared.delegate.CaptureGroupRange.{CaptureGroupRange}
use Rattle.fancy_fragments.specs.Delegates.{range_of}
use Rattle.fancy_fragments.specs.Nodes.{AreEasyNeighbours, plain_tree, start_of}
use Rattle.fancy_fragments.proofs.FragmentNodes.{each_analysed}
use Rattle.fancy_fragments.proofs.Numbered.{is_numbered, ends}

abbrev Groups : Type 0
Groups = List (ℕ × Tree)

abbrev numbers_of : Groups → List ℕ
numbers_of gs = map (λ g. g.0) gs

-- they have the numbers from n on
abbrev GoFrom : ℕ → Groups → Type 0
GoFrom n gs = numbers_of gs ≡ range_from n (length gs)

abbrev groups_in : List Info → Groups
groups_in is = flat_map groups (map info_tree is)

range_split : (n a b : ℕ) → range_from n (a + b) ≡ range_from n a ++ range_from (n + a) b
range_split n zero b = ap (λ k. range_from n k) (omega arith) ∙ ap (λ k. range_from k b) (omega arith)
range_split n (suc a) b =
    let out : suc a + b ≡ suc (a + b) = omega arith in
    let shift : suc n + a ≡ n + suc a = omega arith in
    ap (range_from n) out ∙ ap (λ l. n ∷ l) (range_split (suc n) a b ∙ ap (λ k. range_from (suc n) a ++ range_from k b) shift)

go_on : (n : ℕ) (gs hs : Groups) → GoFrom n gs → GoFrom (n + length gs) hs → GoFrom n (gs ++ hs)
go_on n gs hs first rest =
    map-append (λ g. g.0) gs hs
    ∙ ap₂ ◌++◌ first rest
    ∙ sym (range_split n (length gs) (length hs))
    ∙ ap (range_from n) (sym (length-append gs hs))

module _ (a : Analysis) where
  node_goes : (i : Info) → IsAnalysed a i → GoFrom (start_of i) (groups (info_tree i))
  node_goes i h =
      let is = sym (is_numbered a i h) in
      subst (λ e. GoFrom (start_of i) (groups e)) is (numbers (info_within i) (start_of i) (plain_tree i))

  node_ends : (i : Info) → IsAnalysed a i → (out-Info i).end_group ≡ start_of i + length (groups (info_tree i))
  unfolding group_count
  node_ends i h =
      ends a i h
      ∙ ap (λ n. start_of i + n) (sym (ap group_count (is_numbered a i h) ∙ count-numbered (info_within i) (start_of i) (plain_tree i)))

  all_go : (w : Within) (n : ℕ) (is : List Info) → Each (IsAnalysed a) is → AreInTurn w n is → GoFrom n (groups_in is)
  all_go w n [] h turn = refl
  all_go w n (i ∷ is) h (within, starts, rest) =
      let next : (out-Info i).end_group ≡ n + length (groups (info_tree i)) =
      node_ends i h.0 ∙ ap (λ k. k + length (groups (info_tree i))) starts in
      go_on n (groups (info_tree i)) (groups_in is) (subst (λ k. GoFrom k (groups (info_tree i))) starts (node_goes i h.0))
      (subst (λ k. GoFrom k (groups_in is)) next (all_go w (out-Info i).end_group is h.1 rest))

  -- the last one ends behind the groups of all
  last_ends : (w : Within) (n : ℕ) (is : List Info) → Each (IsAnalysed a) is → AreInTurn w n is → (k : ℕ) → length is ≡ suc k → (last : Info) →
      Some last ≡ slice_get is k → (out-Info last).end_group ≡ n + length (groups_in is)
  last_ends w n [] h turn k len last at = absurd (omega (arith, len))
  last_ends w n (i ∷ []) h (within, starts, rest) zero len last at =
      let same : last ≡ i = cc in
      omega (arith, ap (λ x. (out-Info x).end_group) same, node_ends i h.0, starts, length-append (groups (info_tree i)) [])
  last_ends w n (i ∷ []) h turn (suc k) len last at = absurd (omega (arith, len))
  last_ends w n (i ∷ j ∷ is) h turn zero len last at = absurd (omega (arith, len))
  last_ends w n (i ∷ j ∷ is) h (within, starts, rest) (suc k) len last at =
      omega (
        arith,
        last_ends w (out-Info i).end_group (j ∷ is) h.1 rest k (omega (arith, len)) last at,
        node_ends i h.0,
        starts,
        length-append (groups (info_tree i)) (groups_in (j ∷ is)),
      )

first_begins : (w : Within) (n : ℕ) (is : List Info) → AreInTurn w n is → (first : Info) → Some first ≡ slice_get is 0 → start_of first ≡ n
first_begins w n [] turn first at = cc
first_begins w n (i ∷ is) (within, starts, rest) first at = let same : first ≡ i = cc in ap start_of same ∙ starts

no_range : (es : List Tree) → flat_map groups es ≡ [] → group_range es ≡ None
no_range es e = rw e refl

some_range : (es : List Tree) (g : ℕ × Tree) (gs : Groups) → flat_map groups es ≡ g ∷ gs → group_range es ≡ Some (g.0, g.0 + length (g ∷ gs))
some_range es g gs e = rw e refl

range_over : (es : List Tree) (gs : Groups) → flat_map groups es ≡ gs → (n m : ℕ) → GoFrom n gs → m ≡ n + length gs →
    (if n == m then None else Some (n, m)) ≡ group_range es
range_over es [] e n m starts end =
    ap (λ b. if b then None else Some (n, m)) (eq-eqb n m (omega (arith, end))) ∙ sym (no_range es e)
range_over es (g ∷ gs) e n m starts end =
    let same : g.0 ≡ n = cc in
    let far : m ≡ n + suc (length gs) = end in
    ap (λ b. if b then None else Some (n, m)) (ne_eqb n m (λ q. omega (arith, q, far)))
    ∙ ap₂ (λ x y. Some (x, y)) (sym same) (end ∙ ap (λ k. k + suc (length gs)) (sym same))
    ∙ sym (some_range es g gs e)

pub seen_range : (b : Bool) (r : CaptureGroupRange) → range_of (if b then None else Some r) ≡ (if b then None else Some (r.0, r.1))
seen_range true r = refl
seen_range false r = refl

some_length : (is : List Info) (last : Info) → Some last ≡ slice_get is (length is - 1) → length is ≡ suc (length is - 1)
some_length [] last at = cc
some_length (i ∷ is) last at = omega arith

pub between : (is : List Info) → AreEasyNeighbours is → (first last : Info) → Some first ≡ slice_get is 0 → Some last ≡ slice_get is (length is - 1) →
    (n m : ℕ) → n ≡ start_of first → m ≡ (out-Info last).end_group → (if n == m then None else Some (n, m)) ≡ group_range (map info_tree is)
between is h first last at_first at_last n m starts ends =
    let found = each_analysed h.analysis is h.each in
    let begins = starts ∙ first_begins h.within h.first is h.in_turn first at_first in
    let goes = all_go h.analysis h.within h.first is found h.in_turn in
    let far = last_ends h.analysis h.within h.first is found h.in_turn (length is - 1) (some_length is last at_last) last at_last in
    range_over (map info_tree is) (groups_in is) refl n m (subst (λ k. GoFrom k (groups_in is)) (sym begins) goes)
    (ends ∙ far ∙ ap (λ k. k + length (groups_in is)) (sym begins))
