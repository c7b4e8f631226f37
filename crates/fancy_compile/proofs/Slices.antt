-- Neighbours that are some of others, and runs of nodes that may be a batch.
use Rattle.std.proofs.Common.{◌≡◌, ℕ, zero, suc, ◌+◌, ◌-◌, ◌≤◌, Bool, true, false, not, List, [], ◌∷◌, length, map, take, drop, reverse, if◌then◌else◌, true≢false, refl, sym, ap, ◌∙◌, subst, arith}
use Rattle.std.specs.List.{prefix_len, suffix_len}
use Rattle.std.proofs.lemmas.Bool.{and_parts}
use Rattle.std.proofs.lemmas.List.{length-reverse, reverse-reverse}
use Rattle.fancy_meaning.specs.Tree.{Within}
use Rattle.fancy_meaning.specs.Options.{Analysis}
use Rattle.fancy_state.proofs.HeldLaws.{reverse-take}
use Rattle.fancy_info.specs.declared.info.Info.{Info}
use Rattle.fancy_info.specs.declared.info.Info.TheViews.{out-Info}
use Rattle.fancy_info.specs.Infos.{info_tree, info_hard, AreInTurn, IsAnalysed}
use Rattle.fancy_expr.specs.Each.{Each}
use Rattle.fancy_nfa.specs.Neighbours.{IsEasy}
use Rattle.fancy_nfa.specs.Nfas.{AreFine}
use Rattle.fancy_fragments.specs.Nodes.{AreEasyNeighbours}
use Rattle.fancy_compile.specs.declared.scope.Scope.{Scope}
use Rattle.fancy_info.specs.NodeCounts.{node_counts}
use Rattle.fancy_compile.specs.Nodes.{AreWhole}
use Rattle.fancy_compile.specs.AnalysedNodes.{back_start, front_count, is_back, is_front}
use Rattle.fancy_compile.proofs.Known.{hard_child}
use Rattle.fancy_compile.proofs.EachLaws.{each_take, each_drop, each_reverse}

-- ---- runs that pass a test

one_more : (n : ℕ) → suc n ≡ 1 + n
one_more n = omega arith

module _ {X : Type 0} (test : X → Bool) where
  pub front_passes : (l : List X) → Each (λ x. test x ≡ true) (take (prefix_len test l) l)
  front_passes [] = tt
  front_passes (x ∷ l) = elim (test x) as (λ b. test x ≡ b → Each (λ y. test y ≡ true) (take (if b then 1 + prefix_len test l else 0) (x ∷ l))) [
    | true ↦ λ is. subst (λ k. Each (λ y. test y ≡ true) (take k (x ∷ l))) (one_more (prefix_len test l)) (is, front_passes l)
    | false ↦ λ is. tt
  ] refl

  -- the last ones, as they stand and turned around
  pub back_turned : (l : List X) → reverse (take (suffix_len test l) (reverse l)) ≡ drop (length l - suffix_len test l) l
  back_turned l =
      let k = suffix_len test l in
      reverse-take (reverse l) k ∙ ap (λ n. drop (n - k) (reverse (reverse l))) (length-reverse l) ∙ ap (drop (length l - k)) (reverse-reverse l)

  pub back_passes : (l : List X) → Each (λ x. test x ≡ true) (drop (length l - suffix_len test l) l)
  back_passes l =
      subst (Each (λ x. test x ≡ true)) (back_turned l)
      (each_reverse (λ x. test x ≡ true) (take (suffix_len test l) (reverse l)) (front_passes (reverse l)))

-- ---- some of neighbours

fine_take : (n : ℕ) (l : List Info) → AreFine (map info_tree l) → AreFine (map info_tree (take n l))
fine_take zero l h = tt
fine_take (suc n) [] h = tt
fine_take (suc n) (x ∷ l) h = (h.0, fine_take n l h.1)

fine_drop : (n : ℕ) (l : List Info) → AreFine (map info_tree l) → AreFine (map info_tree (drop n l))
fine_drop zero l h = h
fine_drop (suc n) [] h = tt
fine_drop (suc n) (x ∷ l) h = fine_drop n l h.1

turn_take : (w : Within) (n first : ℕ) (l : List Info) → AreInTurn w first l → AreInTurn w first (take n l)
turn_take w zero first l h = tt
turn_take w (suc n) first [] h = tt
turn_take w (suc n) first (x ∷ l) h = (h.0, h.1, turn_take w n (out-Info x).end_group l h.2)

turn_drop : (w : Within) (n first : ℕ) (l : List Info) → AreInTurn w first l → (from : ℕ) × AreInTurn w from (drop n l)
turn_drop w zero first l h = (first, h)
turn_drop w (suc n) first [] h = (first, tt)
turn_drop w (suc n) first (x ∷ l) h = turn_drop w n (out-Info x).end_group l h.2

total_take : (n : ℕ) (l : List Info) → node_counts (take n l) ≤ node_counts l
total_take zero l = omega arith
total_take (suc n) [] = omega arith
total_take (suc n) (x ∷ l) = omega (arith, total_take n l)

total_drop : (n : ℕ) (l : List Info) → node_counts (drop n l) ≤ node_counts l
total_drop zero l = omega arith
total_drop (suc n) [] = omega arith
total_drop (suc n) (x ∷ l) = omega (arith, total_drop n l)

-- the middle of neighbours is smaller
pub total_middle : (n m : ℕ) (l : List Info) → node_counts (take m (drop n l)) ≤ node_counts l
total_middle n m l = omega (arith, total_take m (drop n l), total_drop n l)

module _ (scope : Scope) where
  pub whole_take : (n : ℕ) (l : List Info) → AreWhole scope l → AreWhole scope (take n l)
  whole_take n l h = record {
    analysis = h.analysis;
    of_tree = h.of_tree;
    each = each_take (IsAnalysed h.analysis) n l h.each;
    small = omega (arith, total_take n l, h.small);
    fine = fine_take n l h.fine;
    within = h.within;
    first = h.first;
    in_turn = turn_take h.within n h.first l h.in_turn;
  }

  pub whole_drop : (n : ℕ) (l : List Info) → AreWhole scope l → AreWhole scope (drop n l)
  whole_drop n l h = record {
    analysis = h.analysis;
    of_tree = h.of_tree;
    each = each_drop (IsAnalysed h.analysis) n l h.each;
    small = omega (arith, total_drop n l, h.small);
    fine = fine_drop n l h.fine;
    within = h.within;
    first = (turn_drop h.within n h.first l h.in_turn).0;
    in_turn = (turn_drop h.within n h.first l h.in_turn).1;
  }

-- ---- easy nodes

pub not_true : (b : Bool) → not b ≡ true → b ≡ false
not_true false h = refl
not_true true h = absurd (true≢false (sym h))

module _ (test : Info → Bool) (says : (i : Info) → test i ≡ true → info_hard i ≡ false) where
  easy_each : (a : Analysis) (l : List Info) → Each (IsAnalysed a) l → Each (λ i. test i ≡ true) l → Each (IsEasy a) l
  easy_each a [] h t = tt
  easy_each a (i ∷ l) h t = (record { analysed = h.0; easy = sym (hard_child a i h.0) ∙ says i t.0 }, easy_each a l h.1 t.1)

  neighbours : (scope : Scope) (l : List Info) → AreWhole scope l → Each (λ i. test i ≡ true) l → AreEasyNeighbours l
  neighbours scope l h t = record {
    analysis = h.analysis;
    each = easy_each h.analysis l h.each t;
    fine = h.fine;
    within = h.within;
    first = h.first;
    in_turn = h.in_turn;
  }

front_easy : (i : Info) → is_front i ≡ true → info_hard i ≡ false
front_easy i h = not_true (info_hard i) (and_parts (not (info_hard i)) _ h).0

back_easy : (in_hard : Bool) (i : Info) → is_back in_hard i ≡ true → info_hard i ≡ false
back_easy in_hard i h = not_true (info_hard i) (and_parts (not (info_hard i)) _ h).0

-- the first batch
pub front_neighbours : (scope : Scope) (l : List Info) → AreWhole scope l → AreEasyNeighbours (take (front_count l) l)
front_neighbours scope l h =
    neighbours is_front front_easy scope (take (front_count l) l) (whole_take scope (front_count l) l h) (front_passes is_front l)

pub front_each : (a : Analysis) (l : List Info) → Each (IsAnalysed a) l → Each (IsEasy a) (take (front_count l) l)
front_each a l h = easy_each is_front front_easy a (take (front_count l) l) (each_take (IsAnalysed a) (front_count l) l h) (front_passes is_front l)

-- the last batch
pub back_neighbours : (in_hard : Bool) (scope : Scope) (l : List Info) → AreWhole scope l → AreEasyNeighbours (drop (back_start in_hard l) l)
back_neighbours in_hard scope l h =
    neighbours (is_back in_hard) (back_easy in_hard) scope (drop (back_start in_hard l) l) (whole_drop scope (back_start in_hard l) l h)
    (back_passes (is_back in_hard) l)

pub back_each : (in_hard : Bool) (a : Analysis) (l : List Info) → Each (IsAnalysed a) l → Each (IsEasy a) (drop (back_start in_hard l) l)
back_each in_hard a l h =
    easy_each (is_back in_hard) (back_easy in_hard) a (drop (back_start in_hard l) l) (each_drop (IsAnalysed a) (back_start in_hard l) l h)
    (back_passes (is_back in_hard) l)
