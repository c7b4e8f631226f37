-- Delegates: of neighbouring easy nodes the first way alone, which equals all of them up to the easy key, and where each
-- node takes a constant number of characters also by the key.
use Rattle.std.proofs.Common.{◌≡◌, ℕ, ◌≤◌, Bool, true, false, not, ◌&&◌, ◌==◌, List, map, take, refl, sym, ap, ◌∙◌, ◌+◌, arith}
use Rattle.fancy_meaning.specs.Tree.{Tree}
use Rattle.fancy_meaning.specs.Nodes.{nodes}
use Rattle.fancy_meaning.specs.OpenCalls.{Depths, free_calls}
use Rattle.fancy_meaning.specs.MatchState.{MatchState, Ways, in_order}
use Rattle.fancy_meaning.specs.Ways.{Setting, called, ways}
use Rattle.fancy_meaning.specs.Options.{CompileOptions, Plan}
use Rattle.fancy_meaning.specs.Keys.{key, easy_key}
use Rattle.fancy_meaning.specs.Sizes.{size}
use Rattle.fancy_meaning.specs.Premises.{Analysed, analysis, tree_of, IsText, IsSoundState}
use Rattle.fancy_meaning.specs.Laws.{SizeLaw}
use Rattle.fancy_laws.proofs.Every.{Every, no_item, item, every_map, every_weaker, every_flat_map}
use Rattle.fancy_delegation.proofs.Items.{IsIn, every_is_in}
use Rattle.fancy_delegation.proofs.Reduced.{Same}
use Rattle.fancy_delegation.proofs.Respect.{ways_alike}
use Rattle.fancy_delegation.proofs.Kept.{EachKept}
use Rattle.fancy_delegation.proofs.KeyParts.{Agree, key_gives, end_by_parts, easy_key_gives}
use Rattle.fancy_delegation.proofs.EasyNodes.{IsEasy}
use Rattle.fancy_delegation.proofs.EasyKeeps.{SameEndText, easy_agrees}
use Rattle.fancy_delegation.proofs.Evenly.{TakesExactly, Evenly, exactly, exactly_next, evenly_next, one_end, evenly_agree, ways_keep_sound, const_takes}
use Rattle.fancy_delegation.proofs.Counting.{no_chars}
use Rattle.fancy_delegation.proofs.EasyAgrees.{easy_is_const, easy_takes_evenly, node_evenly}
use Rattle.fancy_delegation.proofs.IsRefined.{first_is_refined}
use Rattle.fancy_delegation.proofs.Refined.{IsPart, EqualUpTo, part_in_order}

-- states with what an easy node leaves alone in common with one state have it in common
agree_both : (p : Plan) (s t u : MatchState) → Agree p s t → Agree p s u → Agree p t u
agree_both p s t u a b = record { kept = sym a.kept ∙ b.kept; flag = sym a.flag ∙ b.flag; spans = λ g r. sym (a.spans g r) ∙ b.spans g r }

-- the plan of a tree that is analysed
abbrev pub plan_for : Analysed → CompileOptions → Plan
plan_for a o = record { analysis = analysis a; options = o }

-- an easy node of the tree
pub record IsDelegated (a : Analysed) (e : Tree) : Type 0 where
  pub there : IsIn e (nodes (tree_of a))
  pub easy : IsEasy (analysis a) e

-- one that takes as much each time
abbrev pub IsConst : Analysed → Tree → Type 0
IsConst a e = (size (tree_of a) e).is_const ≡ true

module _ (q : Setting) (a : Analysed) (depths : Depths) where
  -- the ways of neighbours, one after the other
  abbrev pub batch_ways : List Tree → Ways
  batch_ways es = in_order (map (λ e. ways q (tree_of a) e depths) es)

  -- the first of them
  abbrev pub first_of_batch : List Tree → Ways
  first_of_batch es s = take 1 (batch_ways es s)

module _ (size_law : SizeLaw) (a : Analysed) (o : CompileOptions) (q : Setting) (is_text : IsText q.text) (depths : Depths) where
  -- a node of the tree is a part
  pub part_of_tree : (e : Tree) → IsIn e (nodes (tree_of a)) → IsPart (plan_for a o) q (ways q (tree_of a) e depths)
  part_of_tree e there = record {
    sound = ways_keep_sound size_law q a is_text e depths there;
    respects = ways_alike (plan_for a o) q e depths there;
  }

  part_of_batch : {es : List Tree} → Every (IsDelegated a) es → IsPart (plan_for a o) q (batch_ways q a depths es)
  part_of_batch h = part_in_order (plan_for a o) q (every_map (λ e. ways q (tree_of a) e depths) (λ e d. part_of_tree e d.there) h)

  -- one after the other they take as much each time, where each does
  batch_exactly : {es : List Tree} → Every (IsDelegated a) es → Every (IsConst a) es →
      (n : ℕ) × TakesExactly q (tree_of a) n (batch_ways q a depths es)
  batch_exactly no_item c = (0, λ s ok. item (no_chars q.text s.place s.place (omega arith)) no_item)
  batch_exactly (item {x = e} {xs = es} h hs) (item c cs) =
      let rest = batch_exactly hs cs in (
        (size (tree_of a) e).least + rest.0,
        exactly_next q (tree_of a) (size (tree_of a) e).least rest.0 (ways q (tree_of a) e depths)
            (batch_ways q a depths es) (part_of_tree e h.there).sound (part_of_batch hs).sound
            (const_takes size_law q a is_text e depths h.there c) rest.1,
      )

  -- where the longest match is asked for, each node takes as much each time
  const_where_longest : (a.options).leftmost_longest ≡ true → {es : List Tree} → Every (IsDelegated a) es → Every (IsConst a) es
  const_where_longest on h = every_weaker (λ e d. easy_is_const (analysis a) e d.easy on) h

  batch_evenly : (a.options).find_not_empty ≡ true → {es : List Tree} → Every (IsDelegated a) es → Evenly q (tree_of a) (batch_ways q a depths es)
  batch_evenly asked no_item = exactly 0 (λ s ok. item (no_chars q.text s.place s.place (omega arith)) no_item)
  batch_evenly asked (item {x = e} {xs = es} h hs) =
      evenly_next q (tree_of a) (ways q (tree_of a) e depths) (batch_ways q a depths es) (part_of_tree e h.there).sound (part_of_batch hs).sound
      (node_evenly size_law q a is_text e depths h.there (easy_takes_evenly (analysis a) e h.easy asked)) (batch_evenly asked hs)

  module _ (same : SameEndText (plan_for a o)) where
    -- what a batch leaves alone
    pub batch_agrees : {es : List Tree} → Every (IsDelegated a) es → EachKept (Agree (plan_for a o)) (batch_ways q a depths es)
    batch_agrees no_item s = item (record { kept = refl; flag = refl; spans = λ g r. refl }) no_item
    batch_agrees (item {x = e} {xs = es} h hs) s =
        every_flat_map (batch_ways q a depths es)
        (λ t r.
        every_weaker
        (λ u r'. record {
          kept = r.kept ∙ r'.kept;
          flag = r.flag ∙ r'.flag;
          spans =
              λ g i. r.spans g i ∙ r'.spans g i;
        }) (batch_agrees hs t))
        (easy_agrees (plan_for a o) same q (called q (tree_of a) (free_calls (tree_of a) depths) depths) e h.easy s)

    module _ {es : List Tree} (h : Every (IsDelegated a) es) where
      in_common : (s t u : MatchState) → IsIn t (batch_ways q a depths es s) → IsIn u (batch_ways q a depths es s) → Agree (plan_for a o) t u
      in_common s t u i j = agree_both (plan_for a o) s t u (every_is_in (batch_agrees h s) i) (every_is_in (batch_agrees h s) j)

      one_place : Every (IsConst a) es → (s : MatchState) → IsSoundState q (tree_of a) s → (t u : MatchState) →
          IsIn t (batch_ways q a depths es s) → IsIn u (batch_ways q a depths es s) → t.place ≡ u.place
      one_place const s ok t u i j =
          let takes = batch_exactly h const in
          one_end q (tree_of a) takes.0 (batch_ways q a depths es) (part_of_batch h).sound takes.1 s t u ok i j

      one_easy_key : (s : MatchState) (from : ℕ) → IsSoundState q (tree_of a) s → from ≤ s.place → (t u : MatchState) →
          IsIn t (batch_ways q a depths es s) → IsIn u (batch_ways q a depths es s) →
          Same (easy_key (plan_for a o) from) t u
      one_easy_key s from ok le t u i j =
          easy_key_gives (plan_for a o) from t u
          (end_by_parts (plan_for a o) from t u (λ on. one_place (const_where_longest on h) s ok t u i j)
          (here (a.options).find_not_empty refl)) (in_common s t u i j)
        where
          here : (v : Bool) → (a.options).find_not_empty ≡ v → ((a.options).find_not_empty && not (t.place == from))
              ≡ ((a.options).find_not_empty && not (u.place == from))
          here true asked =
              ap (λ v. (a.options).find_not_empty && not v)
              (evenly_agree q (tree_of a) (batch_ways q a depths es) (part_of_batch h).sound
              (batch_evenly asked h) s t u from ok le i j)
          here false off = ap (λ v. v && not (t.place == from)) off ∙ sym (ap (λ v. v && not (u.place == from)) off)

      one_key : Every (IsConst a) es → (s : MatchState) → IsSoundState q (tree_of a) s → (t u : MatchState) →
          IsIn t (batch_ways q a depths es s) → IsIn u (batch_ways q a depths es s) → Same (key (plan_for a o)) t u
      one_key const s ok t u i j =
          key_gives (plan_for a o) t u (one_place const s ok t u i j) (in_common s t u i j)

      -- in an easy context
      pub key_equal_batch : EqualUpTo (plan_for a o) q false (first_of_batch q a depths es) (batch_ways q a depths es)
      key_equal_batch = record { by = λ s from ok le. first_is_refined (batch_ways q a depths es s) (one_easy_key s from ok le) }

      -- and in a hard one, where each node takes a constant number of characters
      pub key_equal_const_batch : Every (IsConst a) es → EqualUpTo (plan_for a o) q true (first_of_batch q a depths es) (batch_ways q a depths es)
      key_equal_const_batch const = record { by = λ s from ok le. first_is_refined (batch_ways q a depths es s) (one_key const s ok) }
