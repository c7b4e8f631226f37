-- A sequence: its first children as one delegate, those between one by one, and its last ones as one delegate.
use Rattle.std.proofs.Common.{◌≡◌, ℕ, Bool, true, false, List, [], ◌∷◌, ◌++◌, map, refl, sym, ap, ◌∙◌, append-nil}
use Rattle.std.proofs.lemmas.List.{map-append}
use Rattle.fancy_meaning.specs.Tree.{Tree, Trees, none, more, children}
use Rattle.fancy_meaning.specs.Nodes.{nodes}
use Rattle.fancy_meaning.specs.OpenCalls.{Depths}
use Rattle.fancy_meaning.specs.MatchState.{MatchState, Ways, and_then, in_order}
use Rattle.fancy_meaning.specs.Ways.{Setting, ways_with, each_ways, ways}
use Rattle.fancy_meaning.specs.Options.{CompileOptions}
use Rattle.fancy_meaning.specs.Premises.{Analysed, tree_of, IsText}
use Rattle.fancy_meaning.specs.Laws.{SizeLaw}
use Rattle.fancy_laws.proofs.Every.{Every, every_map}
use Rattle.fancy_delegation.proofs.Items.{IsIn}
use Rattle.fancy_delegation.proofs.Binding.{flat_map_through, flat_map_same}
use Rattle.fancy_delegation.proofs.EasyKeeps.{SameEndText}
use Rattle.fancy_delegation.proofs.Refined.{IsPart, EqualUpTo, EachEqualUpTo, part_in_order, part_next, key_equal_as, key_equal_next, key_equal_in_order}
use Rattle.fancy_delegation.proofs.RefinedDelegates.{plan_for, first_of_batch, part_of_tree, IsDelegated, IsConst, key_equal_batch, key_equal_const_batch}

-- one sequence after another
pub in_order_append : (fs gs : List Ways) (s : MatchState) → in_order (fs ++ gs) s ≡ and_then (in_order fs) (in_order gs) s
in_order_append [] gs s = sym (append-nil (in_order gs s))
in_order_append (f ∷ fs) gs s =
    flat_map_same (in_order (fs ++ gs)) (λ t. and_then (in_order fs) (in_order gs) t) (in_order_append fs gs) (f s)
    ∙ sym (flat_map_through (in_order fs) (in_order gs) (f s))

-- the ways of children, as a list
pub each_ways_of : (q : Setting) (call : ℕ → Ways) (es : Trees) → each_ways q call es ≡ map (ways_with q call) (children es)
each_ways_of q call none = refl
each_ways_of q call (more e es) = ap (λ l. ways_with q call e ∷ l) (each_ways_of q call es)

module _ (size_law : SizeLaw) (a : Analysed) (o : CompileOptions) (q : Setting) (is_text : IsText q.text)
    (depths : Depths) (same : SameEndText (plan_for a o)) where
  abbrev means : Tree → Ways
  means e = ways q (tree_of a) e depths

  -- a delegate in its context
  pub key_equal_delegate : (in_hard : Bool) (es : List Tree) → Every (IsDelegated a) es →
      (in_hard ≡ true → Every (IsConst a) es) →
      EqualUpTo (plan_for a o) q in_hard (first_of_batch q a depths es) (in_order (map means es))
  key_equal_delegate true es h const = key_equal_const_batch size_law a o q is_text depths same h (const refl)
  key_equal_delegate false es h const = key_equal_batch size_law a o q is_text depths same h

  pub key_equal_concat : (in_hard : Bool) (front middle back : List Tree) (ks : List Ways) → Every (IsDelegated a) front →
      Every (IsConst a) front → Every (λ e. IsIn e (nodes (tree_of a))) middle →
      EachEqualUpTo (plan_for a o) q true ks (map means middle) → Every (IsDelegated a) back →
      (in_hard ≡ true → Every (IsConst a) back) →
      EqualUpTo (plan_for a o) q in_hard
      (and_then (first_of_batch q a depths front) (and_then (in_order ks) (first_of_batch q a depths back)))
      (in_order (map means (front ++ (middle ++ back))))
  key_equal_concat in_hard front middle back ks fd fc mn mk bd bc =
      let p = plan_for a o in
      let f = in_order (map means front) in
      let m = in_order (map means middle) in
      let b = in_order (map means back) in
      let of_front : IsPart p q f = part_in_order p q (every_map means (λ e d. part_of_tree size_law a o q is_text depths e d.there) fd) in
      let of_middle : Every (IsPart p q) (map means middle) = every_map means (λ e there. part_of_tree size_law a o q is_text depths e there) mn in
      let of_back : IsPart p q b = part_in_order p q (every_map means (λ e d. part_of_tree size_law a o q is_text depths e d.there) bd) in
      key_equal_as p q in_hard
      (and_then (first_of_batch q a depths front) (and_then (in_order ks) (first_of_batch q a depths back)))
      (and_then f (and_then m b)) (in_order (map means (front ++ (middle ++ back))))
      (λ s ok. three front middle back s)
      (key_equal_next p q in_hard (first_of_batch q a depths front) f
      (and_then (in_order ks) (first_of_batch q a depths back)) (and_then m b) of_front
      (part_next p q m b (part_in_order p q of_middle) of_back)
      (key_equal_delegate true front fd (λ e. fc))
      (key_equal_next p q in_hard (in_order ks) m (first_of_batch q a depths back) b (part_in_order p q of_middle) of_back
      (key_equal_in_order p q of_middle mk) (key_equal_delegate in_hard back bd bc)))
    where
      three : (front middle back : List Tree) (s : MatchState) →
          and_then (in_order (map means front)) (and_then (in_order (map means middle)) (in_order (map means back))) s
          ≡ in_order (map means (front ++ (middle ++ back))) s
      three front middle back s =
          flat_map_same (and_then (in_order (map means middle)) (in_order (map means back)))
          (in_order (map means middle ++ map means back))
          (λ t. sym (in_order_append (map means middle) (map means back) t)) (in_order (map means front) s)
          ∙ sym (in_order_append (map means front) (map means middle ++ map means back) s)
          ∙ ap (λ l. in_order l s) (ap (λ l. map means front ++ l) (sym (map-append means middle back))
          ∙ sym (map-append means front (middle ++ back)))
