-- Groups are numbered in the order in which they open.
use Rattle.std.proofs.Common.{◌≡◌, ℕ, zero, suc, ◌+◌, List, ◌∷◌, ◌++◌, length, map, filter_map, refl, sym, ap, ◌∙◌, arith, length-append}
use Rattle.std.proofs.lemmas.List.{map-append}
use Rattle.std.proofs.lemmas.List.Elements.{filter_map-append}
use Rattle.fancy_meaning.specs.Tree.{Tree, Trees, none, more, Concat, Alt, Group, LookAround, Repeat, AtomicGroup, DefineGroup, Conditional, AbsentRepeater, AbsentStopper, AbsentExpression, Within}
use Rattle.fancy_meaning.specs.Nodes.{nodes, nodes_of_each, as_group, groups, group_count}
use Rattle.fancy_meaning.specs.Numbering.{within, numbered_within, each_numbered}
use Rattle.fancy_meaning.specs.Places.{range_from}
use Rattle.fancy_expr.proofs.Numbered.{count-numbered}

abbrev numbers_of : List Tree → List ℕ
numbers_of ts = map (λ h. h.0) (filter_map as_group ts)

abbrev count_of : List Tree → ℕ
count_of ts = length (filter_map as_group ts)

of-append : (a b : List Tree) → numbers_of (a ++ b) ≡ numbers_of a ++ numbers_of b
of-append a b = ap (map (λ h. h.0)) (filter_map-append as_group a b) ∙ map-append (λ h. h.0) (filter_map as_group a) (filter_map as_group b)

count-append : (a b : List Tree) → count_of (a ++ b) ≡ count_of a + count_of b
count-append a b = ap length (filter_map-append as_group a b) ∙ length-append (filter_map as_group a) (filter_map as_group b)

range-append : (n a b : ℕ) → range_from n (a + b) ≡ range_from n a ++ range_from (n + a) b
range-append n zero b = ap (λ k. range_from n k) (omega arith) ∙ ap (λ k. range_from k b) (omega arith)
range-append n (suc a) b =
    let out : suc a + b ≡ suc (a + b) = omega arith in
    let shift : suc n + a ≡ n + suc a = omega arith in
    ap (range_from n) out ∙ ap (λ l. n ∷ l) (range-append (suc n) a b ∙ ap (λ k. range_from (suc n) a ++ range_from k b) shift)

-- neighbours: the second's numbers begin where the first's end
then_more : (n : ℕ) (a b c d : List Tree) → count_of c ≡ count_of a → numbers_of c ≡ range_from n (count_of a) →
    numbers_of d ≡ range_from (n + count_of a) (count_of b) → numbers_of (c ++ d) ≡ range_from n (count_of (a ++ b))
then_more n a b c d same p q =
    of-append c d ∙ ap (λ l. l ++ numbers_of d) p ∙ ap (λ l. range_from n (count_of a) ++ l) q ∙ sym (range-append n (count_of a) (count_of b))
    ∙ ap (range_from n) (sym (count-append a b))

same_count : (w : Within) (n : ℕ) (e : Tree) → count_of (nodes (numbered_within w n e)) ≡ count_of (nodes e)
unfolding group_count groups
same_count w n e = count-numbered w n e

mutual
  unfolding group_count groups

  numbered-nodes : (w : Within) (n : ℕ) (e : Tree) → numbers_of (nodes (numbered_within w n e)) ≡ range_from n (count_of (nodes e))
  numbered-nodes w n (Concat es) = numbered-each w n es
  numbered-nodes w n (Alt es) = numbered-each w n es
  numbered-nodes w n (Group old e) = ap (λ l. n ∷ l) (numbered-nodes w (suc n) e)
  numbered-nodes w n (LookAround look e) = numbered-nodes (within look) n e
  numbered-nodes w n (Repeat lo hi greedy e) = numbered-nodes w n e
  numbered-nodes w n (AtomicGroup e) = numbered-nodes w n e
  numbered-nodes w n (DefineGroup e) = numbered-nodes w n e
  numbered-nodes w n (Conditional c t f) =
      let at_true = n + count_of (nodes c) in
      then_more n (nodes c) (nodes t ++ nodes f) (nodes (numbered_within w n c)) _ (same_count w n c) (numbered-nodes w n c)
      (then_more at_true (nodes t) (nodes f) (nodes (numbered_within w at_true t)) _ (same_count w at_true t) (numbered-nodes w at_true t)
      (numbered-nodes w (at_true + count_of (nodes t)) f))
  numbered-nodes w n (AbsentRepeater e) = numbered-nodes w n e
  numbered-nodes w n (AbsentStopper e) = numbered-nodes w n e
  numbered-nodes w n (AbsentExpression a e) =
      then_more n (nodes a) (nodes e) (nodes (numbered_within w n a)) _ (same_count w n a) (numbered-nodes w n a) (numbered-nodes w (n + count_of (nodes a)) e)
  numbered-nodes w n e = refl

  numbered-each : (w : Within) (n : ℕ) (es : Trees) → numbers_of (nodes_of_each (each_numbered w n es)) ≡ range_from n (count_of (nodes_of_each es))
  numbered-each w n none = refl
  numbered-each w n (more e es) =
      then_more n (nodes e) (nodes_of_each es) (nodes (numbered_within w n e)) _ (same_count w n e) (numbered-nodes w n e)
      (numbered-each w (n + count_of (nodes e)) es)

pub numbers : (w : Within) (n : ℕ) (e : Tree) → map (λ h. h.0) (groups (numbered_within w n e)) ≡ range_from n (length (groups (numbered_within w n e)))
unfolding groups
numbers w n e = numbered-nodes w n e ∙ ap (range_from n) (sym (same_count w n e))
