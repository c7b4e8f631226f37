-- What is left of a set of numbers once those are out that nodes refer to.
use Rattle.std.proofs.Common.{◌≡◌, ℕ, ◌+◌, ◌<◌, ◌≤◌, Bool, true, false, not, ◌&&◌, ◌||◌, cond, List, [], ◌∷◌, length, take, get_or, Contains, refl, sym, ap, ◌∙◌, subst, arith, eqb, ltb, ltb-true}
use Rattle.std.specs.Ordering.{nat_cmp, is_eq}
use Rattle.std.specs.declared.cmp.Ordering.TheVariants.{Less, Equal, Greater}
use Rattle.std.specs.List.{list_any, list_all}
use Rattle.std.specs.BTreeSet.{BTreeSet, contains}
use Rattle.std.proofs.lemmas.Bool.{eqb-true}
use Rattle.std.proofs.lemmas.Cmp.{nat_cmp_total}
use Rattle.std.proofs.lemmas.Map.Lookups.{exact_unsigned}
use Rattle.std.proofs.lemmas.Map.Views.{btree_set_contains_iff}
use Rattle.std.proofs.lemmas.List.{take_all}
use Rattle.std.proofs.lemmas.List.Folds.{list_any-append}
use Rattle.fancy_meaning.specs.Nodes.{nodes}
use Rattle.fancy_meaning.specs.WellFormed.{refers}
use Rattle.fancy_expr.specs.declared.expr.Expr.{Expr}
use Rattle.fancy_expr.specs.Views.{tree_of}
use Rattle.fancy_expr.specs.Exprs.{below, exprs, exprs_of_each}
use Rattle.fancy_expr.proofs.Exprs.{exprs-below}
use Rattle.fancy_expr.proofs.Walks.{each-taken}
use Rattle.fancy_expr.proofs.Listed.{any-nodes, all_pass_at, each_passes, true_false}

-- ---- one node

apart : (x y : ℕ) (b : Bool) → eqb x y ≡ b → x < y → b ≡ false
apart x y true is lt = absurd (let e = eqb-true x y is in omega (arith, e, lt))
apart x y false is lt = refl

same_or_after : (b : Bool) → is_eq (cond b Equal Greater) ≡ b
same_or_after true = refl
same_or_after false = refl

is_eq-nat_cmp : (x y : ℕ) → is_eq (nat_cmp x y) ≡ eqb x y
is_eq-nat_cmp x y = by_less (ltb x y) refl
  where
    by_less : (b : Bool) → ltb x y ≡ b → is_eq (cond b Less (cond (eqb x y) Equal Greater)) ≡ eqb x y
    by_less true is = sym (apart x y (eqb x y) refl (ltb-true x y is))
    by_less false is = same_or_after (eqb x y)

taken_out : (had b : Bool) → cond b false had ≡ (had && not b)
taken_out true true = refl
taken_out true false = refl
taken_out false true = refl
taken_out false false = refl

-- a node that refers to x takes x out
pub out_by_one : (had after b : Bool) (x g : ℕ) → after ≡ cond (is_eq (nat_cmp x g)) false had → b ≡ eqb x g → after ≡ (had && not b)
out_by_one had after b x g taken is =
    taken
    ∙ ap (λ c. cond c false had) (is_eq-nat_cmp x g ∙ sym is)
    ∙ taken_out had b

-- ---- all nodes

and_not : (had a b : Bool) → ((had && not a) && not b) ≡ (had && not (a || b))
and_not true true b = refl
and_not true false b = refl
and_not false a b = refl

or_false : (b : Bool) → b ≡ (b || false)
or_false true = refl
or_false false = refl

-- whether the number is left, once what these nodes refer to is out
pub remains : Bool → ℕ → List Expr → Bool
remains had g es = had && not (list_any (λ e. refers g (tree_of e)) es)

pub remains_own : (had after : Bool) (g : ℕ) (e : Expr) → after ≡ (had && not (refers g (tree_of e))) → after ≡ remains had g (e ∷ [])
unfolding remains
remains_own had after g e is = is ∙ ap (λ b. had && not b) (or_false (refers g (tree_of e)))

pub remains_more : (had mid after : Bool) (g : ℕ) (e : Expr) (es : List Expr) (i : ℕ) (child : Expr) → i < length es → child ≡ get_or es i child →
    mid ≡ remains had g (e ∷ exprs_of_each (take i es)) → after ≡ (mid && not (list_any (refers g) (nodes (tree_of child)))) →
    after ≡ remains had g (e ∷ exprs_of_each (take (i + 1) es))
unfolding remains
remains_more had mid after g e es i child h at was is =
    let named : Expr → Bool = λ x. refers g (tree_of x) in
    let before : List Expr = e ∷ exprs_of_each (take i es) in
    is
    ∙ ap (λ b. b && not (list_any (refers g) (nodes (tree_of child)))) was
    ∙ ap (λ b. (had && not (list_any named before)) && not b) (sym (any-nodes (refers g) child))
    ∙ and_not had (list_any named before) (list_any named (exprs child))
    ∙ ap (λ b. had && not b) (sym (list_any-append named before (exprs child)))
    ∙ ap (λ l. had && not (list_any named (e ∷ l))) (sym (each-taken es i child h at))

pub remains_done : (had after : Bool) (g : ℕ) (e : Expr) (n : ℕ) → length (below e) ≤ n →
    after ≡ remains had g (e ∷ exprs_of_each (take n (below e))) →
    after ≡ (had && not (list_any (refers g) (nodes (tree_of e))))
unfolding remains
remains_done had after g e n h is =
    let named : Expr → Bool = λ x. refers g (tree_of x) in
    is
    ∙ ap (λ l. had && not (list_any named (e ∷ exprs_of_each l))) (take_all n (below e) h)
    ∙ ap (λ l. had && not (list_any named l)) (sym (exprs-below e))
    ∙ ap (λ b. had && not b) (any-nodes (refers g) e)

-- ---- none is left

not_true : {b : Bool} → (b ≡ true → ⊥) → b ≡ false
not_true {b = true} h = absurd (h refl)
not_true {b = false} h = refl

left_of : (had b : Bool) → (had && not b) ≡ false → had ≡ true → b ≡ true
left_of true true h is = refl
left_of true false h is = absurd (true_false h)
left_of false b h is = absurd (true_false (sym is))

out_of : (had b : Bool) → (had && not b) ≡ true → (had ≡ true) × (b ≡ false)
out_of true true h = absurd (true_false (sym h))
out_of true false h = (refl, refl)
out_of false b h = absurd (true_false (sym h))

there : (s : BTreeSet ℕ) (g : ℕ) → Contains s.keys g → contains nat_cmp s g ≡ true
there s g h = (btree_set_contains_iff nat_cmp_total exact_unsigned s g).1 h

module _ (old new : BTreeSet ℕ) (test : ℕ → Bool) (taken : (g : ℕ) → contains nat_cmp new g ≡ (contains nat_cmp old g && not (test g))) where
  all_out : new.keys ≡ [] → list_all test old.keys ≡ true
  all_out none =
      each_passes test old.keys
      (λ g h. left_of (contains nat_cmp old g) (test g) (sym (taken g) ∙ ap (list_any _) none) (there old g h))

  one_left : (k : ℕ) → Contains new.keys k → list_all test old.keys ≡ false
  one_left k left =
      let apart : (contains nat_cmp old k ≡ true) × (test k ≡ false) = out_of _ _ (sym (taken k) ∙ there new k left) in
      let kept : Contains old.keys k = (btree_set_contains_iff nat_cmp_total exact_unsigned old k).0 apart.0 in
      not_true (λ all. true_false (sym (all_pass_at test old.keys k all kept) ∙ apart.1))

  -- the set is empty exactly if each number was taken out
  pub none_left : (ks : List ℕ) → new.keys ≡ ks → (empty : Bool) → (empty ≡ true → length ks ≡ 0) × (length ks ≡ 0 → empty ≡ true) →
      empty ≡ list_all test old.keys
  none_left [] none empty is = is.1 refl ∙ sym (all_out none)
  none_left (k ∷ ks) some true is = absurd (let e = is.0 refl in omega (arith, e))
  none_left (k ∷ ks) some false is = sym (one_left k (subst (λ l. Contains l k) (sym some) (0, omega arith, refl)))
