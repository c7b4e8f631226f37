-- The search for the group that is described, node by node.
use Rattle.std.proofs.Common.{◌≡◌, ℕ, zero, suc, ◌+◌, ◌<◌, ◌≤◌, true, false, List, [], ◌∷◌, length, drop, get_or, Option, Some, None, option_map, if◌then◌else◌, refl, sym, ap, ◌∙◌, arith}
use Rattle.std.specs.Borrow.{Bor}
use Rattle.std.proofs.lemmas.List.{length-map, drop_all}
use Rattle.fancy_expr.specs.declared.expr.Expr.{Expr}
use Rattle.fancy_expr.specs.declared.expr.Expr.TheVariants as expr
use Rattle.fancy_expr.specs.Walk.{start_inside}
use Rattle.fancy_info.proofs.Children.{rest_at}
use Rattle.fancy_faults.specs.Blame.{is_described, described_from}
use Rattle.fancy_faults.specs.Known.{exprs_of}

pub at_expr : (nodes : List (Bor Expr)) (i : ℕ) (b : Bor Expr) → i < length nodes → b ≡ get_or nodes i b → b.now ≡ get_or (exprs_of nodes) i b.now
at_expr [] i b lt is = refl
at_expr (x ∷ l) zero b lt is = ap (λ y. y.now) is
at_expr (x ∷ l) (suc i) b lt is = at_expr l i b (omega arith) is

pub few_after : (e : Expr) (next : ℕ) → start_inside e next ≤ next + 1
few_after (expr.Group' b e) next = omega arith
few_after e next = omega arith

shifted : (i : ℕ) (r : Option ℕ) → option_map (λ k. k + i) (option_map suc r) ≡ option_map (λ k. k + (i + 1)) r
shifted i None = refl
shifted i (Some x) = ap Some (omega arith)

unshifted : (r : Option ℕ) → r ≡ option_map (λ k. k + 0) r
unshifted None = refl
unshifted (Some x) = ap Some (omega arith)

module _ (text : List ℕ) (first : ℕ) (nodes : List (Bor Expr)) where
  -- none of the first i nodes is it, and the next group then has this number
  abbrev pub IsPast : ℕ → ℕ → Type 0
  IsPast i next =
      described_from text first (exprs_of nodes) ≡ option_map (λ k. k + i) (described_from text next (drop i (exprs_of nodes)))

  pub past_none : IsPast 0 first
  past_none = unshifted (described_from text first (exprs_of nodes))

  module _ (i next : ℕ) (b : Bor Expr) (lt : i < length nodes) (is : b ≡ get_or nodes i b) (past : IsPast i next) where
    rest : drop i (exprs_of nodes) ≡ b.now ∷ drop (i + 1) (exprs_of nodes)
    rest = rest_at (exprs_of nodes) i b.now (omega (arith, lt, length-map nodes (λ e. e.now))) (at_expr nodes i b lt is)

    pub skip_one : is_described text next b.now ≡ false → IsPast (i + 1) (start_inside b.now next)
    skip_one differs =
        let later = described_from text (start_inside b.now next) (drop (i + 1) (exprs_of nodes)) in
        past ∙ ap (λ l. option_map (λ k. k + i) (described_from text next l)) rest
        ∙ ap (λ t. option_map (λ k. k + i) (if t then Some 0 else option_map suc later)) differs
        ∙ shifted i later

    pub here : is_described text next b.now ≡ true → Some i ≡ described_from text first (exprs_of nodes)
    here found =
        let later = described_from text (start_inside b.now next) (drop (i + 1) (exprs_of nodes)) in
        sym (past ∙ ap (λ l. option_map (λ k. k + i) (described_from text next l)) rest
        ∙ ap (λ t. option_map (λ k. k + i) (if t then Some 0 else option_map suc later)) found
        ∙ ap Some (omega arith))

  pub nowhere : (i next : ℕ) → length nodes ≤ i → IsPast i next → None ≡ described_from text first (exprs_of nodes)
  nowhere i next le past =
      sym (past ∙ ap (λ l. option_map (λ k. k + i) (described_from text next l))
      (drop_all i (exprs_of nodes) (omega (arith, le, length-map nodes (λ e. e.now)))))
