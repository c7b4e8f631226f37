-- The nodes of a tree in a row, child by child.
use Rattle.std.proofs.Common.{◌≡◌, ℕ, ◌+◌, ◌<◌, ◌≤◌, List, [], ◌∷◌, ◌++◌, length, drop, get_or, sym, ap, ◌∙◌, append-nil, append_assoc}
use Rattle.std.specs.Borrow.{Bor}
use Rattle.std.proofs.lemmas.List.{map-append, drop_all}
use Rattle.fancy_expr.specs.declared.expr.Expr.{Expr}
use Rattle.fancy_expr.specs.Exprs.{below, exprs, exprs_of_each}
use Rattle.fancy_expr.proofs.Exprs.{exprs-below}
use Rattle.fancy_info.proofs.Children.{rest_at}
use Rattle.fancy_faults.specs.Known.{exprs_of}

module _ (before : List (Bor Expr)) where
  -- the node itself comes first
  pub begun : (e : Bor Expr) (new : List (Bor Expr)) → new ≡ before ++ e ∷ [] →
      exprs_of new ++ exprs_of_each (below e.now) ≡ exprs_of before ++ exprs e.now
  begun e new is =
      let rest = exprs_of_each (below e.now) in
      ap (λ l. exprs_of l ++ rest) is ∙ ap (λ l. l ++ rest) (map-append (λ x. x.now) before (e ∷ []))
      ∙ append_assoc (exprs_of before) (e.now ∷ []) rest ∙ ap (λ l. exprs_of before ++ l) (sym (exprs-below e.now))

  -- then a child with all below it
  pub one_child : (new : List (Bor Expr)) (all : List Expr) (l : List Expr) (i : ℕ) (child : Expr) → i < length l → child ≡ get_or l i child →
      exprs_of new ≡ exprs_of before ++ exprs child → exprs_of before ++ exprs_of_each (drop i l) ≡ all →
      exprs_of new ++ exprs_of_each (drop (i + 1) l) ≡ all
  one_child new all l i child lt is added so_far =
      let rest = exprs_of_each (drop (i + 1) l) in
      ap (λ m. m ++ rest) added ∙ append_assoc (exprs_of before) (exprs child) rest
      ∙ ap (λ m. exprs_of before ++ exprs_of_each m) (sym (rest_at l i child lt is)) ∙ so_far

  pub no_more : (all : List Expr) (l : List Expr) (i : ℕ) → length l ≤ i → exprs_of before ++ exprs_of_each (drop i l) ≡ all → exprs_of before ≡ all
  no_more all l i le so_far =
      sym (append-nil (exprs_of before)) ∙ ap (λ m. exprs_of before ++ exprs_of_each m) (sym (drop_all i l le)) ∙ so_far
