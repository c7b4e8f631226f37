-- Whether a tree has a `\G` or a `\K`: of its nodes as they are read, and with its groups numbered.
use Rattle.std.proofs.Common.{◌≡◌, ℕ, Bool, false, ◌||◌, List, [], ◌∷◌, map, refl, sym, ap, ap₂, ◌∙◌}
use Rattle.std.specs.List.{list_any}
use Rattle.fancy_meaning.specs.Marks.{is_continue}
use Rattle.fancy_meaning.specs.Nodes.{nodes, is_keep_out}
use Rattle.fancy_meaning.specs.Numbering.{numbered, numbered_within}
use Rattle.fancy_meaning.specs.Tree.{Tree, Within, NoLook, Assert}
use Rattle.fancy_expr.specs.Exprs.{exprs}
use Rattle.fancy_expr.specs.Questions.{asks}
use Rattle.fancy_expr.specs.Views.{tree_of}
use Rattle.fancy_expr.specs.declared.expr.Expr.{Expr}
use Rattle.fancy_expr.specs.declared.nodes.Question.{Question}
use Rattle.fancy_expr.specs.declared.nodes.Question.TheVariants as question
use Rattle.fancy_expr.proofs.Exprs.{nodes-exprs}
use Rattle.fancy_expr.proofs.Numbered.{nodes-numbered}

any_true : List Bool → Bool
any_true [] = false
any_true (b ∷ bs) = b || any_true bs

any-map : {X : Type 0} (p : X → Bool) (xs : List X) → list_any p xs ≡ any_true (map p xs)
unfolding any_true
any-map p [] = refl
any-map p (x ∷ xs) = ap (λ b. p x || b) (any-map p xs)

module _ (q : Question) (p : Tree → Bool) (same : (e : Expr) → asks q e ≡ p (tree_of e))
    (blind : (w : Within) (n : ℕ) (e : Tree) → p (numbered_within w n e) ≡ p e) where
  any-exprs : (es : List Expr) → list_any (asks q) es ≡ list_any p (map tree_of es)
  any-exprs [] = refl
  any-exprs (e ∷ es) = ap₂ (λ a b. a || b) (same e) (any-exprs es)

  any-numbered : (first : ℕ) (e : Expr) → list_any p (nodes (numbered first (tree_of e))) ≡ list_any (asks q) (exprs e)
  unfolding numbered
  any-numbered first e =
      any-map p (nodes (numbered_within NoLook first (tree_of e)))
      ∙ ap any_true (nodes-numbered p blind NoLook first (tree_of e))
      ∙ sym (any-map p (nodes (tree_of e)))
      ∙ sym (ap (list_any p) (nodes-exprs e))
      ∙ sym (any-exprs (exprs e))

continue-blind : (w : Within) (n : ℕ) (e : Tree) → is_continue (numbered_within w n e) ≡ is_continue e
continue-blind w n (Assert old a) = refl
continue-blind w n e = refl

keep-out-blind : (w : Within) (n : ℕ) (e : Tree) → is_keep_out (numbered_within w n e) ≡ is_keep_out e
keep-out-blind w n (Assert old a) = refl
keep-out-blind w n e = refl

pub any-continue : (first : ℕ) (e : Expr) →
    list_any is_continue (nodes (numbered first (tree_of e))) ≡ list_any (asks question.IsContinue) (exprs e)
any-continue = any-numbered question.IsContinue is_continue (λ e. refl) continue-blind

pub any-keep-out : (first : ℕ) (e : Expr) →
    list_any is_keep_out (nodes (numbered first (tree_of e))) ≡ list_any (asks question.IsKeepOut) (exprs e)
any-keep-out = any-numbered question.IsKeepOut is_keep_out (λ e. refl) keep-out-blind
