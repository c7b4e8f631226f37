-- What a form's reader answers, from what its calls answered.
use Rattle.std.proofs.Common.{◌≡◌, ℕ, Bool, true, false, ◌&&◌, List, [], ◌∷◌, ◌++◌, map, Some, None, Result, Ok, Err, Vec, Global, refl, sym, ap, ◌∙◌, subst}
use Rattle.fancy_meaning.specs.Tree.{Concat, Alt, trees}
use Rattle.fancy_expr.specs.declared.error.Error.{Error}
use Rattle.fancy_expr.specs.declared.expr.Expr.{Expr}
use Rattle.fancy_expr.specs.declared.expr.Absent.TheViews as view
use Rattle.fancy_expr.specs.Views.{tree_of}
use Rattle.fancy_notation.specs.declared.forms.Form.{Form}
use Rattle.fancy_notation.specs.declared.forms.Form.TheVariants as form
use Rattle.fancy_notation.specs.declared.reader.Reader.{Reader}
use Rattle.fancy_notation.specs.Tokens.{Token, Placed, Opened, Closed, Quoted, Word, Broken}
use Rattle.fancy_notation.specs.Words.{leaf_of}
use Rattle.fancy_notation.specs.Grammar.{Point, in_word, opening, is_at_text, Begins, Spells, leaf, formed, SpellsForm, cat, alt}
use Rattle.fancy_notation.specs.Misfit.{Node, wants, with_groups, given, node_step, next_step}
use Rattle.fancy_notation.specs.NotationViews.{point_of}
use Rattle.fancy_notation.specs.Reading.{first_gives, Skips, ReadsToken, ReadsHead, ReadsTree, SpellsPartsAfter}
use Rattle.fancy_expr.proofs.MadeTrees.{tree-concat, tree-alt}
use Rattle.fancy_notation.proofs.Stack.{begun}
use Rattle.fancy_notation.proofs.Failing.{fails_here, fails_on}
use Rattle.fancy_notation.proofs.Loops.{skips_giving}
use Rattle.fancy_notation.proofs.OneChars.{leaf_chars}

no_node : (g : ℕ) (ts : List Placed) → is_at_text ts ≡ false → first_gives opening ts ≡ None → first_gives (in_word leaf_of) ts ≡ None →
    first_gives (λ t. next_step g Node t) ts ≡ None
no_node g [] a b e = refl
no_node g (p ∷ ps) a b e = of_token p.token a b e
  where
    of_token : (t : Token) → is_at_text (record { at = p.at; token = t } ∷ ps) ≡ false → opening t ≡ None → in_word leaf_of t ≡ None → node_step g t ≡ None
    of_token Opened a b e = absurd (cc)
    of_token Closed a b e = refl
    of_token (Quoted f s) a b e = absurd (cc)
    of_token (Word w) a b e = ap (λ o. given o (λ u. with_groups g [])) e
    of_token Broken a b e = refl

pub leaf_reads : (old new : Reader) (r : Result Expr Error) → is_at_text (point_of old).tokens ≡ false → first_gives opening (point_of old).tokens ≡ None →
    ReadsToken (in_word leaf_of) tree_of old new r → ReadsTree (Node ∷ []) (λ e x y. Spells x y e) old new r
leaf_reads old new (Ok v) a b h = (leaf h.0, h.1, leaf_chars v h.0)
leaf_reads old new (Err e) a b h = fails_here Node [] old e h.0 (no_node old.groups _ a b h.1)

pub begins_by : (old mid new : Reader) (f : Form) → first_gives opening (point_of old).tokens ≡ Some tt → Skips old mid → ReadsHead mid new (Ok f) →
    Begins (point_of old) f (point_of new)
begins_by old mid new f is s h = record { y = point_of mid; opened = skips_giving opening tt old mid is s; after = h.0; head = h.1; tokens = h.2 }

pub form_reads : (old mid new : Reader) (f : Form) (r : Result Expr Error) → Begins (point_of old) f (point_of mid) → mid.end ≡ old.end →
    ReadsTree (wants f) (λ e x y. SpellsForm f x y e) mid new r → ReadsTree (Node ∷ []) (λ e x y. Spells x y e) old new r
form_reads old mid new f (Ok v) b same h = (formed b h.0, h.1 ∙ same, h.2)
form_reads old mid new f (Err e) b same h = fails_on old mid (Node ∷ []) (wants f) e same (λ k. begun b old.end k) h

pub cat_spelled : (given : List Expr) (v : Vec Expr Global) (x y : Point) → given ≡ [] → SpellsPartsAfter true given v.items x y →
    SpellsForm form.Cat x y (tree_of (view.Concat v))
cat_spelled given v x y none h =
    subst (SpellsForm form.Cat x y) (sym (tree-concat v ∙ ap (λ l. Concat (trees l)) (h.2 ∙ ap (λ g. map tree_of g ++ h.0) none))) (cat h.1)

pub alt_spelled : (first : Expr) (given : List Expr) (v : Vec Expr Global) (x y z : Point) → given ≡ first ∷ [] → Spells x y (tree_of first) →
    SpellsPartsAfter false given v.items y z → SpellsForm form.Alt x z (tree_of (view.Alt v))
alt_spelled first given v x y z one s h =
    subst (SpellsForm form.Alt x z) (sym (tree-alt v ∙ ap (λ l. Alt (trees l)) (h.2 ∙ ap (λ g. map tree_of g ++ h.0) one))) (alt s h.1)

pub not_both : (a b : Bool) → (a && b) ≡ false → a ≡ true → b ≡ false
not_both true b e is = e
not_both false b e is = absurd (cc)
