-- The delegates that were built, and one that is taken again.
use Rattle.std.proofs.Common.{◌≡◌, ℕ, zero, suc, Bool, true, false, if◌then◌else◌, List, [], ◌∷◌, ◌++◌, map, Option, refl, sym, ap, ◌∙◌, subst}
use Rattle.std.specs.Prelude.{unwrap_or}
use Rattle.std.specs.declared.sync.Arc.{Arc}
use Rattle.fancy_meaning.specs.Tree.{trees}
use Rattle.fancy_meaning.specs.Batches.{fragment, group_range, pattern_of}
use Rattle.fancy_meaning.specs.Instr.{Instr, Fragment}
use Rattle.fancy_info.specs.declared.info.Info.{Info}
use Rattle.fancy_info.specs.Infos.{info_tree}
use Rattle.fancy_nfa.specs.ClassTexts.{AreClasses, texts_in}
use Rattle.fancy_nfa.specs.Nfas.{HaveClasses}
use Rattle.fancy_fragments.specs.declared.delegate.Delegate.{Delegate}
use Rattle.fancy_code.specs.SharedDelegates.{IsNamed, IsNamedAlike, AreNamedAlike, IsDelegateOf, delegate_of}

pub named_more : {Z : Type 0} (ds : List (Arc Delegate Z)) (d : Arc Delegate Z) → AreNamedAlike ds → IsNamedAlike d → AreNamedAlike (ds ++ d ∷ [])
named_more [] d h g zero x e = subst IsNamedAlike (ap (λ o. unwrap_or o d) e) g
named_more [] d h g (suc k) x e = cc
named_more (c ∷ ds) d h g zero x e = h zero x e
named_more (c ∷ ds) d h g (suc k) x e = named_more ds d (λ j. h (suc j)) g k x e

module _ (unicode : Bool) (is : List Info) where
  pub named_built : (i : Instr)
      → i ≡ delegate_of unicode (map info_tree is)
      → HaveClasses unicode is → IsNamed i
  named_built i e g = subst IsNamed (sym e) (refl, refl, g)

  pub taken_again : (text : List ℕ) (f : Fragment) (range : Option (ℕ × ℕ)) → IsNamed (Instr.Delegate text f range)
      → f ≡ fragment unicode (map info_tree is) → IsDelegateOf unicode is (Instr.Delegate text f range)
  taken_again text f range h e = record {
    instr = ap (λ t. Instr.Delegate t f range) h.0 ∙ ap (λ r. Instr.Delegate (pattern_of f.unicode f.nodes) f r) h.1
        ∙ ap (λ (g : Fragment). Instr.Delegate (pattern_of g.unicode g.nodes) g (group_range g.nodes)) e;
    classes = subst (λ (g : Fragment). AreClasses g.unicode (texts_in (trees g.nodes))) e h.2;
  }

-- after one was put behind them, which may have been refused
pub named_push : {Z : Type 0} (ok : Bool) (ds es : List (Arc Delegate Z)) (d : Arc Delegate Z) → es ≡ (if ok then ds ++ d ∷ [] else ds) → AreNamedAlike ds
    → IsNamedAlike d → AreNamedAlike es
named_push true ds es d is h g = subst AreNamedAlike (sym is) (named_more ds d h g)
named_push false ds es d is h g = subst AreNamedAlike (sym is) h
