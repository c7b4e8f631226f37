-- Where the stack of what may come next halts is the place of a fault.
use Rattle.std.proofs.Common.{◌≡◌, ℕ, List, [], ◌∷◌, ◌++◌, Option, Some, None, refl, sym, ap, ◌∙◌, append_assoc}
use Rattle.fancy_meaning.specs.Tree.{Tree}
use Rattle.fancy_notation.specs.Tokens.{Placed}
use Rattle.fancy_notation.specs.Grammar.{IsSpelled}
use Rattle.fancy_notation.specs.Faults.{CanBegin, IsFaultAt, stray, early}
use Rattle.fancy_notation.specs.Misfit.{Want, Node, Next, next_step, misfit}
use Rattle.fancy_notation.proofs.Stack.{stepped, stuck, node_stands}
use Rattle.fancy_notation.proofs.Continued.{continued}
use Rattle.fancy_notation.proofs.StackReads.{stands_spelled}

all_stands : (end g : ℕ) (ts : List Placed) → ts ≡ [] → misfit end ts g [] ≡ None
all_stands end g ts none = ap (λ l. misfit end l g []) none

spelled_stands : (end : ℕ) (ts : List Placed) (e : Tree) → IsSpelled ts e → misfit end ts 0 (Node ∷ []) ≡ None
spelled_stands end ts e s = node_stands s.spells end [] ∙ all_stands end s.last.groups s.last.tokens s.none_left

-- where the stack halts: at a token, or at the end
data Halts (end : ℕ) (ts : List Placed) (g : ℕ) (ws : List Want) (at : ℕ) : Type 0 where
  at_token : (before after : List Placed) (p : Placed) (h : ℕ) (vs : List Want) →
      ts ≡ before ++ p ∷ after →
      at ≡ p.at →
      ((end : ℕ) (more : List Placed) → misfit end (before ++ more) g ws ≡ misfit end more h vs) →
      ((end : ℕ) (more : List Placed) → misfit end (p ∷ more) h vs ≡ Some p.at) →
      Halts end ts g ws at
  at_end : (h : ℕ) (vs : List Want) → at ≡ end → ((end : ℕ) (more : List Placed) → misfit end (ts ++ more) g ws ≡ misfit end more h vs) → Halts end ts g ws at

one_more : (end : ℕ) (p : Placed) (ps : List Placed) (g : ℕ) (w : Want) (ws : List Want) (at : ℕ) (n : Next) → next_step g w p.token ≡ Some n →
    Halts end ps n.groups (n.wants ++ ws) at → Halts end (p ∷ ps) g (w ∷ ws) at
one_more end p ps g w ws at n e (at_token before after q h vs is there leads stops) =
    at_token (p ∷ before) after q h vs (ap (λ l. p ∷ l) is) there (λ end more. stepped end p (before ++ more) g w ws n e ∙ leads end more) stops
one_more end p ps g w ws at n e (at_end h vs there leads) =
    at_end h vs there (λ end more. stepped end p (ps ++ more) g w ws n e ∙ leads end more)

some : {at b : ℕ} → Some b ≡ Some at → at ≡ b
some e = cc

halts : (end : ℕ) (ts : List Placed) (g : ℕ) (ws : List Want) (at : ℕ) → misfit end ts g ws ≡ Some at → Halts end ts g ws at
halts end [] g [] at e = absurd (cc)
halts end [] g (w ∷ ws) at e = at_end g (w ∷ ws) (some e) (λ end more. refl)
halts end (p ∷ ps) g [] at e = at_token [] ps p g [] refl (some e) (λ end more. refl) (λ end more. refl)
halts end (p ∷ ps) g (w ∷ ws) at e = by_step (next_step g w p.token) refl (halts end ps)
  where
    by_step : (o : Option Next) → next_step g w p.token ≡ o → ((g : ℕ) (ws : List Want) (at : ℕ) → misfit end ps g ws ≡ Some at → Halts end ps g ws at) →
        Halts end (p ∷ ps) g (w ∷ ws) at
    by_step None is below =
        at_token [] ps p g (w ∷ ws) refl (some (sym (stuck end p ps g w ws is) ∙ e)) (λ end more. refl) (λ end more. stuck end p more g w ws is)
    by_step (Some n) is below =
        one_more end p ps g w ws at n is (below n.groups (n.wants ++ ws) at (sym (stepped end p ps g w ws n is) ∙ e))

-- what leads to a stack can be continued
begins : (before : List Placed) (h : ℕ) (vs : List Want) →
    ((end : ℕ) (more : List Placed) → misfit end (before ++ more) 0 (Node ∷ []) ≡ misfit end more h vs) → CanBegin before
begins before h vs leads = let r = continued vs in
    let s = stands_spelled 0 (before ++ r.0) (leads 0 r.0 ∙ r.1 0 h) in
    (r.0, s.0, s.1)

some_none : {at : ℕ} {o : Option ℕ} → o ≡ Some at → o ≡ None → ⊥
some_none e f = cc

pub fault_there : (end : ℕ) (ts : List Placed) (at : ℕ) → misfit end ts 0 (Node ∷ []) ≡ Some at → IsFaultAt end ts at
fault_there end ts at e = by_halt (halts end ts 0 (Node ∷ []) at e)
  where
    by_halt : Halts end ts 0 (Node ∷ []) at → IsFaultAt end ts at
    by_halt (at_token before after p h vs is there leads stops) =
        stray before after p is there (begins before h vs leads) (λ c. some_none
        (ap (λ l. misfit end l 0 (Node ∷ [])) (append_assoc before (p ∷ []) c.0) ∙ leads end (p ∷ c.0) ∙ stops end c.0)
        (spelled_stands end ((before ++ p ∷ []) ++ c.0) c.1 c.2))
    by_halt (at_end h vs there leads) = early there (begins ts h vs leads) (λ t s. some_none e (spelled_stands end ts t s))
