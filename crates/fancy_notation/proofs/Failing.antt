-- How a reader fails, and goes on failing behind what it read.
use Rattle.std.proofs.Common.{◌≡◌, ℕ, List, [], ◌∷◌, ◌++◌, Option, Some, None, refl, sym, ap, ◌∙◌, subst, append_assoc}
use Rattle.fancy_meaning.specs.Tree.{Tree}
use Rattle.fancy_expr.specs.declared.error.Error.{Error}
use Rattle.fancy_expr.specs.declared.error.Error.TheVariants.{CompileError, RuntimeError, TreeFault, NestLimitExceeded, Memory}
use Rattle.fancy_notation.specs.declared.reader.Reader.{Reader}
use Rattle.fancy_notation.specs.Tokens.{Token, Placed}
use Rattle.fancy_notation.specs.Grammar.{Takes, Spells}
use Rattle.fancy_notation.specs.Misfit.{Want, Node, with_groups, given, next_step, misfit}
use Rattle.fancy_notation.specs.NotationViews.{point_of}
use Rattle.fancy_notation.specs.Reading.{place, first_gives, IsFaultHere, Fails}
use Rattle.fancy_notation.proofs.Stack.{stuck, wanted, node_stands}

stuck_here : (end : ℕ) (ts : List Placed) (g : ℕ) (w : Want) (k : List Want) → first_gives (λ t. next_step g w t) ts ≡ None →
    misfit end ts g (w ∷ k) ≡ Some (place end ts)
stuck_here end [] g w k e = refl
stuck_here end (p ∷ ps) g w k e = stuck end p ps g w k e

pub memory : (ws : List Want) (old : Reader) (e : Error) → e ≡ Memory → Fails ws old e
memory ws old e is = subst (Fails ws old) (sym is) tt

-- nothing that is wanted comes next
pub fails_here : (w : Want) (ws : List Want) (old : Reader) (e : Error) → IsFaultHere old e →
    first_gives (λ t. next_step old.groups w t) (point_of old).tokens ≡ None → Fails (w ∷ ws) old e
fails_here w ws old e here none =
    subst (Fails (w ∷ ws) old) (sym here) (λ more. stuck_here old.end (point_of old).tokens old.groups w (ws ++ more) none)

nothing : {V : Type 0} (gives : Token → Option V) (g : ℕ) (w : Want) (f : V → List Want) →
    ((token : Token) → next_step g w token ≡ given (gives token) (λ u. with_groups g (f u))) →
    (ts : List Placed) → first_gives gives ts ≡ None → first_gives (λ t. next_step g w t) ts ≡ None
nothing gives g w f is [] e = refl
nothing gives g w f is (p ∷ ps) e = is p.token ∙ ap (λ o. given o (λ u. with_groups g (f u))) e

-- the token that is wanted is not there
pub fails_token : {V : Type 0} (gives : Token → Option V) (w : Want) (f : V → List Want) →
    ((g : ℕ) (token : Token) → next_step g w token ≡ given (gives token) (λ u. with_groups g (f u))) →
    (ws : List Want) (old : Reader) (e : Error) → IsFaultHere old e × (first_gives gives (point_of old).tokens ≡ None) → Fails (w ∷ ws) old e
fails_token gives w f is ws old e h = fails_here w ws old e h.0 (nothing gives old.groups w f (is old.groups) _ h.1)

-- what is wanted first fails
pub fails_first : (w : Want) (ws : List Want) (old : Reader) (e : Error) → Fails (w ∷ []) old e → Fails (w ∷ ws) old e
fails_first w ws old (CompileError x) h = h
fails_first w ws old (RuntimeError x) h = h
fails_first w ws old (TreeFault at) h = λ more. h (ws ++ more)
fails_first w ws old NestLimitExceeded h = h
fails_first w ws old Memory h = tt

-- where the stack goes on from the one reader to the other, it fails where that one fails
pub fails_on : (old mid : Reader) (before after : List Want) (e : Error) → mid.end ≡ old.end →
    ((k : List Want) → misfit old.end (point_of old).tokens old.groups (before ++ k) ≡ misfit old.end (point_of mid).tokens mid.groups (after ++ k)) →
    Fails after mid e → Fails before old e
fails_on old mid before after (CompileError x) same on h = h
fails_on old mid before after (RuntimeError x) same on h = h
fails_on old mid before after (TreeFault at) same on h =
    λ more. on more ∙ subst (λ end. misfit end (point_of mid).tokens mid.groups (after ++ more) ≡ Some at) same (h more)
fails_on old mid before after NestLimitExceeded same on h = h
fails_on old mid before after Memory same on h = tt

-- behind a token that was read
pub after_token : {V : Type 0} {gives : Token → Option V} {v : V} (w : Want) (f : V → List Want) →
    ((g : ℕ) (token : Token) → next_step g w token ≡ given (gives token) (λ u. with_groups g (f u))) →
    (ws : List Want) (old mid : Reader) (e : Error) → Takes gives (point_of old) v (point_of mid) × (mid.end ≡ old.end) → Fails (f v ++ ws) mid e →
    Fails (w ∷ ws) old e
after_token {v = v} w f is ws old mid e t h =
    fails_on old mid (w ∷ ws) (f v ++ ws) e t.1
    (λ k. wanted t.0 w f is old.end (ws ++ k) ∙ ap (misfit old.end (point_of mid).tokens mid.groups) (sym (append_assoc (f v) ws k)))
    h

-- behind a node that was read
pub after_node : {t : Tree} {C : Type 0} (ws : List Want) (old mid : Reader) (e : Error) → Spells (point_of old) (point_of mid) t × (mid.end ≡ old.end) × C →
    Fails ws mid e → Fails (Node ∷ ws) old e
after_node ws old mid e t h = fails_on old mid (Node ∷ ws) ws e t.1 (λ k. node_stands t.0 old.end (ws ++ k)) h
