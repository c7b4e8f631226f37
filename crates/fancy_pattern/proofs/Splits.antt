-- What is left behind what is spelled is what is left of it.
use Rattle.std.proofs.Common.{◌≡◌, ℕ, ◌≤◌, List, [], ◌∷◌, ◌++◌, length, Option, refl, sym, ap, subst, arith}
use Rattle.fancy_meaning.specs.Tree.{Tree}
use Rattle.fancy_tokens.specs.declared.tokens.Suffix.{Suffix}
use Rattle.fancy_tokens.specs.Tokens.{Opening, Token, Placed}
use Rattle.fancy_pattern.specs.Stuck.{Within, whole, past}
use Rattle.fancy_pattern.specs.Grammar.{Names, Takes, SpellsClass, class_end, class_piece, SpellsSuffix, no_suffix, a_suffix, SpellsAtom, node, class, opened, SpellsOpened, around, group, stopper, expression, asked, if_group, if_pattern, if_look, SpellsBodies, one_body, two_bodies, SpellsPiece, plain, quantified, SpellsPieces, no_piece, piece, SpellsBranch, branch, SpellsBars, no_bar, barred, SpellsAlternatives, branches}

-- what is left of what is left
pub on : {y z x : List Placed} → Within y x → Within z y → Within z x
on whole b = b
on (past p a) b = past p (on a b)

pub takes : {V : Type 0} {gives : Token → Option V} {x : List Placed} {v : V} {y : List Placed} → Takes gives x v y → Within y x
takes {y = y} t = subst (Within y) (sym t.tokens) (past t.first whole)

pub shorter : {y x : List Placed} → Within y x → length y ≤ length x
shorter whole = omega arith
shorter (past p w) = let h = shorter w in omega (arith, h)

pub split : {y x : List Placed} → Within y x → (before : List Placed) × (x ≡ before ++ y)
split whole = ([], refl)
split (past p w) = let h = split w in (p ∷ h.0, ap (λ l. p ∷ l) h.1)

pub class_text : {x y : List Placed} {text : List ℕ} → SpellsClass x y text → Within y x
class_text (class_end t) = takes t
class_text (class_piece t more) = on (takes t) (class_text more)

pub suffix : {x y : List Placed} {s : Option Suffix} → SpellsSuffix x y s → Within y x
suffix (no_suffix h) = whole
suffix (a_suffix t) = takes t

mutual
  pub atom : {names : Names} {x y : List Placed} {e : Tree} → SpellsAtom names x y e → Within y x
  atom (node t) = takes t
  atom (class t c) = on (takes t) (class_text c)
  atom (opened t o) = on (takes t) (rest o)

  pub rest : {names : Names} {o : Opening} {x y : List Placed} {e : Tree} → SpellsOpened names o x y e → Within y x
  rest (around a c) = on (alternatives a) (takes c)
  rest (group a c) = on (alternatives a) (takes c)
  rest (stopper a c) = on (one_branch a) (takes c)
  rest (expression a b e c) = on (one_branch a) (on (takes b) (on (alternatives e) (takes c)))
  rest (asked r c) = takes c
  rest (if_group r h b) = bodies b
  rest (if_pattern a c b) = on (alternatives a) (on (takes c) (bodies b))
  rest (if_look a c b) = on (alternatives a) (on (takes c) (bodies b))

  pub bodies : {names : Names} {c : Tree} {x y : List Placed} {e : Tree} → SpellsBodies names c x y e → Within y x
  bodies (one_body b c) = on (one_branch b) (takes c)
  bodies (two_bodies b t a c) = on (one_branch b) (on (takes t) (on (alternatives a) (takes c)))

  pub one_piece : {names : Names} {x y : List Placed} {e : Tree} → SpellsPiece names x y e → Within y x
  one_piece (plain a h) = atom a
  one_piece (quantified a may t s) = on (atom a) (on (takes t) (suffix s))

  pub pieces : {names : Names} {x y : List Placed} {es : List Tree} → SpellsPieces names x y es → Within y x
  pieces (no_piece h) = whole
  pieces (piece at p more) = on (one_piece p) (pieces more)

  pub one_branch : {names : Names} {x y : List Placed} {e : Tree} → SpellsBranch names x y e → Within y x
  one_branch (branch ps) = pieces ps

  pub bars : {names : Names} {x y : List Placed} {es : List Tree} → SpellsBars names x y es → Within y x
  bars (no_bar h) = whole
  bars (barred t b more) = on (takes t) (on (one_branch b) (bars more))

  pub alternatives : {names : Names} {x y : List Placed} {e : Tree} → SpellsAlternatives names x y e → Within y x
  alternatives (branches b more) = on (one_branch b) (bars more)
