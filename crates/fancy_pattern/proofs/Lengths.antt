-- What is spelled takes tokens.
use Rattle.std.proofs.Common.{ℕ, ◌+◌, ◌≤◌, List, length, Option, ap, arith}
use Rattle.fancy_meaning.specs.Tree.{Tree}
use Rattle.fancy_tokens.specs.declared.tokens.Suffix.{Suffix}
use Rattle.fancy_tokens.specs.Tokens.{Opening, Token, Placed}
use Rattle.fancy_pattern.specs.Grammar.{Names, Takes, SpellsClass, class_end, class_piece, SpellsSuffix, no_suffix, a_suffix, SpellsAtom, node, class, opened, SpellsOpened, around, group, stopper, expression, asked, if_group, if_pattern, if_look, SpellsBodies, one_body, two_bodies, SpellsPiece, plain, quantified, SpellsPieces, no_piece, piece, SpellsBranch, branch, SpellsBars, no_bar, barred, SpellsAlternatives, branches}

pub takes : {V : Type 0} {gives : Token → Option V} {x : List Placed} {v : V} {y : List Placed} → Takes gives x v y → length y + 1 ≤ length x
takes t = let h = ap length t.tokens in omega (arith, h)

pub class_text : {x y : List Placed} {text : List ℕ} → SpellsClass x y text → length y + 1 ≤ length x
class_text (class_end t) = takes t
class_text (class_piece t more) = let h = takes t in let k = class_text more in omega (arith, h, k)

pub suffix : {x y : List Placed} {s : Option Suffix} → SpellsSuffix x y s → length y ≤ length x
suffix (no_suffix h) = omega arith
suffix (a_suffix t) = let h = takes t in omega (arith, h)

mutual
  pub atom : {names : Names} {x y : List Placed} {e : Tree} → SpellsAtom names x y e → length y + 1 ≤ length x
  atom (node t) = takes t
  atom (class t c) = let h = takes t in let k = class_text c in omega (arith, h, k)
  atom (opened t o) = let h = takes t in let k = rest o in omega (arith, h, k)

  pub rest : {names : Names} {o : Opening} {x y : List Placed} {e : Tree} → SpellsOpened names o x y e → length y + 1 ≤ length x
  rest (around a c) = let h = alternatives a in let k = takes c in omega (arith, h, k)
  rest (group a c) = let h = alternatives a in let k = takes c in omega (arith, h, k)
  rest (stopper a c) = let h = one_branch a in let k = takes c in omega (arith, h, k)
  rest (expression a b e c) = let h = one_branch a in let i = takes b in let j = alternatives e in let k = takes c in omega (arith, h, i, j, k)
  rest (asked r c) = takes c
  rest (if_group r h b) = bodies b
  rest (if_pattern a c b) = let h = alternatives a in let i = takes c in let j = bodies b in omega (arith, h, i, j)
  rest (if_look a c b) = let h = alternatives a in let i = takes c in let j = bodies b in omega (arith, h, i, j)

  pub bodies : {names : Names} {c : Tree} {x y : List Placed} {e : Tree} → SpellsBodies names c x y e → length y + 1 ≤ length x
  bodies (one_body b c) = let h = one_branch b in let k = takes c in omega (arith, h, k)
  bodies (two_bodies b t a c) = let h = one_branch b in let i = takes t in let j = alternatives a in let k = takes c in omega (arith, h, i, j, k)

  pub one_piece : {names : Names} {x y : List Placed} {e : Tree} → SpellsPiece names x y e → length y + 1 ≤ length x
  one_piece (plain a h) = atom a
  one_piece (quantified a may t s) = let h = atom a in let i = takes t in let j = suffix s in omega (arith, h, i, j)

  pub pieces : {names : Names} {x y : List Placed} {es : List Tree} → SpellsPieces names x y es → length y ≤ length x
  pieces (no_piece h) = omega arith
  pieces (piece on p more) = let h = one_piece p in let k = pieces more in omega (arith, h, k)

  pub one_branch : {names : Names} {x y : List Placed} {e : Tree} → SpellsBranch names x y e → length y ≤ length x
  one_branch (branch ps) = pieces ps

  pub bars : {names : Names} {x y : List Placed} {es : List Tree} → SpellsBars names x y es → length y ≤ length x
  bars (no_bar h) = omega arith
  bars (barred t b more) = let h = takes t in let i = one_branch b in let k = bars more in omega (arith, h, i, k)

  pub alternatives : {names : Names} {x y : List Placed} {e : Tree} → SpellsAlternatives names x y e → length y ≤ length x
  alternatives (branches b more) = let h = one_branch b in let k = bars more in omega (arith, h, k)
