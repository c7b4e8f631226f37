-- What is spelled takes tokens.
use Rattle.std.proofs.Common.{ℕ, ◌<◌, Bool, List, length, Option, ap, arith}
use Rattle.std.proofs.lemmas.List.{length-map}
use Rattle.fancy_meaning.specs.Tree.{Tree}
use Rattle.fancy_notation.specs.declared.forms.Form.{Form}
use Rattle.fancy_notation.specs.declared.reader.Reader.{Reader}
use Rattle.fancy_notation.specs.Tokens.{Token}
use Rattle.fancy_notation.specs.Grammar.{Point, Takes, Begins, SpellsBytes, no_byte, byte, Spells, text, leaf, formed, SpellsForm, cat, alt, around, repeat, set, bytes, names, names_at, verb, conditional, absent_expression, SpellsParts, no_part, spliced, part}
use Rattle.fancy_notation.specs.NotationViews.{placed_of, point_of}

pub takes : {V : Type 0} {gives : Token → Option V} {x : Point} {v : V} {y : Point} → Takes gives x v y → length y.tokens < length x.tokens
takes t = let h = ap length t.tokens in omega (arith, h)

begins : {x : Point} {f : Form} {z : Point} → Begins x f z → length z.tokens < length x.tokens
begins b = let h = takes b.opened in let k = takes b.head in let e = ap length b.tokens in omega (arith, h, k, e)

all_bytes : {x y : Point} {bs : List ℕ} → SpellsBytes x y bs → length y.tokens < length x.tokens
all_bytes (no_byte t) = takes t
all_bytes (byte t more) = let h = takes t in let k = all_bytes more in omega (arith, h, k)

mutual
  pub node : {x y : Point} {e : Tree} → Spells x y e → length y.tokens < length x.tokens
  node (text t) = takes t
  node (leaf t) = takes t
  node (formed b f) = let h = begins b in let k = rest f in omega (arith, h, k)

  rest : {f : Form} {x y : Point} {e : Tree} → SpellsForm f x y e → length y.tokens < length x.tokens
  rest (cat ps) = parts ps
  rest (alt e ps) = let h = node e in let k = parts ps in omega (arith, h, k)
  rest (around e c) = let h = node e in let k = takes c in omega (arith, h, k)
  rest (repeat lo hi e c) = let a = takes lo in let b = takes hi in let h = node e in let k = takes c in omega (arith, a, b, h, k)
  rest (set s c) = let h = takes s in let k = takes c in omega (arith, h, k)
  rest (bytes bs) = all_bytes bs
  rest (names n c) = let h = takes n in let k = takes c in omega (arith, h, k)
  rest (names_at n l c) = let h = takes n in let j = takes l in let k = takes c in omega (arith, h, j, k)
  rest (verb v c) = let h = takes v in let k = takes c in omega (arith, h, k)
  rest (conditional c t f s) = let h = node c in let i = node t in let j = node f in let k = takes s in omega (arith, h, i, j, k)
  rest (absent_expression a e s) = let h = node a in let j = node e in let k = takes s in omega (arith, h, j, k)

  parts : {splices : Bool} {x y : Point} {es : List Tree} → SpellsParts splices x y es → length y.tokens < length x.tokens
  parts (no_part t) = takes t
  parts (spliced t more) = let h = takes t in let k = parts more in omega (arith, h, k)
  parts (part plain e more) = let h = node e in let k = parts more in omega (arith, h, k)

pub taken_shorter : {V : Type 0} {gives : Token → Option V} {v : V} (old new : Reader) → Takes gives (point_of old) v (point_of new) →
    length new.rest.now < length old.rest.now
taken_shorter old new t = omega (arith, length-map old.rest.now placed_of, length-map new.rest.now placed_of, takes t)

pub node_shorter : {e : Tree} (old new : Reader) → Spells (point_of old) (point_of new) e → length new.rest.now < length old.rest.now
node_shorter old new s = omega (arith, length-map old.rest.now placed_of, length-map new.rest.now placed_of, node s)
