-- Code that fits: wherever it is laid, its targets lie in it or right behind it, and its slots are there.
use Rattle.std.proofs.Common.{◌≡◌, ℕ, ◌+◌, ◌<◌, ◌≤◌, Bool, true, false, ◌&&◌, if◌then◌else◌, List, [], ◌∷◌, length, arith, length-append, refl}
use Rattle.std.proofs.lemmas.Bool.{lt-ltb}
use Rattle.fancy_meaning.specs.Instr.{Instr}
use Rattle.fancy_meaning.specs.Code.{Code, nothing, one, ◌>>◌, in_turn, over_fresh_slot, headed, from_here, one_at, branch, branches}
use Rattle.fancy_meaning.specs.Fits.{instr_fits}
use Rattle.fancy_laws.proofs.Every.{Every, no_item, item, every_append}

pub both : {a b : Bool} → a ≡ true → b ≡ true → (a && b) ≡ true
both {a} {b} e f = by_first a e
  where
    by_first : (v : Bool) → v ≡ true → (v && b) ≡ true
    by_first true q = f
    by_first false q = q

-- a body of this length, with so many slots, and one for the text-end flag if need be
module _ (len slots : ℕ) where
  abbrev pub Good : Instr → Type 0
  Good i = instr_fits len slots true i ≡ true

  -- The code takes fresh slots in turn. Where this holds, its instructions are good.
  pub record FitsIf (P : Type 0) (c : Code) : Type 0 where
    pub grows : (base fresh : ℕ) → fresh ≤ (c base fresh).fresh
    pub good : P → (base fresh : ℕ) → (c base fresh).fresh ≤ slots → base + length (c base fresh).instrs < len →
        Every Good (c base fresh).instrs

  pub fits_where : {P Q : Type 0} {c : Code} → (Q → P) → FitsIf P c → FitsIf Q c
  fits_where k f = record { grows = f.grows; good = λ q. f.good (k q) }

  pub fits_if : {P : Type 0} (v : Bool) (a b : Code) → FitsIf P a → FitsIf P b → FitsIf P (if v then a else b)
  fits_if true a b f g = f
  fits_if false a b f g = g

  -- ---- the ways in which code is put together

  pub fits_nothing : {P : Type 0} → FitsIf P nothing
  fits_nothing = record { grows = λ base fresh. omega arith; good = λ p base fresh s e. no_item }

  pub fits_one : {P : Type 0} (i : Instr) → (P → Good i) → FitsIf P (one i)
  fits_one i k = record { grows = λ base fresh. omega arith; good = λ p base fresh s e. item (k p) no_item }

  pub fits_next : {P : Type 0} (a b : Code) → FitsIf P a → FitsIf P b → FitsIf P (a >> b)
  fits_next a b f g = record {
    grows = λ base fresh.
        let first = a base fresh in
        let u = f.grows base fresh in
        let v = g.grows (base + length first.instrs) first.fresh in
        omega (arith, u, v);
    good = λ p base fresh s e.
        let first = a base fresh in
        let second = b (base + length first.instrs) first.fresh in
        let v = g.grows (base + length first.instrs) first.fresh in
        let sum = length-append first.instrs second.instrs in
        every_append (f.good p base fresh (omega (arith, s, v)) (omega (arith, e, sum)))
        (g.good p (base + length first.instrs) first.fresh s (omega (arith, e, sum)));
  }

  pub fits_slot : {P : Type 0} (code : ℕ → Code) → ((slot : ℕ) → FitsIf (P × (slot < slots)) (code slot)) →
      FitsIf P (over_fresh_slot code)
  fits_slot code f = record {
    grows = λ base fresh. let u = (f fresh).grows base (fresh + 1) in omega (arith, u);
    good = λ p base fresh s e.
        let u = (f fresh).grows base (fresh + 1) in
        (f fresh).good (p, omega (arith, u, s)) base (fresh + 1) s e;
  }

  pub fits_headed : {P : Type 0} (head : ℕ → ℕ → Instr) (rest : Code) →
      (P → (here after : ℕ) → here < after → after < len → Good (head here after)) → FitsIf P rest → FitsIf P (headed head rest)
  fits_headed head rest k f = record {
    grows = λ base fresh. f.grows (base + 1) fresh;
    good = λ p base fresh s e.
        item (k p base (base + 1 + length (rest (base + 1) fresh).instrs) (omega arith) (omega (arith, e)))
        (f.good p (base + 1) fresh s (omega (arith, e)));
  }

  pub fits_from_here : {P : Type 0} (code : ℕ → Code) → ((here : ℕ) → FitsIf (P × (here < len)) (code here)) →
      FitsIf P (from_here code)
  fits_from_here code f = record {
    grows = λ base fresh. (f base).grows base fresh;
    good = λ p base fresh s e. (f base).good (p, omega (arith, e)) base fresh s e;
  }

  pub fits_one_at : {P : Type 0} (i : ℕ → Instr) → (P → (here : ℕ) → here + 1 < len → Good (i here)) → FitsIf P (one_at i)
  fits_one_at i k = record {
    grows = λ base fresh. omega arith;
    good = λ p base fresh s e. item (k p base (omega (arith, e))) no_item;
  }

  pub good_split : (x y : ℕ) → x < len → y < len → Good (Instr.Split x y)
  good_split x y a b = both (both (lt-ltb x len a) (lt-ltb y len b)) refl

  pub good_jump : (x : ℕ) → x < len → Good (Instr.Jmp x)
  good_jump x a = both (lt-ltb x len a) refl

  pub fits_branch : {P : Type 0} (a b : Code) → FitsIf P a → FitsIf P b → FitsIf P (branch a b)
  fits_branch a b f g = record {
    grows = λ base fresh.
        let first = a (base + 1) fresh in
        let u = f.grows (base + 1) fresh in
        let v = g.grows (base + 1 + length first.instrs + 1) first.fresh in
        omega (arith, u, v);
    good = λ p base fresh s e.
        let first = a (base + 1) fresh in
        let other = base + 1 + length first.instrs + 1 in
        let second = b other first.fresh in
        let v = g.grows other first.fresh in
        let sum = length-append first.instrs (Instr.Jmp (other + length second.instrs) ∷ second.instrs) in
        item (good_split (base + 1) other (omega (arith, e, sum)) (omega (arith, e, sum)))
        (every_append (f.good p (base + 1) fresh (omega (arith, s, v)) (omega (arith, e, sum)))
        (item (good_jump (other + length second.instrs) (omega (arith, e, sum)))
        (g.good p other first.fresh s (omega (arith, e, sum)))));
  }

  pub fits_branches : {P : Type 0} (cs : List Code) → Every (FitsIf P) cs → FitsIf P (branches cs)
  fits_branches [] h = fits_nothing
  fits_branches (c ∷ []) (item f h) = f
  fits_branches (c ∷ d ∷ cs) (item f h) = fits_branch c (branches (d ∷ cs)) f (fits_branches (d ∷ cs) h)

  pub fits_in_turn : {P : Type 0} (cs : List Code) → Every (FitsIf P) cs → FitsIf P (in_turn cs)
  fits_in_turn [] h = fits_nothing
  fits_in_turn (c ∷ cs) (item f h) = fits_next c (in_turn cs) f (fits_in_turn cs h)
