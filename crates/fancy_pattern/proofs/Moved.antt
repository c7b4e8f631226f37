-- What is spelled is spelled with other tokens behind it, where these take nothing that was left.
use Rattle.std.proofs.Common.{◌≡◌, ℕ, ◌≤◌, Bool, true, false, not, List, [], ◌∷◌, ◌++◌, length, Option, refl, sym, ap, ◌∙◌, subst, arith}
use Rattle.std.proofs.lemmas.Bool.{true≢false}
use Rattle.fancy_meaning.specs.Tree.{Tree}
use Rattle.fancy_tokens.specs.declared.tokens.Suffix.{Suffix}
use Rattle.fancy_tokens.specs.Tokens.{Opening, Token, Close, Quantified, Placed}
use Rattle.fancy_pattern.specs.Stuck.{Alike, here, there, SameFirst, both_ended, same_token, is_end, is_calm}
use Rattle.fancy_pattern.specs.Grammar.{Names, Takes, is_at, gives_some, is_branch_end, bar, closing, suffix, quantifier, SpellsClass, class_end, class_piece, SpellsSuffix, no_suffix, a_suffix, SpellsAtom, node, class, opened, SpellsOpened, around, group, stopper, expression, asked, if_group, if_pattern, if_look, SpellsBodies, one_body, two_bodies, SpellsPiece, plain, quantified, SpellsPieces, no_piece, piece, SpellsBranch, branch, SpellsBars, no_bar, barred, SpellsAlternatives, branches}
use Rattle.fancy_pattern.proofs.Lengths as lengths

-- ---- what may follow

pub record Calm (r r' : List Placed) : Type 0 where
  pub quantifier : is_at quantifier r ≡ false → is_at quantifier r' ≡ false
  pub suffix : is_at suffix r ≡ false → is_at suffix r' ≡ false

pub record Follows (r r' : List Placed) : Type 0 where
  pub calm : Calm r r'
  pub ends : is_branch_end r ≡ true → is_branch_end r' ≡ true
  pub bar : is_at bar r ≡ false → is_at bar r' ≡ false

-- the same token follows, or one that starts what may follow
pub data Meets (starts : List Placed → Bool) (r r' : List Placed) : Type 0 where
  by_same : SameFirst r r' → Meets starts r r'
  by_start : starts r' ≡ true → Meets starts r r'

same_follows : {r r' : List Placed} → SameFirst r r' → Follows r r'
same_follows both_ended = record { calm = record { quantifier = λ h. h; suffix = λ h. h }; ends = λ h. h; bar = λ h. h }
same_follows same_token = record { calm = record { quantifier = λ h. h; suffix = λ h. h }; ends = λ h. h; bar = λ h. h }

no_suffix_there : (t : Token) → not (gives_some (quantifier t)) ≡ true → gives_some (suffix t) ≡ false
no_suffix_there (Quantified q greedy) h = absurd (true≢false (sym h))
no_suffix_there t h = refl

no_quantifier_there : (b : Bool) → not b ≡ true → b ≡ false
no_quantifier_there true h = absurd (true≢false (sym h))
no_quantifier_there false h = refl

pub calm_start : {r : List Placed} (r' : List Placed) → is_calm r' ≡ true → Calm r r'
calm_start [] h = record { quantifier = λ k. refl; suffix = λ k. refl }
calm_start (p ∷ ps) h = record { quantifier = λ k. no_quantifier_there _ h; suffix = λ k. no_suffix_there p.token h }

pub record Ended (r : List Placed) : Type 0 where
  pub quantifier : is_at quantifier r ≡ false
  pub suffix : is_at suffix r ≡ false
  pub ends : is_branch_end r ≡ true
  pub bar : is_at bar r ≡ false

token_ends : (p : Placed) (ps : List Placed) (t : Token) → gives_some (closing t) ≡ true → p ≡ record { left = p.left; token = t } → Ended (p ∷ ps)
token_ends p ps Close h is = record {
  quantifier = ap (λ q. gives_some (quantifier q.token)) is;
  suffix = ap (λ q. gives_some (suffix q.token)) is;
  ends = ap (λ q. is_branch_end (q ∷ ps)) is;
  bar = ap (λ q. gives_some (bar q.token)) is;
}
token_ends p ps t h is = absurd (true≢false (sym h))

pub ended : (r : List Placed) → is_end r ≡ true → Ended r
ended [] h = record { quantifier = refl; suffix = refl; ends = refl; bar = refl }
ended (p ∷ ps) h = token_ends p ps p.token h refl

pub calm_of : {r r' : List Placed} → Meets is_calm r r' → Calm r r'
calm_of (by_same s) = (same_follows s).calm
calm_of {r' = r'} (by_start h) = calm_start r' h

pub follows_of : {r r' : List Placed} → Meets is_end r r' → Follows r r'
follows_of (by_same s) = same_follows s
follows_of {r' = r'} (by_start h) =
    let e = ended r' h in
    record { calm = record { quantifier = λ k. e.quantifier; suffix = λ k. e.suffix }; ends = λ k. e.ends; bar = λ k. e.bar }

-- ---- lists that are alike

pub alike_longer : {r r' x x' : List Placed} → Alike r r' x x' → length r ≤ length x
alike_longer here = omega arith
alike_longer (there p l) = let h = alike_longer l in omega (arith, h)

pub alike_end : {r r' x x' : List Placed} → Alike r r' x x' → length x ≡ length r → x' ≡ r'
alike_end here e = refl
alike_end (there p l) e = let h = alike_longer l in absurd (omega (arith, h, e))

pub alike_first : {r r' x x' : List Placed} → SameFirst r r' → Alike r r' x x' → SameFirst x x'
alike_first s here = s
alike_first s (there p l) = same_token

pub alike_append : (before : List Placed) {r r' : List Placed} → Alike r r' (before ++ r) (before ++ r')
alike_append [] = here
alike_append (p ∷ before) = there p (alike_append before)

pub tested_alike : {r r' y y' : List Placed} (test : List Placed → Bool) (b : Bool) →
    ((p : Placed) (ps qs : List Placed) → test (p ∷ ps) ≡ test (p ∷ qs)) → Alike r r' y y' →
    (length y ≡ length r → test r ≡ b → test r' ≡ b) → test y ≡ b → test y' ≡ b
tested_alike test b same here h e = h refl e
tested_alike test b same (there {x = x} {x' = x'} p l) h e = same p x' x ∙ e

-- ---- what is spelled

-- the same is spelled, up to what stands where y stood
pub record Moved {V : Type 0} (spells : List Placed → List Placed → V → Type 0) (r r' y x' : List Placed) (v : V) : Type 0 where
  pub behind : List Placed
  pub alike : Alike r r' y behind
  pub spelled : spells x' behind v

abbrev pub OneToken : {V : Type 0} → (Token → Option V) → List Placed → List Placed → V → Type 0
OneToken gives x y v = Takes gives x v y

pub token_moved : {V : Type 0} {gives : Token → Option V} {r r' x x' y : List Placed} {v : V} → Takes gives x v y → length r ≤ length y →
    Alike r r' x x' → Moved (OneToken gives) r r' y x' v
token_moved t h here = absurd (let k = lengths.takes t in omega (arith, h, k))
token_moved {gives = gives} {r = r} {r' = r'} {y = y} {v = v} t h (there {x = a} {x' = b} p l) =
    let e : p ∷ a ≡ t.first ∷ y = t.tokens in
    let left : a ≡ y = cc in
    let first : p ≡ t.first = cc in
    record {
      behind = b;
      alike = subst (λ z. Alike r r' z b) left l;
      spelled = record { first = p; tokens = refl; is = ap (λ q. gives q.token) first ∙ t.is };
    }

pub class_moved : {r r' x x' y : List Placed} {text : List ℕ} → SpellsClass x y text → length r ≤ length y → Alike r r' x x' →
    Moved SpellsClass r r' y x' text
class_moved (class_end t) h l =
    let m = token_moved t h l in
    record { behind = m.behind; alike = m.alike; spelled = class_end m.spelled }
class_moved (class_piece t more) h l =
    let k = lengths.class_text more in
    let m = token_moved t (omega (arith, h, k)) l in
    let n = class_moved more h m.alike in
    record { behind = n.behind; alike = n.alike; spelled = class_piece m.spelled n.spelled }

pub suffix_moved : {r r' x x' y : List Placed} {s : Option Suffix} → SpellsSuffix x y s → length r ≤ length y → (length y ≡ length r → Calm r r') →
    Alike r r' x x' → Moved SpellsSuffix r r' y x' s
suffix_moved {x' = x'} (no_suffix e) h c l =
    record { behind = x'; alike = l; spelled = no_suffix (tested_alike (is_at suffix) false (λ p ps qs. refl) l (λ k. (c k).suffix) e) }
suffix_moved (a_suffix t) h c l =
    let m = token_moved t h l in
    record { behind = m.behind; alike = m.alike; spelled = a_suffix m.spelled }

mutual
  pub atom_moved : {names : Names} {r r' x x' y : List Placed} {e : Tree} → SpellsAtom names x y e → length r ≤ length y → Alike r r' x x' →
      Moved (SpellsAtom names) r r' y x' e
  atom_moved (node t) h l =
      let m = token_moved t h l in
      record { behind = m.behind; alike = m.alike; spelled = node m.spelled }
  atom_moved (class t c) h l =
      let k = lengths.class_text c in
      let m = token_moved t (omega (arith, h, k)) l in
      let n = class_moved c h m.alike in
      record { behind = n.behind; alike = n.alike; spelled = class m.spelled n.spelled }
  atom_moved (opened t o) h l =
      let k = lengths.rest o in
      let m = token_moved t (omega (arith, h, k)) l in
      let n = opened_moved o h m.alike in
      record { behind = n.behind; alike = n.alike; spelled = opened m.spelled n.spelled }

  pub opened_moved : {names : Names} {o : Opening} {r r' x x' y : List Placed} {e : Tree} → SpellsOpened names o x y e → length r ≤ length y →
      Alike r r' x x' → Moved (SpellsOpened names o) r r' y x' e
  opened_moved (around a c) h l =
      let k = lengths.takes c in
      let m = alternatives_moved a (omega (arith, h, k)) (λ e. absurd (omega (arith, h, k, e))) l in
      let n = token_moved c h m.alike in
      record { behind = n.behind; alike = n.alike; spelled = around m.spelled n.spelled }
  opened_moved (group a c) h l =
      let k = lengths.takes c in
      let m = alternatives_moved a (omega (arith, h, k)) (λ e. absurd (omega (arith, h, k, e))) l in
      let n = token_moved c h m.alike in
      record { behind = n.behind; alike = n.alike; spelled = group m.spelled n.spelled }
  opened_moved (stopper b c) h l =
      let k = lengths.takes c in
      let m = branch_moved b (omega (arith, h, k)) (λ e. absurd (omega (arith, h, k, e))) l in
      let n = token_moved c h m.alike in
      record { behind = n.behind; alike = n.alike; spelled = stopper m.spelled n.spelled }
  opened_moved (expression b t a c) h l =
      let i = lengths.takes c in
      let j = lengths.alternatives a in
      let k = lengths.takes t in
      let m = branch_moved b (omega (arith, h, i, j, k)) (λ e. absurd (omega (arith, h, i, j, k, e))) l in
      let n = token_moved t (omega (arith, h, i, j)) m.alike in
      let o = alternatives_moved a (omega (arith, h, i)) (λ e. absurd (omega (arith, h, i, e))) n.alike in
      let p = token_moved c h o.alike in
      record { behind = p.behind; alike = p.alike; spelled = expression m.spelled n.spelled o.spelled p.spelled }
  opened_moved (asked r c) h l =
      let n = token_moved c h l in
      record { behind = n.behind; alike = n.alike; spelled = asked r n.spelled }
  opened_moved (if_group r e b) h l =
      let k = lengths.bodies b in
      let n = bodies_moved b h l in
      record {
        behind = n.behind;
        alike = n.alike;
        spelled = if_group r (tested_alike (is_at closing) false (λ p ps qs. refl) l (λ q. absurd (omega (arith, h, k, q))) e) n.spelled;
      }
  opened_moved (if_pattern a c b) h l =
      let i = lengths.bodies b in
      let k = lengths.takes c in
      let m = alternatives_moved a (omega (arith, h, i, k)) (λ e. absurd (omega (arith, h, i, k, e))) l in
      let n = token_moved c (omega (arith, h, i)) m.alike in
      let o = bodies_moved b h n.alike in
      record { behind = o.behind; alike = o.alike; spelled = if_pattern m.spelled n.spelled o.spelled }
  opened_moved (if_look a c b) h l =
      let i = lengths.bodies b in
      let k = lengths.takes c in
      let m = alternatives_moved a (omega (arith, h, i, k)) (λ e. absurd (omega (arith, h, i, k, e))) l in
      let n = token_moved c (omega (arith, h, i)) m.alike in
      let o = bodies_moved b h n.alike in
      record { behind = o.behind; alike = o.alike; spelled = if_look m.spelled n.spelled o.spelled }

  pub bodies_moved : {names : Names} {c : Tree} {r r' x x' y : List Placed} {e : Tree} → SpellsBodies names c x y e → length r ≤ length y →
      Alike r r' x x' → Moved (SpellsBodies names c) r r' y x' e
  bodies_moved (one_body b c) h l =
      let k = lengths.takes c in
      let m = branch_moved b (omega (arith, h, k)) (λ e. absurd (omega (arith, h, k, e))) l in
      let n = token_moved c h m.alike in
      record { behind = n.behind; alike = n.alike; spelled = one_body m.spelled n.spelled }
  bodies_moved (two_bodies b t a c) h l =
      let i = lengths.takes c in
      let j = lengths.alternatives a in
      let k = lengths.takes t in
      let m = branch_moved b (omega (arith, h, i, j, k)) (λ e. absurd (omega (arith, h, i, j, k, e))) l in
      let n = token_moved t (omega (arith, h, i, j)) m.alike in
      let o = alternatives_moved a (omega (arith, h, i)) (λ e. absurd (omega (arith, h, i, e))) n.alike in
      let p = token_moved c h o.alike in
      record { behind = p.behind; alike = p.alike; spelled = two_bodies m.spelled n.spelled o.spelled p.spelled }

  pub piece_moved : {names : Names} {r r' x x' y : List Placed} {e : Tree} → SpellsPiece names x y e → length r ≤ length y →
      (length y ≡ length r → Calm r r') → Alike r r' x x' → Moved (SpellsPiece names) r r' y x' e
  piece_moved (plain a e) h c l =
      let m = atom_moved a h l in
      record {
        behind = m.behind;
        alike = m.alike;
        spelled = plain m.spelled (tested_alike (is_at quantifier) false (λ p ps qs. refl) m.alike (λ k. (c k).quantifier) e);
      }
  piece_moved (quantified a may t s) h c l =
      let i = lengths.takes t in
      let j = lengths.suffix s in
      let m = atom_moved a (omega (arith, h, i, j)) l in
      let n = token_moved t (omega (arith, h, j)) m.alike in
      let o = suffix_moved s h c n.alike in
      record { behind = o.behind; alike = o.alike; spelled = quantified m.spelled may n.spelled o.spelled }

  pub pieces_moved : {names : Names} {r r' x x' y : List Placed} {es : List Tree} → SpellsPieces names x y es → length r ≤ length y →
      (length y ≡ length r → Follows r r') → Alike r r' x x' → Moved (SpellsPieces names) r r' y x' es
  pieces_moved {x' = x'} (no_piece e) h f l =
      record { behind = x'; alike = l; spelled = no_piece (tested_alike is_branch_end true (λ p ps qs. refl) l (λ k. (f k).ends) e) }
  pieces_moved (piece at p more) h f l =
      let i = lengths.one_piece p in
      let j = lengths.pieces more in
      let m = piece_moved p (omega (arith, h, j)) (λ e. (f (omega (arith, h, j, e))).calm) l in
      let n = pieces_moved more h f m.alike in
      record {
        behind = n.behind;
        alike = n.alike;
        spelled = piece (tested_alike is_branch_end false (λ p ps qs. refl) l (λ e. absurd (omega (arith, h, i, j, e))) at) m.spelled n.spelled;
      }

  pub branch_moved : {names : Names} {r r' x x' y : List Placed} {e : Tree} → SpellsBranch names x y e → length r ≤ length y →
      (length y ≡ length r → Follows r r') → Alike r r' x x' → Moved (SpellsBranch names) r r' y x' e
  branch_moved (branch ps) h f l =
      let m = pieces_moved ps h f l in
      record { behind = m.behind; alike = m.alike; spelled = branch m.spelled }

  pub bars_moved : {names : Names} {r r' x x' y : List Placed} {es : List Tree} → SpellsBars names x y es → length r ≤ length y →
      (length y ≡ length r → Follows r r') → Alike r r' x x' → Moved (SpellsBars names) r r' y x' es
  bars_moved {x' = x'} (no_bar e) h f l =
      record { behind = x'; alike = l; spelled = no_bar (tested_alike (is_at bar) false (λ p ps qs. refl) l (λ k. (f k).bar) e) }
  bars_moved (barred t b more) h f l =
      let i = lengths.one_branch b in
      let j = lengths.bars more in
      let m = token_moved t (omega (arith, h, i, j)) l in
      let n = branch_moved b (omega (arith, h, j)) (λ e. f (omega (arith, h, j, e))) m.alike in
      let o = bars_moved more h f n.alike in
      record { behind = o.behind; alike = o.alike; spelled = barred m.spelled n.spelled o.spelled }

  pub alternatives_moved : {names : Names} {r r' x x' y : List Placed} {e : Tree} → SpellsAlternatives names x y e → length r ≤ length y →
      (length y ≡ length r → Follows r r') → Alike r r' x x' → Moved (SpellsAlternatives names) r r' y x' e
  alternatives_moved (branches b more) h f l =
      let j = lengths.bars more in
      let m = branch_moved b (omega (arith, h, j)) (λ e. f (omega (arith, h, j, e))) l in
      let n = bars_moved more h f m.alike in
      record { behind = n.behind; alike = n.alike; spelled = branches m.spelled n.spelled }
