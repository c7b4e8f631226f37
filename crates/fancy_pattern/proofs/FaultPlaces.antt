-- Where the reader is stuck is the place of a fault.
use Rattle.std.proofs.Common.{◌≡◌, ◌<◌, List, [], ◌∷◌, ◌++◌, length, refl, sym, ap, ◌∙◌, subst, arith, append_assoc, append-nil}
use Rattle.fancy_meaning.specs.Tree.{Tree}
use Rattle.fancy_tokens.specs.declared.error.Fault.{Fault}
use Rattle.fancy_tokens.specs.Tokens.{Placed}
use Rattle.fancy_pattern.specs.Grammar.{Names, SpellsAlternatives}
use Rattle.fancy_pattern.specs.Faults.{misfit, IsPlace, at_token, at_name, CanBegin, IsFaultAt, stray, early}
use Rattle.fancy_pattern.specs.Stuck.{Alike, SameFirst, both_ended, same_token, Stuck, anything, is_end}
use Rattle.fancy_pattern.proofs.Splits as splits
use Rattle.fancy_pattern.proofs.OneSpelling.{one_alternatives}
use Rattle.fancy_pattern.proofs.Moved.{Meets, by_same, by_start, follows_of, alike_append, alike_end, alternatives_moved}

at_end : (names : Names) (f : Fault) → IsPlace names f [] → f ≡ misfit []
at_end names f (at_token is) = is
at_end names f (at_name r next none is) = absurd (cc)

-- where the token does not stand, whatever is read before it
at_the_token : (names : Names) (before after : List Placed) (p : Placed) (f : Fault) (ts : List Placed) → ts ≡ before ++ p ∷ after →
    IsPlace names f (p ∷ after) → CanBegin names before → ((more : List Placed) (e : Tree) → SpellsAlternatives names (before ++ p ∷ more) [] e → ⊥) →
    IsFaultAt names ts f
at_the_token names before after p f ts split is begins never =
    stray before after p split is begins (λ c. never c.0 c.1 (subst (λ l. SpellsAlternatives names l [] c.1) (append_assoc before (p ∷ []) c.0) c.2))

alike_split : (ts before rest other : List Placed) → ts ≡ before ++ rest → Alike rest other ts (before ++ other)
alike_split ts before rest other split = subst (λ l. Alike rest other l (before ++ other)) (sym split) (alike_append before)

pub fault_there : (names : Names) (ts : List Placed) (f : Fault) → Stuck names anything (SpellsAlternatives names) ts f → IsFaultAt names ts f
fault_there names ts f s = by_rest s.rest refl
  where
    before : List Placed
    before = (splits.split s.within).0

    split : ts ≡ before ++ s.rest
    split = (splits.split s.within).1

    begins : CanBegin names before
    begins =
        let g = s.goes (before ++ (s.more ++ [])) [] refl (alike_split ts before s.rest (s.more ++ []) split) in
        (s.more ++ [], g.0, g.1)

    by_rest : (rest : List Placed) → s.rest ≡ rest → IsFaultAt names ts f
    by_rest (p ∷ after) is =
        at_the_token names before after p f ts (split ∙ ap (λ l. before ++ l) is) (subst (IsPlace names f) is s.place) begins
        (λ more e h. s.never (p ∷ more) (before ++ p ∷ more) [] e (subst (λ l. SameFirst l (p ∷ more)) (sym is) same_token)
        (alike_split ts before s.rest (p ∷ more) split) h)
    by_rest [] is =
        let all : ts ≡ before = split ∙ ap (λ l. before ++ l) is ∙ append-nil before in
        early (at_end names f (subst (IsPlace names f) is s.place)) (subst (CanBegin names) (sym all) begins)
        (λ e h. s.never [] ts [] e (subst (λ l. SameFirst l []) (sym is) both_ended)
        (subst (λ l. Alike s.rest [] ts l) (append-nil before ∙ sym all) (alike_split ts before s.rest [] split)) h)

-- tokens are left where all was read
pub fault_left : (names : Names) (ts rest : List Placed) (t : Tree) (f : Fault) → SpellsAlternatives names ts rest t → 0 < length rest → f ≡ misfit rest →
    IsFaultAt names ts f
fault_left names ts [] t f s some is = absurd (omega (arith, some))
fault_left names ts (p ∷ after) t f s some is =
    let w = splits.split (splits.alternatives s) in
    let ended_there : Meets is_end (p ∷ after) [] = by_start refl in
    let m = alternatives_moved s (omega arith) (λ e. follows_of ended_there) (alike_split ts w.0 (p ∷ after) [] w.1) in
    at_the_token names w.0 after p f ts w.1 (at_token is)
    ([], t, subst (λ l. SpellsAlternatives names (w.0 ++ []) l t) (alike_end m.alike refl) m.spelled)
    (λ more e h.
    let same : Meets is_end (p ∷ after) (p ∷ more) = by_same same_token in
    let n = alternatives_moved s (omega arith) (λ e. follows_of same) (alike_split ts w.0 (p ∷ after) (p ∷ more) w.1) in
    let end : p ∷ more ≡ [] = sym (alike_end n.alike refl) ∙ (one_alternatives refl n.spelled h).1 in
    absurd (cc))

pub not_spelled : (names : Names) (ts : List Placed) (f : Fault) (e : Tree) → IsFaultAt names ts f → SpellsAlternatives names ts [] e → ⊥
not_spelled names ts f e (stray before after p split is begins never) s =
    never (after, e, subst (λ l. SpellsAlternatives names l [] e) (split ∙ sym (append_assoc before (p ∷ []) after)) s)
not_spelled names ts f e (early is begins never) s = never e s
