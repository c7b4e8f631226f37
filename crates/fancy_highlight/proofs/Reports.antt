-- One more report.
use Rattle.std.proofs.Common.{◌≡◌, ◌==◌, ◌&&◌, ◌||◌, ℕ, Bool, true, false, not, List, [], ◌∷◌, ◌++◌, if◌then◌else◌, refl, sym, ap, ap₂, ◌∙◌, ⊎_elim}
use Rattle.std.proofs.lemmas.Bool.{and_parts, true≢false}
use Rattle.std.proofs.lemmas.Bool.Decides.{eqb_tells}
use Rattle.std.proofs.lemmas.List.Folds.{list_all-append, list_any-append}
use Rattle.fancy_meaning.specs.Places.{is_place}
use Rattle.fancy_highlight.specs.LeftOut.{are_once, are_placed, is_reported}
use Rattle.fancy_highlight.specs.declared.left_out.LeftOut.{LeftOut}

both : (a b : Bool) → a ≡ true → b ≡ true → (a && b) ≡ true
both a b p q = ap₂ (λ x y. x && y) p q

-- the tests, as the laws of lists take them
abbrev names : ℕ → LeftOut → Bool
names rule r = r.rule == rule

abbrev stands : List ℕ → LeftOut → Bool
stands text r = is_place text r.at

neither : (a b : Bool) → (a || b) ≡ false → (a ≡ false) × (b ≡ false)
neither true b e = absurd (true≢false e)
neither false b e = (refl, e)

or_false : (b : Bool) → (b || (false || false)) ≡ b
or_false true = refl
or_false false = refl

swapped : (q r : ℕ) → (q == r) ≡ false → (r == q) ≡ false
swapped q r e = ⊎_elim
    (λ same. absurd (true≢false (sym same.0 ∙ ap (λ x. x == q) same.1 ∙ ap (λ x. q == x) (sym same.1) ∙ e)))
    (λ other. other.0)
    (eqb_tells r q)

pub one_more_once : (reports : List LeftOut) (r : LeftOut) → is_reported reports r.rule ≡ false → are_once reports ≡ true →
    are_once (reports ++ r ∷ []) ≡ true
one_more_once [] r off once = refl
one_more_once (q ∷ rest) r off once =
    let o = and_parts (not (is_reported rest q.rule)) (are_once rest) once in
    let f = neither (q.rule == r.rule) (is_reported rest r.rule) off in
    let same : is_reported (rest ++ r ∷ []) q.rule ≡ is_reported rest q.rule =
    list_any-append (names q.rule) rest (r ∷ [])
    ∙ ap (λ b. is_reported rest q.rule || (b || false)) (swapped q.rule r.rule f.0) ∙ or_false (is_reported rest q.rule) in
    both (not (is_reported (rest ++ r ∷ []) q.rule)) (are_once (rest ++ r ∷ [])) (ap not same ∙ o.0)
    (one_more_once rest r f.1 o.1)

pub one_more_placed : (text : List ℕ) (reports : List LeftOut) (r : LeftOut) → are_placed text reports ≡ true →
    is_place text r.at ≡ true → are_placed text (reports ++ r ∷ []) ≡ true
one_more_placed text reports r all at =
    list_all-append (stands text) reports (r ∷ [])
    ∙ both (are_placed text reports) (stands text r && true) all (both (stands text r) true at refl)

-- what holds of both lists holds of the one that is picked
pub either : (P : List LeftOut → Type 0) (b : Bool) (new old : List LeftOut) → P new → P old → P (if b then new else old)
either P true new old h k = h
either P false new old h k = k
