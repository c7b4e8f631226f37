-- What is marked of a sequence: of its first child, and of the rest where that takes nothing.
use Rattle.std.proofs.Common.{◌≡◌, ◌⊎◌, inl, inr, ⊎_elim, Bool, true, false, ◌||◌, if◌then◌else◌, [], ◌∷◌, ◌++◌, refl, ap, ◌∙◌, sym, append-nil}
use Rattle.std.specs.List.{list_any}
use Rattle.std.proofs.lemmas.Bool.{or_left, or_right, or_cases, false≢true}
use Rattle.std.proofs.lemmas.List.Folds.{list_any-append}
use Rattle.fancy_meaning.specs.Tree.{Tree, Trees, more, parts, Group}
use Rattle.fancy_meaning.specs.Marks.{passes_mark, is_continue, takes_nothing, marked_nodes, first_marked_nodes, has_marked_continue}

module _ (whole : Tree) where
  marked_alone : (e : Tree) (b : Bool) → marked_nodes whole e ≡ marked_nodes whole e ++ (if b then [] else [])
  marked_alone e true = sym (append-nil (marked_nodes whole e))
  marked_alone e false = sym (append-nil (marked_nodes whole e))

  pub marked_below : (e : Tree) → marked_nodes whole e ≡ e ∷ (if passes_mark e then first_marked_nodes whole (parts e) else [])
  marked_below (Group g e) = ap (λ l. Group g e ∷ l) (marked_alone e (takes_nothing whole e))
  marked_below e = refl

  module _ (test : Tree → Bool) (e : Tree) (es : Trees) where
    split : list_any test (first_marked_nodes whole (more e es))
        ≡ (list_any test (marked_nodes whole e) || list_any test (if takes_nothing whole e then first_marked_nodes whole es else []))
    split = list_any-append test (marked_nodes whole e) (if takes_nothing whole e then first_marked_nodes whole es else [])

    pub any_in_first : list_any test (marked_nodes whole e) ≡ true → list_any test (first_marked_nodes whole (more e es)) ≡ true
    any_in_first h =
        split ∙ or_left (list_any test (marked_nodes whole e)) (list_any test (if takes_nothing whole e then first_marked_nodes whole es else [])) h

    pub any_later : takes_nothing whole e ≡ true → list_any test (first_marked_nodes whole es) ≡ true →
        list_any test (first_marked_nodes whole (more e es)) ≡ true
    any_later nothing h =
        split
        ∙ or_right (list_any test (marked_nodes whole e)) (list_any test (if takes_nothing whole e then first_marked_nodes whole es else []))
        (ap (λ b. list_any test (if b then first_marked_nodes whole es else [])) nothing ∙ h)

    -- one of the first child's, or of the rest's
    pub any_cases : list_any test (first_marked_nodes whole (more e es)) ≡ true →
        (list_any test (marked_nodes whole e) ≡ true) ⊎ ((takes_nothing whole e ≡ true) × (list_any test (first_marked_nodes whole es) ≡ true))
    any_cases h =
        ⊎_elim (λ here. inl here) (λ later. inr (past (takes_nothing whole e) later))
        (or_cases (list_any test (marked_nodes whole e)) (list_any test (if takes_nothing whole e then first_marked_nodes whole es else []))
        (sym split ∙ h))
      where
        past : (b : Bool) → list_any test (if b then first_marked_nodes whole es else []) ≡ true →
            (b ≡ true) × (list_any test (first_marked_nodes whole es) ≡ true)
        past true l = (refl, l)
        past false l = absurd (false≢true l)

  -- a sequence has a marked `\G`
  abbrev pub first_has_continue : Trees → Bool
  first_has_continue es = list_any is_continue (first_marked_nodes whole es)

  pub continue_in_first : (e : Tree) (es : Trees) → has_marked_continue whole e ≡ true → first_has_continue (more e es) ≡ true
  continue_in_first e es = any_in_first is_continue e es

  pub continue_later : (e : Tree) (es : Trees) → takes_nothing whole e ≡ true → first_has_continue es ≡ true →
      first_has_continue (more e es) ≡ true
  continue_later e es = any_later is_continue e es
