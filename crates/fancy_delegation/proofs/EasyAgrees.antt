-- Where a match has to take something, all ways of an easy node agree on whether they moved.
use Rattle.std.proofs.Common.{◌≡◌, ℕ, zero, suc, ◌<◌, ◌⊎◌, inl, inr, ⊎_elim, true, false, not, ◌&&◌, ◌||◌, ◌==◌, refl, sym, ◌∙◌, arith, eq-eqb, eqb-true}
use Rattle.std.proofs.lemmas.Bool.{and_cases, or_parts, not-false, eqb-false}
use Rattle.fancy_meaning.specs.Tree.{Tree, Empty, KeepOut, ContinueFromPreviousMatchEnd, AbsentClear, Any, Assert, GeneralNewline, Literal, LiteralBytes, Delegate, Concat, Alt, Group, LookAround, Repeat, Backref, BackrefWithLevel, BackrefExists, AtomicGroup, DefineGroup, AbsentRepeater, AbsentStopper, AbsentExpression, Control, Conditional, SubroutineCall, AstNode}
use Rattle.fancy_meaning.specs.Nodes.{nodes, is_read}
use Rattle.fancy_meaning.specs.OpenCalls.{Depths}
use Rattle.fancy_meaning.specs.Ways.{Setting, ways}
use Rattle.fancy_meaning.specs.Options.{Analysis}
use Rattle.fancy_meaning.specs.Hard.{is_hard, any_hard, is_hard_by_size}
use Rattle.fancy_meaning.specs.Sizes.{size}
use Rattle.fancy_meaning.specs.Premises.{Analysed, analysis, tree_of, IsText}
use Rattle.fancy_meaning.specs.Laws.{SizeLaw}
use Rattle.fancy_meaning.specs.Theorems.{EasyWaysAgree}
use Rattle.fancy_delegation.proofs.Items.{IsIn, is_in_contained}
use Rattle.fancy_delegation.proofs.EasyNodes.{IsEasy}
use Rattle.fancy_delegation.proofs.Evenly.{Evenly, exactly, at_least_one, evenly_agree, ways_keep_sound, const_takes, sized_takes}

-- the node takes as much each time, or always something
abbrev pub TakesEvenly : Analysis → Tree → Type 0
TakesEvenly a e = ((size a.tree e).is_const ≡ true) ⊎ (0 < (size a.tree e).least)

-- an easy node takes as much each time, or is not hard by its size
by_size : (a : Analysis) (e : Tree) → IsEasy a e → ((size a.tree e).is_const ≡ true) ⊎ (is_hard_by_size a e ≡ false)
by_size a Empty h = inl refl
by_size a (Any newline crlf) h = inl refl
by_size a (Assert within x) h = inl refl
by_size a (Literal c casei) h = inl refl
by_size a (Delegate inner casei) h = inl refl
by_size a (DefineGroup e) h = inl refl
by_size a KeepOut h = cc
by_size a ContinueFromPreviousMatchEnd h = cc
by_size a AbsentClear h = cc
by_size a (GeneralNewline unicode) h = cc
by_size a (LiteralBytes cs) h = cc
by_size a (Backref g casei) h = cc
by_size a (BackrefWithLevel g level casei) h = cc
by_size a (BackrefExists g level) h = cc
by_size a (Control verb) h = cc
by_size a (SubroutineCall g) h = cc
by_size a (AstNode node) h = cc
by_size a (AbsentStopper e) h = cc
by_size a (AbsentExpression x e) h = cc
by_size a (LookAround look e) h = cc
by_size a (AtomicGroup e) h = cc
by_size a (AbsentRepeater e) h = cc
by_size a (Conditional c t f) h = cc
by_size a (Group g e) h =
    inr (or_parts (is_read a.tree g || is_hard a e) (is_hard_by_size a (Group g e)) h).1
by_size a (Repeat lo hi greedy e) h =
    inr (or_parts (is_hard a e) (is_hard_by_size a (Repeat lo hi greedy e)) h).1
by_size a (Concat es) h = inr (or_parts (any_hard a es) (is_hard_by_size a (Concat es)) h).1
by_size a (Alt es) h = inr (or_parts (any_hard a es) (is_hard_by_size a (Alt es)) h).1

-- what is not hard by its size takes as much each time, or none of both is asked for
by_options : (a : Analysis) (e : Tree) → is_hard_by_size a e ≡ false → ((size a.tree e).is_const ≡ true)
    ⊎ ((a.leftmost_longest ≡ false) × ((a.find_not_empty && (size a.tree e).least == 0) ≡ false))
by_options a e h = ⊎_elim
    {C = ((size a.tree e).is_const ≡ true)
    ⊎ ((a.leftmost_longest ≡ false) × ((a.find_not_empty && (size a.tree e).least == 0) ≡ false))}
    (λ none. inr (or_parts a.leftmost_longest (a.find_not_empty && (size a.tree e).least == 0) none))
    (λ const. inl (not-false (size a.tree e).is_const const))
    (and_cases (a.leftmost_longest || (a.find_not_empty && (size a.tree e).least == 0)) (not (size a.tree e).is_const) h)

-- where the longest match is asked for, an easy node takes as much each time
pub easy_is_const : (a : Analysis) (e : Tree) → IsEasy a e → a.leftmost_longest ≡ true → (size a.tree e).is_const ≡ true
easy_is_const a e h on = ⊎_elim {C = (size a.tree e).is_const ≡ true} (λ const. const)
    (λ not_hard.
    ⊎_elim {C = (size a.tree e).is_const ≡ true} (λ const. const)
    (λ none. let off = none.0 in cc) (by_options a e not_hard)) (by_size a e h)

pub easy_takes_evenly : (a : Analysis) (e : Tree) → IsEasy a e → a.find_not_empty ≡ true → TakesEvenly a e
easy_takes_evenly a e h asked = ⊎_elim {C = TakesEvenly a e} inl
    (λ not_hard.
    ⊎_elim {C = TakesEvenly a e} inl
    (λ none.
    ⊎_elim {C = TakesEvenly a e} (λ not_asked. cc)
    (λ least. inr (positive (size a.tree e).least (eqb-false (size a.tree e).least 0 least)))
    (and_cases a.find_not_empty ((size a.tree e).least == 0) none.1)) (by_options a e not_hard)) (by_size a e h)
  where
    positive : (n : ℕ) → (n ≡ 0 → ⊥) → 0 < n
    positive zero k = absurd (k refl)
    positive (suc n) k = omega arith

module _ (size_law : SizeLaw) where
  module _ (q : Setting) (a : Analysed) (is_text : IsText q.text) (e : Tree) (depths : Depths) (there : IsIn e (nodes (tree_of a))) where
    pub node_evenly : TakesEvenly (analysis a) e → Evenly q (tree_of a) (ways q (tree_of a) e depths)
    node_evenly (inl const) = exactly (size (tree_of a) e).least (const_takes size_law q a is_text e depths there const)
    node_evenly (inr some) = at_least_one (sized_takes size_law q a is_text e depths there some)

  pub easy_ways_agree : EasyWaysAgree
  easy_ways_agree q a e depths s t u is_text there easy asked sound i j =
      let at = is_in_contained (nodes (tree_of a)) e there in
      let same = evenly_agree q (tree_of a) (ways q (tree_of a) e depths) (ways_keep_sound size_law q a is_text e depths at)
      (node_evenly q a is_text e depths at (easy_takes_evenly (analysis a) e easy asked)) s t u s.place sound (omega arith)
      (is_in_contained (ways q (tree_of a) e depths s) t i) (is_in_contained (ways q (tree_of a) e depths s) u j) in
      (λ f. eqb-true u.place s.place (sym same ∙ eq-eqb t.place s.place f), λ f. eqb-true t.place s.place (same ∙ eq-eqb u.place s.place f))
