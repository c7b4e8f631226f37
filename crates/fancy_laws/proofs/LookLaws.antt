-- What users rely on: atomic groups and look-arounds.
use Rattle.std.proofs.Common.{◌≡◌, ◌≢◌, ℕ, ◌≤◌, ◌⊎◌, inl, inr, ⊎_elim, ◌++◌, not, List, [], ◌∷◌, length, map, take, flat_map, Contains, refl, sym, ap, ◌∙◌, arith, append-nil, subst}
use Rattle.fancy_meaning.specs.Tree.{Tree, Trees, none, more, children, Alt, LookAround, Look, LookAhead, LookAheadNeg, LookBehind, LookBehindNeg}
use Rattle.fancy_meaning.specs.OpenCalls.{Depths, free_calls}
use Rattle.fancy_meaning.specs.MatchState.{MatchState, Ways, moved_to, one_of, has_way}
use Rattle.fancy_meaning.specs.Ways.{Setting, ends_here, looks, ways_with, each_ways, called, ways}
use Rattle.fancy_laws.proofs.Every.{Every, every_contained}
use Rattle.fancy_laws.proofs.Looks.{has_branches}
use Rattle.fancy_laws.proofs.WaysOf.{every_stays_if}

pub at_most_one : (ss : List MatchState) → length (take 1 ss) ≤ 1
at_most_one [] = omega arith
at_most_one (t ∷ ss) = omega arith

module _ (q : Setting) (call : ℕ → Ways) where
  pub negative_look_stays : (look : Look) (e : Tree) (s : MatchState) → (look ≡ LookAheadNeg) ⊎ (look ≡ LookBehindNeg) →
      Every (λ t. t ≡ s) (ways_with q call (LookAround look e) s)
  negative_look_stays look e s is =
      let b = has_branches q call e in
      subst (λ w. Every (λ t. t ≡ s) (w s)) (sym (b.of_look look))
      (⊎_elim
      (λ ahead. subst (λ l. Every (λ t. t ≡ s) (looks q l b.branches s)) (sym ahead)
      (every_stays_if (λ u. not (has_way (one_of b.branches) u)) s (λ e. refl)))
      (λ behind. subst (λ l. Every (λ t. t ≡ s) (looks q l b.branches s)) (sym behind)
      (every_stays_if (λ u. not (has_way (one_of (map (ends_here q) b.branches)) u)) s (λ e. refl)))
      is)

  pub ahead_has_ways_of_body : (e : Tree) (s : MatchState) →
      ways_with q call (LookAround LookAhead e) s ≡ map (moved_to s.place) (ways_with q call e s)
  ahead_has_ways_of_body e s =
      let b = has_branches q call e in
      ap (λ w. w s) (b.of_look LookAhead) ∙ ap (map (moved_to s.place)) (b.in_turn s)

  pub behind_has_ways_of_body : (e : Tree) (s : MatchState) → ((es : Trees) → e ≢ Alt es) →
      ways_with q call (LookAround LookBehind e) s ≡ ends_here q (ways_with q call e) s
  behind_has_ways_of_body e s no_alt =
      let b = has_branches q call e in
      ap (λ w. w s) (b.of_look LookBehind)
      ∙ ap (λ ws. looks q LookBehind ws s) (b.alone no_alt)
      ∙ append-nil (ends_here q (ways_with q call e) s)

  pub behind_goes_by_branches : (es : Trees) (s : MatchState) →
      one_of (map (ends_here q) (each_ways q call es)) s ≡ flat_map (λ e. ends_here q (ways_with q call e) s) (children es)
  behind_goes_by_branches none s = refl
  behind_goes_by_branches (more e es) s = ap (◌++◌ (ends_here q (ways_with q call e) s)) (behind_goes_by_branches es s)

pub negative_look_changes_nothing : (q : Setting) (whole e : Tree) (depths : Depths) (s t : MatchState) →
    Contains (ways q whole (LookAround LookAheadNeg e) depths s) t
    ⊎ Contains (ways q whole (LookAround LookBehindNeg e) depths s) t → t ≡ s
negative_look_changes_nothing q whole e depths s t h =
    let call = called q whole (free_calls whole depths) depths in
    ⊎_elim
    (λ c. every_contained t (negative_look_stays q call LookAheadNeg e s (inl refl)) c)
    (λ c. every_contained t (negative_look_stays q call LookBehindNeg e s (inr refl)) c)
    h
