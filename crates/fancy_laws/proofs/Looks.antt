-- A look-around of any body, by the branches of the body, and what holds of its ways.
use Rattle.std.proofs.Common.{◌≤◌, sym, subst, map, not, true, ◌≡◌, ◌≢◌, ℕ, List, [], ◌∷◌, refl, append-nil}
use Rattle.fancy_meaning.specs.Places.{is_place}
use Rattle.fancy_meaning.specs.Tree.{LookAhead, LookAheadNeg, LookBehind, LookBehindNeg, Tree, Trees, Look, Alt, LookAround}
use Rattle.fancy_meaning.specs.MatchState.{MatchState, Ways, one_of, moved_to, has_way}
use Rattle.fancy_meaning.specs.Ways.{Setting, looks, ends_here, ways_with, each_ways}
use Rattle.fancy_laws.proofs.Every.{Every, every_map, every_weaker}
use Rattle.fancy_laws.proofs.WaysOf.{every_stays_if, every_one_of, each_of_one_of, every_ends_here}

module _ (q : Setting) (call : ℕ → Ways) where
  -- the branches that a look-around of the tree goes by
  pub record HasBranches (e : Tree) : Type 0 where
    pub branches : List Ways
    pub of_look : (look : Look) → ways_with q call (LookAround look e) ≡ looks q look branches
    pub in_turn : (s : MatchState) → one_of branches s ≡ ways_with q call e s
    pub alone : ((es : Trees) → e ≢ Alt es) → branches ≡ ways_with q call e ∷ []

  -- any tree but an alternation is one branch
  one_branch : (e : Tree) → ((look : Look) → ways_with q call (LookAround look e) ≡ looks q look (ways_with q call e ∷ [])) →
      HasBranches e
  one_branch e h = record {
    branches = ways_with q call e ∷ [];
    of_look = h;
    in_turn = λ s. append-nil (ways_with q call e s);
    alone = λ no_alt. refl;
  }

  pub has_branches : (e : Tree) → HasBranches e
  has_branches (Alt es) = record {
    branches = each_ways q call es;
    of_look = λ look. refl;
    in_turn = λ s. refl;
    alone = λ no_alt. absurd (no_alt es refl);
  }
  has_branches e = one_branch e (λ l. refl)

-- From a good state each way of a body does this, and then each way of a look-around of the body does that.
pub record IsLooking (q : Setting) (Good : MatchState → Type 0) (Body Looked : MatchState → MatchState → Type 0) : Type 0 where
  pub stays : (s : MatchState) → Good s → Looked s s
  pub restores : (s t : MatchState) → Good s → Body s t → Looked s (moved_to s.place t)
  pub goes_back : (s : MatchState) (i : ℕ) → Good s → i ≤ s.place → is_place q.text i ≡ true → Good (moved_to i s)
  pub comes_here : (s t : MatchState) (i : ℕ) → Good s → i ≤ s.place → is_place q.text i ≡ true → Body (moved_to i s) t →
      t.place ≡ s.place → Looked s t

module _ {q : Setting} {Good : MatchState → Type 0} {Body Looked : MatchState → MatchState → Type 0}
    (m : IsLooking q Good Body Looked) where
  every_that_ends_here : (w : Ways) → ((s : MatchState) → Good s → Every (Body s) (w s)) → (s : MatchState) → Good s →
      Every (Looked s) (ends_here q w s)
  every_that_ends_here w h s good =
      every_ends_here {P = λ i t. Body (moved_to i s) t} q w s
      (λ i le at. h (moved_to i s) (m.goes_back s i good le at))
      (λ i t le at step here. m.comes_here s t i good le at step here)

  every_of_branches : (look : Look) (ws : List Ways) → Every (λ w. (s : MatchState) → Good s → Every (Body s) (w s)) ws →
      (s : MatchState) → Good s → Every (Looked s) (looks q look ws s)
  every_of_branches LookAhead ws h s good =
      every_map {P = Body s} (moved_to s.place) (λ t step. m.restores s t good step)
      (every_one_of s (every_weaker (λ w lead. lead s good) h))
  every_of_branches LookAheadNeg ws h s good = every_stays_if (λ u. not (has_way (one_of ws) u)) s (λ e. m.stays s good)
  every_of_branches LookBehind ws h s good =
      every_one_of s
      (every_map {P = λ w. (u : MatchState) → Good u → Every (Body u) (w u)} {Q = λ w. Every (Looked s) (w s)} (ends_here q)
      (λ w lead. every_that_ends_here w lead s good) h)
  every_of_branches LookBehindNeg ws h s good =
      every_stays_if (λ u. not (has_way (one_of (map (ends_here q) ws)) u)) s (λ e. m.stays s good)

  pub every_look : (call : ℕ → Ways) (look : Look) (e : Tree) →
      ((s : MatchState) → Good s → Every (Body s) (ways_with q call e s)) →
      (s : MatchState) → Good s → Every (Looked s) (ways_with q call (LookAround look e) s)
  every_look call look e h s good =
      let b = has_branches q call e in
      subst (λ w. Every (Looked s) (w s)) (sym (b.of_look look))
      (every_of_branches look b.branches
      (each_of_one_of b.branches (λ u g. subst (Every (Body u)) (sym (b.in_turn u)) (h u g))) s good)
