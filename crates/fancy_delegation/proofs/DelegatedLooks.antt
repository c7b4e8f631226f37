-- The same for look-arounds.
use Rattle.std.proofs.Common.{◌≡◌, Bool, true, false, not, if◌then◌else◌, List, [], ◌∷◌, ◌++◌, map, flat_map, is_some, slice_get, refl, sym, ap, ◌∙◌, arith, append-nil}
use Rattle.fancy_meaning.specs.Tree.{Tree, Trees, none, more, children, Alt}
use Rattle.fancy_meaning.specs.OpenCalls.{Depths, free_calls}
use Rattle.fancy_meaning.specs.MatchState.{MatchState, Ways, in_order, one_of, has_way}
use Rattle.fancy_meaning.specs.Ways.{unless, ends_here, called}
use Rattle.fancy_meaning.specs.Sizes.{Size, size}
use Rattle.fancy_meaning.specs.Code.{Code, in_turn}
use Rattle.fancy_meaning.specs.Constructs.{look_code, negative_look_code, behind_code}
use Rattle.fancy_meaning.specs.Layout.{Part, body_code}
use Rattle.fancy_meaning.specs.CompileRefusals.{IsWritten, IsAmong, here, there}
use Rattle.fancy_meaning.specs.Premises.{IsSoundState}
use Rattle.fancy_laws.proofs.Every.{Every, no_item, item, every_weaker, every_if}
use Rattle.fancy_delegation.proofs.Related.{branch_ways}
use Rattle.fancy_delegation.proofs.Evenly.{KeepsSound, sound_stays, const_takes, sizes}
use Rattle.fancy_delegation.proofs.IsRefined.{refined_every}
use Rattle.fancy_delegation.proofs.Refined.{EqualUpTo, same_way, handed_sound}
use Rattle.fancy_delegation.proofs.RefinedLooks.{key_equal_behind}
use Rattle.fancy_delegation.proofs.EnumeratesWays.{SizedBy, Setup}
use Rattle.fancy_delegation.proofs.Delegated.{means, Refined, part_of, trees_of, ChildRefined, EachRefined, no_choice, and_choice}
use Rattle.fancy_delegation.proofs.DelegatedNodes.{plan, whole}

-- none of these has a way, one asked after the other
none_of : (g : Ways) (gs : List Ways) (s : MatchState) (hs : List MatchState) → g s ≡ hs →
    in_order (map unless gs) s ≡ unless (one_of gs) s → flat_map (in_order (map unless gs)) (unless g s)
    ≡ unless (one_of (g ∷ gs)) s
none_of g gs s [] e rest =
    ap (λ l. flat_map (in_order (map unless gs)) (if not (is_some (slice_get l 0)) then s ∷ [] else [])) e
    ∙ append-nil (in_order (map unless gs) s) ∙ rest
    ∙ sym (ap (λ l. if not (is_some (slice_get (l ++ one_of gs s) 0)) then s ∷ [] else []) e)
none_of g gs s (h ∷ hs) e rest =
    ap (λ l. flat_map (in_order (map unless gs)) (if not (is_some (slice_get l 0)) then s ∷ [] else [])) e
    ∙ sym (ap (λ l. if not (is_some (slice_get (l ++ one_of gs s) 0)) then s ∷ [] else []) e)

pub unless_each : (gs : List Ways) (s : MatchState) → in_order (map unless gs) s ≡ unless (one_of gs) s
unless_each [] s = refl
unless_each (g ∷ gs) s = none_of g gs s (g s) refl (unless_each gs s)

pub every_child : {P : Tree → Type 0} (es : Trees) → ((d : Tree) → IsAmong d es → P d) → Every P (children es)
every_child none k = no_item
every_child (more e es) k = item (k e here) (every_child es (λ d i. k d (there i)))

pub every_tree : {P : Tree → Type 0} (ws : List Part) → Every P (map (λ w. w.tree) ws) → Every (λ w. P w.tree) ws
every_tree [] h = no_item
every_tree (w ∷ ws) (item r h) = item r (every_tree ws h)

module _ (given : Setup) (depths : Depths) where
  abbrev pub branches_mean : Tree → List Ways
  branches_mean e = branch_ways given.setting (called given.setting (whole given depths) (free_calls (whole given depths) depths) depths) e

  abbrev pub means_of : Tree → Ways
  means_of e = means given depths e

  abbrev pub IsConstant : Tree → Type 0
  IsConstant e = (size (whole given depths) e).is_const ≡ true

  abbrev pub bodies : List Part → List (Size × Code)
  bodies ws = map (body_code (plan given depths)) ws

  -- a body is one of its branches, or each of them in turn
  pub body_means : (e : Tree) (s : MatchState) → means_of e s ≡ one_of (branches_mean e) s
  body_means (Alt es) s = refl
  body_means e s = sym (append-nil (means_of e s))

  sized : (e : Tree) → IsWritten (whole given depths) e → SizedBy given.tree given.options given.setting (size (whole given depths) e) (means_of e)
  sized e wr s ok = every_weaker (λ t z. z.1) (sizes given.size_law given.setting given.tree given.is_text e depths ((given.ready).there e wr) s ok)

  -- ---- lookbehinds of a constant size

  module _ (e : Tree) (wr : IsWritten (whole given depths) e) (const : IsConstant e) (c : Code) (h : Refined given depths false c (means_of e)) where
    handed_sized : SizedBy given.tree given.options given.setting (size (whole given depths) e) h.handed
    handed_sized s ok = refined_every ((h.key_equal).by s 0 ok (omega arith)) (sized e wr s ok)

    handed_keeps : KeepsSound given.setting (whole given depths) h.handed
    handed_keeps = handed_sound (plan given depths) given.setting false h.handed (means_of e) (part_of given depths e wr) h.key_equal

    refines_behind : (in_hard : Bool) →
        EqualUpTo (plan given depths) given.setting in_hard (ends_here given.setting h.handed)
        (ends_here given.setting (means_of e))
    refines_behind =
        key_equal_behind (plan given depths) given.setting (size (whole given depths) e).least h.handed (means_of e)
        (part_of given depths e wr)
        (const_takes given.size_law given.setting given.tree given.is_text e depths ((given.ready).there e wr) const)
        h.key_equal

    pub behind_refined : (in_hard : Bool) →
        Refined given depths in_hard (behind_code look_code (size (whole given depths) e, c))
        (ends_here given.setting (means_of e))
    behind_refined in_hard = record {
      handed = ends_here given.setting h.handed;
      simulates = (given.laws).enumerates_behind (size (whole given depths) e) c h.handed const handed_sized handed_keeps h.simulates;
      key_equal = refines_behind in_hard;
    }

    pub not_behind_simulates : given.Simulates (behind_code negative_look_code (size (whole given depths) e, c))
        (unless (ends_here given.setting (means_of e)))
    not_behind_simulates =
        (given.laws).as_ways (behind_code negative_look_code (size (whole given depths) e, c))
        (unless (ends_here given.setting h.handed)) (unless (ends_here given.setting (means_of e)))
        (λ s ok. ap (λ v. if not v then s ∷ [] else [])
        (same_way (plan given depths) given.setting true (ends_here given.setting h.handed)
        (ends_here given.setting (means_of e)) (refines_behind true) s ok))
        ((given.laws).enumerates_not_behind (size (whole given depths) e) c h.handed const handed_sized handed_keeps h.simulates)

  pub behind_each : (in_hard : Bool) {ws : List Part} → Every (ChildRefined given depths false) ws →
      Every (λ w. IsConstant w.tree) ws →
      EachRefined given depths in_hard (map (behind_code look_code) (bodies ws))
      (map (ends_here given.setting) (map means_of (trees_of given depths ws)))
  behind_each in_hard no_item no_item = no_choice
  behind_each in_hard (item {x = w} h hs) (item const cs) =
      and_choice (behind_refined w.tree h.0 const (w.code false) h.1 in_hard) (behind_each in_hard hs cs)

  pub not_behind_each : {ws : List Part} → Every (ChildRefined given depths false) ws →
      Every (λ w. IsConstant w.tree) ws →
      given.Simulates (in_turn (map (behind_code negative_look_code) (bodies ws)))
      (in_order (map unless (map (ends_here given.setting) (map means_of (trees_of given depths ws)))))
  not_behind_each no_item no_item = (given.laws).enumerates_here
  not_behind_each (item {x = w} {xs = ws} h hs) (item const cs) =
      (given.laws).enumerates_next (behind_code negative_look_code (size (whole given depths) w.tree, w.code false))
      (in_turn (map (behind_code negative_look_code) (bodies ws)))
      (unless (ends_here given.setting (means_of w.tree)))
      (in_order (map unless (map (ends_here given.setting) (map means_of (trees_of given depths ws)))))
      (λ s ok. every_if (not (has_way (ends_here given.setting (means_of w.tree)) s))
      (λ e. sound_stays given.setting (whole given depths) s ok) (λ e. no_item))
      (not_behind_simulates w.tree h.0 const (w.code false) h.1) (not_behind_each hs cs)

  -- the lookbehind of a body of one size is that of its branches
  pub ends_of : (e : Tree) → IsWritten (whole given depths) e → IsConstant e → (s : MatchState) →
      IsSoundState given.setting (whole given depths) s →
      ends_here given.setting (means_of e) s ≡ one_of (map (ends_here given.setting) (branches_mean e)) s
  ends_of (Alt es) wr const s ok =
      (given.laws).by_branches (size (whole given depths) (Alt es)) (branches_mean (Alt es)) s const
      (sized (Alt es) wr) (part_of given depths (Alt es) wr).sound ok
  ends_of e wr const s ok = sym (append-nil (ends_here given.setting (means_of e) s))
