-- A look-around of each kind, from its body and from the branches of a body that is an alternation.
use Rattle.std.proofs.Common.{◌≡◌, ◌≢◌, Bool, true, false, not, if◌then◌else◌, List, [], ◌∷◌, map, is_some, slice_get, refl, sym, ap, ◌∙◌, subst, true≢false}
use Rattle.fancy_meaning.specs.Tree.{Tree, Trees, none, more, children, Alt, LookAround, Look, LookAhead, LookAheadNeg, LookBehind, LookBehindNeg}
use Rattle.fancy_meaning.specs.OpenCalls.{Depths, free_calls}
use Rattle.fancy_meaning.specs.MatchState.{Ways, in_order, one_of, moved_to}
use Rattle.fancy_meaning.specs.Ways.{ahead, unless, ends_here, looks, called}
use Rattle.fancy_meaning.specs.Sizes.{size}
use Rattle.fancy_meaning.specs.Code.{Code, in_turn, branches}
use Rattle.fancy_meaning.specs.Constructs.{look_code, negative_look_code, behind_code, look_around_code}
use Rattle.fancy_meaning.specs.Layout.{Part}
use Rattle.fancy_meaning.specs.AnalysisRefusals.{VariableLookBehindRequiresFeature}
use Rattle.fancy_meaning.specs.CompileRefusals.{IsWritten, IsAmong, here, part, branches_of, is_behind, variable_lookbehind}
use Rattle.fancy_laws.proofs.Every.{Every}
use Rattle.fancy_delegation.proofs.Refined.{key_equal_as, key_equal_same, key_equal_ahead, key_equal_unless}
use Rattle.fancy_delegation.proofs.RefinedConcat.{each_ways_of}
use Rattle.fancy_delegation.proofs.EnumeratesWays.{Setup}
use Rattle.fancy_delegation.proofs.Delegated.{Refined, trees_of, ChildRefined, choice_refined, EachRefined, and_choice}
use Rattle.fancy_delegation.proofs.DelegatedNodes.{plan, whole}
use Rattle.fancy_delegation.proofs.DelegatedLooks.{branches_mean, means_of, IsConstant, bodies, body_means, behind_refined, not_behind_simulates, behind_each, not_behind_each, ends_of, unless_each, every_child, every_tree}

module _ (given : Setup) (depths : Depths) where
  -- the code of the branches, where the body is an alternation
  abbrev pub BranchesRefined : Tree → List Part → Type 0
  BranchesRefined e ws = (es : Trees) → e ≡ Alt es → (trees_of given depths ws ≡ children es) × Every (ChildRefined given depths false) ws

  module _ (look : Look) (behind : is_behind look ≡ true) (e : Tree)
      (wr : IsWritten (whole given depths) (LookAround look e))
      (varies : (size (whole given depths) e).is_const ≡ false) where
    -- a lookbehind that is not refused has branches of one size each
    branch_const : (d : Tree) → IsAmong d (branches_of e) → (v : Bool) → (size (whole given depths) d).is_const ≡ v → IsConstant given depths d
    branch_const d i true q = q
    branch_const d i false q =
        absurd ((given.ready).allowed (LookAround look e) VariableLookBehindRequiresFeature wr
        (variable_lookbehind
        (record {
          is_lookbehind = behind;
          body_varies = λ c. true≢false (sym c ∙ varies);
          branch = d;
          is_branch =
              i;
          branch_varies = λ c. true≢false (sym c ∙ q);
        })))

  is_alternation : (look : Look) → is_behind look ≡ true → (e : Tree) →
      IsWritten (whole given depths) (LookAround look e) → (size (whole given depths) e).is_const ≡ false →
      (es : Trees) × (e ≡ Alt es)
  is_alternation look behind (Alt es) wr varies = (es, refl)
  is_alternation look behind e wr varies =
      let const = branch_const look behind e wr varies e here (size (whole given depths) e).is_const refl in
      absurd (true≢false (sym const ∙ varies))

  -- the branches of an alternation, which has one
  record Branches (es : Trees) (ws : List Part) : Type 0 where
    trees : trees_of given depths ws ≡ children es
    refined : Every (ChildRefined given depths false) ws
    const : Every (λ w. IsConstant given depths w.tree) ws
    some : ws ≢ []

  the_branches : (look : Look) → is_behind look ≡ true → (es : Trees) (ws : List Part) →
      (wr : IsWritten (whole given depths) (LookAround look (Alt es))) → (size (whole given depths) (Alt es)).is_const
      ≡ false → BranchesRefined (Alt es) ws → Branches es ws
  the_branches look behind es ws wr varies h =
      let known = h es refl in
      record {
        trees = known.0;
        refined = known.1;
        const =
            every_tree ws
            (subst (Every (IsConstant given depths)) (sym known.0)
            (every_child es
            (λ d i. branch_const look behind (Alt es) wr varies d i (size (whole given depths) d).is_const refl)));
        some = λ e. (given.ready).choices es (part wr here) (no_children es (sym known.0 ∙ ap (trees_of given depths) e));
      }
    where
      no_children : (es : Trees) → children es ≡ [] → es ≡ none
      no_children none e = refl
      no_children (more d ds) e = cc

  branches_are : (es : Trees) (ws : List Part) → trees_of given depths ws ≡ children es →
      map (means_of given depths) (trees_of given depths ws) ≡ branches_mean given depths (Alt es)
  branches_are es ws e =
      ap (map (means_of given depths)) e
      ∙ sym
      (each_ways_of given.setting
      (called given.setting (whole given depths) (free_calls (whole given depths) depths) depths) es)

  behind_varies : (in_hard : Bool) (es : Trees) (ws : List Part) → Branches es ws →
      Refined given depths in_hard (branches (map (behind_code look_code) (bodies given depths ws)))
      (one_of (map (ends_here given.setting) (branches_mean given depths (Alt es))))
  behind_varies in_hard es ws b =
      subst (λ fs. Refined given depths in_hard (branches (map (behind_code look_code) (bodies given depths ws)))
      (one_of (map (ends_here given.setting) fs))) (branches_are es ws b.trees)
      (here ws b.some (behind_each given depths in_hard b.refined b.const))
    where
      chosen : {c : Code} {f : Ways} {cs : List Code} {fs : List Ways} →
          EachRefined given depths in_hard (c ∷ cs) (f ∷ fs) →
          Refined given depths in_hard (branches (c ∷ cs)) (one_of (f ∷ fs))
      chosen (and_choice h hs) = choice_refined given depths in_hard h hs

      here : (ws : List Part) → ws ≢ [] →
          EachRefined given depths in_hard (map (behind_code look_code) (bodies given depths ws))
          (map (ends_here given.setting) (map (means_of given depths) (trees_of given depths ws))) →
          Refined given depths in_hard (branches (map (behind_code look_code) (bodies given depths ws)))
          (one_of (map (ends_here given.setting) (map (means_of given depths) (trees_of given depths ws))))
      here [] some h = absurd (some refl)
      here (w ∷ ws) some h = chosen h

  not_behind_varies : (in_hard : Bool) (es : Trees) (ws : List Part) → Branches es ws →
      Refined given depths in_hard (in_turn (map (behind_code negative_look_code) (bodies given depths ws)))
      (unless (one_of (map (ends_here given.setting) (branches_mean given depths (Alt es)))))
  not_behind_varies in_hard es ws b =
      let fs = map (ends_here given.setting) (map (means_of given depths) (trees_of given depths ws)) in
      let code = in_turn (map (behind_code negative_look_code) (bodies given depths ws)) in
      subst (λ gs. Refined given depths in_hard code (unless (one_of (map (ends_here given.setting) gs)))) (branches_are es ws b.trees)
      (record {
        handed = unless (one_of fs);
        simulates =
            (given.laws).as_ways code (in_order (map unless fs)) (unless (one_of fs)) (λ s ok. unless_each fs s)
            (not_behind_each given depths b.refined b.const);
        key_equal = key_equal_same (plan given depths) given.setting in_hard (unless (one_of fs));
      })

  module _ (in_hard : Bool) (e : Tree) (c : Code) (ws : List Part) (we : IsWritten (whole given depths) e)
      (h : Refined given depths false c (means_of given depths e)) (hs : BranchesRefined e ws) where
    abbrev Looked : Look → Type 0
    Looked look =
        Refined given depths in_hard (look_around_code look (size (whole given depths) e, c) (bodies given depths ws))
        (looks given.setting look (branches_mean given depths e))

    ahead_looked : Looked LookAhead
    ahead_looked = record {
      handed = ahead h.handed;
      simulates = (given.laws).enumerates_ahead c h.handed h.simulates;
      key_equal =
          key_equal_as (plan given depths) given.setting in_hard (ahead h.handed) (ahead (means_of given depths e))
          (ahead (one_of (branches_mean given depths e)))
          (λ s ok. ap (map (moved_to s.place)) (body_means given depths e s))
          (key_equal_ahead (plan given depths) given.setting in_hard h.handed (means_of given depths e) h.key_equal);
    }

    not_ahead_looked : Looked LookAheadNeg
    not_ahead_looked = record {
      handed = unless h.handed;
      simulates = (given.laws).enumerates_unless c h.handed h.simulates;
      key_equal =
          key_equal_as (plan given depths) given.setting in_hard (unless h.handed) (unless (means_of given depths e))
          (unless (one_of (branches_mean given depths e)))
          (λ s ok. ap (λ l. if not (is_some (slice_get l 0)) then s ∷ [] else []) (body_means given depths e s))
          (key_equal_unless (plan given depths) given.setting false in_hard h.handed (means_of given depths e) h.key_equal);
    }

    behind_looked : IsWritten (whole given depths) (LookAround LookBehind e) → (v : Bool) →
        (size (whole given depths) e).is_const ≡ v →
        Refined given depths in_hard
        (if v then behind_code look_code (size (whole given depths) e, c)
        else branches (map (behind_code look_code) (bodies given depths ws)))
        (looks given.setting LookBehind (branches_mean given depths e))
    behind_looked wr true const =
        let own = behind_refined given depths e we const c h in_hard in
        record {
          handed = own.handed;
          simulates = own.simulates;
          key_equal =
              key_equal_as (plan given depths) given.setting in_hard own.handed
              (ends_here given.setting (means_of given depths e))
              (one_of (map (ends_here given.setting) (branches_mean given depths e)))
              (ends_of given depths e we const) own.key_equal;
        }
    behind_looked wr false varies =
        let alt = is_alternation LookBehind refl e wr varies in
        subst (λ d. Refined given depths in_hard (branches (map (behind_code look_code) (bodies given depths ws)))
        (looks given.setting LookBehind (branches_mean given depths d))) (sym alt.1)
        (behind_varies in_hard alt.0 ws
        (the_branches LookBehind refl alt.0 ws
        (subst (λ d. IsWritten (whole given depths) (LookAround LookBehind d)) alt.1 wr)
        (ap (λ d. (size (whole given depths) d).is_const) (sym alt.1) ∙ varies)
        (subst (λ d. BranchesRefined d ws) alt.1 hs)))

    not_behind_looked : IsWritten (whole given depths) (LookAround LookBehindNeg e) → (v : Bool) →
        (size (whole given depths) e).is_const ≡ v →
        Refined given depths in_hard
        (if v then behind_code negative_look_code (size (whole given depths) e, c)
        else in_turn (map (behind_code negative_look_code) (bodies given depths ws)))
        (looks given.setting LookBehindNeg (branches_mean given depths e))
    not_behind_looked wr true const = record {
      handed = unless (ends_here given.setting (means_of given depths e));
      simulates = not_behind_simulates given depths e we const c h;
      key_equal =
          key_equal_as (plan given depths) given.setting in_hard
          (unless (ends_here given.setting (means_of given depths e)))
          (unless (ends_here given.setting (means_of given depths e)))
          (unless (one_of (map (ends_here given.setting) (branches_mean given depths e))))
          (λ s ok. ap (λ l. if not (is_some (slice_get l 0)) then s ∷ [] else []) (ends_of given depths e we const s ok))
          (key_equal_same (plan given depths) given.setting in_hard (unless (ends_here given.setting (means_of given depths e))));
    }
    not_behind_looked wr false varies =
        let alt = is_alternation LookBehindNeg refl e wr varies in
        subst (λ d. Refined given depths in_hard
        (in_turn (map (behind_code negative_look_code) (bodies given depths ws)))
        (looks given.setting LookBehindNeg (branches_mean given depths d))) (sym alt.1)
        (not_behind_varies in_hard alt.0 ws
        (the_branches LookBehindNeg refl alt.0 ws
        (subst (λ d. IsWritten (whole given depths) (LookAround LookBehindNeg d)) alt.1 wr)
        (ap (λ d. (size (whole given depths) d).is_const) (sym alt.1) ∙ varies)
        (subst (λ d. BranchesRefined d ws) alt.1 hs)))

    pub look_refined : (look : Look) → IsWritten (whole given depths) (LookAround look e) → Looked look
    look_refined LookAhead wr = ahead_looked
    look_refined LookAheadNeg wr = not_ahead_looked
    look_refined LookBehind wr = behind_looked wr (size (whole given depths) e).is_const refl
    look_refined LookBehindNeg wr = not_behind_looked wr (size (whole given depths) e).is_const refl
