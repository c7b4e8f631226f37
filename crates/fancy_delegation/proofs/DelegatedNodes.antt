-- The same for nodes of one body.
use Rattle.std.proofs.Common.{◌≡◌, ℕ, zero, suc, ◌<◌, ◌≤◌, Bool, true, false, not, ◌||◌, if◌then◌else◌, ◌==◌, [], ◌∷◌, Option, Some, None, IfSome, refl, sym, subst, subst₂, arith}
use Rattle.std.proofs.lemmas.Bool.{eqb-false, and_parts, or_right}
use Rattle.std.specs.List.{list_any}
use Rattle.fancy_meaning.specs.Tree.{Tree, Group, Repeat, AbsentRepeater}
use Rattle.fancy_meaning.specs.Nodes.{nodes, is_read, is_absent}
use Rattle.fancy_meaning.specs.OpenCalls.{Depths}
use Rattle.fancy_meaning.specs.MatchState.{Ways, stays}
use Rattle.fancy_meaning.specs.Loops.{repeats}
use Rattle.fancy_meaning.specs.Ways.{captured, atomic, conditional, absent}
use Rattle.fancy_meaning.specs.Numbers.{usize_max}
use Rattle.fancy_meaning.specs.Sizes.{size}
use Rattle.fancy_meaning.specs.Hard.{is_hard}
use Rattle.fancy_meaning.specs.Options.{Plan}
use Rattle.fancy_meaning.specs.Code.{Code, nothing, one}
use Rattle.fancy_meaning.specs.Instr.{Instr}
use Rattle.fancy_meaning.specs.Batches.{fragment, pattern_of, group_range}
use Rattle.fancy_meaning.specs.Constructs.{group_code, atomic_code, conditional_code, loop_form, repeat_code, absent_code}
use Rattle.fancy_meaning.specs.Layout.{is_at_most_once, is_refused_body, absent_repeater_code, in_context}
use Rattle.fancy_meaning.specs.AnalysisRefusals.{FeatureNotYetSupported}
use Rattle.fancy_meaning.specs.CompileRefusals.{IsWritten, here, part, absent_in_hard_repeater}
use Rattle.fancy_meaning.specs.Premises.{tree_of}
use Rattle.fancy_delegation.proofs.Items.{IsIn}
use Rattle.fancy_delegation.proofs.Evenly.{TakesSome, sized_takes}
use Rattle.fancy_delegation.proofs.Refined.{IsPart, EqualUpTo, key_equal_group, key_equal_atomic, key_equal_conditional, key_equal_same, handed_sound, handed_takes_some}
use Rattle.fancy_delegation.proofs.RefinedLoops.{key_equal_loop, key_equal_at_most_once}
use Rattle.fancy_delegation.proofs.RefinedLooks.{key_equal_absent}
use Rattle.fancy_delegation.proofs.RefinedDelegates.{plan_for}
use Rattle.fancy_delegation.proofs.EnumeratesWays.{Setup}
use Rattle.fancy_delegation.proofs.Delegated.{is_easy, means, Refined, part_of, delegated}

-- a loop of at most one iteration has these bounds
once_only : (lo : ℕ) (hi : Option ℕ) (v : Bool) → is_at_most_once (loop_form lo hi v) ≡ true → (lo ≡ 0) × (hi ≡ Some 1)
once_only zero (Some zero) v e = cc
once_only (suc lo) (Some zero) v e = cc
once_only zero (Some (suc zero)) v e = (refl, refl)
once_only zero (Some (suc (suc n))) true e = cc
once_only zero (Some (suc (suc n))) false e = cc
once_only (suc lo) (Some (suc n)) true e = cc
once_only (suc lo) (Some (suc n)) false e = cc
once_only zero None true e = cc
once_only zero None false e = cc
once_only (suc lo) None true e = cc
once_only (suc zero) None false e = cc
once_only (suc (suc lo)) None false e = cc

or_false : (v : Bool) → (v || false) ≡ v
or_false true = refl
or_false false = refl

module _ (given : Setup) (depths : Depths) where
  abbrev pub plan : Plan
  plan = plan_for given.tree given.options

  abbrev pub whole : Tree
  whole = tree_of given.tree

  pub group_refined : (in_hard : Bool) (g : ℕ) (e : Tree) (c : Code) (f : Ways) → IsIn (Group g e) (nodes whole) →
      Refined given depths (in_hard || is_read whole g) c f →
      Refined given depths in_hard (group_code g c) (captured g f)
  group_refined in_hard g e c f there h = record {
    handed = captured g h.handed;
    simulates = (given.laws).enumerates_group g e c h.handed there h.simulates;
    key_equal = key_equal_group plan given.setting in_hard g h.handed f h.key_equal;
  }

  pub atomic_refined : (in_hard : Bool) (c : Code) (f : Ways) → Refined given depths false c f →
      Refined given depths in_hard (atomic_code c) (atomic f)
  atomic_refined in_hard c f h = record {
    handed = atomic h.handed;
    simulates = (given.laws).enumerates_first c h.handed h.simulates;
    key_equal = key_equal_atomic plan given.setting in_hard h.handed f h.key_equal;
  }

  pub conditional_refined : (in_hard : Bool) (c d x : Code) (f g e : Ways) → IsPart plan given.setting f →
      Refined given depths in_hard c f → Refined given depths in_hard d g → Refined given depths in_hard x e →
      Refined given depths in_hard (conditional_code c d x) (conditional f g e)
  conditional_refined in_hard c d x f g e of_f h i j = record {
    handed = conditional h.handed i.handed j.handed;
    simulates =
        (given.laws).enumerates_choice c d x h.handed i.handed j.handed
        (handed_sound plan given.setting in_hard h.handed f of_f h.key_equal) h.simulates i.simulates j.simulates;
    key_equal = key_equal_conditional plan given.setting in_hard h.handed f i.handed g j.handed e of_f h.key_equal i.key_equal j.key_equal;
  }

  -- ---- loops

  module _ (lo : ℕ) (greedy : Bool) (e : Tree) (c : Code) where
    abbrev may_be_empty : Bool
    may_be_empty = (size whole e).least == 0

    takes_some : IsWritten whole e → may_be_empty ≡ false → TakesSome given.setting whole (means given depths e)
    takes_some wr some =
        sized_takes given.size_law given.setting given.tree given.is_text e depths ((given.ready).there e wr)
        (positive (size whole e).least (eqb-false (size whole e).least 0 some))
      where
        positive : (n : ℕ) → (n ≡ 0 → ⊥) → 0 < n
        positive zero k = absurd (k refl)
        positive (suc n) k = omega arith

    -- a body in some context, from which the loop refines
    loop_simulates : (in_hard context : Bool) (hi : Option ℕ) → IsWritten whole e → lo < usize_max →
        IfSome hi (λ n. (lo ≤ n) × (n < usize_max)) → (h : Refined given depths context c (means given depths e)) →
        EqualUpTo plan given.setting in_hard (repeats (given.setting).text lo hi greedy h.handed)
        (repeats (given.setting).text lo hi greedy (means given depths e)) →
        Refined given depths in_hard (repeat_code greedy c (loop_form lo hi may_be_empty))
        (repeats (given.setting).text lo hi greedy (means given depths e))
    loop_simulates in_hard context hi wr small fine h refines = record {
      handed = repeats (given.setting).text lo hi greedy h.handed;
      simulates =
          (given.laws).enumerates_loop lo hi greedy may_be_empty c h.handed small fine
          (handed_sound plan given.setting context h.handed (means given depths e) (part_of given depths e wr) h.key_equal)
          (λ some. handed_takes_some plan given.setting context h.handed (means given depths e) (takes_some wr some) h.key_equal)
          (λ entered. h.simulates);
      key_equal = refines;
    }

    -- a loop whose body stands in the loop's own context where it has at most one iteration, and else in a hard one
    entered_refined : (in_hard : Bool) (hi : Option ℕ) → IsWritten whole (Repeat lo hi greedy e) → IsWritten whole e →
        (v : Bool) → is_at_most_once (loop_form lo hi may_be_empty) ≡ v →
        Refined given depths (in_hard || not v) c (means given depths e) →
        Refined given depths in_hard (repeat_code greedy c (loop_form lo hi may_be_empty))
        (repeats (given.setting).text lo hi greedy (means given depths e))
    entered_refined in_hard hi wr we false form h =
        let bounds = (given.ready).bounds lo hi greedy e wr in
        let hard = subst (λ v. Refined given depths v c (means given depths e)) (or_right in_hard true refl) h in
        loop_simulates in_hard true hi we bounds.0 bounds.1 hard
        (key_equal_loop plan given.setting hard.handed (means given depths e)
        (part_of given depths e we) hard.key_equal in_hard lo hi greedy)
    entered_refined in_hard hi wr we true form h =
        let bounds = (given.ready).bounds lo hi greedy e wr in
        let own = subst (λ v. Refined given depths v c (means given depths e)) (or_false in_hard) h in
        let once = once_only lo hi may_be_empty form in
        loop_simulates in_hard in_hard hi we bounds.0 bounds.1 own
        (subst₂
        (λ l u. EqualUpTo plan given.setting in_hard (repeats (given.setting).text l u greedy own.handed)
        (repeats (given.setting).text l u greedy (means given depths e))) (sym once.0) (sym once.1)
        (key_equal_at_most_once plan given.setting in_hard greedy own.handed (means given depths e) own.key_equal))

  pub loop_refined : (lo : ℕ) (hi : Option ℕ) (greedy : Bool) (e : Tree) (code : Bool → Code) (in_hard : Bool) →
      IsWritten whole (Repeat lo hi greedy e) →
      ((context : Bool) → IsWritten whole e → Refined given depths context (code context) (means given depths e)) →
      let form = loop_form lo hi ((size whole e).least == 0) in
      Refined given depths in_hard (repeat_code greedy (code (in_hard || not (is_at_most_once form))) form)
      (repeats (given.setting).text lo hi greedy (means given depths e))
  loop_refined zero (Some zero) greedy e code in_hard wr body = record {
    handed = stays;
    simulates = (given.laws).enumerates_here;
    key_equal = key_equal_same plan given.setting in_hard stays;
  }
  loop_refined (suc lo) (Some zero) greedy e code in_hard wr body =
      let bounds = (given.ready).bounds (suc lo) (Some 0) greedy e wr in let le = bounds.1.0 in
      absurd (omega (arith, le))
  loop_refined lo (Some (suc hi)) greedy e code in_hard wr body =
      let form = loop_form lo (Some (suc hi)) ((size whole e).least == 0) in
      let we = part wr here in
      entered_refined lo greedy e (code (in_hard || not (is_at_most_once form))) in_hard (Some (suc hi)) wr we
      (is_at_most_once form) refl (body (in_hard || not (is_at_most_once form)) we)
  loop_refined lo None greedy e code in_hard wr body =
      let form = loop_form lo None ((size whole e).least == 0) in
      let we = part wr here in
      entered_refined lo greedy e (code (in_hard || not (is_at_most_once form))) in_hard None wr we
      (is_at_most_once form) refl (body (in_hard || not (is_at_most_once form)) we)

  -- ---- absent repeaters

  absent_refined : (in_hard : Bool) (e : Tree) (c : Code) → Refined given depths false c (means given depths e) →
      Refined given depths in_hard (absent_code c) (absent given.setting (means given depths e))
  absent_refined in_hard e c h = record {
    handed = absent given.setting h.handed;
    simulates = (given.laws).enumerates_absent c h.handed h.simulates;
    key_equal = key_equal_absent plan given.setting false in_hard h.handed (means given depths e) h.key_equal;
  }

  pub repeater_refined : (in_hard : Bool) (e : Tree) (code : Bool → Code) → IsWritten whole (AbsentRepeater e) →
      Refined given depths false (in_context plan (is_easy given.tree) e code false) (means given depths e) →
      Refined given depths in_hard (absent_repeater_code plan (is_easy given.tree) e code)
      (absent given.setting (means given depths e))
  repeater_refined in_hard e code wr h = at_easy (is_easy given.tree e) refl
    where
      unicode : Bool
      unicode = (given.options).unicode

      easy_code : Code
      easy_code = one (Instr.AbsentRepeater (pattern_of unicode (e ∷ [])) (fragment unicode (e ∷ [])) (group_range (e ∷ [])))

      hard_code : Bool → Code
      hard_code v = if v then nothing else absent_code (in_context plan (is_easy given.tree) e code false)

      not_refused : (v : Bool) → is_refused_body plan e ≡ v → is_easy given.tree e ≡ false → v ≡ false
      not_refused false q hard = refl
      not_refused true q hard =
          let both = and_parts (is_hard plan.analysis e) (list_any is_absent (nodes e)) q in
          absurd ((given.ready).allowed (AbsentRepeater e) FeatureNotYetSupported wr (absent_in_hard_repeater both.0 both.1))

      at_easy : (v : Bool) → is_easy given.tree e ≡ v →
          Refined given depths in_hard (if v then easy_code else hard_code (is_refused_body plan e))
          (absent given.setting (means given depths e))
      at_easy true easy = record {
        handed = absent given.setting (means given depths e);
        simulates = (given.laws).enumerates_easy_absent e depths (delegated given depths e (part wr here) easy) wr;
        key_equal = key_equal_same plan given.setting in_hard (absent given.setting (means given depths e));
      }
      at_easy false hard =
          subst (λ v. Refined given depths in_hard (hard_code v) (absent given.setting (means given depths e)))
          (sym (not_refused (is_refused_body plan e) refl hard))
          (absent_refined in_hard e (in_context plan (is_easy given.tree) e code false) h)
