-- Nodes whose code goes by more than one case.
use Rattle.std.proofs.Common.{◌≡◌, ℕ, zero, suc, ◌<◌, ◌≤◌, Bool, true, false, not, is_some, if◌then◌else◌, List, [], ◌∷◌, length, map, IfSome, Option, Some, None, refl, sym, ap, ◌∙◌, subst, arith, append-nil, true≢false}
use Rattle.std.specs.Prelude.{slice_get}
use Rattle.fancy_meaning.specs.Tree.{Tree, Trees, none, more, Alt, Control, LookAround, Repeat, Look, LookAhead, LookAheadNeg, LookBehind, LookBehindNeg, Verb, Fail}
use Rattle.fancy_meaning.specs.Spots.{is_never}
use Rattle.fancy_meaning.specs.MatchState.{moved_to, MatchState, Ways, fails, one_of}
use Rattle.fancy_meaning.specs.Loops.{repeats}
use Rattle.fancy_meaning.specs.Ways.{ways_with, each_ways, looks, ends_here, ahead, unless}
use Rattle.fancy_meaning.specs.Numbers.{usize_max}
use Rattle.fancy_meaning.specs.Sizes.{Size}
use Rattle.fancy_meaning.specs.Code.{Code, branches, in_turn}
use Rattle.fancy_meaning.specs.Constructs.{look_around_code, loop_form, repeat_code, behind_code, look_code, negative_look_code}
use Rattle.fancy_meaning.specs.Layout.{each_part, body_code, alt_code}
use Rattle.fancy_meaning.specs.WellFormed.{IsFine}
use Rattle.fancy_meaning.specs.CompileRefusals.{IsWritten, IsAmong, here, there, part, branches_of, is_behind, RefusesNode, variable_lookbehind, control_verb}
use Rattle.fancy_meaning.specs.AnalysisRefusals.{CompileError, FeatureNotYetSupported, VariableLookBehindRequiresFeature}
use Rattle.fancy_composed.proofs.Continuations.{Ground}
use Rattle.fancy_composed.proofs.Parts.{Sound, setting, whole, Simulates, Keeps}
use Rattle.fancy_composed.proofs.Repeats.{Moves}
use Rattle.fancy_composed.proofs.Simulates.{simulates_as, simulates_nothing, simulates_look, simulates_unless, simulates_fails}
use Rattle.fancy_composed.proofs.LoopSimulates.{simulates_repeat}
use Rattle.fancy_composed.proofs.Behind.{Sized, simulates_behind, simulates_not_behind}
use Rattle.fancy_composed.proofs.Branches.{never, code_at, means, size_of, EachSimulates, EachKnown, EachConst, alt_simulates, behind_each, not_behind_each, ends_by_branch}

abbrev pub HasOne : Trees → Type 0
HasOne none = ⊥
HasOne (more e es) = Unit {0}

pub has_one : (es : Trees) → IsFine (Alt es) → HasOne es
has_one none ok = ok
has_one (more e es) ok = tt

module _ (w : Ground) (call : ℕ → Bool → Code) (meant : ℕ → Ways) where
  pub alternation_simulates : (es : Trees) (in_hard : Bool) → HasOne es → EachSimulates w call meant false in_hard es →
      Simulates w (alt_code (each_part w.plan never call false es) in_hard) (one_of (each_ways (setting w) meant es))
  alternation_simulates none in_hard ok u = absurd ok
  alternation_simulates (more e es) in_hard ok u = alt_simulates w call meant e es in_hard u

  -- the branches of a body that is an alternation
  abbrev pub alternatives : Tree → Trees
  alternatives (Alt es) = es
  alternatives e = none

  abbrev bodies : Trees → List (Size × Code)
  bodies es = map (body_code w.plan) (each_part w.plan never call false es)

  abbrev branch_ways : Tree → List Ways
  branch_ways e = each_ways (setting w) meant (branches_of e)

  look_ways : (look : Look) (e : Tree) →
      ways_with (setting w) meant (LookAround look e) ≡ looks (setting w) look (branch_ways e)
  look_ways look (Alt es) = refl
  look_ways look e = refl

  look_codes : (look : Look) (e : Tree) (at_start in_hard : Bool) → code_at w call meant
      (LookAround look e) at_start in_hard ≡ look_around_code look (size_of w call meant e, code_at w call meant e false false)
      (bodies (alternatives e))
  look_codes look (Alt es) at_start in_hard = refl
  look_codes look e at_start in_hard = refl

  body_ways : (e : Tree) (s : MatchState) → means w call meant e s ≡ one_of (branch_ways e) s
  body_ways (Alt es) s = refl
  body_ways e s = sym (append-nil (means w call meant e s))

  pub control_simulates : (verb : Verb) (at_start in_hard : Bool) →
      ((error : CompileError) → ¬ RefusesNode w.plan (Control verb) error) →
      Simulates w (code_at w call meant (Control verb) at_start in_hard) fails
  control_simulates Fail at_start in_hard ok = simulates_fails w
  control_simulates _ at_start in_hard ok = absurd (ok FeatureNotYetSupported (control_verb (λ e. cc)))

  -- what is asked of the body of a loop that is entered
  pub record LoopBody (may_be_empty : Bool) (c : Code) (f : Ways) : Type 0 where
    pub simulates : Simulates w c f
    pub keeps : Keeps w f
    pub moves : may_be_empty ≡ false → Moves w f

  pub repeat_simulates : (lo : ℕ) (hi : Option ℕ) (greedy may_be_empty : Bool) (c : Code) (f : Ways) → lo < usize_max →
      IfSome hi (λ n. (lo ≤ n) × (n < usize_max)) → length (w.task).text < usize_max →
      (is_never hi ≡ false → LoopBody may_be_empty c f) →
      Simulates w (repeat_code greedy c (loop_form lo hi may_be_empty)) (repeats (w.task).text lo hi greedy f)
  repeat_simulates zero (Some zero) greedy v c f small fine fits p =
      simulates_as w (repeats (w.task).text 0 (Some 0) greedy f) (simulates_nothing w) (λ s ok. refl)
  repeat_simulates (suc lo) (Some zero) greedy v c f small fine fits p = absurd (omega (arith, fine))
  repeat_simulates lo (Some (suc hi)) greedy v c f small fine fits p =
      let b = p refl in simulates_repeat w greedy c f b.simulates b.keeps fits lo (Some (suc hi)) v small fine b.moves
  repeat_simulates lo None greedy v c f small fine fits p =
      let b = p refl in simulates_repeat w greedy c f b.simulates b.keeps fits lo None v small tt b.moves

  pub written_body : (lo : ℕ) (hi : Option ℕ) (greedy : Bool) (e : Tree) → is_never hi ≡ false →
      IsWritten (whole w) (Repeat lo hi greedy e) → IsWritten (whole w) e
  written_body lo None greedy e ne wr = part wr here
  written_body lo (Some (suc hi)) greedy e ne wr = part wr here
  written_body lo (Some zero) greedy e ne wr = cc

  -- of an alternation, what is known of its branches
  abbrev pub OfBranches : Tree → Type 0
  OfBranches (Alt es) = HasOne es × EachSimulates w call meant false false es × EachKnown w call meant es
  OfBranches e = Unit {0}

  -- a lookbehind that is accepted has a body, or branches, of one size
  module _ (look : Look) (behind : is_behind look ≡ true) (e : Tree)
      (ok : (error : CompileError) → ¬ RefusesNode w.plan (LookAround look e) error)
      (varies : (size_of w call meant e).is_const ≡ false) where
    branch_const : (d : Tree) → IsAmong d (branches_of e) → (v : Bool) → (size_of w call meant d).is_const ≡ v → v ≡ true
    branch_const d m true is = refl
    branch_const d m false is =
        absurd
        (ok VariableLookBehindRequiresFeature
        (variable_lookbehind
        (record {
          is_lookbehind = behind;
          body_varies = λ t. true≢false (sym t ∙ varies);
          branch = d;
          is_branch = m;
          branch_varies = λ t. true≢false (sym t ∙ is);
        })))

    each_const : (es : Trees) → ((d : Tree) → IsAmong d es → IsAmong d (branches_of e)) → EachConst w call meant es
    each_const none h = tt
    each_const (more d ds) h =
        (branch_const d (h d here) (size_of w call meant d).is_const refl, each_const ds (λ x m. h x (there m)))

  ends_of : (e : Tree) (s : MatchState) → (size_of w call meant e).is_const ≡ true → length (w.task).text < usize_max →
      Keeps w (means w call meant e) → Sized w (size_of w call meant e) (means w call meant e) → Sound w s →
      ends_here (setting w) (means w call meant e) s ≡ one_of (map (ends_here (setting w)) (branch_ways e)) s
  ends_of (Alt es) s const fits keeps sized ok =
      ends_by_branch w call meant (size_of w call meant (Alt es)) const fits s (each_ways (setting w) meant es) ok sized keeps
  ends_of e s const fits keeps sized ok = sym (append-nil (ends_here (setting w) (means w call meant e) s))

  -- where the body varies
  behind_varies : (e : Tree) → length (w.task).text < usize_max → (size_of w call meant e).is_const ≡ false →
      ((error : CompileError) → ¬ RefusesNode w.plan (LookAround LookBehind e) error) → OfBranches e → Simulates w
      (branches (map (behind_code look_code) (bodies (alternatives e)))) (one_of (map (ends_here (setting w)) (branch_ways e)))
  behind_varies (Alt none) fits varies ok u = absurd u.0
  behind_varies (Alt (more d ds)) fits varies ok u =
      behind_each w call meant fits d ds u.1 u.2 (each_const LookBehind refl (Alt (more d ds)) ok varies (more d ds) (λ x m. m))
  behind_varies e fits varies ok u =
      let c = branch_const LookBehind refl e ok varies e here (size_of w call meant e).is_const refl in
      absurd (true≢false (sym c ∙ varies))

  not_behind_varies : (e : Tree) → length (w.task).text < usize_max → (size_of w call meant e).is_const ≡ false →
      ((error : CompileError) → ¬ RefusesNode w.plan (LookAround LookBehindNeg e) error) → OfBranches e → Simulates w
      (in_turn (map (behind_code negative_look_code) (bodies (alternatives e))))
      (unless (one_of (map (ends_here (setting w)) (branch_ways e))))
  not_behind_varies (Alt none) fits varies ok u = absurd u.0
  not_behind_varies (Alt (more d ds)) fits varies ok u =
      not_behind_each w call meant fits (more d ds) u.1 u.2
      (each_const LookBehindNeg refl (Alt (more d ds)) ok varies (more d ds) (λ x m. m))
  not_behind_varies e fits varies ok u =
      let c = branch_const LookBehindNeg refl e ok varies e here (size_of w call meant e).is_const refl in
      absurd (true≢false (sym c ∙ varies))

  module _ (e : Tree) (fits : length (w.task).text < usize_max)
      (p : Simulates w (code_at w call meant e false false) (means w call meant e)) (keeps : Keeps w (means w call meant e))
      (sized : Sized w (size_of w call meant e) (means w call meant e)) (u : OfBranches e) where
    abbrev body : Size × Code
    body = (size_of w call meant e, code_at w call meant e false false)

    look_around_simulates : (look : Look) → ((error : CompileError) → ¬ RefusesNode w.plan (LookAround look e) error) →
        Simulates w (look_around_code look body (bodies (alternatives e))) (looks (setting w) look (branch_ways e))
    look_around_simulates LookAhead ok =
        simulates_as w (ahead (one_of (branch_ways e))) (simulates_look w _ _ p) (λ s so. ap (map (moved_to s.place)) (body_ways e s))
    look_around_simulates LookAheadNeg ok =
        simulates_as w (unless (one_of (branch_ways e))) (simulates_unless w _ _ p)
        (λ s so. ap (λ l. if not (is_some (slice_get l 0)) then s ∷ [] else []) (body_ways e s))
    look_around_simulates LookBehind ok = by_size (size_of w call meant e).is_const refl
      where
        Looks : Bool → Type 0
        Looks v =
            Simulates w (if v then behind_code look_code body else branches (map (behind_code look_code) (bodies (alternatives e))))
            (one_of (map (ends_here (setting w)) (branch_ways e)))

        by_size : (v : Bool) → (size_of w call meant e).is_const ≡ v → Looks (size_of w call meant e).is_const
        by_size true is =
            subst Looks (sym is)
            (simulates_as w (one_of (map (ends_here (setting w)) (branch_ways e)))
            (simulates_behind w (size_of w call meant e) (means w call meant e) is sized keeps fits
            (code_at w call meant e false false) p)
            (λ s so. ends_of e s is fits keeps sized so))
        by_size false is = subst Looks (sym is) (behind_varies e fits is ok u)
    look_around_simulates LookBehindNeg ok = by_size (size_of w call meant e).is_const refl
      where
        Looks : Bool → Type 0
        Looks v =
            Simulates w
            (if v then behind_code negative_look_code body else in_turn
            (map (behind_code negative_look_code) (bodies (alternatives e))))
            (unless (one_of (map (ends_here (setting w)) (branch_ways e))))

        by_size : (v : Bool) → (size_of w call meant e).is_const ≡ v → Looks (size_of w call meant e).is_const
        by_size true is =
            subst Looks (sym is)
            (simulates_as w (unless (one_of (map (ends_here (setting w)) (branch_ways e))))
            (simulates_not_behind w (size_of w call meant e) (means w call meant e) is sized keeps fits
            (code_at w call meant e false false) p)
            (λ s so. ap (λ l. if not (is_some (slice_get l 0)) then s ∷ [] else []) (ends_of e s is fits keeps sized so)))
        by_size false is = subst Looks (sym is) (not_behind_varies e fits is ok u)

    pub look_simulates : (look : Look) (at_start in_hard : Bool) →
        ((error : CompileError) → ¬ RefusesNode w.plan (LookAround look e) error) →
        Simulates w (code_at w call meant (LookAround look e) at_start in_hard) (ways_with (setting w) meant (LookAround look e))
    look_simulates look at_start in_hard ok =
        subst (λ c. Simulates w c (ways_with (setting w) meant (LookAround look e))) (sym (look_codes look e at_start in_hard))
        (simulates_as w (ways_with (setting w) meant (LookAround look e)) (look_around_simulates look ok)
        (λ s so. ap (λ f. f s) (sym (look_ways look e))))
