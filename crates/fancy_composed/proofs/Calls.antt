-- The code of each call simulates its ways, by how many more calls may be opened.
use Rattle.std.proofs.Common.{◌≡◌, ℕ, zero, suc, Bool, true, false, ◌||◌, nat_lt, if◌then◌else◌, Option, Some, None, refl, sym, subst, arith, ltb-true}
use Rattle.std.proofs.lemmas.Option.{same_Some}
use Rattle.fancy_meaning.specs.Tree.{Tree, SubroutineCall}
use Rattle.fancy_meaning.specs.Nodes.{target, is_read}
use Rattle.fancy_meaning.specs.OpenCalls.{Depths, opened, call_depth, free_calls}
use Rattle.fancy_meaning.specs.MatchState.{fails}
use Rattle.fancy_meaning.specs.Ways.{ways_with, called, ways_of_target}
use Rattle.fancy_meaning.specs.Layout.{called_code, target_code, fail_code, written}
use Rattle.fancy_meaning.specs.AnalysisRefusals.{SubroutineCallTargetNotFound}
use Rattle.fancy_meaning.specs.CompileRefusals.{IsWritten, callee, root, missing_group}
use Rattle.fancy_meaning.specs.Marks.{has_marked_continue, is_marked_group}
use Rattle.fancy_composed.proofs.Continuations.{Ground}
use Rattle.fancy_composed.proofs.Parts.{setting, whole, Simulates}
use Rattle.fancy_composed.proofs.Simulates.{simulates_fails, simulates_group}
use Rattle.fancy_composed.proofs.Tests.{MayStop}
use Rattle.fancy_composed.proofs.Branches.{never}
use Rattle.fancy_composed.proofs.Ready.{Ready}
use Rattle.fancy_composed.proofs.Trees.{CallsSimulate, Marked, tree_simulates}

module _ (w : Ground) (r : Ready w) (stop : has_marked_continue (whole w) (whole w) ≡ true → MayStop w) where
  -- a tree's code where so many more calls may be opened
  tree_at : (n : ℕ) (depths : Depths) → free_calls (whole w) depths ≡ n → CallsSimulate w r depths → (e : Tree) →
      IsWritten (whole w) e → (at_start in_hard : Bool) → Marked w r depths at_start (has_marked_continue (whole w) e) →
      Simulates w (written w.plan never (called_code w.plan never n depths) e at_start in_hard)
      (ways_with (setting w) (called (setting w) (whole w) n depths) e)
  tree_at n depths e calls d wr at_start in_hard k =
      subst
      (λ m.
      Simulates w (written w.plan never (called_code w.plan never m depths) d at_start in_hard)
      (ways_with (setting w) (called (setting w) (whole w) m depths) d)) e
      (tree_simulates w r depths calls d wr at_start in_hard k)

  of_target : (n : ℕ) (depths : Depths) (g : ℕ) (in_hard : Bool) →
      ((b : Tree) → target (whole w) g ≡ Some b → free_calls (whole w) depths ≡ n) →
      (free_calls (whole w) depths ≡ n → CallsSimulate w r depths) → IsWritten (whole w) (SubroutineCall g) → (o : Option Tree) →
      target (whole w) g ≡ o →
      Simulates w (target_code w.plan never g (called_code w.plan never n depths) in_hard o)
      (ways_of_target (setting w) (whole w) g (called (setting w) (whole w) n depths) o)
  unfolding target
  of_target n depths g in_hard n' calls wr None e =
      absurd (r.allowed (SubroutineCall g) SubroutineCallTargetNotFound wr (missing_group e))
  of_target n depths zero in_hard n' calls wr (Some b) e =
      let same : whole w ≡ b = same_Some (whole w) b e in
      subst
      (λ x.
      Simulates w (written w.plan never (called_code w.plan never n depths) (whole w) true in_hard)
      (ways_with (setting w) (called (setting w) (whole w) n depths) x)) same
      (tree_at n depths (n' b e) (calls (n' b e)) (whole w) root true in_hard (λ x y. stop y))
  of_target n depths (suc g) in_hard n' calls wr (Some b) e =
      simulates_group w (suc g) _ _ (omega arith) (r.number g b e)
      (tree_at n depths (n' b e) (calls (n' b e)) b (callee wr e) (is_marked_group (whole w) (suc g))
      (in_hard || is_read (whole w) (suc g)) (λ x y. stop (r.begins g b e x y)))

  -- a call that is not opened
  fail_simulates : (g : ℕ) → IsWritten (whole w) (SubroutineCall g) → (o : Option Tree) → target (whole w) g ≡ o →
      Simulates w (fail_code o) fails
  fail_simulates g wr None e = absurd (r.allowed (SubroutineCall g) SubroutineCallTargetNotFound wr (missing_group e))
  fail_simulates g wr (Some b) e = simulates_fails w

  pub calls_simulate : (n : ℕ) (depths : Depths) → free_calls (whole w) depths ≡ n → CallsSimulate w r depths
  calls_simulate zero depths e g in_hard wr =
      subst
      (λ m.
      Simulates w (λ base fresh. called_code w.plan never m depths g in_hard base fresh)
      (λ s. called (setting w) (whole w) m depths g s))
      (sym e) (fail_simulates g wr (target (whole w) g) refl)
  calls_simulate (suc n) depths e g in_hard wr =
      subst
      (λ m.
      Simulates w (λ base fresh. called_code w.plan never m depths g in_hard base fresh)
      (λ s. called (setting w) (whole w) m depths g s))
      (sym e)
      (by_depth (nat_lt (depths g) call_depth) refl (λ q. calls_simulate n (opened g depths) q))
    where
      -- by whether the call is opened
      IsFollowed : Bool → Type 0
      IsFollowed u =
          Simulates w
          (if u then target_code w.plan never g (called_code w.plan never n (opened g depths)) in_hard
          (target (whole w) g) else fail_code (target (whole w) g))
          (if u then ways_of_target (setting w) (whole w) g (called (setting w) (whole w) n (opened g depths))
          (target (whole w) g) else fails)

      by_depth : (v : Bool) → nat_lt (depths g) call_depth ≡ v →
          (free_calls (whole w) (opened g depths) ≡ n → CallsSimulate w r (opened g depths)) →
          Simulates w (called_code w.plan never (suc n) depths g in_hard) (called (setting w) (whole w) (suc n) depths g)
      by_depth false lt ih = subst IsFollowed (sym lt) (fail_simulates g wr (target (whole w) g) refl)
      by_depth true lt ih =
          subst IsFollowed (sym lt)
          (of_target n (opened g depths) g in_hard
          (λ b t. let more = r.opens g b depths t (ltb-true (depths g) call_depth lt) in omega (arith, more, e)) ih wr
          (target (whole w) g) refl)
