-- The same for calls, by how many more may be opened, and so for every node that is written out.
use Rattle.std.proofs.Common.{◌≡◌, ℕ, zero, suc, Bool, true, false, ◌||◌, if◌then◌else◌, Option, Some, None, refl, sym, subst, arith, ltb-true}
use Rattle.std.specs.Prelude.{nat_lt}
use Rattle.std.proofs.lemmas.Bool.{and_parts}
use Rattle.fancy_meaning.specs.Tree.{Tree, SubroutineCall}
use Rattle.fancy_meaning.specs.Nodes.{target, is_read}
use Rattle.fancy_meaning.specs.OpenCalls.{Depths, opened, call_depth, free_calls}
use Rattle.fancy_meaning.specs.MatchState.{Ways, fails}
use Rattle.fancy_meaning.specs.Ways.{ways_with, called, ways_of_target, ways}
use Rattle.fancy_meaning.specs.Code.{Code, one}
use Rattle.fancy_meaning.specs.Instr.{Instr}
use Rattle.fancy_meaning.specs.Layout.{in_context, called_code, target_code, fail_code, root_code, is_root_easy}
use Rattle.fancy_meaning.specs.AnalysisRefusals.{SubroutineCallTargetNotFound}
use Rattle.fancy_meaning.specs.CompileRefusals.{IsWritten, callee, root, missing_group}
use Rattle.fancy_meaning.specs.Theorems.{code_of_node}
use Rattle.fancy_meaning.specs.Marks.{has_marked_continue, is_marked_group}
use Rattle.fancy_delegation.proofs.Nodes.{target_is_body, target_is_whole}
use Rattle.fancy_delegation.proofs.Refined.{key_equal_same}
use Rattle.fancy_delegation.proofs.EnumeratesWays.{Setup}
use Rattle.fancy_delegation.proofs.Delegated.{is_easy, means, Refined, batch_refined}
use Rattle.fancy_delegation.proofs.DelegatedNodes.{plan, whole, group_refined}
use Rattle.fancy_delegation.proofs.DelegatedTree.{call, meant, code_at, CallsRefined, tree_refined, node_refined}

module _ (given : Setup) where
  abbrev easy : Tree → Bool
  easy = is_easy given.tree

  -- what refines does not go by which calls are open
  again : (depths other : Depths) (in_hard : Bool) (c : Code) (f : Ways) → Refined given depths in_hard c f → Refined given other in_hard c f
  again depths other in_hard c f h = record { handed = h.handed; simulates = h.simulates; key_equal = h.key_equal }

  fails_refined : (depths : Depths) (in_hard : Bool) → Refined given depths in_hard (one Instr.Fail) fails
  fails_refined depths in_hard = record {
    handed = fails;
    simulates = (given.laws).enumerates_none;
    key_equal = key_equal_same (plan given depths) given.setting in_hard fails;
  }

  -- a call that is not opened
  fail_refined : (depths : Depths) (g : ℕ) (in_hard : Bool) → IsWritten (whole given depths) (SubroutineCall g) →
      (o : Option Tree) → target (whole given depths) g ≡ o →
      Refined given depths in_hard (fail_code o) fails
  fail_refined depths g in_hard wr None e = absurd ((given.ready).allowed (SubroutineCall g) SubroutineCallTargetNotFound wr (missing_group e))
  fail_refined depths g in_hard wr (Some b) e = fails_refined depths in_hard

  module _ (depths : Depths) (calls : CallsRefined given depths) where
    -- the whole tree, which may be hard for its own reason
    pub root_refined : (in_hard : Bool) →
        Refined given depths in_hard (root_code (plan given depths) easy (call given depths) in_hard)
        (means given depths (whole given depths))
    root_refined in_hard =
        batch_refined given depths (whole given depths) (is_root_easy (plan given depths) easy)
        (λ both. (and_parts (easy (whole given depths)) _ both).0) (code_at given depths (whole given depths) true)
        in_hard root
        (tree_refined given depths calls (whole given depths) root true in_hard (λ x y. given.may_stop y))

    body_refined : (g : ℕ) (b : Tree) (in_hard : Bool) → IsWritten (whole given depths) (SubroutineCall (suc g)) →
        target (whole given depths) (suc g) ≡ Some b →
        Refined given depths in_hard
        (target_code (plan given depths) easy (suc g) (call given depths) in_hard (Some b))
        (ways_of_target given.setting (whole given depths) (suc g) (meant given depths) (Some b))
    body_refined g b in_hard wr e =
        let inner = in_hard || is_read (whole given depths) (suc g) in
        group_refined given depths in_hard (suc g) b
        (in_context (plan given depths) easy b (code_at given depths b (is_marked_group (whole given depths) (suc g))) inner)
        (means given depths b) (target_is_body (whole given depths) g b e)
        (node_refined given depths calls b (callee wr e) (is_marked_group (whole given depths) (suc g)) inner
        (λ x y. given.may_stop ((given.ready).begins g b e x y)))

    target_refined : (g : ℕ) (in_hard : Bool) → IsWritten (whole given depths) (SubroutineCall g) →
        (o : Option Tree) → target (whole given depths) g ≡ o →
        Refined given depths in_hard (target_code (plan given depths) easy g (call given depths) in_hard o)
        (ways_of_target given.setting (whole given depths) g (meant given depths) o)
    target_refined g in_hard wr None e = absurd ((given.ready).allowed (SubroutineCall g) SubroutineCallTargetNotFound wr (missing_group e))
    target_refined zero in_hard wr (Some b) e =
        subst (λ x. Refined given depths in_hard (root_code (plan given depths) easy (call given depths) in_hard)
        (ways_with given.setting (meant given depths) x)) (target_is_whole (whole given depths) b e)
        (root_refined in_hard)
    target_refined (suc g) in_hard wr (Some b) e = body_refined g b in_hard wr e

  -- a target where n more calls may be opened
  abbrev TargetAt : ℕ → Depths → ℕ → Bool → Depths → Type 0
  TargetAt n inner g in_hard depths =
      Refined given depths in_hard
      (target_code (plan given depths) easy g (called_code (plan given depths) easy n inner) in_hard
      (target (whole given depths) g))
      (ways_of_target given.setting (whole given depths) g (called given.setting (whole given depths) n inner) (target (whole given depths) g))

  -- the code of a call, and its ways, by whether it is open so often already
  abbrev code_if : Bool → ℕ → Depths → ℕ → Bool → Depths → Code
  code_if v n inner g in_hard depths =
      if v then target_code (plan given depths) easy g (called_code (plan given depths) easy n inner) in_hard
      (target (whole given depths) g) else fail_code (target (whole given depths) g)

  abbrev ways_if : Bool → ℕ → Depths → ℕ → Depths → Ways
  ways_if v n inner g depths =
      if v then ways_of_target given.setting (whole given depths) g
      (called given.setting (whole given depths) n inner) (target (whole given depths) g) else fails

  pub calls_refined : (n : ℕ) (depths : Depths) → free_calls (whole given depths) depths ≡ n → CallsRefined given depths
  calls_refined zero depths e g in_hard wr =
      subst (λ m. Refined given depths in_hard
      (λ base fresh. called_code (plan given depths) easy m depths g in_hard base fresh)
      (λ s. called given.setting (whole given depths) m depths g s)) (sym e)
      (fail_refined depths g in_hard wr (target (whole given depths) g) refl)
  calls_refined (suc n) depths e g in_hard wr =
      subst (λ m. Refined given depths in_hard
      (λ base fresh. called_code (plan given depths) easy m depths g in_hard base fresh)
      (λ s. called given.setting (whole given depths) m depths g s)) (sym e)
      (by_depth (nat_lt (depths g) call_depth) refl (λ q. calls_refined n (opened g depths) q))
    where
      opened_target : ((b : Tree) → target (whole given depths) g ≡ Some b →
          free_calls (whole given depths) (opened g depths) ≡ n) →
          (free_calls (whole given depths) (opened g depths) ≡ n → CallsRefined given (opened g depths)) →
          (o : Option Tree) → target (whole given depths) g ≡ o → TargetAt n (opened g depths) g in_hard depths
      opened_target left ih None t = absurd ((given.ready).allowed (SubroutineCall g) SubroutineCallTargetNotFound wr (missing_group t))
      opened_target left ih (Some b) t =
          let count = left b t in
          subst (λ m. TargetAt m (opened g depths) g in_hard depths) count
          (again (opened g depths) depths in_hard _ _ (target_refined (opened g depths) (ih count) g in_hard wr (target (whole given depths) g) refl))

      by_depth : (v : Bool) → nat_lt (depths g) call_depth ≡ v →
          (free_calls (whole given depths) (opened g depths) ≡ n → CallsRefined given (opened g depths)) →
          Refined given depths in_hard
          (λ base fresh. called_code (plan given depths) easy (suc n) depths g in_hard base fresh)
          (λ s. called given.setting (whole given depths) (suc n) depths g s)
      by_depth false lt ih =
          subst (λ v. Refined given depths in_hard
          (λ base fresh. code_if v n (opened g depths) g in_hard depths base fresh)
          (λ s. ways_if v n (opened g depths) g depths s)) (sym lt)
          (fail_refined depths g in_hard wr (target (whole given depths) g) refl)
      by_depth true lt ih =
          subst (λ v. Refined given depths in_hard
          (λ base fresh. code_if v n (opened g depths) g in_hard depths base fresh)
          (λ s. ways_if v n (opened g depths) g depths s)) (sym lt)
          (opened_target (λ b t. let more = (given.ready).opens g b depths t (ltb-true (depths g) call_depth lt) in
          omega (arith, more, e)) ih (target (whole given depths) g) refl)

  -- Every node that is written out, in each context and wherever a match begins with it.
  pub delegation_key_equal : (depths : Depths) (e : Tree) → IsWritten (whole given depths) e → (at_start in_hard : Bool) →
      (at_start ≡ true → has_marked_continue (whole given depths) e ≡ true → given.MayStop) →
      Refined given depths in_hard (code_of_node (plan given depths) easy depths e at_start in_hard)
      (ways given.setting (whole given depths) e depths)
  delegation_key_equal depths e wr at_start in_hard k =
      node_refined given depths (calls_refined (free_calls (whole given depths) depths) depths refl) e wr at_start in_hard k

  -- and the whole tree
  pub whole_key_equal : (depths : Depths) (in_hard : Bool) →
      Refined given depths in_hard (root_code (plan given depths) easy (call given depths) in_hard)
      (means given depths (whole given depths))
  whole_key_equal depths in_hard = root_refined depths (calls_refined (free_calls (whole given depths) depths) depths refl) in_hard
