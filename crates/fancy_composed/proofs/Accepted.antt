-- The tree of an accepted plan is ready.
use Rattle.std.proofs.Common.{◌≡◌, ℕ, zero, suc, ◌-◌, ◌+◌, ◌<◌, ◌≤◌, Bool, true, false, ◌||◌, nat_lt, if◌then◌else◌, List, [], Contains, Some, refl, sym, ap, ap₂, ◌&&◌, ◌∙◌, subst, arith, ltb-false}
use Rattle.std.specs.List.{list_any}
use Rattle.std.proofs.lemmas.Option.{same_Some}
use Rattle.fancy_meaning.specs.Tree.{Tree, Group, BackrefWithLevel, AbsentRepeater, AstNode, UnresolvedCall, UnresolvedOther}
use Rattle.fancy_meaning.specs.Nodes.{nodes, group_count, target, is_absent}
use Rattle.fancy_meaning.specs.Numbering.{numbered}
use Rattle.fancy_meaning.specs.OpenCalls.{Depths, opened, call_depth, free_calls}
use Rattle.fancy_meaning.specs.Hard.{is_hard}
use Rattle.fancy_meaning.specs.Code.{Code, nothing}
use Rattle.fancy_meaning.specs.Constructs.{absent_code}
use Rattle.fancy_meaning.specs.Layout.{absent_repeater_code}
use Rattle.fancy_meaning.specs.Config.{Branch}
use Rattle.fancy_meaning.specs.Machine.{Task, fail_to}
use Rattle.fancy_meaning.specs.AnalysisRefusals.{before_end, reference_with_level, unresolved_call, unresolved_node, group_out_of_range, is_no_group, has_level, SubroutineCallTargetNotFound, UnresolvedAstNode, FeatureNotYetSupported, InvalidBackref}
use Rattle.fancy_meaning.specs.CompileRefusals.{IsWritten, refused_node, absent_in_hard_repeater}
use Rattle.fancy_meaning.specs.WellFormed.{refers}
use Rattle.fancy_meaning.specs.Premises.{Input, plan, IsAccepted, Analysed, IsText}
use Rattle.fancy_meaning.specs.Theorems.{IsProgramFor}
use Rattle.fancy_meaning.specs.Marks.{has_marked_continue, is_marked_group}
use Rattle.fancy_composed.proofs.Continuations.{Continuation, Tally, To, after, Ground, config}
use Rattle.fancy_composed.proofs.Branches.{never}
use Rattle.fancy_composed.proofs.Ready.{Ready, IsResolved}
use Rattle.fancy_composed.proofs.Written.{written_is_node, has_node}
use Rattle.fancy_composed.proofs.Numbers.{number_of_group, number_of_target, opening_takes_one}
use Rattle.fancy_composed.proofs.Starts.{marked_group}
use Rattle.fancy_laws.proofs.Every.{every_contained}
use Rattle.fancy_laws.proofs.Orderly.{analysed_is_fine, analysed_is_orderly}
use Rattle.fancy_laws.proofs.SizesHold.{ways_have_sizes}

module _ (i : Input) (instructions : ℕ) (accepted : IsAccepted i instructions) where
  -- the tree that was analysed
  abbrev analysed : Analysed
  analysed = record { parsed = i.parsed; options = i.analysis; well_formed = accepted.well_formed }

  abbrev tree : Tree
  tree = (plan i).analysis.tree

  -- its groups are numbered from 1 on
  numbered_from_1 : tree ≡ numbered 1 (i.parsed).tree
  numbered_from_1 = ap (λ v. numbered (if v then 0 else 1) (i.parsed).tree) accepted.implicit_group_0

  resolved : (e : Tree) → Contains (nodes tree) e → IsResolved e
  resolved (BackrefWithLevel g level casei) c =
      accepted.analysed FeatureNotYetSupported
      (before_end (reference_with_level (has_node has_level (BackrefWithLevel g level casei) (nodes tree) c refl)))
  resolved (AstNode UnresolvedCall) c = accepted.analysed SubroutineCallTargetNotFound (before_end (unresolved_call c))
  resolved (AstNode UnresolvedOther) c = accepted.analysed UnresolvedAstNode (before_end (unresolved_node c))
  resolved e c = tt

  in_groups : (g : ℕ) → is_no_group i.parsed i.analysis g ≡ false → (0 < g) × (g ≤ group_count tree)
  in_groups g out =
      let e : (nat_lt g 1 || nat_lt (1 + group_count tree - 1) g) ≡ false =
      sym
      (ap
      (λ v. nat_lt g (if v then 0 else 1) || nat_lt ((if v then 0 else 1) + group_count tree - 1) g) accepted.implicit_group_0)
      ∙ out in
      let parts = neither (nat_lt g 1) (nat_lt (1 + group_count tree - 1) g) e in
      (let a = ltb-false g 1 parts.0 in let b = ltb-false (1 + group_count tree - 1) g parts.1 in (omega arith, omega arith))
    where
      neither : (u v : Bool) → (u || v) ≡ false → (u ≡ false) × (v ≡ false)
      neither true v q = cc
      neither false v q = (refl, q)

  reference : (e : Tree) (g : ℕ) → Contains (nodes tree) e → refers g e ≡ true → (0 < g) × (g ≤ group_count tree)
  reference e g c is = by_test (is_no_group i.parsed i.analysis g) refl
    where
      by_test : (v : Bool) → is_no_group i.parsed i.analysis g ≡ v → (0 < g) × (g ≤ group_count tree)
      by_test true out =
          absurd
          (accepted.analysed (InvalidBackref g) (before_end (group_out_of_range g (has_node (refers g) e (nodes tree) c is) out)))
      by_test false out = in_groups g out

  number : (g : ℕ) (e : Tree) → target tree (suc g) ≡ Some e → suc g ≤ group_count tree
  number g e =
      subst (λ t. target t (suc g) ≡ Some e → suc g ≤ group_count t) (sym numbered_from_1)
      (number_of_target (i.parsed).tree g e)

  opens : (g : ℕ) (e : Tree) (depths : Depths) → target tree g ≡ Some e → depths g < call_depth →
      free_calls tree depths ≡ suc (free_calls tree (opened g depths))
  opens g e depths t lt =
      subst (λ x. g ≤ group_count x → free_calls x depths ≡ suc (free_calls x (opened g depths))) (sym numbered_from_1)
      (λ le. opening_takes_one (i.parsed).tree g depths le lt) (at_most g t)
    where
      at_most : (h : ℕ) → target tree h ≡ Some e → h ≤ group_count tree
      at_most zero u = omega arith
      at_most (suc h) u = number h e u

  begins : (g : ℕ) (e : Tree) → target tree (suc g) ≡ Some e → is_marked_group tree (suc g) ≡ true →
      has_marked_continue tree e ≡ true → has_marked_continue tree tree ≡ true
  begins g e t at b =
      let r = marked_group tree (suc g) tree at in
      let same : r.body ≡ e = same_Some r.body e (sym ((analysed_is_orderly analysed).groups g r.body r.is_there) ∙ t) in
      r.continues_too (ap (has_marked_continue tree) same ∙ b)

  -- an absent repeater with a body that is refused is refused
  repeater : (e : Tree) (code : Bool → Code) → IsWritten tree (AbsentRepeater e) →
      absent_repeater_code (plan i) never e code ≡ absent_code (code false)
  repeater e code wr = by_test (is_hard (plan i).analysis e) (list_any is_absent (nodes e)) refl refl
    where
      by_test : (u v : Bool) → is_hard (plan i).analysis e ≡ u → list_any is_absent (nodes e) ≡ v →
          absent_repeater_code (plan i) never e code ≡ absent_code (code false)
      by_test true true hard absent =
          absurd (accepted.compiled FeatureNotYetSupported (refused_node wr (absent_in_hard_repeater hard absent)))
      by_test true false hard absent = ap₂ (λ x y. if x && y then nothing else absent_code (code false)) hard absent
      by_test false v hard absent =
          ap (λ x. if x && list_any is_absent (nodes e) then nothing else absent_code (code false)) hard

  module _ (task : Task) (is_text : IsText task.text) (fits : IsProgramFor (plan i) task.program) (start : ℕ)
      (base : List Branch) (bottom : Tally → Continuation)
      (falls : (count : Tally) → To (after task (fail_to task base (config 0 0 (λ s. 0) [] [] start count))) (bottom count)) where
    abbrev pub ground : Ground
    ground = record {
      plan = plan i;
      task = task;
      is_text = is_text;
      fits = fits;
      start = start;
      base = base;
      bottom = bottom;
      falls = falls;
    }

    pub ready : Ready ground
    ready = record {
      there = λ e wr. written_is_node tree e wr;
      fine = λ e c. analysed_is_fine analysed e c;
      resolved = resolved;
      group = λ g e.
          subst (λ t. Contains (nodes t) (Group g e) → (0 < g) × (g ≤ group_count t)) (sym numbered_from_1)
          (number_of_group (i.parsed).tree g e);
      reference = reference;
      allowed = λ e error wr refuses. accepted.compiled error (refused_node wr refuses);
      repeater = repeater;
      leads = λ e depths s t c ok m.
          (let way = every_contained t (ways_have_sizes _ tree is_text.utf8 (analysed_is_orderly analysed) e depths c s ok) m in
          (way.sound, way.on, way.sized));
      number = number;
      opens = opens;
      begins = begins;
    }
