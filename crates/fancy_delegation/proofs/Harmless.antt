-- Delegation is harmless where delegates take the first way of their nodes, and absent repeaters of easy bodies all of theirs.
use Rattle.std.proofs.Common.{◌≡◌, ℕ, ◌+◌, ◌≤◌, Bool, true, ◌&&◌, if◌then◌else◌, List, [], ◌∷◌, length, find, Some, refl, sym, ap, ◌∙◌, subst, arith, true≢false}
use Rattle.fancy_meaning.specs.Tree.{Tree, AbsentRepeater}
use Rattle.fancy_meaning.specs.OpenCalls.{Depths}
use Rattle.fancy_meaning.specs.MatchState.{MatchState, Ways}
use Rattle.fancy_meaning.specs.Ways.{Setting, absent, ways}
use Rattle.fancy_meaning.specs.Answer.{search_of}
use Rattle.fancy_meaning.specs.Code.{Code, one}
use Rattle.fancy_meaning.specs.Instr.{Instr}
use Rattle.fancy_meaning.specs.Batches.{batch, fragment, pattern_of, group_range}
use Rattle.fancy_meaning.specs.Layout.{layout}
use Rattle.fancy_meaning.specs.Config.{Branch, Config, Goes}
use Rattle.fancy_meaning.specs.Machine.{Task, fail_to, exec}
use Rattle.fancy_meaning.specs.Keys.{key, easy_key}
use Rattle.fancy_meaning.specs.Enumerates.{GoesOn, no_search, one_start, two_branches}
use Rattle.fancy_meaning.specs.CompileRefusals.{IsWritten}
use Rattle.fancy_meaning.specs.Marks.{has_marked_continue}
use Rattle.fancy_meaning.specs.Premises.{Input, plan, IsAccepted, IsText}
use Rattle.fancy_meaning.specs.Theorems.{IsProgramFor, RefinesUpTo, may_give_up, code_of_root, code_of_node, AllRefine, DelegationIsHarmless}
use Rattle.fancy_composed.proofs.Continuations.{Tally, tally_of, Continuation, To, to_same, to_eq, after, Ground, config, here}
use Rattle.fancy_composed.proofs.Parts.{setting, Simulates}
use Rattle.fancy_composed.proofs.Tests.{MayStop}
use Rattle.std.proofs.lemmas.Bool.{or_left, or_right}
use Rattle.fancy_composed.proofs.Trees.{both}
use Rattle.fancy_composed.proofs.Refining.{stands_here, handed_by}
use Rattle.fancy_composed.proofs.Composed.{first_slot}
use Rattle.fancy_laws.proofs.Every.{Every}
use Rattle.fancy_delegation.proofs.FindsAlike.{find_first}
use Rattle.fancy_delegation.proofs.Refined.{context_key}
use Rattle.fancy_delegation.proofs.RefinedDelegates.{IsDelegated, first_of_batch}
use Rattle.fancy_delegation.proofs.EnumeratesWays.{Setup}
use Rattle.fancy_delegation.proofs.Delegated.{is_easy, Refined}
use Rattle.fancy_delegation.proofs.DelegatedCalls.{delegation_key_equal, whole_key_equal}
use Rattle.fancy_delegation.proofs.Refining.{refines_by}
use Rattle.fancy_delegation.proofs.OnMachine.{analysed_of, w, setup}

-- what holds on every ground of an accepted tree's program
abbrev OnEveryGround : ((i : Input) → IsAccepted i (length (layout (plan i)).body) → Ground → Type 0) → Type 0
OnEveryGround P =
    (i : Input) (accepted : IsAccepted i (length (layout (plan i)).body)) (task : Task) (is_text : IsText task.text)
    (fits : IsProgramFor (plan i) task.program) (start : ℕ) (base : List Branch) (bottom : Tally → Continuation)
    (falls : (count : Tally) → To (after task (fail_to task base (config 0 0 (λ s. 0) [] [] start count))) (bottom count)) →
    P i accepted (w i (length (layout (plan i)).body) accepted task is_text fits start base bottom falls)

-- a batch enumerates the first way of its nodes, one after the other
abbrev pub BatchesSimulate : Type 0
BatchesSimulate = OnEveryGround (λ i accepted g.
    (es : List Tree) (depths : Depths) →
    Every (IsDelegated (analysed_of i (length (layout (plan i)).body) accepted)) es →
    Every (IsWritten (plan i).analysis.tree) es →
    Simulates g (batch (i.options).unicode es) (first_of_batch (setting g) (analysed_of i (length (layout (plan i)).body) accepted) depths es))

-- an absent repeater of an easy body enumerates all of its ways
abbrev pub EasyRepeatersSimulate : Type 0
EasyRepeatersSimulate = OnEveryGround (λ i accepted g.
    (e : Tree) (depths : Depths) → IsDelegated (analysed_of i (length (layout (plan i)).body) accepted) e →
    IsWritten (plan i).analysis.tree (AbsentRepeater e) →
    Simulates g (one (Instr.AbsentRepeater (pattern_of (i.options).unicode (e ∷ [])) (fragment (i.options).unicode (e ∷ [])) (group_range (e ∷ []))))
    (absent (setting g) (ways (setting g) (plan i).analysis.tree e depths)))

-- where no `\G` gives up, none may
none_gives_up : (g : Ground) (c : Config) → GoesOn g.task c → length c.branches ≡ length g.base → MayStop g
none_gives_up g c (no_search e) same search anchored = absurd (true≢false (sym search ∙ e))
none_gives_up g c (one_start e) same search anchored = absurd (true≢false (sym e ∙ anchored))
none_gives_up g c (two_branches le) same search anchored = (omega (arith, same, le), λ one. absurd (omega (arith, one, same, le)))

find_is : (p : MatchState → Bool) (xs : List MatchState) → find p xs ≡ find_first p xs
find_is p [] = refl
find_is p (x ∷ xs) = ap (λ o. if p x then Some x else o) (find_is p xs)

module _ (batches : BatchesSimulate) (repeaters : EasyRepeatersSimulate) (i : Input) (accepted : IsAccepted i (length (layout (plan i)).body)) where
  abbrev tree : Tree
  tree = (plan i).analysis.tree

  abbrev begins : Tree → Bool
  begins = has_marked_continue tree

  abbrev easy : Tree → Bool
  easy = is_easy (analysed_of i (length (layout (plan i)).body) accepted)

  -- where a failure leads to from a configuration
  abbrev bottom : Task → Config → Tally → Continuation
  bottom t c count = after t (fail_to t c.branches (config 0 0 (λ k. 0) [] [] c.start count))

  abbrev above : (t : Task) → IsText t.text → IsProgramFor (plan i) t.program → Config → Ground
  above t is_text fits c = w i (length (layout (plan i)).body) accepted t is_text fits c.start c.branches (bottom t c) (λ count. to_same)

  abbrev given : (t : Task) (is_text : IsText t.text) (fits : IsProgramFor (plan i) t.program) (c : Config) →
      (begins tree ≡ true → MayStop (above t is_text fits c)) → Setup
  given t is_text fits c stop =
      setup i (length (layout (plan i)).body) accepted t is_text fits c.start c.branches (bottom t c) (λ count. to_same) stop
      (batches i accepted t is_text fits c.start c.branches (bottom t c) (λ count. to_same))
      (repeaters i accepted t is_text fits c.start c.branches (bottom t c) (λ count. to_same))

  -- code that enumerates a list that refines, above all branches, where a `\G` in it may give up only by this test
  refines : (depths : Depths) (in_hard may_stop : Bool) (code : Code) (f : Setting → Ways) → (begins tree ≡ true → may_stop ≡ true) →
      ((t : Task) (is_text : IsText t.text) (fits : IsProgramFor (plan i) t.program) (c : Config)
      (stop : begins tree ≡ true → MayStop (above t is_text fits c)) → (may_stop ≡ true → MayStop (above t is_text fits c)) →
      Refined (given t is_text fits c stop) depths in_hard code (f (search_of (plan i) t.text t.options).setting)) →
      RefinesUpTo (plan i) code f (λ from. if in_hard then key (plan i) else easy_key (plan i) from) may_stop
  refines depths in_hard may_stop code f by_call refined t c fresh s from at le' =
      let fits = at.program in
      let is_text = at.text in
      let goes_on = at.goes_on in
      let g = above t is_text fits c in
      let stop : may_stop ≡ true → MayStop g = λ may. none_gives_up g c (goes_on may) refl in
      let h = refined t is_text fits c (λ x. stop (by_call x)) stop in
      let simulates : Simulates g code h.handed = h.simulates in
      let laid = code c.pc fresh in
      let part =
      simulates.part c.pc (c.pc + length laid.instrs) fresh refl
      (subst (λ n. n ≤ fresh) (sym (first_slot g accepted.implicit_group_0)) at.slots_are_fresh) at.code_is_there in (
        simulates.handed s,
        handed_by g (λ count. to_same) c.pc c.ix c.slots c.marks (tally_of c) (c.pc + length laid.instrs) fresh laid.fresh (Goes c)
            (to_eq (λ n. ap (λ x. exec t n (here g c.pc x c.slots c.marks [] (tally_of c))) (at.stands).place))
            (part.enumerates s c.slots c.marks [] (tally_of c) at.sound (stands_here g (λ count. to_same) s c at.stands)),
        refines_by (context_key (plan i) in_hard from) (simulates.handed s) (h.handed s) (f (setting g) s)
            (λ p. sym (find_is p (simulates.handed s)) ∙ (simulates.alike s at.sound).tests p ∙ find_is p (h.handed s)) ((h.key_equal).by s from at.sound le'),
      )

  all_refine : AllRefine (plan i) easy (λ in_hard from. if in_hard then key (plan i) else easy_key (plan i) from)
  all_refine = record {
    root = λ depths in_hard.
        refines depths in_hard (begins tree) (code_of_root (plan i) easy depths in_hard) (λ q. ways q tree tree depths) (λ x. x)
        (λ t is_text fits c stop may. whole_key_equal (given t is_text fits c stop) depths in_hard);
    node = λ e depths at_start in_hard wr.
        refines depths in_hard (may_give_up tree e at_start) (code_of_node (plan i) easy depths e at_start in_hard) (λ q. ways q tree e depths)
        (λ x. or_left (begins tree) (at_start && begins e) x)
        (λ t is_text fits c stop may.
        delegation_key_equal (given t is_text fits c stop) depths e wr at_start in_hard
        (λ x y. may (or_right (begins tree) (at_start && begins e) (both at_start (begins e) x y))));
  }

pub delegation_is_harmless : BatchesSimulate → EasyRepeatersSimulate → DelegationIsHarmless
delegation_is_harmless batches repeaters i accepted = all_refine batches repeaters i accepted
