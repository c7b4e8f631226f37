-- What the machine's part theorem knows of each construct, as it is asked here. What a delegate does is still asked.
use Rattle.std.proofs.Common.{◌≡◌, ◌≢◌, ℕ, Bool, true, false, List, [], ◌∷◌, Some, None, refl}
use Rattle.fancy_meaning.specs.Tree.{Tree, Trees, none, more, Empty, KeepOut, ContinueFromPreviousMatchEnd, AbsentClear, Any, Assert, GeneralNewline, Literal, LiteralBytes, Delegate, Concat, Alt, Group, LookAround, Repeat, Backref, BackrefWithLevel, BackrefExists, AtomicGroup, DefineGroup, AbsentRepeater, AbsentStopper, AbsentExpression, Control, Conditional, SubroutineCall, AstNode, Fail, Accept, Commit, Skip, Prune}
use Rattle.fancy_meaning.specs.Nodes.{nodes}
use Rattle.fancy_meaning.specs.OpenCalls.{Depths, no_calls, free_calls}
use Rattle.fancy_meaning.specs.MatchState.{MatchState, Ways, fails}
use Rattle.fancy_meaning.specs.Ways.{Setting, absent, ways_with, ways}
use Rattle.fancy_meaning.specs.Code.{Code, nothing, one}
use Rattle.fancy_meaning.specs.Instr.{Instr}
use Rattle.fancy_meaning.specs.Batches.{batch, fragment, pattern_of, group_range}
use Rattle.fancy_meaning.specs.Layout.{written}
use Rattle.fancy_meaning.specs.Sizes.{Size}
use Rattle.fancy_meaning.specs.Config.{Branch}
use Rattle.fancy_meaning.specs.Machine.{Task, fail_to}
use Rattle.fancy_meaning.specs.WellFormed.{IsFine}
use Rattle.fancy_meaning.specs.Theorems.{IsProgramFor}
use Rattle.fancy_meaning.specs.CompileRefusals.{IsWritten}
use Rattle.fancy_meaning.specs.Premises.{Analysed, Input, plan, tree_of, IsAccepted, IsText}
use Rattle.fancy_meaning.specs.Marks.{has_marked_continue}
use Rattle.fancy_composed.proofs.Continuations.{Tally, Continuation, To, after, Ground, config}
use Rattle.fancy_composed.proofs.Alike.{Among, at_head, further}
use Rattle.fancy_composed.proofs.Parts.{setting, Simulates, Keeps}
use Rattle.fancy_composed.proofs.Simulates.{simulates_as, simulates_nothing, simulates_fails, simulates_next, simulates_branch, simulates_group, simulates_atomic, simulates_unless, simulates_look, simulates_conditional}
use Rattle.fancy_composed.proofs.Tests.{MayStop}
use Rattle.fancy_composed.proofs.Behind.{Sized, simulates_behind, simulates_not_behind}
use Rattle.fancy_composed.proofs.Absent.{simulates_absent}
use Rattle.fancy_composed.proofs.Branches.{ends_by_branch}
use Rattle.fancy_composed.proofs.Nodes.{repeat_simulates}
use Rattle.fancy_composed.proofs.Ready.{Ready}
use Rattle.fancy_composed.proofs.Trees.{CallsSimulate, tree_simulates}
use Rattle.fancy_composed.proofs.Calls.{calls_simulate}
use Rattle.fancy_composed.proofs.Accepted.{ground, ready}
use Rattle.fancy_laws.proofs.SizesHold.{sizes_hold}
use Rattle.fancy_laws.proofs.Every.{Every, no_item, item}
use Rattle.fancy_delegation.proofs.Items.{contained_is_in, is_in_contained}
use Rattle.fancy_delegation.proofs.Evenly.{KeepsSound}
use Rattle.fancy_delegation.proofs.RefinedDelegates.{plan_for, IsDelegated, first_of_batch}
use Rattle.fancy_delegation.proofs.EnumeratesWays.{IsLeaf, IsReady, SizedBy, EnumeratesWays, Setup}

every_among : {P : MatchState → Type 0} {xs : List MatchState} {x : MatchState} → Every P xs → Among x xs → P x
every_among no_item m = elim m [ ]
every_among (item r h) at_head = r
every_among (item r h) (further m) = every_among h m

-- the tree of a plan that is accepted
abbrev pub analysed_of : (i : Input) (instructions : ℕ) → IsAccepted i instructions → Analysed
analysed_of i instructions accepted = record { parsed = i.parsed; options = i.analysis; well_formed = accepted.well_formed }

module _ (i : Input) (instructions : ℕ) (accepted : IsAccepted i instructions) (task : Task)
    (is_text : IsText task.text) (fits : IsProgramFor (plan i) task.program) (start : ℕ) (base : List Branch)
    (bottom : Tally → Continuation)
    (falls : (count : Tally) → To (after task (fail_to task base (config 0 0 (λ s. 0) [] [] start count))) (bottom count)) where
  abbrev pub w : Ground
  w = ground i instructions accepted task is_text fits start base bottom falls

  abbrev r : Ready w
  r = ready i instructions accepted task is_text fits start base bottom falls

  abbrev pub a : Analysed
  a = analysed_of i instructions accepted

  abbrev pub q : Setting
  q = setting w

  keeps_of : {f : Ways} → KeepsSound q (tree_of a) f → Keeps w f
  keeps_of k s t ok m = let on = every_among (k s ok) m in (on.sound, on.on)

  sized_of : (z : Size) {f : Ways} → SizedBy a i.options q z f → Sized w z f
  sized_of z k s t ok m = every_among (k s ok) m

  pub is_ready : IsReady a i.options q
  is_ready = record {
    there = λ e wr. is_in_contained (nodes (tree_of a)) e (r.there e wr);
    choices = λ es wr. has_choice es (r.fine (Alt es) (r.there (Alt es) wr));
    bounds = λ lo hi greedy e wr. let fine = r.fine (Repeat lo hi greedy e) (r.there (Repeat lo hi greedy e) wr) in (fine.0, fine.1);
    opens = r.opens;
    begins = r.begins;
    allowed = λ e error wr. r.allowed e error wr;
  }
    where
      has_choice : (es : Trees) → IsFine (Alt es) → es ≢ none
      has_choice none fine e = fine
      has_choice (more e es) fine q' = cc

  module _ (stop : has_marked_continue (tree_of a) (tree_of a) ≡ true → MayStop w) where
    calls : CallsSimulate w r no_calls
    calls = calls_simulate w r stop (free_calls (tree_of a) no_calls) no_calls refl

    leaf_simulates : (e : Tree) (call : ℕ → Bool → Code) (meant : ℕ → Ways) (at_start in_hard : Bool) → IsLeaf e →
        IsWritten (tree_of a) e → (at_start ≡ true → has_marked_continue (tree_of a) e ≡ true → MayStop w) →
        Simulates w (written (plan_for a i.options) (λ d. false) call e at_start in_hard) (ways_with q meant e)
    leaf_simulates Empty call meant at h leaf wr k = tree_simulates w r no_calls calls Empty wr at h k
    leaf_simulates KeepOut call meant at h leaf wr k = tree_simulates w r no_calls calls KeepOut wr at h k
    leaf_simulates ContinueFromPreviousMatchEnd call meant at h leaf wr k = tree_simulates w r no_calls calls ContinueFromPreviousMatchEnd wr at h k
    leaf_simulates AbsentClear call meant at h leaf wr k = tree_simulates w r no_calls calls AbsentClear wr at h k
    leaf_simulates (Any newline crlf) call meant at h leaf wr k = tree_simulates w r no_calls calls (Any newline crlf) wr at h k
    leaf_simulates (Assert within x) call meant at h leaf wr k = tree_simulates w r no_calls calls (Assert within x) wr at h k
    leaf_simulates (GeneralNewline unicode) call meant at h leaf wr k = tree_simulates w r no_calls calls (GeneralNewline unicode) wr at h k
    leaf_simulates (Literal c casei) call meant at h leaf wr k = tree_simulates w r no_calls calls (Literal c casei) wr at h k
    leaf_simulates (LiteralBytes cs) call meant at h leaf wr k = tree_simulates w r no_calls calls (LiteralBytes cs) wr at h k
    leaf_simulates (Delegate inner casei) call meant at h leaf wr k = tree_simulates w r no_calls calls (Delegate inner casei) wr at h k
    leaf_simulates (Backref g casei) call meant at h leaf wr k = tree_simulates w r no_calls calls (Backref g casei) wr at h k
    leaf_simulates (BackrefWithLevel g level casei) call meant at h leaf wr k = tree_simulates w r no_calls calls (BackrefWithLevel g level casei) wr at h k
    leaf_simulates (BackrefExists g None) call meant at h leaf wr k = tree_simulates w r no_calls calls (BackrefExists g None) wr at h k
    leaf_simulates (BackrefExists g (Some level)) call meant at h leaf wr k = tree_simulates w r no_calls calls (BackrefExists g (Some level)) wr at h k
    leaf_simulates (DefineGroup e) call meant at h leaf wr k = tree_simulates w r no_calls calls (DefineGroup e) wr at h k
    leaf_simulates (Control Fail) call meant at h leaf wr k = tree_simulates w r no_calls calls (Control Fail) wr at h k
    leaf_simulates (Control Accept) call meant at h leaf wr k = tree_simulates w r no_calls calls (Control Accept) wr at h k
    leaf_simulates (Control Commit) call meant at h leaf wr k = tree_simulates w r no_calls calls (Control Commit) wr at h k
    leaf_simulates (Control Skip) call meant at h leaf wr k = tree_simulates w r no_calls calls (Control Skip) wr at h k
    leaf_simulates (Control Prune) call meant at h leaf wr k = tree_simulates w r no_calls calls (Control Prune) wr at h k
    leaf_simulates (AbsentStopper e) call meant at h leaf wr k = tree_simulates w r no_calls calls (AbsentStopper e) wr at h k
    leaf_simulates (AbsentExpression x e) call meant at h leaf wr k = tree_simulates w r no_calls calls (AbsentExpression x e) wr at h k
    leaf_simulates (AstNode node) call meant at h leaf wr k = tree_simulates w r no_calls calls (AstNode node) wr at h k
    leaf_simulates (Concat es) call meant at h leaf wr k = absurd leaf
    leaf_simulates (Alt es) call meant at h leaf wr k = absurd leaf
    leaf_simulates (Group g e) call meant at h leaf wr k = absurd leaf
    leaf_simulates (LookAround look e) call meant at h leaf wr k = absurd leaf
    leaf_simulates (Repeat lo hi greedy e) call meant at h leaf wr k = absurd leaf
    leaf_simulates (AtomicGroup e) call meant at h leaf wr k = absurd leaf
    leaf_simulates (Conditional c t f) call meant at h leaf wr k = absurd leaf
    leaf_simulates (AbsentRepeater e) call meant at h leaf wr k = absurd leaf
    leaf_simulates (SubroutineCall g) call meant at h leaf wr k = absurd leaf

    -- where delegates take the first way of their nodes
    module _ (batches : (es : List Tree) (depths : Depths) → Every (IsDelegated a) es →
        Every (IsWritten (tree_of a)) es → Simulates w (batch (i.options).unicode es) (first_of_batch q a depths es))
        (absents : (e : Tree) (depths : Depths) → IsDelegated a e → IsWritten (tree_of a) (AbsentRepeater e) →
        Simulates w
        (one
        (Instr.AbsentRepeater (pattern_of (i.options).unicode (e ∷ [])) (fragment (i.options).unicode (e ∷ []))
        (group_range (e ∷ [])))) (absent q (ways q (tree_of a) e depths))) where
      pub machine_enumerates : EnumeratesWays a i.options q (Simulates w) (MayStop w)
      machine_enumerates = record {
        as_ways = λ c f g e h. simulates_as w g h e;
        enumerates_here = simulates_nothing w;
        enumerates_none = simulates_fails w;
        enumerates_next = λ c d f g k h h'. simulates_next w c d f g h (keeps_of k) h';
        enumerates_branch = λ c d f g h h'. simulates_branch w c d f g h h';
        enumerates_group = λ g e c f there h. (let n = r.group g e (contained_is_in there) in simulates_group w g c f n.0 n.1 h);
        enumerates_first = λ c f h. simulates_atomic w c f h;
        enumerates_unless = λ c f h. simulates_unless w c f h;
        enumerates_ahead = λ c f h. simulates_look w c f h;
        enumerates_behind = λ z c f const sized k h. simulates_behind w z f const (sized_of z sized) (keeps_of k) is_text.fits c h;
        enumerates_not_behind = λ z c f const sized k h. simulates_not_behind w z f const (sized_of z sized) (keeps_of k) is_text.fits c h;
        enumerates_choice = λ c d x f g e k h h' h''. simulates_conditional w c d x f g e h (keeps_of k) h' h'';
        enumerates_loop = λ lo hi greedy v c f small fine k some h.
            repeat_simulates w (λ g in_hard. nothing) (λ g. fails) lo hi greedy v c f small fine is_text.fits
            (λ entered. record { simulates = h entered; keeps = keeps_of k; moves = λ e s t ok m. every_among (some e s ok) m });
        enumerates_absent = λ c f h. simulates_absent w is_text.utf8 f c is_text.fits h;
        enumerates_batch = batches;
        enumerates_easy_absent = absents;
        enumerates_leaf = leaf_simulates;
        by_branches =
            λ z fs s const sized k ok. ends_by_branch w (λ g in_hard. nothing)
            (λ g. fails) z const is_text.fits s fs ok (sized_of z sized) (keeps_of k);
      }

      -- all that the induction asks
      abbrev pub setup : Setup
      setup = record {
        tree = a;
        options = i.options;
        setting = q;
        Simulates = Simulates w;
        MayStop = MayStop w;
        size_law = sizes_hold;
        is_text = is_text;
        same_end_text = accepted.same_end_text;
        ready = is_ready;
        may_stop = stop;
        laws = machine_enumerates;
      }
