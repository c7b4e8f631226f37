-- The code of each node that is written out simulates its ways.
use Rattle.std.proofs.Common.{◌≡◌, ⊎_elim, ℕ, ◌<◌, Bool, true, false, ◌&&◌, ◌||◌, ◌==◌, not, List, Option, Some, None, refl, sym, ap, ◌∙◌, subst, arith, eq-eqb, true≢false}
use Rattle.std.proofs.lemmas.Bool.{cases_lt, eqb-false}
use Rattle.fancy_meaning.specs.Tree.{Tree, Trees, none, more, Empty, KeepOut, ContinueFromPreviousMatchEnd, AbsentClear, Any, Assert, GeneralNewline, Literal, LiteralBytes, Delegate, Concat, Alt, Group, LookAround, Repeat, Backref, BackrefWithLevel, BackrefExists, AtomicGroup, DefineGroup, AbsentRepeater, AbsentStopper, AbsentExpression, Control, Conditional, SubroutineCall, AstNode}
use Rattle.fancy_meaning.specs.Nodes.{is_read}
use Rattle.fancy_meaning.specs.Places.{chars_between}
use Rattle.fancy_meaning.specs.OpenCalls.{Depths, free_calls}
use Rattle.fancy_meaning.specs.Assertions.{assertion_within}
use Rattle.fancy_meaning.specs.Chars.{is_class}
use Rattle.fancy_meaning.specs.MatchState.{Ways}
use Rattle.fancy_meaning.specs.Ways.{called}
use Rattle.fancy_meaning.specs.Code.{Code}
use Rattle.fancy_meaning.specs.Constructs.{loop_form}
use Rattle.fancy_meaning.specs.Layout.{called_code, is_at_most_once}
use Rattle.fancy_meaning.specs.AnalysisRefusals.{FeatureNotYetSupported, InnerError}
use Rattle.fancy_meaning.specs.CompileRefusals.{IsWritten, IsAmong, here, there, part, existence_with_level, absent_other, no_class}
use Rattle.fancy_meaning.specs.Marks.{takes_nothing, has_marked_continue}
use Rattle.fancy_composed.proofs.Continuations.{Ground}
use Rattle.fancy_composed.proofs.Alike.{contains}
use Rattle.fancy_composed.proofs.Parts.{both_left, both_right, setting, whole, Simulates, Keeps}
use Rattle.fancy_composed.proofs.Repeats.{Moves}
use Rattle.fancy_composed.proofs.Simulates.{simulates_nothing, simulates_group, simulates_atomic, simulates_conditional}
use Rattle.fancy_composed.proofs.Tests.{MayStop, simulates_asserts, simulates_keeps_out, simulates_exists, simulates_continues}
use Rattle.fancy_composed.proofs.Atoms.{simulates_any, simulates_class, simulates_literal, simulates_bytes, simulates_newline, simulates_backref}
use Rattle.fancy_composed.proofs.Behind.{Sized}
use Rattle.fancy_composed.proofs.Absent.{simulates_absent}
use Rattle.fancy_composed.proofs.Branches.{never, code_at, means, size_of, EachSimulates, EachKnown, concat_simulates}
use Rattle.fancy_composed.proofs.Nodes.{has_one, alternation_simulates, OfBranches, control_simulates, repeat_simulates, written_body, look_simulates}
use Rattle.fancy_composed.proofs.Ready.{Ready}
use Rattle.fancy_laws.proofs.Characters.{no_chars}
use Rattle.fancy_laws.proofs.Marks.{first_has_continue, continue_in_first, continue_later}

pub both : (a b : Bool) → a ≡ true → b ≡ true → (a && b) ≡ true
both true b e f = f
both false b e f = e

module _ (w : Ground) (r : Ready w) (depths : Depths) where
  abbrev pub call : ℕ → Bool → Code
  call = called_code w.plan never (free_calls (whole w) depths) depths

  abbrev pub meant : ℕ → Ways
  meant = called (setting w) (whole w) (free_calls (whole w) depths) depths

  -- the calls simulate their ways
  abbrev pub CallsSimulate : Type 0
  CallsSimulate =
      (g : ℕ) (in_hard : Bool) → IsWritten (whole w) (SubroutineCall g) → Simulates w (call g in_hard) (meant g)

  -- a marked `\G` may give up, where the node begins with one
  abbrev pub Marked : Bool → Bool → Type 0
  Marked at_start begins = at_start ≡ true → begins ≡ true → MayStop w

  not_marked : (begins : Bool) → Marked false begins
  not_marked begins e = absurd (true≢false (sym e))

  keeps_node : (e : Tree) → IsWritten (whole w) e → Keeps w (means w call meant e)
  keeps_node e wr s t ok m = let l = r.leads e depths s t (r.there e wr) ok (contains m) in (l.0, l.1)

  sized_node : (e : Tree) → IsWritten (whole w) e → Sized w (size_of w call meant e) (means w call meant e)
  sized_node e wr s t ok m = (r.leads e depths s t (r.there e wr) ok (contains m)).2

  moves_node : (e : Tree) → IsWritten (whole w) e → ((size_of w call meant e).least == 0) ≡ false →
      Moves w (means w call meant e)
  moves_node e wr ne s t ok m =
      let on = (keeps_node e wr s t ok m).1 in
      let least = (sized_node e wr s t ok m).at_least in
      ⊎_elim {C = s.place < t.place} (λ lt. lt)
      (λ ge. let same : t.place ≡ s.place = omega arith in let none' = ap (chars_between (w.task).text s.place) same
      ∙ no_chars (w.task).text s.place in let some = eqb-false (size_of w call meant e).least 0 ne in absurd
      (omega (arith, none', some, least)))
      (cases_lt s.place t.place)

  each_known : (es : Trees) → ((x : Tree) → IsAmong x es → IsWritten (whole w) x) → EachKnown w call meant es
  each_known none wr = tt
  each_known (more e es) wr = ((keeps_node e (wr e here), sized_node e (wr e here)), each_known es (λ x m. wr x (there m)))

  -- a class that is written out is one
  pub class_there : (inner : List ℕ) (casei : Bool) → IsWritten (whole w) (Delegate inner casei) → (v : Bool) →
      is_class (w.plan).unicode inner casei ≡ v → v ≡ true
  class_there inner casei wr true e = refl
  class_there inner casei wr false e = absurd (r.allowed (Delegate inner casei) (InnerError inner) wr (no_class e))

  exists_simulates : (g : ℕ) (level : Option _) (at_start in_hard : Bool) → IsWritten (whole w) (BackrefExists g level) →
      Simulates w (code_at w call meant (BackrefExists g level) at_start in_hard) (means w call meant (BackrefExists g level))
  exists_simulates g None at_start in_hard wr =
      let i = r.reference (BackrefExists g None) g (r.there (BackrefExists g None) wr) (eq-eqb g g refl) in
      simulates_exists w g i.0 i.1 (w.is_text).fits
  exists_simulates g (Some level) at_start in_hard wr =
      absurd (r.allowed (BackrefExists g (Some level)) FeatureNotYetSupported wr existence_with_level)

  module _ (calls : CallsSimulate) where
    mutual
      pub tree_simulates : (e : Tree) → IsWritten (whole w) e → (at_start in_hard : Bool) →
          Marked at_start (has_marked_continue (whole w) e) →
          Simulates w (code_at w call meant e at_start in_hard) (means w call meant e)
      tree_simulates Empty wr a h k = simulates_nothing w
      tree_simulates (DefineGroup e) wr a h k = simulates_nothing w
      tree_simulates (Any newline crlf) wr a h k = simulates_any w newline crlf
      tree_simulates (Literal c casei) wr a h k =
          simulates_literal w (w.plan).unicode c casei (r.fine (Literal c casei) (r.there (Literal c casei) wr))
      tree_simulates (LiteralBytes cs) wr a h k = simulates_bytes w cs (r.fine (LiteralBytes cs) (r.there (LiteralBytes cs) wr))
      tree_simulates (Delegate inner casei) wr a h k =
          simulates_class w (w.plan).unicode inner casei (class_there inner casei wr (is_class (w.plan).unicode inner casei) refl)
      tree_simulates (GeneralNewline unicode) wr a h k = simulates_newline w unicode
      tree_simulates (Assert within a') wr a h k = simulates_asserts w (assertion_within within a')
      tree_simulates ContinueFromPreviousMatchEnd wr a h k = simulates_continues w a (λ e. k e refl)
      tree_simulates KeepOut wr a h k = simulates_keeps_out w
      tree_simulates (Backref g casei) wr a h k =
          let i = r.reference (Backref g casei) g (r.there (Backref g casei) wr) (eq-eqb g g refl) in
          simulates_backref w g casei i.0 i.1 (w.is_text).fits
      tree_simulates (BackrefExists g level) wr a h k = exists_simulates g level a h wr
      tree_simulates (BackrefWithLevel g level casei) wr a h k =
          absurd (r.resolved (BackrefWithLevel g level casei) (r.there (BackrefWithLevel g level casei) wr))
      tree_simulates (AstNode node) wr a h k = absurd (r.resolved (AstNode node) (r.there (AstNode node) wr))
      tree_simulates (Control verb) wr a h k = control_simulates w call meant verb a h (λ error. r.allowed (Control verb) error wr)
      tree_simulates AbsentClear wr a h k = absurd (r.allowed AbsentClear FeatureNotYetSupported wr (absent_other refl (λ d e. cc)))
      tree_simulates (AbsentStopper e) wr a h k =
          absurd (r.allowed (AbsentStopper e) FeatureNotYetSupported wr (absent_other refl (λ d q. cc)))
      tree_simulates (AbsentExpression x e) wr a h k =
          absurd (r.allowed (AbsentExpression x e) FeatureNotYetSupported wr (absent_other refl (λ d q. cc)))
      tree_simulates (SubroutineCall g) wr a h k = calls g h wr
      tree_simulates (Concat es) wr a h k =
          let each : (x : Tree) → IsAmong x es → IsWritten (whole w) x = λ x m. part wr m in
          concat_simulates w call meant es a h (each_simulates es each a true k) (each_known es each) (keeps_node (Concat es) wr)
      tree_simulates (Alt es) wr a h k =
          alternation_simulates w call meant es h (has_one es (r.fine (Alt es) (r.there (Alt es) wr)))
          (each_simulates es (λ x m. part wr m) false h (not_marked (first_has_continue (whole w) es)))
      tree_simulates (Group g e) wr a h k =
          let i = r.group g e (r.there (Group g e) wr) in
          simulates_group w g _ _ i.0 i.1 (tree_simulates e (part wr here) a (h || is_read (whole w) g) k)
      tree_simulates (AtomicGroup e) wr a h k =
          simulates_atomic w _ _ (tree_simulates e (part wr here) false false (not_marked (has_marked_continue (whole w) e)))
      tree_simulates (Conditional c t f) wr a h k =
          simulates_conditional w _ _ _ _ _ _
          (tree_simulates c (part wr here) false h (not_marked (has_marked_continue (whole w) c)))
          (keeps_node c (part wr here))
          (tree_simulates t (part wr (there here)) false h (not_marked (has_marked_continue (whole w) t)))
          (tree_simulates f (part wr (there (there here))) false h (not_marked (has_marked_continue (whole w) f)))
      tree_simulates (AbsentRepeater e) wr a h k =
          subst (λ c. Simulates w c (means w call meant (AbsentRepeater e))) (sym (r.repeater e (code_at w call meant e false) wr))
          (simulates_absent w (w.is_text).utf8 (means w call meant e) (code_at w call meant e false false) (w.is_text).fits
          (tree_simulates e (part wr here) false false (not_marked (has_marked_continue (whole w) e))))
      tree_simulates (Repeat lo hi greedy e) wr a h k =
          let ok = r.fine (Repeat lo hi greedy e) (r.there (Repeat lo hi greedy e) wr) in
          repeat_simulates w call meant lo hi greedy ((size_of w call meant e).least == 0) _ (means w call meant e) ok.0 ok.1
          (w.is_text).fits
          (λ ne. let wr' = written_body w call meant lo hi greedy e ne wr in record {
            simulates =
                tree_simulates e wr' false (h || not (is_at_most_once (loop_form lo hi ((size_of w call meant e).least == 0))))
                (not_marked (has_marked_continue (whole w) e));
            keeps = keeps_node e wr';
            moves = moves_node e wr';
          })
      tree_simulates (LookAround look e) wr a h k =
          look_simulates w call meant e (w.is_text).fits
          (tree_simulates e (part wr here) false false (not_marked (has_marked_continue (whole w) e)))
          (keeps_node e (part wr here)) (sized_node e (part wr here)) (of_branches e (part wr here)) look a h
          (λ error. r.allowed (LookAround look e) error wr)

      each_simulates : (es : Trees) → ((x : Tree) → IsAmong x es → IsWritten (whole w) x) → (at_start in_hard : Bool) →
          Marked at_start (first_has_continue (whole w) es) → EachSimulates w call meant at_start in_hard es
      each_simulates none wr a h k = tt
      each_simulates (more e es) wr a h k = (
        tree_simulates e (wr e here) a h
            (λ x y. k x (continue_in_first (whole w) e es y)),
        each_simulates es (λ x m. wr x (there m)) (a && takes_nothing (whole w) e) h
            (λ x y.
            k (both_left a (takes_nothing (whole w) e) x) (continue_later (whole w) e es (both_right a (takes_nothing (whole w) e) x) y)),
      )

      of_branches : (e : Tree) → IsWritten (whole w) e → OfBranches w call meant e
      of_branches (Alt es) wr = (
        has_one es (r.fine (Alt es) (r.there (Alt es) wr)),
        each_simulates es (λ x m. part wr m) false false (not_marked (first_has_continue (whole w) es)),
        each_known es (λ x m. part wr m),
      )
      of_branches e wr = tt
