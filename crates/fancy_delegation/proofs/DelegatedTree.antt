-- The code of each node that is written out enumerates a list that refines its ways in its context: by induction over the tree.
use Rattle.std.proofs.Common.{◌≡◌, ◌≢◌, ℕ, Bool, true, false, ◌&&◌, ◌||◌, List, ◌∷◌, map, Some, None, refl, sym, ap, ◌∙◌, subst, subst₂, true≢false}
use Rattle.std.proofs.lemmas.Bool.{and_parts}
use Rattle.fancy_meaning.specs.Tree.{Tree, Trees, none, more, children, Empty, KeepOut, ContinueFromPreviousMatchEnd, AbsentClear, Any, Assert, GeneralNewline, Literal, LiteralBytes, Delegate, Concat, Alt, Group, LookAround, Repeat, Backref, BackrefWithLevel, BackrefExists, AtomicGroup, DefineGroup, AbsentRepeater, AbsentStopper, AbsentExpression, Control, Conditional, SubroutineCall, AstNode, Look, Fail, Accept, Commit, Skip, Prune}
use Rattle.fancy_meaning.specs.Nodes.{is_read}
use Rattle.fancy_meaning.specs.OpenCalls.{Depths, free_calls}
use Rattle.fancy_meaning.specs.MatchState.{Ways, in_order, one_of}
use Rattle.fancy_meaning.specs.Ways.{called, ways_with, each_ways}
use Rattle.fancy_meaning.specs.Sizes.{size}
use Rattle.fancy_meaning.specs.Code.{Code, branches}
use Rattle.fancy_meaning.specs.Constructs.{look_around_code}
use Rattle.fancy_meaning.specs.Layout.{Part, in_context, alt_code, written, each_part, called_code}
use Rattle.fancy_meaning.specs.CompileRefusals.{IsWritten, IsAmong, here, there, part}
use Rattle.fancy_meaning.specs.Marks.{takes_nothing, has_marked_continue}
use Rattle.fancy_laws.proofs.Marks.{first_has_continue, continue_in_first, continue_later}
use Rattle.fancy_laws.proofs.Every.{Every, no_item, item}
use Rattle.fancy_delegation.proofs.Related.{look_ways}
use Rattle.fancy_delegation.proofs.Refined.{key_equal_same}
use Rattle.fancy_delegation.proofs.RefinedConcat.{each_ways_of}
use Rattle.fancy_delegation.proofs.EnumeratesWays.{IsLeaf, Setup}
use Rattle.fancy_delegation.proofs.Delegated.{is_easy, means, Refined, part_of, context_refined, trees_of, ChildRefined, EachRefined, and_choice, choice_refined, children_refined, concat_refined}
use Rattle.fancy_delegation.proofs.DelegatedNodes.{plan, whole, group_refined, atomic_refined, conditional_refined, loop_refined, repeater_refined}
use Rattle.fancy_delegation.proofs.DelegatedLooks.{bodies}
use Rattle.fancy_delegation.proofs.DelegatedLookArounds.{BranchesRefined, look_refined}

-- the branches of a body that is an alternation
abbrev pub alternatives : Tree → Trees
alternatives (Alt es) = es
alternatives e = none

module _ (given : Setup) (depths : Depths) where
  abbrev easy : Tree → Bool
  easy = is_easy given.tree

  abbrev pub call : ℕ → Bool → Code
  call = called_code (plan given depths) easy (free_calls (whole given depths) depths) depths

  abbrev pub meant : ℕ → Ways
  meant = called given.setting (whole given depths) (free_calls (whole given depths) depths) depths

  -- the code of a node as it is written out, and of children
  abbrev pub code_at : Tree → Bool → Bool → Code
  code_at e at_start in_hard = written (plan given depths) easy call e at_start in_hard

  abbrev parts_at : Bool → Trees → List Part
  parts_at at_start es = each_part (plan given depths) easy call at_start es

  -- a marked `\G` may give up, where the node begins with one
  abbrev pub Marked : Bool → Bool → Type 0
  Marked at_start begins = at_start ≡ true → begins ≡ true → given.MayStop

  not_marked : (begins : Bool) → Marked false begins
  not_marked begins e = absurd (true≢false (sym e))

  -- the calls enumerate lists that refine theirs
  abbrev pub CallsRefined : Type 0
  CallsRefined =
      (g : ℕ) (in_hard : Bool) → IsWritten (whole given depths) (SubroutineCall g) →
      Refined given depths in_hard (call g in_hard) (meant g)

  leaf_refined : (e : Tree) → IsLeaf e → IsWritten (whole given depths) e → (at_start in_hard : Bool) →
      Marked at_start (has_marked_continue (whole given depths) e) →
      Refined given depths in_hard (written (plan given depths) (λ d. false) call e at_start in_hard)
      (ways_with given.setting meant e)
  leaf_refined e leaf wr at_start in_hard k = record {
    handed = ways_with given.setting meant e;
    simulates = (given.laws).enumerates_leaf e call meant at_start in_hard leaf wr k;
    key_equal = key_equal_same (plan given depths) given.setting in_hard (ways_with given.setting meant e);
  }

  parts_of : (at_start : Bool) (es : Trees) → trees_of given depths (parts_at at_start es) ≡ children es
  parts_of at_start none = refl
  parts_of at_start (more e es) = ap (λ l. e ∷ l) (parts_of (at_start && takes_nothing (whole given depths) e) es)

  parts_mean : (at_start : Bool) (es : Trees) →
      map (means given depths) (trees_of given depths (parts_at at_start es)) ≡ each_ways given.setting meant es
  parts_mean at_start es = ap (map (means given depths)) (parts_of at_start es) ∙ sym (each_ways_of given.setting meant es)

  sequence_refined : (es : Trees) (at_start in_hard : Bool) →
      Every (ChildRefined given depths true) (parts_at at_start es) →
      Refined given depths in_hard (code_at (Concat es) at_start in_hard) (in_order (each_ways given.setting meant es))
  sequence_refined es at_start in_hard h =
      subst (λ fs. Refined given depths in_hard (code_at (Concat es) at_start in_hard) (in_order fs))
      (parts_mean at_start es) (concat_refined given depths in_hard (parts_at at_start es) h)

  alternation_refined : (es : Trees) (in_hard : Bool) → es ≢ none →
      Every (ChildRefined given depths in_hard) (parts_at false es) →
      Refined given depths in_hard (alt_code (parts_at false es) in_hard) (one_of (each_ways given.setting meant es))
  alternation_refined none in_hard some h = absurd (some refl)
  alternation_refined (more e es) in_hard some h =
      subst (λ fs. Refined given depths in_hard (alt_code (parts_at false (more e es)) in_hard) (one_of fs))
      (parts_mean false (more e es)) (chosen (children_refined given depths in_hard h))
    where
      chosen : {c : Code} {f : Ways} {cs : List Code} {fs : List Ways} →
          EachRefined given depths in_hard (c ∷ cs) (f ∷ fs) →
          Refined given depths in_hard (branches (c ∷ cs)) (one_of (f ∷ fs))
      chosen (and_choice k ks) = choice_refined given depths in_hard k ks

  -- of an alternation, what is known of its branches
  abbrev OfBranches : Tree → Type 0
  OfBranches (Alt es) = Every (ChildRefined given depths false) (parts_at false es)
  OfBranches e = Unit {0}

  of_branches : (e : Tree) → OfBranches e → BranchesRefined given depths e (parts_at false (alternatives e))
  of_branches (Alt es) h ds q = let same : es ≡ ds = cc in (parts_of false es ∙ ap children same, h)
  of_branches e h ds q = cc

  look_code_is : (look : Look) (e : Tree) (at_start in_hard : Bool) → code_at (LookAround look e) at_start in_hard
      ≡ look_around_code look
      (size (whole given depths) e, in_context (plan given depths) easy e (code_at e false) false)
      (bodies given depths (parts_at false (alternatives e)))
  look_code_is look (Alt es) at_start in_hard = refl
  look_code_is look e at_start in_hard = refl

  around_refined : (look : Look) (e : Tree) (at_start in_hard : Bool) →
      IsWritten (whole given depths) (LookAround look e) →
      Refined given depths false (in_context (plan given depths) easy e (code_at e false) false)
      (means given depths e) → OfBranches e →
      Refined given depths in_hard (code_at (LookAround look e) at_start in_hard)
      (ways_with given.setting meant (LookAround look e))
  around_refined look e at_start in_hard wr h hs =
      subst₂ (Refined given depths in_hard) (sym (look_code_is look e at_start in_hard)) (sym (look_ways given.setting meant look e))
      (look_refined given depths in_hard e (in_context (plan given depths) easy e (code_at e false) false)
      (parts_at false (alternatives e)) (part wr here) h (of_branches e hs) look wr)

  abbrev Known : Tree → Bool → Bool → Type 0
  Known e at_start in_hard = Refined given depths in_hard (code_at e at_start in_hard) (ways_with given.setting meant e) × OfBranches e

  module _ (calls : CallsRefined) where
    mutual
      known : (e : Tree) → IsWritten (whole given depths) e → (at_start in_hard : Bool) →
          Marked at_start (has_marked_continue (whole given depths) e) → Known e at_start in_hard
      known Empty wr a h k = (leaf_refined Empty tt wr a h k, tt)
      known KeepOut wr a h k = (leaf_refined KeepOut tt wr a h k, tt)
      known ContinueFromPreviousMatchEnd wr a h k = (leaf_refined ContinueFromPreviousMatchEnd tt wr a h k, tt)
      known AbsentClear wr a h k = (leaf_refined AbsentClear tt wr a h k, tt)
      known (Any newline crlf) wr a h k = (leaf_refined (Any newline crlf) tt wr a h k, tt)
      known (Assert within x) wr a h k = (leaf_refined (Assert within x) tt wr a h k, tt)
      known (GeneralNewline unicode) wr a h k = (leaf_refined (GeneralNewline unicode) tt wr a h k, tt)
      known (Literal c casei) wr a h k = (leaf_refined (Literal c casei) tt wr a h k, tt)
      known (LiteralBytes cs) wr a h k = (leaf_refined (LiteralBytes cs) tt wr a h k, tt)
      known (Delegate inner casei) wr a h k = (leaf_refined (Delegate inner casei) tt wr a h k, tt)
      known (Backref g casei) wr a h k = (leaf_refined (Backref g casei) tt wr a h k, tt)
      known (BackrefWithLevel g level casei) wr a h k = (leaf_refined (BackrefWithLevel g level casei) tt wr a h k, tt)
      known (BackrefExists g None) wr a h k = (leaf_refined (BackrefExists g None) tt wr a h k, tt)
      known (BackrefExists g (Some level)) wr a h k = (leaf_refined (BackrefExists g (Some level)) tt wr a h k, tt)
      known (DefineGroup e) wr a h k = (leaf_refined (DefineGroup e) tt wr a h k, tt)
      known (Control Fail) wr a h k = (leaf_refined (Control Fail) tt wr a h k, tt)
      known (Control Accept) wr a h k = (leaf_refined (Control Accept) tt wr a h k, tt)
      known (Control Commit) wr a h k = (leaf_refined (Control Commit) tt wr a h k, tt)
      known (Control Skip) wr a h k = (leaf_refined (Control Skip) tt wr a h k, tt)
      known (Control Prune) wr a h k = (leaf_refined (Control Prune) tt wr a h k, tt)
      known (AbsentStopper e) wr a h k = (leaf_refined (AbsentStopper e) tt wr a h k, tt)
      known (AbsentExpression x e) wr a h k = (leaf_refined (AbsentExpression x e) tt wr a h k, tt)
      known (AstNode node) wr a h k = (leaf_refined (AstNode node) tt wr a h k, tt)
      known (SubroutineCall g) wr a h k = (calls g h wr, tt)
      known (Concat es) wr a h k = (sequence_refined es a h (each_known es (λ x m. part wr m) a true k), tt)
      known (Alt es) wr a h k =
          let each : (x : Tree) → IsAmong x es → IsWritten (whole given depths) x = λ x m. part wr m in
          let unmarked = not_marked (first_has_continue (whole given depths) es) in
          (alternation_refined es h ((given.ready).choices es wr) (each_known es each false h unmarked), each_known es each false false unmarked)
      known (Group g e) wr a h k =
          let inner = h || is_read (whole given depths) g in (
            group_refined given depths h g e (in_context (plan given depths) easy e (code_at e a) inner)
                (means given depths e) ((given.ready).there (Group g e) wr)
                (context_refined given depths e (code_at e a) inner (part wr here) (known e (part wr here) a inner k).0),
            tt,
          )
      known (Repeat lo hi greedy e) wr a h k = (
        loop_refined given depths lo hi greedy e (in_context (plan given depths) easy e (code_at e false)) h wr
            (λ context we. context_refined given depths e (code_at e false) context we
            (known e we false context (not_marked (has_marked_continue (whole given depths) e))).0),
        tt,
      )
      known (LookAround look e) wr a h k =
          let body = known e (part wr here) false false (not_marked (has_marked_continue (whole given depths) e)) in
          (around_refined look e a h wr (context_refined given depths e (code_at e false) false (part wr here) body.0) body.1, tt)
      known (AtomicGroup e) wr a h k =
          let body = known e (part wr here) false false (not_marked (has_marked_continue (whole given depths) e)) in (
            atomic_refined given depths h (in_context (plan given depths) easy e (code_at e false) false)
                (means given depths e) (context_refined given depths e (code_at e false) false (part wr here) body.0),
            tt,
          )
      known (Conditional c t f) wr a h k =
          let of_c = known c (part wr here) false h (not_marked (has_marked_continue (whole given depths) c)) in
          let of_t = known t (part wr (there here)) false h (not_marked (has_marked_continue (whole given depths) t)) in
          let of_f = known f (part wr (there (there here))) false h (not_marked (has_marked_continue (whole given depths) f)) in (
            conditional_refined given depths h (in_context (plan given depths) easy c (code_at c false) h)
                (in_context (plan given depths) easy t (code_at t false) h)
                (in_context (plan given depths) easy f (code_at f false) h)
                (means given depths c) (means given depths t) (means given depths f) (part_of given depths c (part wr here))
                (context_refined given depths c (code_at c false) h (part wr here) of_c.0)
                (context_refined given depths t (code_at t false) h (part wr (there here)) of_t.0)
                (context_refined given depths f (code_at f false) h (part wr (there (there here))) of_f.0),
            tt,
          )
      known (AbsentRepeater e) wr a h k =
          let body = known e (part wr here) false false (not_marked (has_marked_continue (whole given depths) e)) in
          (repeater_refined given depths h e (code_at e false) wr (context_refined given depths e (code_at e false) false (part wr here) body.0), tt)

      each_known : (es : Trees) → ((x : Tree) → IsAmong x es → IsWritten (whole given depths) x) →
          (at_start in_hard : Bool) → Marked at_start (first_has_continue (whole given depths) es) →
          Every (ChildRefined given depths in_hard) (parts_at at_start es)
      each_known none wr a h k = no_item
      each_known (more e es) wr a h k =
          let we = wr e here in
          item (we, context_refined given depths e (code_at e a) h we (known e we a h (λ x y. k x (continue_in_first (whole given depths) e es y))).0)
          (each_known es (λ x m. wr x (there m)) (a && takes_nothing (whole given depths) e) h
          (λ x y.
          let both = and_parts a (takes_nothing (whole given depths) e) x in
          k both.0 (continue_later (whole given depths) e es both.1 y)))

    -- a node as it is written out
    pub tree_refined : (e : Tree) → IsWritten (whole given depths) e → (at_start in_hard : Bool) →
        Marked at_start (has_marked_continue (whole given depths) e) →
        Refined given depths in_hard (code_at e at_start in_hard) (ways_with given.setting meant e)
    tree_refined e wr a h k = (known e wr a h k).0

    -- and in its context
    pub node_refined : (e : Tree) → IsWritten (whole given depths) e → (at_start in_hard : Bool) →
        Marked at_start (has_marked_continue (whole given depths) e) →
        Refined given depths in_hard (in_context (plan given depths) easy e (code_at e at_start) in_hard)
        (means given depths e)
    node_refined e wr a h k = context_refined given depths e (code_at e a) h wr (tree_refined e wr a h k)
