-- Lookbehinds: over a body of a constant size, and over branches that each have one.
use Rattle.std.proofs.Common.{◌≡◌, ℕ, ◌&&◌, Bool, true, false, List, [], ◌∷◌, map, true≢false, refl, sym, ap, ap₂, ◌∙◌, subst}
use Rattle.std.specs.List.{list_all}
use Rattle.fancy_meaning.specs.Tree.{Tree, Trees, none, more, trees, Alt, Look, LookAround, LookBehind, LookBehindNeg, Within}
use Rattle.fancy_meaning.specs.AnalysisRefusals as refusal
use Rattle.fancy_meaning.specs.CompileRefusals.{IsAmong, here, there, is_behind, branches_of, IsVariableLookbehind, absent_other, variable_lookbehind}
use Rattle.fancy_meaning.specs.Code.{Code, in_turn, branches}
use Rattle.fancy_meaning.specs.Options.{Analysis}
use Rattle.fancy_code.specs.Sites.{Site, HasRoom, within_node}
use Rattle.fancy_meaning.specs.Sizes.{Size, size}
use Rattle.fancy_expr.specs.declared.expr.Absent.{Absent}
use Rattle.fancy_expr.specs.declared.expr.Absent.TheVariants as code_absent
use Rattle.fancy_expr.specs.declared.expr.Expr.{Expr}
use Rattle.fancy_expr.specs.declared.expr.Expr.TheVariants as code
use Rattle.fancy_info.specs.declared.info.Info.{Info}
use Rattle.fancy_info.specs.declared.info.Info.TheViews.{out-Info}
use Rattle.fancy_info.specs.Infos.{node_over, absent_over, info_tree, info_size, info_within, info_children, info_facts, IsAnalysed}
use Rattle.fancy_expr.specs.Each.{Each}
use Rattle.fancy_info.proofs.Unfolded.{tree_out}
use Rattle.fancy_code.specs.declared.around.Construct.TheVariants as around
use Rattle.fancy_code.specs.Arounds.{around_code, behind, behind_kind, not_behind}
use Rattle.fancy_code.specs.Faults.{Rejects, refused, out_of_range, refused_as, HasRejected}
use Rattle.fancy_code.specs.Drafts.{Draft, Writes, written_code, node_code}
use Rattle.fancy_compile.specs.AnalysedNodes.{is_alt, has_const_branches, IsKnown}
use Rattle.fancy_compile.specs.Nodes.{look_behind, codes_of_branches, codes_of_none}
use Rattle.fancy_compile.proofs.Concat.{AllConst, behind_by, not_behind_by, behind_alt_by, not_behind_alt_by}
use Rattle.fancy_compile.proofs.Known.{known_child, size_known, children_trees}
use Rattle.fancy_code.proofs.Written.{IsFine, wrote_node, safe_fine, rejected_here}

-- ---- branches

both_true : (a b : Bool) → (a && b) ≡ true → (a ≡ true) × (b ≡ true)
both_true true b h = (refl, h)
both_true false b h = absurd (true≢false (sym h))

-- a branch that fails
pub record Failing (test : Tree → Bool) (es : Trees) : Type 0 where
  pub branch : Tree
  pub among : IsAmong branch es
  pub fails : test branch ≡ false

failing_later : (test : Tree → Bool) (e : Tree) (es : Trees) → Failing test es → Failing test (more e es)
failing_later test e es f = record { branch = f.branch; among = there f.among; fails = f.fails }

pub one_fails : (test : Tree → Bool) (es : List Tree) → list_all test es ≡ false → Failing test (trees es)
one_fails test [] h = absurd (true≢false h)
one_fails test (e ∷ es) h = elim (test e) as (λ b. test e ≡ b → (b && list_all test es) ≡ false → Failing test (more e (trees es))) [
  | true ↦ λ is all. failing_later test e (trees es) (one_fails test es all)
  | false ↦ λ is all. record { branch = e; among = here; fails = is }
] refl h

among_all : (test : Tree → Bool) (es : List Tree) → list_all test es ≡ true → (b : Tree) → IsAmong b (trees es) → test b ≡ true
among_all test [] h b i = elim i [ ]
among_all test (e ∷ es) h b here = (both_true (test e) (list_all test es) h).0
among_all test (e ∷ es) h b (there i) = among_all test es (both_true (test e) (list_all test es) h).1 b i

-- ---- an alternation by its expression

module _ (n : ℕ) (w : Within) (es : Trees) where
  alt_over : (e : Expr) → is_alt e ≡ true → node_over e n w es ≡ Alt es
  alt_over (code.Alt' shape row) h = refl
  alt_over e h = absurd (true≢false (sym h))

  absent_alone : (a : Absent) → branches_of (absent_over a es) ≡ more (absent_over a es) none
  absent_alone (code_absent.Repeater' b e) = refl
  absent_alone (code_absent.Expression' b a c e) = refl
  absent_alone (code_absent.Stopper' b e) = refl
  absent_alone code_absent.Clear = refl

  other_branches : (e : Expr) → is_alt e ≡ false → branches_of (node_over e n w es) ≡ more (node_over e n w es) none
  other_branches (code.Alt' shape row) h = absurd (true≢false h)
  other_branches (code.Absent a) h = absent_alone a
  other_branches e h = refl

module _ (a : Analysis) where
  abbrev is_const : Tree → Bool
  is_const e = (size a.tree e).is_const

  const_sizes : (l : List Info) → Each (IsAnalysed a) l → list_all (λ b. (info_size b).is_const) l ≡ list_all is_const (map info_tree l)
  const_sizes [] h = refl
  const_sizes (i ∷ l) h = ap₂ (λ x y. x && y) (ap (λ (z : Size). z.is_const) (size_known i a (known_child a i h.0))) (const_sizes l h.1)

  module _ (i : Info) (k : IsKnown a i) where
    pub const_branches : has_const_branches i ≡ true → (info_tree i ≡ Alt (trees (map info_tree (info_children i)))) ×
        (list_all is_const (map info_tree (info_children i)) ≡ true)
    const_branches h =
        let both = both_true (is_alt (info_facts i).expr) _ h in (
          tree_out i ∙ alt_over (out-Info i).start_group (info_within i) (trees (map info_tree (info_children i))) (out-Info i).expr.now both.0,
          sym (const_sizes (info_children i) k.children) ∙ both.1,
        )

    varying_by : (b : Bool) → is_alt (info_facts i).expr ≡ b → (b && list_all (λ c. (info_size c).is_const) (info_children i)) ≡ false
        → is_const (info_tree i) ≡ false → Failing is_const (branches_of (info_tree i))
    varying_by true is h varies =
        let tree = tree_out i ∙ alt_over (out-Info i).start_group (info_within i) (trees (map info_tree (info_children i))) (out-Info i).expr.now is in
        subst (λ t. Failing is_const (branches_of t)) (sym tree)
        (one_fails is_const (map info_tree (info_children i)) (sym (const_sizes (info_children i) k.children) ∙ h))
    varying_by false is h varies =
        let other_branches = other_branches (out-Info i).start_group (info_within i) (trees (map info_tree (info_children i))) (out-Info i).expr.now is in
        let same = ap branches_of (tree_out i) ∙ other_branches ∙ ap (λ t. more t none) (sym (tree_out i)) in
        subst (λ bs. Failing is_const bs) (sym same) (record { branch = info_tree i; among = here; fails = varies })

    pub varying_branch : has_const_branches i ≡ false → is_const (info_tree i) ≡ false → Failing is_const (branches_of (info_tree i))
    varying_branch h varies = varying_by (is_alt (info_facts i).expr) refl h varies

-- ---- what is written

module _ (p : Site) where
  behind_fine : (look : Look) (e : Tree) → ¬ IsVariableLookbehind p.plan look e → (x : refusal.CompileError) → ¬ Rejects p.plan (LookAround look e) x
  behind_fine look e h x (refused (absent_other i n)) = true≢false (sym i)
  behind_fine look e h x (refused (variable_lookbehind v)) = h v
  behind_fine look e h x (out_of_range i) = true≢false (sym i)

  is_lookbehind : (negative : Bool) → is_behind (look_behind negative) ≡ true
  is_lookbehind true = refl
  is_lookbehind false = refl

  pub variable_refused : (negative : Bool) (e : Tree) → (size p.analysis.tree e).is_const ≡ false
      → Failing (λ b. (size p.analysis.tree b).is_const) (branches_of e)
      → HasRejected p (LookAround (look_behind negative) e ∷ []) (refused_as refusal.VariableLookBehindRequiresFeature)
  variable_refused negative e varies f =
      rejected_here p (LookAround (look_behind negative) e) refusal.VariableLookBehindRequiresFeature
      (refused (variable_lookbehind (record {
        is_lookbehind = is_lookbehind negative;
        body_varies = λ c. true≢false (sym c ∙ varies);
        branch = f.branch;
        is_branch = f.among;
        branch_varies = λ c. true≢false (sym c ∙ f.fails);
      })))

  module _ (room : HasRoom p) (call : ℕ → Bool → Code) (at_start in_hard : Bool) (s t : Draft) where
    abbrev Wrote : Look → Tree → Type 0
    Wrote look e = Writes p (written_code p call (LookAround look e) at_start in_hard) (LookAround look e ∷ []) s t

    constant_fine : (look : Look) (e : Tree) → (size p.analysis.tree e).is_const ≡ true → IsFine p (LookAround look e)
    constant_fine look e h = (behind_fine look e (λ v. v.body_varies h), refl)

    pub wrote_behind : (negative : Bool) (e : Tree) (n : ℕ) → (size p.analysis.tree e).is_const ≡ true → n ≡ (size p.analysis.tree e).least
        → Writes (within_node p) (around_code (around.Look (behind_kind negative n)) (node_code p call e false false)) (e ∷ []) s t
        → Wrote (look_behind negative) e
    wrote_behind true e n const is h =
        wrote_node p room _ (LookAround LookBehindNeg e) s t (constant_fine LookBehindNeg e const)
        (subst (λ k. Writes (within_node p) k (e ∷ []) s t) (ap (λ m. around_code (not_behind m) (node_code p call e false false)) is
        ∙ sym (not_behind_by p call at_start in_hard e const)) h)
    wrote_behind false e n const is h =
        wrote_node p room _ (LookAround LookBehind e) s t (constant_fine LookBehind e const)
        (subst (λ k. Writes (within_node p) k (e ∷ []) s t) (ap (λ m. around_code (behind m) (node_code p call e false false)) is
        ∙ sym (behind_by p call at_start in_hard e const)) h)

    -- over branches
    branches_fine : (look : Look) (es : List Tree) → AllConst p call es → IsFine p (LookAround look (Alt (trees es)))
    branches_fine look es all =
        (behind_fine look (Alt (trees es)) (λ v. v.branch_varies (among_all (λ b. (size p.analysis.tree b).is_const) es all v.branch v.is_branch)), refl)

    -- there is room for the alternation, which is not refused itself
    as_branches : HasRoom (within_node p) → (es : List Tree) (k : Code) → Writes (within_node (within_node p)) k es s t
        → Writes (within_node p) k (Alt (trees es) ∷ []) s t
    as_branches again es k h = wrote_node (within_node p) again _ (Alt (trees es)) s t (safe_fine (within_node p) (Alt (trees es)) refl refl)
        (subst (λ ds. Writes (within_node (within_node p)) k ds s t) (sym (children_trees es)) h)

    pub wrote_behind_branches : HasRoom (within_node p) → (e : Tree) (es : List Tree) → e ≡ Alt (trees es) →
        (size p.analysis.tree e).is_const ≡ false → AllConst p call es
        → Writes (within_node (within_node p)) (branches (codes_of_branches p call true false es)) es s t → Wrote LookBehind e
    wrote_behind_branches again e es is varies all h =
        subst (λ d. Wrote LookBehind d) (sym is)
        (wrote_node p room _ (LookAround LookBehind (Alt (trees es))) s t (branches_fine LookBehind es all)
        (subst (λ k. Writes (within_node p) k (Alt (trees es) ∷ []) s t)
        (sym (behind_alt_by p call at_start in_hard es (ap (λ d. (size p.analysis.tree d).is_const) (sym is) ∙ varies) all))
        (as_branches again es (branches (codes_of_branches p call true false es)) h)))

    pub wrote_none_behind : HasRoom (within_node p) → (e : Tree) (es : List Tree) → e ≡ Alt (trees es) →
        (size p.analysis.tree e).is_const ≡ false → AllConst p call es
        → Writes (within_node (within_node p)) (in_turn (codes_of_none p call es)) es s t → Wrote LookBehindNeg e
    wrote_none_behind again e es is varies all h =
        subst (λ d. Wrote LookBehindNeg d) (sym is)
        (wrote_node p room _ (LookAround LookBehindNeg (Alt (trees es))) s t (branches_fine LookBehindNeg es all)
        (subst (λ k. Writes (within_node p) k (Alt (trees es) ∷ []) s t)
        (sym (not_behind_alt_by p call at_start in_hard es (ap (λ d. (size p.analysis.tree d).is_const) (sym is) ∙ varies) all))
        (as_branches again es (in_turn (codes_of_none p call es)) h)))
