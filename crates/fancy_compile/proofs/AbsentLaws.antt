-- Absent repeaters, and which nodes stand below a node.
use Rattle.std.proofs.Common.{◌≡◌, ℕ, ◌&&◌, Bool, true, false, not, [], ◌∷◌, length, if◌then◌else◌, true≢false, refl, sym, ap, ap₂, ◌∙◌, subst}
use Rattle.std.specs.List.{list_any}
use Rattle.fancy_meaning.specs.Tree as plain
use Rattle.fancy_meaning.specs.Tree.{Tree, Trees, trees, Within, AbsentRepeater}
use Rattle.fancy_meaning.specs.Nodes.{nodes, is_absent}
use Rattle.fancy_meaning.specs.AnalysisRefusals as refusal
use Rattle.fancy_meaning.specs.CompileRefusals.{absent_in_hard_repeater, absent_other}
use Rattle.fancy_meaning.specs.Batches.{fragment, group_range, pattern_of}
use Rattle.fancy_meaning.specs.Code.{Code, nothing, one}
use Rattle.fancy_meaning.specs.Instr.{Instr}
use Rattle.fancy_meaning.specs.Constructs.{absent_code}
use Rattle.fancy_meaning.specs.Hard.{is_hard}
use Rattle.fancy_code.specs.Sites.{Site, HasRoom, within_node}
use Rattle.fancy_expr.specs.declared.expr.Absent.{Absent}
use Rattle.fancy_expr.specs.declared.expr.Absent.TheVariants as code_absent
use Rattle.fancy_expr.specs.declared.expr.Expr.TheVariants as code
use Rattle.fancy_expr.specs.Exprs.{below}
use Rattle.fancy_info.specs.Infos.{nth, absent_over}
use Rattle.std.proofs.lemmas.Bool.{and_parts}
use Rattle.fancy_code.specs.Faults.{Rejects, refused, out_of_range, refused_as, HasRejected}
use Rattle.fancy_code.specs.Drafts.{Draft, Writes, written_code, node_code}
use Rattle.fancy_compile.specs.Nodes.{is_repeater}
use Rattle.fancy_code.proofs.Written.{wrote_node, rejected_here, other_absent}

-- ---- the kinds of absent nodes

pub repeater_over : (a : Absent) (t : Tree) → is_repeater a ≡ true → absent_over a (trees (t ∷ [])) ≡ AbsentRepeater t
repeater_over (code_absent.Repeater' b e) t h = refl
repeater_over (code_absent.Expression' b a c e) t h = absurd (true≢false (sym h))
repeater_over (code_absent.Stopper' b e) t h = absurd (true≢false (sym h))
repeater_over code_absent.Clear t h = absurd (true≢false (sym h))

pub repeater_below : (a : Absent) → is_repeater a ≡ true → length (below (code.Absent a)) ≡ 1
repeater_below (code_absent.Repeater' b e) h = refl
repeater_below (code_absent.Expression' b a c e) h = absurd (true≢false (sym h))
repeater_below (code_absent.Stopper' b e) h = absurd (true≢false (sym h))
repeater_below code_absent.Clear h = absurd (true≢false (sym h))

pub not_repeater : (p : Site) (a : Absent) (es : Trees) → is_repeater a ≡ false →
    HasRejected p (absent_over a es ∷ []) (refused_as refusal.FeatureNotYetSupported)
not_repeater p (code_absent.Repeater' b e) es h = absurd (true≢false h)
not_repeater p (code_absent.Expression' b a c e) es h = other_absent p (plain.AbsentExpression (nth es 0) (nth es 1)) refl refl
not_repeater p (code_absent.Stopper' b e) es h = other_absent p (plain.AbsentStopper (nth es 0)) refl refl
not_repeater p code_absent.Clear es h = other_absent p plain.AbsentClear refl refl

-- ---- what is written

module _ (p : Site) (e : Tree) where
  abbrev is_refused : Bool
  is_refused = is_hard p.analysis e && list_any is_absent (nodes e)

  pub repeater_refused : is_refused ≡ true → HasRejected p (AbsentRepeater e ∷ []) (refused_as refusal.FeatureNotYetSupported)
  repeater_refused h =
      let both = and_parts (is_hard p.analysis e) (list_any is_absent (nodes e)) h in
      rejected_here p (AbsentRepeater e) refusal.FeatureNotYetSupported (refused (absent_in_hard_repeater both.0 both.1))

  repeater_fine : is_refused ≡ false → (x : refusal.CompileError) → ¬ Rejects p.plan (AbsentRepeater e) x
  repeater_fine h x (refused (absent_in_hard_repeater i j)) = true≢false (sym (ap₂ (λ a b. a && b) i j) ∙ h)
  repeater_fine h x (refused (absent_other i n)) = n e refl
  repeater_fine h x (out_of_range i) = true≢false (sym i)

  module _ (room : HasRoom p) (call : ℕ → Bool → Code) (at_start in_hard : Bool) (s t : Draft) where
    abbrev Wrote : Type 0
    Wrote = Writes p (written_code p call (AbsentRepeater e) at_start in_hard) (AbsentRepeater e ∷ []) s t

    -- by one instruction
    abbrev at_once : Code
    at_once = one (Instr.AbsentRepeater (pattern_of p.unicode (e ∷ [])) (fragment p.unicode (e ∷ [])) (group_range (e ∷ [])))

    -- by its code, where the body is easy and where it is not
    abbrev over_easy : Bool → Code
    over_easy easy = if easy then at_once else (if is_refused then nothing else absent_code (node_code p call e false false))

    pub wrote_repeater : is_hard p.analysis e ≡ false → Writes (within_node p) at_once (e ∷ []) s t → Wrote
    wrote_repeater easy w =
        let passes : is_refused ≡ false = ap (λ b. b && list_any is_absent (nodes e)) easy in
        subst (λ k. Writes p k (AbsentRepeater e ∷ []) s t) (sym (ap (λ b. over_easy (not b)) easy))
        (wrote_node p room (at_once (length s.instrs) s.fresh) (AbsentRepeater e) s t (repeater_fine passes, refl) w)

    pub wrote_absent : is_hard p.analysis e ≡ true → is_refused ≡ false →
        Writes (within_node p) (absent_code (node_code p call e false false)) (e ∷ []) s t → Wrote
    wrote_absent hard h w =
        let body = absent_code (node_code p call e false false) in
        subst (λ k. Writes p k (AbsentRepeater e ∷ []) s t)
        (sym (ap (λ b. over_easy (not b)) hard ∙ ap (λ b. if b then nothing else body) h))
        (wrote_node p room (body (length s.instrs) s.fresh) (AbsentRepeater e) s t (repeater_fine h, refl) w)
