-- Calls: what they call is written anew, below one more open call.
use Rattle.std.proofs.Common.{◌≡◌, ℕ, zero, suc, ◌+◌, ◌-◌, ◌*◌, ◌<◌, ◌≤◌, ◌||◌, ◌&&◌, ◌==◌, inl, inr, Bool, true, false, not, [], ◌∷◌, length, Option, Some, None, option_map, nat_eq, nat_lt, true≢false, refl, sym, ap, ap₂, ◌∙◌, subst, arith, lt-ltb, le-ltb, add-one, Bor}
use Rattle.std.specs.List.{list_any}
use Rattle.std.specs.Option.{ForSome}
use Rattle.std.proofs.lemmas.Bool.{cond-true, cond-false}
use Rattle.std.proofs.lemmas.Option.{none-some}
use Rattle.std.proofs.Math.Nat.{mul-le-mul_left, mul-suc}
use Rattle.std.proofs.Math.Path.{fun_ext}
use Rattle.fancy_meaning.specs.Tree.{Tree, Group, SubroutineCall}
use Rattle.fancy_meaning.specs.AnalysisRefusals as refusal
use Rattle.fancy_meaning.specs.CompileRefusals.{here, there, missing_group, absent_other}
use Rattle.fancy_meaning.specs.Hard.{is_hard, is_root_hard}
use Rattle.fancy_meaning.specs.Nodes.{target}
use Rattle.fancy_meaning.specs.OpenCalls.{opened, call_depth, free_calls}
use Rattle.fancy_meaning.specs.Code.{Code, Laid, one}
use Rattle.fancy_meaning.specs.Instr.{Instr}
use Rattle.fancy_meaning.specs.Layout.{called_code, is_root_easy, target_code, fail_code}
use Rattle.fancy_meaning.specs.Marks.{marked_groups}
use Rattle.fancy_meaning.specs.Options.{Analysis, Plan}
use Rattle.fancy_meaning.specs.Sizes.{size}
use Rattle.fancy_laws.proofs.Calls.{opening_lowers}
use Rattle.fancy_info.specs.Infos.{info_tree}
use Rattle.fancy_compile.specs.declared.scope.Scope.{Scope}
use Rattle.fancy_compile.specs.declared.calls.OpenCall.{OpenCall}
use Rattle.fancy_compile.specs.declared.calls.OpenCall.TheViews.{roll-OpenCall}
use Rattle.fancy_compile.specs.OpenDepths.{depths_in, depths_of}
use Rattle.fancy_code.specs.Sites.{Site, HasRoom, under_call, within_node}
use Rattle.fancy_code.specs.Nesting.{NestsDeeper, NestsOver, alone, over_part, over_called}
use Rattle.fancy_code.specs.Faults.{IsBelow, itself, below, through, Rejects, MayReject, rejected, refused, out_of_range, Refusal, refused_as, too_deep, RefusesNone, IsCompilable, HasRefused, HasRejected}
use Rattle.fancy_code.specs.Drafts.{Draft, Adds, Writes, code_in, is_easy, written_code}
use Rattle.fancy_info.specs.NodeCounts.{node_count}
use Rattle.fancy_compile.specs.Nodes.{IsScopeOf, IsScopeAt, below_node, work, work_by}
use Rattle.fancy_code.proofs.Writing.{adds_to}
use Rattle.fancy_code.proofs.Written.{one_less, over_part_room, rejected_here, safe_fine}
use Rattle.fancy_compile.proofs.OpenDepths.{depth_by, depth_rolled}

pub missing_refused : (p : Site) (g : ℕ) → target p.analysis.tree g ≡ None
    → HasRejected p (SubroutineCall g ∷ []) (refused_as refusal.SubroutineCallTargetNotFound)
missing_refused p g h = rejected_here p (SubroutineCall g) refusal.SubroutineCallTargetNotFound (refused (missing_group h))

module _ (p : Site) (room : HasRoom p) (g : ℕ) (b : Tree) (at : target p.analysis.tree g ≡ Some b) where
  call_fine : (x : refusal.CompileError) → ¬ Rejects p.plan (SubroutineCall g) x
  call_fine x (refused (missing_group h)) = none-some b (sym h ∙ at)
  call_fine x (refused (absent_other i n)) = true≢false (sym i)
  call_fine x (out_of_range i) = true≢false (sym i)

  same_body : (c : Tree) → target p.analysis.tree g ≡ Some c → b ≡ c
  same_body c found = ap held (sym at ∙ found)
    where
      held : Option Tree → Tree
      held None = b
      held (Some x) = x

  -- ---- a call of what is open too often

  module _ (full : call_depth ≤ p.depths g) where
    full_refuses_none : RefusesNone p (SubroutineCall g)
    full_refuses_none d itself x r = call_fine x r
    full_refuses_none d (below i h) x r = elim i [ ]
    full_refuses_none d (through lt found h) x r = absurd (omega (arith, full, lt))

    full_within : (most : Option ℕ) → ForSome most (λ n. 0 < n) → ¬ NestsOver p.analysis.tree p.depths most (SubroutineCall g)
    full_within None some h = h
    full_within (Some zero) some h = absurd (omega (arith, some 0 refl))
    full_within (Some (suc n)) some (over_part i h) = elim i [ ]
    full_within (Some (suc n)) some (over_called lt found h) = absurd (omega (arith, full, lt))

    full_accepted : IsCompilable p (SubroutineCall g)
    full_accepted = (full_refuses_none, full_within p.room room)

  full_code : (n : ℕ) (in_hard : Bool) → call_depth ≤ p.depths g → called_code p.plan (is_easy p.analysis) n p.depths g in_hard ≡ one Instr.Fail
  full_code zero in_hard full = ap fail_code at
  full_code (suc n) in_hard full =
      cond-false (nat_lt (p.depths g) call_depth)
      (target_code p.plan (is_easy p.analysis) g (called_code p.plan (is_easy p.analysis) n (opened g p.depths)) in_hard (target p.analysis.tree g))
      (fail_code (target p.analysis.tree g)) (le-ltb (p.depths g) call_depth full)
      ∙ ap fail_code at

  pub wrote_full : (call : ℕ → Bool → Code) (n : ℕ) (at_start in_hard : Bool) (s t : Draft) → call ≡ called_code p.plan (is_easy p.analysis) n p.depths
      → call_depth ≤ p.depths g → Writes p (one Instr.Fail) [] s t
      → Writes p (written_code p call (SubroutineCall g) at_start in_hard) (SubroutineCall g ∷ []) s t
  wrote_full call n at_start in_hard s t is full h =
      subst (λ k. Adds p (k (length s.instrs) s.fresh) (SubroutineCall g ∷ []) s t) (sym (ap (λ f. f g in_hard) is ∙ full_code n in_hard full))
      (adds_to p p (one Instr.Fail (length s.instrs) s.fresh) (one Instr.Fail (length s.instrs) s.fresh) [] (SubroutineCall g ∷ []) s t t (omega arith) (λ x. x)
      (λ x. (full_accepted full, tt)) (λ x r. absurd r) h refl refl)

  -- ---- a call that is opened

  module _ (free : p.depths g < call_depth) where
    abbrev inside : Site
    inside = under_call g (within_node p)

    open_refuses_none : RefusesNone inside b → RefusesNone p (SubroutineCall g)
    open_refuses_none ok d itself x r = call_fine x r
    open_refuses_none ok d (below i h) x r = elim i [ ]
    open_refuses_none ok d (through {body = c} lt found h) x r =
        ok d (subst (λ e. IsBelow p.analysis.tree (opened g p.depths) e d) (sym (same_body c found)) h) x r

    abbrev less : Option ℕ → Option ℕ
    less = option_map (λ n. n - 1)

    open_within : (most : Option ℕ) → ForSome most (λ n. 0 < n) → ¬ NestsOver p.analysis.tree (opened g p.depths) (less most) b
        → ¬ NestsOver p.analysis.tree p.depths most (SubroutineCall g)
    open_within None some ok h = h
    open_within (Some zero) some ok h = absurd (omega (arith, some 0 refl))
    open_within (Some (suc n)) some ok (over_part i h) = elim i [ ]
    open_within (Some (suc n)) some ok (over_called {body = c} lt found h) =
        ok (subst (λ m. NestsDeeper p.analysis.tree (opened g p.depths) m b) (sym (one_less n))
        (subst (λ e. NestsDeeper p.analysis.tree (opened g p.depths) n e) (sym (same_body c found)) h))

    open_over : (most : Option ℕ) → NestsOver p.analysis.tree (opened g p.depths) (less most) b → NestsOver p.analysis.tree p.depths most (SubroutineCall g)
    open_over None h = h
    open_over (Some zero) h = alone
    open_over (Some (suc n)) h = over_called free at (subst (λ m. NestsDeeper p.analysis.tree (opened g p.depths) m b) (one_less n) h)

    open_accepted : IsCompilable inside b → IsCompilable p (SubroutineCall g)
    open_accepted ok = (open_refuses_none ok.0, open_within p.room room ok.1)

    open_rejected : (x : Refusal) → HasRejected inside (b ∷ []) x → HasRejected p (SubroutineCall g ∷ []) x
    open_rejected (refused_as x) (inl r) = inl (record { node = r.node; is_below = through free at r.is_below; rejects = r.rejects })
    open_rejected too_deep (inl r) = inl (open_over p.room r)
    open_rejected x (inr r) = absurd r

    open_adds : (a : Laid) (s t : Draft) → Adds inside a (b ∷ []) s t → Adds p a (SubroutineCall g ∷ []) s t
    open_adds a s t h =
        adds_to inside p a a (b ∷ []) (SubroutineCall g ∷ []) s t t (omega arith) (λ x. x) (λ ok. (open_accepted ok.0, tt)) open_rejected h refl refl

    -- the calls below, with one fewer to open
    abbrev pub inner_call : ℕ → ℕ → Bool → Code
    inner_call n = called_code p.plan (is_easy p.analysis) n (opened g p.depths)

    called_open : (n : ℕ) (in_hard : Bool) → called_code p.plan (is_easy p.analysis) (suc n) p.depths g in_hard ≡
        target_code p.plan (is_easy p.analysis) g (inner_call n) in_hard (Some b)
    called_open n in_hard =
        cond-true (nat_lt (p.depths g) call_depth) (target_code p.plan (is_easy p.analysis) g (inner_call n) in_hard (target p.analysis.tree g))
        (fail_code (target p.analysis.tree g)) (lt-ltb (p.depths g) call_depth free)
        ∙ ap (target_code p.plan (is_easy p.analysis) g (inner_call n) in_hard) at

    pub wrote_open : (call : ℕ → Bool → Code) (n : ℕ) (at_start in_hard : Bool) (s t : Draft) → call ≡ called_code p.plan (is_easy p.analysis) (suc n) p.depths
        → Writes inside (target_code p.plan (is_easy p.analysis) g (inner_call n) in_hard (Some b)) (b ∷ []) s t
        → Writes p (written_code p call (SubroutineCall g) at_start in_hard) (SubroutineCall g ∷ []) s t
    wrote_open call n at_start in_hard s t is h =
        subst (λ k. Adds p (k (length s.instrs) s.fresh) (SubroutineCall g ∷ []) s t) (sym (ap (λ f. f g in_hard) is ∙ called_open n in_hard))
        (open_adds (target_code p.plan (is_easy p.analysis) g (inner_call n) in_hard (Some b) (length s.instrs) s.fresh) s t h)

    pub lower : free_calls p.analysis.tree (opened g p.depths) < free_calls p.analysis.tree p.depths
    lower = opening_lowers p.analysis.tree g p.depths b at free

-- ---- the code of what is called

not_or : (x y : Bool) → not (x || y) ≡ (not x && not y)
not_or true y = refl
not_or false y = refl

-- the whole tree is written as its hardness says
pub root_by : (p : Plan) (hard : Bool) → hard ≡ is_root_hard p.analysis → not hard ≡ is_root_easy p (is_easy p.analysis)
root_by p hard is =
    ap not is ∙ not_or (is_hard p.analysis p.analysis.tree) (p.analysis.end_text && (size p.analysis.tree p.analysis.tree).least == 0)

module _ (p : Site) (in_hard : Bool) (inner : ℕ → Bool → Code) (b : Tree) where
  pub code_of_zero : (g : ℕ) → g ≡ 0 → target_code p.plan (is_easy p.analysis) g inner in_hard (Some b) ≡
      code_in p inner (is_root_easy p.plan (is_easy p.analysis)) p.analysis.tree true in_hard
  code_of_zero g is = ap (λ n. target_code p.plan (is_easy p.analysis) n inner in_hard (Some b)) is

  pub code_of_group : (g : ℕ) (starts : Bool) → ¬ (g ≡ 0) → starts ≡ list_any (nat_eq g) (marked_groups p.analysis.tree p.analysis.tree)
      → target_code p.plan (is_easy p.analysis) g inner in_hard (Some b) ≡ written_code p inner (Group g b) starts in_hard
  code_of_group zero starts h is = absurd (h refl)
  code_of_group (suc g) starts h is = ap (λ m. written_code p inner (Group (suc g) b) m in_hard) (sym is)

-- a group that is written out anew, as its body
module _ (p : Site) (room : HasRoom p) (g : ℕ) (b : Tree) where
  body_over : (most : Option ℕ) → ForSome most (λ n. 0 < n) → NestsOver p.analysis.tree p.depths most (Group g b)
      → NestsOver p.analysis.tree p.depths (option_map (λ n. n - 1) most) b
  body_over None some h = h
  body_over (Some zero) some h = absurd (omega (arith, some 0 refl))
  body_over (Some (suc n)) some (over_part here h) = subst (λ m. NestsDeeper p.analysis.tree p.depths m b) (sym (one_less n)) h
  body_over (Some (suc n)) some (over_part (there i) h) = elim i [ ]

  body_compilable : IsCompilable p (Group g b) → IsCompilable (within_node p) b
  body_compilable h = (
    λ d inside. h.0 d (below here inside),
    λ deep. h.1 (over_part_room p.analysis.tree p.depths (Group g b) p.room b here deep),
  )

  body_refused : (d : Tree) (x : refusal.CompileError) → IsBelow p.analysis.tree p.depths (Group g b) d → MayReject p.plan d x
      → HasRefused (within_node p) b x
  body_refused d x itself (rejected r) = absurd ((safe_fine p (Group g b) refl refl).0 x r)
  body_refused d x (below here h) r = record { node = d; is_below = h; rejects = r }
  body_refused d x (below (there i) h) r = elim i [ ]

  has_rejected : (x : Refusal) → HasRejected p (Group g b ∷ []) x → HasRejected (within_node p) (b ∷ []) x
  has_rejected (refused_as x) (inl r) = inl (body_refused r.node x r.is_below r.rejects)
  has_rejected too_deep (inl r) = inl (body_over p.room room r)
  has_rejected x (inr r) = absurd r

  pub wrote_body : (k : Code) (s t : Draft) → Writes p k (Group g b ∷ []) s t → Writes (within_node p) k (b ∷ []) s t
  wrote_body k s t h =
      adds_to p (within_node p) (k (length s.instrs) s.fresh) (k (length s.instrs) s.fresh) (Group g b ∷ []) (b ∷ []) s t t (omega arith) (λ x. x)
      (λ a. (body_compilable a.0, tt)) has_rejected h refl refl

-- ---- the scope below an open call

times_next : (w n : ℕ) → w * (n + 1) ≡ w * n + w
times_next w n = ap (λ m. w * m) (add-one n) ∙ mul-suc w n

-- one more call of the group
abbrev pub one_more : ℕ → ℕ → Option (Bor OpenCall) → OpenCall
one_more g depth outer = roll-OpenCall (record { group = g; depth = depth; outer = outer })

-- the tree is the same within one more node
pub below_tree : (a : Analysis) (scope : Scope) → IsScopeOf a scope → IsScopeOf a (below_node scope)
below_tree a scope s = record {
  tree = s.tree;
  root = s.root;
  hard = s.hard;
  fine = s.fine;
  nodes = s.nodes;
  numbers = s.numbers;
  known = s.known;
  starts = s.starts;
}

pub same_tree : (a : Analysis) (scope : Scope) (calls : Option (Bor OpenCall)) → IsScopeOf a scope → IsScopeOf a (record scope { calls = calls })
same_tree a scope calls s = record {
  tree = s.tree;
  root = s.root;
  hard = s.hard;
  fine = s.fine;
  nodes = s.nodes;
  numbers = s.numbers;
  known = s.known;
  starts = s.starts;
}

module _ (g depth : ℕ) (outer : Option (Bor OpenCall)) (deeper : depth ≡ depths_of outer g + 1) where
  depth_at : (h : ℕ) → opened g (depths_of outer) h ≡ depths_in (one_more g depth outer) h
  depth_at h =
      let next : suc (depths_of outer g) ≡ depth = omega (arith, deeper) in
      ap (λ n. depth_by g n (depths_of outer h) h) next ∙ sym (depth_rolled g depth outer h)

  pub inner_depths : opened g (depths_of outer) ≡ depths_in (one_more g depth outer)
  inner_depths = fun_ext depth_at

-- what is below an open call is less work
pub lighter : (scope : Scope) (g depth : ℕ) → depth ≡ depths_of scope.calls g + 1 → (a : Analysis) (b : Tree) → IsScopeOf a scope → target a.tree g ≡ Some b
    → depths_of scope.calls g < call_depth →
    work_by scope.root.now (depths_in (one_more g depth scope.calls)) + (8 * node_count scope.root.now + 16) ≤ work scope
unfolding work_by
lighter scope g depth deeper a b s at free =
    let w = 8 * node_count scope.root.now + 16 in
    let lower = opening_lowers a.tree g (depths_of scope.calls) b at free in
    let inside = ap₂ free_calls s.tree (sym (inner_depths g depth scope.calls deeper)) in
    let outside = ap (λ t. free_calls t (depths_of scope.calls)) s.tree in
    let less : free_calls (info_tree scope.root.now) (depths_in (one_more g depth scope.calls)) + 1 ≤ free_calls (info_tree scope.root.now)
    (depths_of scope.calls) = omega (arith, lower, inside, outside) in
    let all = mul-le-mul_left w less in
    omega (arith, all, times_next w (free_calls (info_tree scope.root.now) (depths_in (one_more g depth scope.calls))))

-- a call that is opened, by what is written below it
module _ (p : Site) (room : HasRoom p) (call : ℕ → Bool → Code) (scope : Scope) (u : IsScopeAt (within_node p) call scope) (g : ℕ) (b : Tree)
    (at : target p.analysis.tree g ≡ Some b) (free : p.depths g < call_depth) where
  abbrev left : ℕ
  left = u.budget - 1

  below_lower : free_calls p.analysis.tree (opened g p.depths) < free_calls p.analysis.tree p.depths
  below_lower = lower p room g b at free

  budget_is : u.budget ≡ suc left
  budget_is = omega (arith, below_lower, u.enough)

  abbrev pub inner_code : ℕ → Bool → Code
  inner_code = called_code p.plan (is_easy p.analysis) left (opened g p.depths)

  pub inner_u : (depth : ℕ) → depth ≡ depths_of scope.calls g + 1 → (pointer : ℕ × ℕ)
      → IsScopeAt (under_call g (within_node p)) inner_code (record scope { calls = Some (record { ref_ptr = pointer; now = one_more g depth scope.calls }) })
  inner_u depth deeper pointer = record {
    unicode = u.unicode;
    of_tree = same_tree p.analysis scope (Some (record { ref_ptr = pointer; now = one_more g depth scope.calls })) u.of_tree;
    depths = ap (opened g) u.depths ∙ inner_depths g depth scope.calls deeper;
    room = u.room;
    budget = left;
    enough = omega (arith, below_lower, u.enough);
    calls = refl;
  }

  pub wrote_called : (at_start in_hard : Bool) (s t : Draft)
      → Writes (under_call g (within_node p)) (target_code p.plan (is_easy p.analysis) g inner_code in_hard (Some b)) (b ∷ []) s t
      → Writes p (written_code p call (SubroutineCall g) at_start in_hard) (SubroutineCall g ∷ []) s t
  wrote_called at_start in_hard s t h =
      wrote_open p room g b at free call left at_start in_hard s t (u.calls ∙ ap (λ n. called_code p.plan (is_easy p.analysis) n p.depths) budget_is) h
