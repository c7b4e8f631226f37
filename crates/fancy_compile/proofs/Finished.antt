-- From the writing of a whole program to what compiling answers.
use Rattle.std.proofs.Common.{true, ◌≡◌, ℕ, ◌+◌, ◌*◌, max, Bool, if◌then◌else◌, List, [], ◌∷◌, map, None, ap, ◌∙◌, subst}
use Rattle.std.specs.List.{list_any}
use Rattle.fancy_meaning.specs.Tree.{Tree}
use Rattle.fancy_meaning.specs.Nodes.{nodes, group_count, is_keep_out}
use Rattle.fancy_meaning.specs.Options.{AnalysisOptions, Plan}
use Rattle.fancy_meaning.specs.Sizes.{Size, size}
use Rattle.fancy_meaning.specs.Layout.{program_code, first_fresh, layout}
use Rattle.fancy_meaning.specs.Premises.{Analysed, analysis}
use Rattle.fancy_info.specs.declared.info.Info.{Info}
use Rattle.fancy_info.specs.Infos.{IsRoot, info_tree, info_size, info_facts}
use Rattle.fancy_compile.specs.declared.options.CompileOptions.{CompileOptions}
use Rattle.fancy_compile.specs.declared.scope.Scope.{Scope}
use Rattle.fancy_compile.specs.GroupTables.{IsTable}
use Rattle.fancy_compile.specs.Nodes.{IsScopeOf}
use Rattle.fancy_code.specs.Sites.{top}
use Rattle.fancy_code.specs.declared.writer.CodeWriter.{CodeWriter}
use Rattle.fancy_code.specs.Drafts.{Draft, Extends, Writes, draft_of, is_easy}
use Rattle.fancy_program.specs.Insns.{insn_of}
use Rattle.fancy_program.specs.declared.insn.Insn.{Insn}
use Rattle.fancy_meaning.specs.AnalysisRefusals.{CompileError, AnalysisRefuses}
use Rattle.fancy_meaning.specs.Fits.{program_fits}
use Rattle.fancy_fits.proofs.Programs.{layouts_fit}
use Rattle.fancy_compile.specs.Compiled.{IsWritingOf, MayCompile, compile_options_of, plan_with}
use Rattle.fancy_compile.proofs.Called.{table_nodes, table_numbers, table_known, table_starts}
use Rattle.fancy_compile.proofs.Known.{size_known}
use Rattle.fancy_compile.proofs.Roots.{root_fine, root_known}
use Rattle.fancy_compile.proofs.Compiled.{start, whole_code, made, same_program}

-- a program in the making stays what it is when it gets other room for its instructions
pub with_room : (items : List Insn) (writer : CodeWriter) (before : Draft) → items ≡ writer.code.items → draft_of writer ≡ before
    → record { instrs = map insn_of items; fresh = writer.fresh; limit = writer.limit; fault = writer.fault } ≡ before
with_room items writer before same is =
    ap (λ (l : List Insn). record { instrs = map insn_of l; fresh = writer.fresh; limit = writer.limit; fault = writer.fault }) same ∙ is

-- the scope of the root, with the table of its groups
pub scope_of_table : (a : Analysed) (scope : Scope) → IsRoot (analysis a) scope.root.now
    → (explicit : Bool) → explicit ≡ ((info_facts scope.root.now).options).explicit_capture_group_0
    → (first : ℕ) → first ≡ (if explicit then 0 else 1) → IsTable scope.root.now first scope.groups.now → IsScopeOf (analysis a) scope
scope_of_table a scope r explicit read first is t =
    let i = scope.root.now in
    let g = scope.groups.now in
    let from = is ∙ ap (λ b. if b then 0 else 1) (read ∙ ap (λ (x : AnalysisOptions). x.explicit_capture_group_0) (r.node).options) in
    record {
      tree = r.tree;
      root = root_known a i r;
      hard = r.hard;
      fine = root_fine a i r;
      nodes = table_nodes a i r first g t;
      numbers = table_numbers a i r first g t from;
      known = table_known a i r first g t;
      starts = table_starts a i r first g t;
    }

module _ (a : Analysed) (i : Info) (o : CompileOptions) (m : MayCompile a i o) where
  abbrev p : Plan
  p = plan_with a o

  abbrev whole : Tree
  whole = p.analysis.tree

  -- what is read of the root
  module _ (explicit : Bool) (total : ℕ) (explicit_read : explicit ≡ ((info_facts i).options).explicit_capture_group_0)
      (total_is : total ≡ group_count whole) where
    explicit_is : explicit ≡ ((analysis a).options).explicit_capture_group_0
    explicit_is = explicit_read ∙ ap (λ (x : AnalysisOptions). x.explicit_capture_group_0) ((m.root).node).options

    abbrev fresh_by : Bool → ℕ → ℕ
    fresh_by zero_too n = 2 * (if zero_too then n else n + 1) + (if o.disallow_empty_match_at_eof_after_newline then 1 else 0)

    fresh_is : fresh_by explicit total ≡ first_fresh p
    fresh_is = ap (λ b. fresh_by b total) explicit_is ∙ ap (fresh_by ((analysis a).options).explicit_capture_group_0) total_is

    -- the writing begins as the layout does
    pub writing_from_start : (fresh : ℕ) (t : Draft) → fresh ≡ fresh_by explicit total
        → Writes (top p o.max_nesting) (program_code p (is_easy p.analysis)) (whole ∷ [])
        (record { instrs = []; fresh = fresh; limit = o.max_prog_size; fault = None }) t → IsWritingOf p o.max_nesting t
    writing_from_start fresh t at h =
        subst (λ n. Writes (top p o.max_nesting) (program_code p (is_easy p.analysis)) (whole ∷ [])
        (record { instrs = []; fresh = n; limit = o.max_prog_size; fault = None }) t) (at ∙ fresh_is) h

    -- the parts are those of the layout
    pub finish_compiles : (not_empty longest keeps : Bool) → not_empty ≡ ((info_facts i).options).find_not_empty
        → longest ≡ ((info_facts i).options).leftmost_longest → keeps ≡ list_any is_keep_out (nodes (info_tree i))
        → (most slots : ℕ) (t : Draft) → most ≡ (info_size i).most
        → Extends (whole_code p) (start p (first_fresh p)) t → slots ≡ max 2 t.fresh
        → made p t.instrs most total slots explicit not_empty longest keeps ≡ layout p
    finish_compiles not_empty longest keeps not_empty_read longest_read keeps_read most slots t size_is e room =
        same_program p t.instrs most total slots explicit not_empty longest keeps e.instrs
        (size_is ∙ ap (λ (s : Size). s.most) (size_known i (analysis a) (root_known a i m.root) ∙ ap (size whole) (m.root).tree))
        total_is (room ∙ ap (max 2) e.fresh) explicit_is (not_empty_read ∙ ap (λ (x : AnalysisOptions). x.find_not_empty) ((m.root).node).options)
        (longest_read ∙ ap (λ (x : AnalysisOptions). x.leftmost_longest) ((m.root).node).options)
        (keeps_read ∙ ap (λ e'. list_any is_keep_out (nodes e')) (m.root).tree)

-- the machine takes the program
pub fits : (a : Analysed) (o : CompileOptions) → ((error : CompileError) → ¬ AnalysisRefuses a.parsed a.options error)
    → program_fits (layout (plan_with a o)) ≡ true
fits a o accepted = (layouts_fit (record { parsed = a.parsed; analysis = a.options; options = compile_options_of o }) accepted).1
