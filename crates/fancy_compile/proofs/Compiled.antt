-- What the whole program's writing says of compiling.
use Rattle.std.proofs.Common.{◌≡◌, ℕ, suc, ◌<◌, ◌==◌, false, ⊎_elim, ◌+◌, ◌≤◌, inl, inr, max, Bool, true, List, [], ◌∷◌, length, Option, Some, None, Err, refl, sym, ap, ◌∙◌, subst, arith}
use Rattle.std.specs.Option.{ForSome}
use Rattle.fancy_meaning.specs.Tree.{Tree, SubroutineCall}
use Rattle.fancy_meaning.specs.Instr.{Instr, Prog}
use Rattle.fancy_meaning.specs.Code.{Laid}
use Rattle.fancy_meaning.specs.Options as plain
use Rattle.fancy_meaning.specs.Options.{Plan}
use Rattle.fancy_meaning.specs.AnalysisRefusals as refusal
use Rattle.fancy_meaning.specs.CompileRefusals.{IsWritten, root, part, callee, IsAmong, written_parts, CompileRefuses, refused_node, too_long, bytes_mode}
use Rattle.fancy_meaning.specs.Layout.{program_code, first_fresh, layout}
use Rattle.std.specs.List.{list_any}
use Rattle.fancy_meaning.specs.Nodes.{nodes, group_count, target, is_keep_out}
use Rattle.fancy_meaning.specs.OpenCalls.{Depths, opened, no_calls, call_depth}
use Rattle.fancy_code.specs.Sites.{top}
use Rattle.std.proofs.lemmas.Bool.{cond-false}
use Rattle.std.proofs.lemmas.Bool.Decides.{eqb_tells}
use Rattle.fancy_meaning.specs.Sizes.{size}
use Rattle.fancy_expr.specs.declared.error.Error.{Error}
use Rattle.fancy_expr.specs.declared.error.Error.TheVariants as error
use Rattle.fancy_code.specs.Kinds.{is_out_of_range}
use Rattle.fancy_code.specs.Faults as faults
use Rattle.fancy_expr.specs.Errors.{error_of}
use Rattle.fancy_code.specs.Faults.{MayReject, rejected, IsBelow, itself, below, through, Rejects, refused, out_of_range, RefusesNone, IsCompilable}
use Rattle.fancy_code.specs.Drafts.{Draft, IsOver, Extends, Breaks, Turns, Writes, is_easy}
use Rattle.fancy_compile.specs.Compiled.{refuses, too_big, Refuses, MayAnswer, Compiles}

some_same : (a b : Tree) → Some a ≡ Some b → a ≡ b
some_same a b e = ap held e
  where
    held : Option Tree → Tree
    held None = a
    held (Some x) = x

module _ (p : Plan) where
  abbrev whole : Tree
  whole = p.analysis.tree

  written_below : (calls : Depths) (d e : Tree) → IsWritten whole d → IsBelow whole calls d e → IsWritten whole e
  written_below calls d e w itself = w
  written_below calls d e w (below {c = c} i b) = written_below calls c e (part w i) b
  written_below calls d e w (through {g = g} {body = c} lt at b) = written_below (opened g calls) c e (callee w at) b

  below_last : (calls : Depths) (d b e : Tree) → IsBelow whole calls d b → IsAmong e (written_parts b) → IsBelow whole calls d e
  below_last calls d b e itself i = below i itself
  below_last calls d b e (below {c = c} j h) i = below j (below_last calls c b e h i)
  below_last calls d b e (through {g = g} {body = c} lt at h) i = through lt at (below_last (opened g calls) c b e h i)

  -- what a call calls that is not calls too often before: there, or where it was called before
  below_called : (calls : Depths) (d b : Tree) (g : ℕ) → IsBelow whole calls d (SubroutineCall g) → calls g < call_depth → target whole g ≡ Some b
      → IsBelow whole calls d b
  below_called calls d b g itself lt at = through lt at itself
  below_called calls d b g (below {c = c} j h) lt at = below j (below_called calls c b g h lt at)
  below_called calls d b g (through {g = k} {body = c} less there h) lt at = ⊎_elim
      (λ (same : (g == k ≡ true) × (g ≡ k)).
      let one : Some c ≡ Some b = sym there ∙ ap (target whole) (sym same.1) ∙ at in
      subst (λ x. IsBelow whole calls (SubroutineCall k) x) (some_same c b one) (through less there itself))
      (λ (other : (g == k ≡ false) × ¬ (g ≡ k)).
      let still : opened k calls g < call_depth = subst (λ n. n < call_depth) (sym (cond-false (g == k) (suc (calls k)) (calls g) other.0)) lt in
      through less there (below_called (opened k calls) c b g h still at))
      (eqb_tells g k)

  below_written : (e : Tree) → IsWritten whole e → IsBelow whole no_calls whole e
  below_written e root = itself
  below_written e (part {d = d} w i) = below_last no_calls whole d e (below_written d w) i
  below_written e (callee {g = g} w at) = below_called no_calls whole e g (below_written (SubroutineCall g) w) (omega arith) at

  -- ---- what is written

  abbrev pub whole_code : Laid
  whole_code = program_code p (is_easy p.analysis) 0 (first_fresh p)

  pub body_is : (layout p).body ≡ whole_code.instrs
  unfolding layout
  body_is = refl

  -- each node that is written has its slot
  abbrev pub AllInRange : Type 0
  AllInRange = (e : Tree) → IsWritten whole e → ¬ (is_out_of_range e ≡ true)

  refused_at : AllInRange → (e : Tree) (x : refusal.CompileError) → IsWritten whole e → MayReject p e x → MayAnswer p x
  refused_at ranged e x w (rejected (refused r)) = refuses (refused_node w r)
  refused_at ranged e x w (rejected (out_of_range h)) = absurd (ranged e w h)
  refused_at ranged e x w (faults.too_big {casei = casei}) = too_big (casei, w)

  refused_over : (most : Option ℕ) → p.max_prog_size ≡ most → IsOver most (length whole_code.instrs)
      → CompileRefuses p (length (layout p).body) refusal.PatternTooComplex
  refused_over None same h = absurd h
  refused_over (Some most) same h = too_long same (omega (arith, h, ap length body_is))

  pub refused_breaks : (most : Option ℕ) → AllInRange → (s : Draft) → s.limit ≡ p.max_prog_size → s.instrs ≡ [] → (x : Error)
      → Breaks (top p most) whole_code (whole ∷ []) s x → Compiles p most (Err x)
  refused_breaks most ranged s limit empty error.Memory h = h
  refused_breaks most ranged s limit empty (error.CompileError x) (inl h) =
      let count : length s.instrs + length whole_code.instrs ≡ length whole_code.instrs = omega (arith, ap length empty) in
      let over = subst (λ n. IsOver p.max_prog_size n) count (subst (λ l. IsOver l (length s.instrs + length whole_code.instrs)) limit h.1) in
      subst (MayAnswer p) (sym h.0) (refuses (refused_over p.max_prog_size refl over))
  refused_breaks most ranged s limit empty (error.CompileError x) (inr (inl h)) = refused_at ranged h.node (error_of x)
      (written_below no_calls whole h.node root h.is_below) h.rejects
  refused_breaks most ranged s limit empty (error.CompileError x) (inr (inr h)) = absurd h
  refused_breaks most ranged s limit empty (error.RuntimeError x) h = h
  refused_breaks most ranged s limit empty (error.TreeFault at) h = h
  refused_breaks most ranged s limit empty error.NestLimitExceeded (inl h) = h
  refused_breaks most ranged s limit empty error.NestLimitExceeded (inr h) = absurd h

  -- ---- no case holds

  small_enough : (most : ℕ) → p.max_prog_size ≡ Some most → ForSome p.max_prog_size (λ n. length whole_code.instrs ≤ n) → length whole_code.instrs ≤ most
  small_enough most same h = h most same

  pub none_refused : (most : Option ℕ) → RefusesNone (top p most) whole → ForSome p.max_prog_size (λ n. length whole_code.instrs ≤ n) →
      p.bytes_mode ≡ plain.Unicode
      → (x : refusal.CompileError) → ¬ Refuses p x
  none_refused top_most ok small mode x (refused_node {e = e} w r) = ok e (below_written e w) x (refused r)
  none_refused top_most ok small mode x (too_long {most = most} same long) = absurd (omega (arith, long, ap length body_is, small_enough most same small))
  none_refused top_most ok small mode x (bytes_mode h) = h mode

  -- ---- from the writing

  abbrev pub start : ℕ → Draft
  start fresh = record { instrs = []; fresh = fresh; limit = p.max_prog_size; fault = None }

  pub error_may_answer : (most : Option ℕ) → AllInRange → (t : Draft) (x : Error)
      → Writes (top p most) (program_code p (is_easy p.analysis)) (whole ∷ []) (start (first_fresh p)) t → t.fault ≡ Some x → Compiles p most (Err x)
  error_may_answer most ranged t x h is = refused_breaks most ranged (start (first_fresh p)) refl refl x
      (subst (Turns (top p most) whole_code (whole ∷ []) (start (first_fresh p)) t None) is h.turns)

  pub written : (most : Option ℕ) (t : Draft) → Writes (top p most) (program_code p (is_easy p.analysis)) (whole ∷ []) (start (first_fresh p)) t
      → t.fault ≡ None → Extends whole_code (start (first_fresh p)) t × IsCompilable (top p most) whole
  written most t h is =
      let done = subst (Turns (top p most) whole_code (whole ∷ []) (start (first_fresh p)) t None) is h.turns in
      (done.0, done.1.0)

  -- ---- the program

  abbrev pub made : List Instr → ℕ → ℕ → ℕ → Bool → Bool → Bool → Bool → Prog
  made body max_size total slots explicit not_empty longest keeps = record {
    body = body;
    max_size = max_size;
    total_groups = total;
    slots = slots;
    explicit_group_0 = explicit;
    find_not_empty = not_empty;
    leftmost_longest = longest;
    keeps_start = keeps;
    end_text = p.end_text;
    unicode = p.unicode;
  }

  pub same_program : (body : List Instr) (max_size total slots : ℕ) (explicit not_empty longest keeps : Bool) → body ≡ whole_code.instrs
      → max_size ≡ (size whole whole).most → total ≡ group_count whole → slots ≡ max 2 whole_code.fresh
      → explicit ≡ (p.analysis.options).explicit_capture_group_0 → not_empty ≡ (p.analysis.options).find_not_empty
      → longest ≡ (p.analysis.options).leftmost_longest → keeps ≡ list_any is_keep_out (nodes whole)
      → made body max_size total slots explicit not_empty longest keeps ≡ layout p
  unfolding layout
  same_program body max_size total slots explicit not_empty longest keeps b m g s e n l k =
      let options = p.analysis.options in
      let most = (size whole whole).most in
      let fresh = max 2 whole_code.fresh in
      ap (λ x. made x max_size total slots explicit not_empty longest keeps) b
      ∙ ap (λ x. made whole_code.instrs x total slots explicit not_empty longest keeps) m
      ∙ ap (λ x. made whole_code.instrs most x slots explicit not_empty longest keeps) g
      ∙ ap (λ x. made whole_code.instrs most (group_count whole) x explicit not_empty longest keeps) s
      ∙ ap (λ x. made whole_code.instrs most (group_count whole) fresh x not_empty longest keeps) e
      ∙ ap (λ x. made whole_code.instrs most (group_count whole) fresh options.explicit_capture_group_0 x longest keeps) n
      ∙ ap (λ x. made whole_code.instrs most (group_count whole) fresh options.explicit_capture_group_0 options.find_not_empty x keeps) l
      ∙ ap
      (λ x. made whole_code.instrs most (group_count whole) fresh options.explicit_capture_group_0 options.find_not_empty options.leftmost_longest x) k
