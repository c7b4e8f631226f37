-- Nodes that are written by themselves.
use Rattle.std.proofs.Common.{◌≡◌, ℕ, ◌+◌, ◌*◌, ◌<◌, Bool, true, false, List, [], ◌∷◌, ◌++◌, take, length, get_or, encode_utf8, encode_utf8_all, None, inl, inr, if◌then◌else◌, true≢false, refl, sym, ap, ◌∙◌, subst, append-nil}
use Rattle.std.proofs.lemmas.List.{take_more}
use Rattle.std.proofs.lemmas.Str.{encodes-append}
use Rattle.fancy_meaning.specs.Tree as plain
use Rattle.fancy_meaning.specs.Tree.{Tree, Trees}
use Rattle.fancy_meaning.specs.Instr.{Instr, Codepoint}
use Rattle.fancy_meaning.specs.Code.{Code, Laid, nothing, one}
use Rattle.fancy_code.specs.Sites.{Site, HasRoom, within_node}
use Rattle.fancy_meaning.specs.AnalysisRefusals as refusal
use Rattle.fancy_meaning.specs.Assertions.{assertion_within}
use Rattle.fancy_meaning.specs.Batches.{any_instr, literal_instr}
use Rattle.fancy_meaning.specs.Chars.{is_class}
use Rattle.fancy_meaning.specs.CompileRefusals.{absent_other, no_class}
use Rattle.fancy_meaning.specs.Constructs.{newline_code}
use Rattle.fancy_characters.specs.Classes.{IsClassRefusal}
use Rattle.fancy_expr.specs.declared.error.CompileError.TheVariants as code
use Rattle.fancy_expr.specs.declared.error.Error.{Error}
use Rattle.fancy_expr.specs.declared.error.Error.TheVariants as error
use Rattle.fancy_code.specs.Faults.{itself, Rejects, too_big, refused, out_of_range, refused_as, HasRejected}
use Rattle.fancy_expr.specs.declared.expr.Expr.{Expr}
use Rattle.fancy_info.specs.Infos.{node_over, is_look}
use Rattle.fancy_code.specs.Kinds.{is_out_of_range}
use Rattle.fancy_code.specs.Drafts.{Draft, Breaks, Writes, written_code}
use Rattle.fancy_code.specs.Leaves.{assertion_inside}
use Rattle.fancy_code.proofs.Written.{wrote_node, safe_fine, rejected_here}

pub bytes_more : (l : List ℕ) (i b d : ℕ) → i < length l → b ≡ get_or l i d → encode_utf8_all (take (i + 1) l) ≡ encode_utf8_all (take i l) ++ encode_utf8 b
bytes_more l i b d h at =
    ap encode_utf8_all (take_more l i d h ∙ ap (λ x. take i l ++ x ∷ []) (sym at))
    ∙ encodes-append (take i l) (b ∷ [])
    ∙ ap (λ x. encode_utf8_all (take i l) ++ x) (append-nil (encode_utf8 b))

module _ (p : Site) (call : ℕ → Bool → Code) (at_start in_hard : Bool) (s t : Draft) (room : HasRoom p) where
  abbrev Written : Tree → Type 0
  Written e = Writes p (written_code p call e at_start in_hard) (e ∷ []) s t

  pub wrote_literal : (c : ℕ) (casei : Bool) → Writes (within_node p) (one (literal_instr p.unicode ((c, casei) ∷ []))) [] s t → Written (plain.Literal c casei)
  wrote_literal c casei h = wrote_node p room _ (plain.Literal c casei) s t (safe_fine p (plain.Literal c casei) refl refl) h

  pub wrote_bytes : (cs bytes : List ℕ) → bytes ≡ encode_utf8_all cs → Writes (within_node p) (one (Instr.Lit bytes)) [] s t → Written (plain.LiteralBytes cs)
  wrote_bytes cs bytes same h =
      wrote_node p room _ (plain.LiteralBytes cs) s t (safe_fine p (plain.LiteralBytes cs) refl refl)
      (subst (λ l. Writes (within_node p) (one (Instr.Lit l)) [] s t) same h)

  pub wrote_backref : (g : ℕ) (casei : Bool) → is_out_of_range (plain.Backref g casei) ≡ false →
      Writes (within_node p) (one (Instr.Backref (2 * g) casei p.unicode)) [] s t
      → Written (plain.Backref g casei)
  wrote_backref g casei ranged h = wrote_node p room _ (plain.Backref g casei) s t (safe_fine p (plain.Backref g casei) refl ranged) h

  -- ---- classes

  class_fine : (inner : List ℕ) (casei : Bool) → is_class p.unicode inner casei ≡ true →
      (x : refusal.CompileError) → ¬ Rejects p.plan (plain.Delegate inner casei) x
  class_fine inner casei ok x (refused (absent_other i n)) = true≢false (sym i)
  class_fine inner casei ok x (refused (no_class i)) = true≢false (sym ok ∙ i)
  class_fine inner casei ok x (out_of_range i) = true≢false (sym i)

  pub wrote_class : (inner : List ℕ) (casei : Bool) → is_class p.unicode inner casei ≡ true
      → Writes (within_node p) (one (Instr.Class (Codepoint inner casei p.unicode))) [] s t → Written (plain.Delegate inner casei)
  wrote_class inner casei ok h =
      wrote_node p room _ (plain.Delegate inner casei) s t (class_fine inner casei ok, refl)
      (subst (λ k. Writes (within_node p) k [] s t) (sym (ap (λ b. if b then one (Instr.Class (Codepoint inner casei p.unicode)) else nothing) ok)) h)

  -- ---- one newline or two

  pub wrote_newline : (unicode : Bool) → Writes (within_node p) (newline_code unicode) [] s t → Written (plain.GeneralNewline unicode)
  wrote_newline unicode h = wrote_node p room _ (plain.GeneralNewline unicode) s t (safe_fine p (plain.GeneralNewline unicode) refl refl) h

  pub wrote_existence : (g : ℕ) → Writes (within_node p) (one (Instr.BackrefExistsCondition g)) [] s t → Written (plain.BackrefExists g None)
  wrote_existence g h = wrote_node p room _ (plain.BackrefExists g None) s t (safe_fine p (plain.BackrefExists g None) refl refl) h

  pub wrote_fail : Writes (within_node p) (one Instr.Fail) [] s t → Written (plain.Control plain.Fail)
  wrote_fail h = wrote_node p room _ (plain.Control plain.Fail) s t (safe_fine p (plain.Control plain.Fail) refl refl) h

  pub wrote_any : (newline crlf : Bool) (i : Instr) → i ≡ any_instr newline crlf → Writes (within_node p) (one i) [] s t → Written (plain.Any newline crlf)
  wrote_any newline crlf i same h =
      wrote_node p room _ (plain.Any newline crlf) s t (safe_fine p (plain.Any newline crlf) refl refl)
      (subst (λ j. Writes (within_node p) (one j) [] s t) same h)

  pub wrote_keep_out : Writes (within_node p) (one (Instr.Save 0)) [] s t → Written plain.KeepOut
  wrote_keep_out h = wrote_node p room _ plain.KeepOut s t (safe_fine p plain.KeepOut refl refl) h

  pub wrote_continue : Writes (within_node p) (one (Instr.ContinueFromPreviousMatchEnd at_start)) [] s t → Written plain.ContinueFromPreviousMatchEnd
  wrote_continue h = wrote_node p room _ plain.ContinueFromPreviousMatchEnd s t (safe_fine p plain.ContinueFromPreviousMatchEnd refl refl) h

  -- the node of an expression
  pub wrote_leaf : (start : ℕ) (w : plain.Within) (es : Trees) (x e : Expr) → x ≡ e → Written (node_over e start w es) → Written (node_over x start w es)
  wrote_leaf start w es x e is h = subst (λ y. Written (node_over y start w es)) (sym is) h

pub class_refused : (p : Site) (s : Draft) (inner : List ℕ) (casei : Bool) (error : Error) → IsClassRefusal p.unicode inner casei error → (a : Laid)
    → Breaks p a (plain.Delegate inner casei ∷ []) s error
class_refused p s inner casei error.Memory h a = tt
class_refused p s inner casei (error.CompileError (code.InnerError text)) h a =
    inr (subst (λ l. HasRejected p (plain.Delegate inner casei ∷ []) (refused_as (refusal.InnerError l))) (sym h.0)
    (rejected_here p (plain.Delegate inner casei) (refusal.InnerError inner) (refused (no_class h.1))))
class_refused p s inner casei (error.CompileError (code.ClassTooBig text)) h a =
    inr (subst (λ l. HasRejected p (plain.Delegate inner casei ∷ []) (refused_as (refusal.ClassTooBig l))) (sym h.0)
    (inl (record { node = plain.Delegate inner casei; is_below = itself; rejects = too_big })))
class_refused p s inner casei (error.CompileError x) h a = absurd h
class_refused p s inner casei (error.RuntimeError x) h a = h
class_refused p s inner casei (error.TreeFault at) h a = h
class_refused p s inner casei error.NestLimitExceeded h a = absurd h

-- ---- assertions

inside_is : (w : plain.Within) (a : plain.Assertion) → assertion_inside (is_look w) a ≡ assertion_within w a
inside_is plain.NoLook a = refl
inside_is plain.InLookAhead (plain.StartLineOniguruma crlf) = refl
inside_is plain.InLookAhead a = refl
inside_is plain.InLookBehind (plain.StartLineOniguruma crlf) = refl
inside_is plain.InLookBehind a = refl

pub wrote_assertion : (p : Site) (call : ℕ → Bool → Code) (at_start in_hard : Bool) (s t : Draft) (w : plain.Within) (a : plain.Assertion) (in_look : Bool)
    → HasRoom p → in_look ≡ is_look w → Writes (within_node p) (one (Instr.Assert (assertion_inside in_look a))) [] s t
    → Writes p (written_code p call (plain.Assert w a) at_start in_hard) (plain.Assert w a ∷ []) s t
wrote_assertion p call at_start in_hard s t w a in_look room is h =
    wrote_node p room _ (plain.Assert w a) s t (safe_fine p (plain.Assert w a) refl refl)
    (subst (λ b. Writes (within_node p) (one (Instr.Assert b)) [] s t) (ap (λ l. assertion_inside l a) is ∙ inside_is w a) h)
