-- The code of neighbouring easy nodes, by what they are.
use Rattle.std.proofs.Common.{◌≡◌, ℕ, Bool, true, false, ◌==◌, List, [], ◌∷◌, ◌++◌, length, map, get_or, Option, Some, None, if◌then◌else◌, inr, true≢false, refl, sym, ap, ◌∙◌, subst, arith, eq-eqb, eqb-true}
use Rattle.std.specs.Prelude.{IsTrue, Result, Ok, Err, IsErr, IsErrAnd}
use Rattle.std.proofs.lemmas.List.{length-map}
use Rattle.fancy_meaning.specs.Tree.{Tree, Trees, Within, trees, Any, Delegate}
use Rattle.fancy_meaning.specs.Batches.{batch, batch_code, delegate_code, fragment, group_range, literal_instr, pattern_of}
use Rattle.fancy_meaning.specs.Chars.{is_class}
use Rattle.fancy_meaning.specs.Code.{nothing, one}
use Rattle.fancy_meaning.specs.CompileRefusals.{IsAmong, here, there}
use Rattle.fancy_meaning.specs.Instr.{Instr, CharClass, Codepoint}
use Rattle.fancy_headline.proofs.Batches.{some_name}
use Rattle.fancy_headline.proofs.Literals.{Chars}
use Rattle.fancy_expr.specs.declared.expr.Absent.{Absent}
use Rattle.fancy_expr.specs.declared.expr.Absent.TheVariants as code_absent
use Rattle.fancy_expr.specs.declared.expr.Expr.{Expr}
use Rattle.fancy_expr.specs.declared.expr.Expr.TheVariants as code
use Rattle.fancy_info.specs.declared.info.Info.{Info}
use Rattle.fancy_info.specs.declared.info.Info.TheViews.{out-Info}
use Rattle.fancy_info.specs.Infos.{info_tree, info_children, info_within, node_over, absent_over}
use Rattle.fancy_characters.specs.Classes.{IsClassRefusal}
use Rattle.fancy_expr.specs.declared.error.Error.{Error}
use Rattle.fancy_nfa.specs.ClassTexts.{HasClass, itself, below, AreClasses, IsRefusal, texts_in}
use Rattle.fancy_nfa.specs.Nfas.{HaveClasses, IsRefusedFor}
use Rattle.fancy_code.specs.Batches.{Collects}
use Rattle.fancy_code.specs.Neighbours.{IsMadeOf}
use Rattle.fancy_info.proofs.Children.{only_one, tree_by}
use Rattle.fancy_code.proofs.Collected.{chars_of}
use Rattle.fancy_code.proofs.EasyClasses.{literal_classes}

module _ (unicode : Bool) where
  -- an error that goes on is that of the nodes
  pub fault_made : {A : Type 0} (is : List Info) (Good : A → Type 0) (r : Result A Error) (d : Error) → IsErr r × IsErrAnd r (λ e. e ≡ d)
      → IsRefusedFor unicode is d → IsMadeOf unicode is Good r
  fault_made is Good (Ok x) d h g = absurd (true≢false (sym h.0))
  fault_made is Good (Err e) d h g = record { value = tt; classes = tt; refused = subst (IsRefusedFor unicode is) (sym h.1) g }

  pub named : (es : List Tree) → ¬ (pattern_of unicode es ≡ []) →
      one (Instr.Delegate (pattern_of unicode es) (fragment unicode es) (group_range es)) ≡ delegate_code unicode es
  named es some = by_name (pattern_of unicode es) refl
    where
      by_name : (t : List ℕ) → pattern_of unicode es ≡ t →
          one (Instr.Delegate (pattern_of unicode es) (fragment unicode es) (group_range es)) ≡ delegate_code unicode es
      by_name [] e = absurd (some e)
      by_name (c ∷ cs) e =
          ap (λ t. one (Instr.Delegate t (fragment unicode es) (group_range es))) e ∙ sym (some_name unicode es c cs e)

  -- ---- nodes that are not literal

  module _ (start : ℕ) (w : Within) (es : Trees) where
    absent_alone : (a : Absent) → delegate_code unicode (absent_over a es ∷ []) ≡ batch_code unicode None (absent_over a es ∷ [])
    absent_alone (code_absent.Repeater' b e) = refl
    absent_alone (code_absent.Expression' b a c e) = refl
    absent_alone (code_absent.Stopper' b e) = refl
    absent_alone code_absent.Clear = refl

    other_alone : (e : Expr) → ((inner : _) (casei : Bool) → ¬ (e ≡ code.Delegate inner casei)) → ((newline crlf : Bool) → ¬ (e ≡ code.Any newline crlf))
        → delegate_code unicode (node_over e start w es ∷ []) ≡ batch_code unicode None (node_over e start w es ∷ [])
    other_alone (code.Absent a) g h = absent_alone a
    other_alone (code.Delegate inner casei) g h = absurd (g inner casei refl)
    other_alone (code.Any newline crlf) g h = absurd (h newline crlf refl)
    other_alone e g h = refl

  module _ (is : List Info) where
    abbrev es : List Tree
    es = map info_tree is

    more_nodes : (ds : List Tree) → ¬ (length ds ≡ 1) → delegate_code unicode ds ≡ batch_code unicode None ds
    more_nodes [] h = refl
    more_nodes (d ∷ []) h = absurd (h refl)
    more_nodes (Delegate inner casei ∷ e ∷ ds) h = refl
    more_nodes (Any newline crlf ∷ e ∷ ds) h = refl
    more_nodes (d ∷ e ∷ ds) h = refl

    -- not one node alone
    pub some_nodes : ¬ (length is ≡ 1) → delegate_code unicode es ≡ batch_code unicode None es
    some_nodes h = more_nodes es (λ e. h (sym (length-map is info_tree) ∙ e))

    module _ (x : Info) (one_is : length is ≡ 1) (at : x ≡ get_or is 0 x) where
      pub node_alone : (e : Expr) → (out-Info x).expr.now ≡ e
          → es ≡ node_over e (out-Info x).start_group (info_within x) (trees (map info_tree (info_children x))) ∷ []
      node_alone e of = ap (map info_tree) (only_one is x one_is at) ∙ ap (λ t. t ∷ []) (tree_by x e (info_children x) of refl)

      pub other_node : ((inner : _) (casei : Bool) → ¬ ((out-Info x).expr.now ≡ code.Delegate inner casei))
          → ((newline crlf : Bool) → ¬ ((out-Info x).expr.now ≡ code.Any newline crlf)) → delegate_code unicode es ≡ batch_code unicode None es
      other_node g h =
          subst (λ ds. delegate_code unicode ds ≡ batch_code unicode None ds) (sym (node_alone (out-Info x).expr.now refl))
          (other_alone (out-Info x).start_group (info_within x) (trees (map info_tree (info_children x))) (out-Info x).expr.now g h)

  -- one class
  pub class_alone : (inner : List ℕ) (casei : Bool) (ds : List Tree) → ds ≡ Delegate inner casei ∷ [] → is_class unicode inner casei ≡ true
      → (k : CharClass) → k ≡ Codepoint inner casei unicode → one (Instr.Class k) ≡ batch_code unicode None ds
  class_alone inner casei ds only ok k is =
      ap (λ x. one (Instr.Class x)) is
      ∙ sym (ap (λ b. if b then one (Instr.Class (Codepoint inner casei unicode)) else nothing) ok)
      ∙ sym (ap (batch_code unicode None) only)

  -- neighbours that are not all literal
  pub other_batch : (is : List Info) (s t : Chars) → Collects (chars_of is) s t true → ¬ (length is ≡ 0)
      → batch_code unicode None (map info_tree is) ≡ batch unicode (map info_tree is)
  other_batch [] s t h some = absurd (some refl)
  other_batch (i ∷ is) s t h some = by_chars (chars_of (i ∷ is)) refl h
    where
      by_chars : (o : Option Chars) → chars_of (i ∷ is) ≡ o → Collects o s t true
          → batch_code unicode None (map info_tree (i ∷ is)) ≡ batch unicode (map info_tree (i ∷ is))
      by_chars None e g = sym (ap (λ o. batch_code unicode o (map info_tree (i ∷ is))) e)
      by_chars (Some cs) e g = absurd (true≢false g.0)

  -- literal ones
  pub literal_batch : (is : List Info) (s t : Chars) → Collects (chars_of is) s t false → s ≡ [] → ¬ (length is ≡ 0)
      → (one (literal_instr unicode t) ≡ batch unicode (map info_tree is)) × HaveClasses unicode is
  literal_batch [] s t h none some = absurd (some refl)
  literal_batch (i ∷ is) s t h none some = by_chars (chars_of (i ∷ is)) refl h
    where
      by_chars : (o : Option Chars) → chars_of (i ∷ is) ≡ o → Collects o s t false
          → (one (literal_instr unicode t) ≡ batch unicode (map info_tree (i ∷ is))) × HaveClasses unicode (i ∷ is)
      by_chars None e g = absurd (true≢false (sym g))
      by_chars (Some cs) e g = (
        ap (λ l. one (literal_instr unicode l)) (g.1 ∙ ap (λ l. l ++ cs) none)
            ∙ sym (ap (λ o. batch_code unicode o (map info_tree (i ∷ is))) e),
        literal_classes unicode (i ∷ is) cs e,
      )

-- the class of a class, and of any character
pub class_of_alone : (unicode : Bool) (inner : List ℕ) (casei : Bool) (is : List Info) → map info_tree is ≡ Delegate inner casei ∷ []
    → is_class unicode inner casei ≡ true → HaveClasses unicode is
class_of_alone unicode inner casei is only ok =
    subst (λ es. AreClasses unicode (texts_in (trees es))) (sym only) (λ i k t. of_one i k t.0 t.1.0 t.1.1)
  where
    of_itself : (i : List ℕ) (k : Bool) → HasClass i k (Delegate inner casei) → IsTrue (is_class unicode i k)
    of_itself i k itself = ok
    of_itself i k (below m t) = elim m [ ]

    of_one : (i : List ℕ) (k : Bool) (e : Tree) → IsAmong e (trees (Delegate inner casei ∷ [])) → HasClass i k e → IsTrue (is_class unicode i k)
    of_one i k e here t = of_itself i k t
    of_one i k e (there m) t = elim m [ ]

pub any_alone : (unicode newline crlf : Bool) (is : List Info) → map info_tree is ≡ Any newline crlf ∷ [] → HaveClasses unicode is
any_alone unicode newline crlf is only =
    subst (λ es. AreClasses unicode (texts_in (trees es))) (sym only) (λ i k t. of_one i k t.0 t.1.0 t.1.1)
  where
    of_itself : (i : List ℕ) (k : Bool) → HasClass i k (Any newline crlf) → IsTrue (is_class unicode i k)
    of_itself i k (below m t) = elim m [ ]

    of_one : (i : List ℕ) (k : Bool) (e : Tree) → IsAmong e (trees (Any newline crlf ∷ [])) → HasClass i k e → IsTrue (is_class unicode i k)
    of_one i k e here t = of_itself i k t
    of_one i k e (there m) t = elim m [ ]

pub class_refused : (unicode : Bool) (inner : List ℕ) (casei : Bool) (is : List Info) → map info_tree is ≡ Delegate inner casei ∷ []
    → (x : Error) → IsClassRefusal unicode inner casei x → IsRefusedFor unicode is x
class_refused unicode inner casei is only x h =
    subst (λ es. IsRefusal unicode (texts_in (trees es)) x) (sym only) (inr (inner, (casei, ((Delegate inner casei, (here, itself)), h))))

-- ---- whether there is a text

pub no_text : (l : List ℕ) (n : ℕ) → n ≡ length l → (n == 0) ≡ true → l ≡ []
no_text [] n is h = refl
no_text (x ∷ l) n is h = absurd (omega (arith, is, eqb-true n 0 h))

pub some_text : (l : List ℕ) (n : ℕ) → n ≡ length l → (n == 0) ≡ false → ¬ (l ≡ [])
some_text l n is h e = true≢false (sym (eq-eqb n 0 (is ∙ ap length e)) ∙ h)
