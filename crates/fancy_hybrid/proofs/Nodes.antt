-- Patterns of the kit that stand for nodes, by the kinds of nodes.
use Rattle.std.proofs.Common.{◌≡◌, ℕ, suc, ◌+◌, ◌<◌, Bool, true, List, [], ◌∷◌, ◌++◌, length, map, take, get_or, filter_map, Vec, Box, Global, Option, None, refl, sym, ap, ap₂, subst, ◌∙◌, arith, length-append}
use Rattle.std.proofs.lemmas.List.{map-append}
use Rattle.std.proofs.lemmas.List.Elements.{filter_map-append}
use Rattle.regex_class.specs.declared.Class.{Class}
use Rattle.regex_hir.specs.declared.hir.Hir.{Hir}
use Rattle.regex_hir.specs.declared.hir.Hir.TheVariants as hir
use Rattle.regex_hir.specs.declared.look.Look.{Look}
use Rattle.regex_hir.specs.Meaning.{meaning, repeat}
use Rattle.regex_hir.specs.Re.{Re, empty, look}
use Rattle.regex_hir.specs.Reads.{always_reads}
use Rattle.regex_hir.proofs.MeaningLemmas.{meaning-Alternation, meaning-Capture, meaning-Chars, meaning-Concat, meaning-Empty, meaning-Look, meaning-Repetition}
use Rattle.fancy_meaning.specs.Chars.{any_takes, class_takes, literal_takes}
use Rattle.fancy_meaning.specs.Nodes.{as_group, group_count, groups, nodes, nodes_of_each}
use Rattle.fancy_meaning.specs.Tree.{Alt, Any, Assert, Assertion, Concat, Delegate, Empty, Group, Literal, NoLook, Repeat, Tree, trees}
use Rattle.fancy_expr.specs.declared.expr.Expr.{Expr}
use Rattle.fancy_expr.specs.declared.expr.Expr.TheVariants as code
use Rattle.fancy_expr.specs.declared.expr.Absent.TheViews as view
use Rattle.fancy_expr.specs.Exprs.{below}
use Rattle.fancy_expr.specs.Views.{tree_of}
use Rattle.fancy_expr.proofs.Exprs.{parts-below}
use Rattle.fancy_expr.proofs.Walks.{taken}
use Rattle.fancy_agreement.specs.First.{IsSameLook, IsSameTest, Means}
use Rattle.fancy_agreement.specs.Captures.{AreCaptured, Captures}
use Rattle.fancy_agreement.proofs.NodeLaws.{any_means, assertion_means, class_means, empty_means, literal_means}
use Rattle.fancy_agreement.proofs.StillLaws.{any_is_still, assertion_is_still, class_is_still, empty_is_still, literal_is_still}
use Rattle.fancy_agreement.proofs.CaptureLaws.{IsStill, alt_captured, concat_captured, group_captured, loop_captured, still_captured}
use Rattle.fancy_hybrid.specs.declared.translate.Parts.{Parts}
use Rattle.fancy_hybrid.specs.declared.translate.Translated.{Translated}
use Rattle.fancy_hybrid.specs.Translations.{AreTranslated, IsTranslated, group_counts}

-- ---- how many groups nodes have

counted_each : (es : List Tree) → length (filter_map as_group (nodes_of_each (trees es))) ≡ group_counts es
unfolding group_count groups
counted_each [] = refl
counted_each (e ∷ es) =
    ap length (filter_map-append as_group (nodes e) (nodes_of_each (trees es)))
    ∙ length-append (filter_map as_group (nodes e)) (filter_map as_group (nodes_of_each (trees es)))
    ∙ ap (λ n. group_count e + n) (counted_each es)

pub concat_counted : (es : List Tree) → group_count (Concat (trees es)) ≡ group_counts es
unfolding group_count groups
concat_counted es = counted_each es

pub alt_counted : (es : List Tree) → group_count (Alt (trees es)) ≡ group_counts es
unfolding group_count groups
alt_counted es = counted_each es

-- ---- leaves

of_still : (u : Bool) (first : ℕ) (e : Tree) (h : Hir) (re : Re) (it : Translated) → it.hir ≡ h → it.next ≡ first → meaning h ≡ re →
    Means u e re → IsStill e → group_count e ≡ 0 → IsTranslated u first e it
of_still u first e h re it is at means m s none = record {
  captures = subst (λ x. Captures u first e (meaning x)) (sym is) (subst (Captures u first e) (sym means) (still_captured u first e re m s));
  next = at ∙ omega (arith, none);
}

empty_translated : (u : Bool) (first : ℕ) → IsTranslated u first Empty (record { hir = hir.Empty; next = first })
unfolding group_count groups
empty_translated u first = of_still u first Empty hir.Empty empty _ refl refl meaning-Empty (empty_means u) empty_is_still refl

pub assertion_translated : (u : Bool) (first : ℕ) (a : Assertion) (l : Look) → IsSameLook u a l →
    IsTranslated u first (Assert NoLook a) (record { hir = hir.Look l; next = first })
unfolding group_count groups
assertion_translated u first a l same =
    of_still u first (Assert NoLook a) (hir.Look l) (look l) _ refl refl (meaning-Look l) (assertion_means u NoLook a l same)
    (assertion_is_still NoLook a) refl

pub any_translated : (u : Bool) (first : ℕ) (newline crlf : Bool) (class : Class) (it : Translated) → it.hir ≡ hir.Chars class →
    it.next ≡ first → IsSameTest class.ranges.items (any_takes newline crlf) → IsTranslated u first (Any newline crlf) it
unfolding group_count groups
any_translated u first newline crlf class it is at same =
    of_still u first (Any newline crlf) (hir.Chars class) _ it is at (meaning-Chars class) (any_means u newline crlf class.ranges.items same)
    (any_is_still newline crlf) refl

pub literal_translated : (u : Bool) (first c : ℕ) (casei : Bool) (class : Class) (it : Translated) → it.hir ≡ hir.Chars class →
    it.next ≡ first → IsSameTest class.ranges.items (literal_takes u c casei) → IsTranslated u first (Literal c casei) it
unfolding group_count groups
literal_translated u first c casei class it is at same =
    of_still u first (Literal c casei) (hir.Chars class) _ it is at (meaning-Chars class) (literal_means u c casei class.ranges.items same)
    (literal_is_still c casei) refl

pub class_translated : (u : Bool) (first : ℕ) (inner : List ℕ) (casei : Bool) (class : Class) (it : Translated) → it.hir ≡ hir.Chars class →
    it.next ≡ first → IsSameTest class.ranges.items (class_takes u inner casei) → IsTranslated u first (Delegate inner casei) it
unfolding group_count groups
class_translated u first inner casei class it is at same =
    of_still u first (Delegate inner casei) (hir.Chars class) _ it is at (meaning-Chars class)
    (class_means u inner casei class.ranges.items same) (class_is_still inner casei) refl

-- ---- groups and loops

pub group_translated : (u : Bool) (number : ℕ) (e : Tree) (sub : Translated) (box : Box Hir Global) → box.value ≡ sub.hir →
    IsTranslated u (number + 1) e sub → IsTranslated u number (Group 0 e) (record { hir = hir.Capture number box; next = sub.next })
unfolding group_count groups
group_translated u number e sub box is t =
    let next : number + 1 ≡ suc number = omega arith in
    let body : Captures u (suc number) e (meaning box.value) =
    subst (λ k. Captures u k e (meaning box.value)) next (subst (λ h. Captures u (number + 1) e (meaning h)) (sym is) t.captures) in
    record {
      captures = subst (Captures u number (Group 0 e)) (sym (meaning-Capture number box)) (group_captured u number 0 e (meaning box.value) body);
      next = t.next ∙ omega arith;
    }

pub loop_translated : (u : Bool) (first lo : ℕ) (hi : Option ℕ) (greedy : Bool) (e : Tree) (sub : Translated) (min : ℕ) (max : Option ℕ)
    (box : Box Hir Global) → box.value ≡ sub.hir → min ≡ lo → max ≡ hi → (max ≡ None → always_reads (meaning sub.hir) ≡ true) →
    IsTranslated u first e sub →
    IsTranslated u first (Repeat lo hi greedy e) (record { hir = hir.Repetition min max greedy box; next = sub.next })
unfolding group_count groups
loop_translated u first lo hi greedy e sub min max box is least most reads t =
    let body : Captures u first e (meaning box.value) = subst (λ h. Captures u first e (meaning h)) (sym is) t.captures in
    let loop = loop_captured u first lo hi greedy e (meaning box.value) body
    (λ none. ap (λ h. always_reads (meaning h)) is ∙ reads (most ∙ none)) in
    record {
      captures = subst (Captures u first (Repeat lo hi greedy e)) (sym (meaning-Repetition min max greedy box
          ∙ ap₂ (λ a b. repeat a b greedy (meaning box.value)) least most)) loop;
      next = t.next;
    }

-- ---- sequences and alternations

captured_append : (u : Bool) (n : ℕ) (es : List Tree) (res : List Re) (e : Tree) (re : Re) → AreCaptured u n es res →
    Captures u (n + group_counts es) e re → AreCaptured u n (es ++ e ∷ []) (res ++ re ∷ [])
captured_append u n [] [] e re h c = (subst (λ k. Captures u k e re) (omega arith) c, tt)
captured_append u n [] (r ∷ res) e re h c = absurd h
captured_append u n (x ∷ es) [] e re h c = absurd h
captured_append u n (x ∷ es) (r ∷ res) e re h c =
    (h.0, captured_append u (n + group_count x) es res e re h.1 (subst (λ k. Captures u k e re) (omega arith) c))

counts_append : (es : List Tree) (e : Tree) → group_counts (es ++ e ∷ []) ≡ group_counts es + group_count e
counts_append [] e = omega arith
counts_append (x ∷ es) e = ap (λ n. group_count x + n) (counts_append es e) ∙ omega arith

pub no_parts : (u : Bool) (first : ℕ) (v : Vec Hir Global) → v.items ≡ [] → AreTranslated u first [] (record { hirs = v; next = first })
no_parts u first v is = record {
  captures = subst (λ l. AreCaptured u first [] (map meaning l)) (sym is) tt;
  next = omega arith;
}

pub one_part : (u : Bool) (first : ℕ) (es : List Tree) (parts : Parts) (e : Tree) (one : Translated) (new : Vec Hir Global) →
    AreTranslated u first es parts → IsTranslated u parts.next e one → new.items ≡ parts.hirs.items ++ one.hir ∷ [] →
    AreTranslated u first (es ++ e ∷ []) (record { hirs = new; next = one.next })
one_part u first es parts e one new t o is = record {
  captures = subst (AreCaptured u first (es ++ e ∷ [])) (sym (ap (map meaning) is ∙ map-append meaning parts.hirs.items (one.hir ∷ [])))
      (captured_append u first es (map meaning parts.hirs.items) e (meaning one.hir) t.captures
      (subst (λ k. Captures u k e (meaning one.hir)) t.next o.captures));
  next = o.next ∙ ap (λ n. n + group_count e) t.next ∙ omega (arith, counts_append es e);
}

pub sequence_translated : (u : Bool) (first : ℕ) (es : List Tree) (parts : Parts) → AreTranslated u first es parts →
    IsTranslated u first (Concat (trees es)) (record { hir = hir.Concat parts.hirs; next = parts.next })
sequence_translated u first es parts t = record {
  captures = subst (Captures u first (Concat (trees es))) (sym (meaning-Concat parts.hirs))
      (concat_captured u first es (map meaning parts.hirs.items) t.captures);
  next = t.next ∙ ap (λ n. first + n) (sym (concat_counted es));
}

pub alternation_translated : (u : Bool) (first : ℕ) (es : List Tree) (parts : Parts) → AreTranslated u first es parts →
    IsTranslated u first (Alt (trees es)) (record { hir = hir.Alternation parts.hirs; next = parts.next })
alternation_translated u first es parts t = record {
  captures = subst (Captures u first (Alt (trees es))) (sym (meaning-Alternation parts.hirs))
      (alt_captured u first es (map meaning parts.hirs.items) t.captures);
  next = t.next ∙ ap (λ n. first + n) (sym (alt_counted es));
}

-- ---- the same of expressions

pub empty_of : (u : Bool) (first : ℕ) (e : Expr) → e ≡ code.Empty → IsTranslated u first (tree_of e) (record { hir = hir.Empty; next = first })
empty_of u first e is =
    subst (λ x. IsTranslated u first (tree_of x) (record { hir = hir.Empty; next = first })) (sym is) (empty_translated u first)

-- one more child of an expression
pub one_child : (u : Bool) (first : ℕ) (given : List Expr) (parts : Parts) (i : ℕ) (e : Expr) (one : Translated) (new : Vec Hir Global) →
    i < length given → e ≡ get_or given i e → AreTranslated u first (map tree_of (take i given)) parts →
    IsTranslated u parts.next (tree_of e) one → new.items ≡ parts.hirs.items ++ one.hir ∷ [] →
    AreTranslated u first (map tree_of (take (i + 1) given)) (record { hirs = new; next = one.next })
one_child u first given parts i e one new lt at t o is =
    subst (λ es. AreTranslated u first es (record { hirs = new; next = one.next }))
    (sym (ap (map tree_of) (taken given i e lt at) ∙ map-append tree_of (take i given) (e ∷ [])))
    (one_part u first (map tree_of (take i given)) parts (tree_of e) one new t o is)

pub concat_translated : (u : Bool) (first : ℕ) (e : Expr) (v : Vec Expr Global) (parts : Parts) → e ≡ view.Concat v →
    AreTranslated u first (map tree_of (below e)) parts →
    IsTranslated u first (tree_of e) (record { hir = hir.Concat parts.hirs; next = parts.next })
concat_translated u first e v parts is t =
    subst (λ t. IsTranslated u first t (record { hir = hir.Concat parts.hirs; next = parts.next }))
    (sym (ap tree_of is ∙ ap Concat (parts-below (view.Concat v)) ∙ ap (λ x. Concat (trees (map tree_of (below x)))) (sym is)))
    (sequence_translated u first (map tree_of (below e)) parts t)

pub alt_translated : (u : Bool) (first : ℕ) (e : Expr) (v : Vec Expr Global) (parts : Parts) → e ≡ view.Alt v →
    AreTranslated u first (map tree_of (below e)) parts →
    IsTranslated u first (tree_of e) (record { hir = hir.Alternation parts.hirs; next = parts.next })
alt_translated u first e v parts is t =
    subst (λ t. IsTranslated u first t (record { hir = hir.Alternation parts.hirs; next = parts.next }))
    (sym (ap tree_of is ∙ ap Alt (parts-below (view.Alt v)) ∙ ap (λ x. Alt (trees (map tree_of (below x)))) (sym is)))
    (alternation_translated u first (map tree_of (below e)) parts t)
