-- Where a node has a pattern, the pattern takes its first ways.
use Rattle.std.proofs.Common.{◌≡◌, ℕ, suc, ◌+◌, Bool, true, false, ◌&&◌, ◌||◌, not, if◌then◌else◌, List, Option, Some, None, IfSome, is_some, option_map, refl, sym, ap, subst, inl, inr}
use Rattle.std.proofs.lemmas.Bool.{and_parts, false≢true, or_cases}
use Rattle.std.proofs.lemmas.Option.{none-some}
use Rattle.regex_class.specs.Ranges.{Range}
use Rattle.regex_hir.specs.declared.look.Look.{Look}
use Rattle.regex_hir.specs.Re.{Re, empty, char_in, look, group}
use Rattle.regex_hir.specs.Reads.{always_reads}
use Rattle.regex_hir.specs.Meaning.{alt_all, cat_all, repeat}
use Rattle.fancy_meaning.specs.Tree.{Tree, Trees, none, more, trees, children, Assertion, Empty, KeepOut, ContinueFromPreviousMatchEnd, AbsentClear, Any, Assert, GeneralNewline, Literal, LiteralBytes, Delegate, Concat, Alt, Group, LookAround, Repeat, Backref, BackrefWithLevel, BackrefExists, AtomicGroup, DefineGroup, AbsentRepeater, AbsentStopper, AbsentExpression, Control, Conditional, SubroutineCall, AstNode}
use Rattle.fancy_meaning.specs.Nodes.{group_count}
use Rattle.fancy_agreement.specs.First.{AreMeant, IsSameLook, LeavesLast, Means, leaves_last}
use Rattle.fancy_agreement.specs.Captures.{AreCaptured, Captures}
use Rattle.fancy_agreement.specs.Common.{AreExact, CommonPart, has_no_group, have_no_group, is_common_loop, loop_pattern, pattern, patterns, with_first}
use Rattle.fancy_agreement.proofs.NodeLaws.{any_means, alt_means, assertion_means, class_means, concat_means, define_means, empty_means, literal_means}
use Rattle.fancy_agreement.proofs.LoopLaws.{loop_means}
use Rattle.fancy_agreement.proofs.LastLaws.{leaves_last_holds, reading_leaves_last, reads_one}
use Rattle.fancy_agreement.proofs.CaptureLaws.{IsStill, alt_captured, concat_captured, group_captured, loop_captured, still_captured}
use Rattle.fancy_agreement.proofs.StillLaws.{AreStill, alt_is_still, any_is_still, assertion_is_still, class_is_still, concat_is_still, define_is_still, empty_is_still, literal_is_still, loop_is_still}

-- what is known of a node with a pattern
pub record Common (u : Bool) (n : ℕ) (e : Tree) (re : Re) : Type 0 where
  pub captures : Captures u n e re
  pub means : has_no_group e ≡ true → Means u e re
  pub still : has_no_group e ≡ true → IsStill e

pub record AllCommon (u : Bool) (n : ℕ) (es : Trees) (res : List Re) : Type 0 where
  pub whole : trees (children es) ≡ es
  pub captures : AreCaptured u n (children es) res
  pub means : have_no_group es ≡ true → AreMeant u (children es) res
  pub still : have_no_group es ≡ true → AreStill (children es)

still_common : (u : Bool) (n : ℕ) (e : Tree) (re : Re) → Means u e re → IsStill e → Common u n e re
still_common u n e re m s = record { captures = still_captured u n e re m s; means = λ _. m; still = λ _. s }

module _ (u : Bool) (ranges_of : Tree → Option (List Range)) (look_of : Assertion → Option Look) (exact : AreExact ranges_of look_of u) where
  chars_common : (n : ℕ) (e : Tree) (o : Option (List Range)) (P : List Range → Type 0) → IfSome o P →
      ((rs : List Range) → P rs → Means u e (char_in rs)) → IsStill e → IfSome (option_map char_in o) (Common u n e)
  chars_common n e None P h k s = tt
  chars_common n e (Some rs) P h k s = still_common u n e (char_in rs) (k rs h) s

  order : (greedy : Bool) (re : Re) → (not greedy || leaves_last re) ≡ true → greedy ≡ true → LeavesLast re
  order true re ok g = leaves_last_holds re ok
  order false re ok g = absurd (false≢true g)

  -- a loop without groups, in which rounds that read nothing come last
  still_loop : (n lo : ℕ) (hi : Option ℕ) (greedy : Bool) (e : Tree) (re : Re) → Common u n e re →
      (hi ≡ None → greedy ≡ true → LeavesLast re) → has_no_group e ≡ true →
      Means u (Repeat lo hi greedy e) (repeat lo hi greedy re) × IsStill (Repeat lo hi greedy e)
  still_loop n lo hi greedy e re h last free =
      (loop_means u lo hi greedy e re (h.means free) last, loop_is_still lo hi greedy e (h.still free))

  none_is_some : (hi : Option ℕ) → is_some hi ≡ true → hi ≡ None → ⊥
  none_is_some None i e = false≢true i
  none_is_some (Some m) i e = absurd (none-some m (sym e))

  reading_loop : (n lo : ℕ) (hi : Option ℕ) (greedy : Bool) (e : Tree) (re : Re) → Common u n e re →
      (hi ≡ None → always_reads re ≡ true) → Common u n (Repeat lo hi greedy e) (repeat lo hi greedy re)
  reading_loop n lo hi greedy e re h reads =
      let last : hi ≡ None → greedy ≡ true → LeavesLast re = λ none g. reading_leaves_last re (reads_one re (reads none)) in
      record {
        captures = loop_captured u n lo hi greedy e re h.captures reads;
        means = λ free. (still_loop n lo hi greedy e re h last free).0;
        still = λ free. (still_loop n lo hi greedy e re h last free).1;
      }

  each_loop : (n lo : ℕ) (hi : Option ℕ) (greedy : Bool) (e : Tree) (re : Re) → Common u n e re →
      is_common_loop hi greedy e re ≡ true → Common u n (Repeat lo hi greedy e) (repeat lo hi greedy re)
  each_loop n lo hi greedy e re h is =
      elim (or_cases (is_some hi) (always_reads re || (has_no_group e && (not greedy || leaves_last re))) is) [
        | inl bound ↦ reading_loop n lo hi greedy e re h (λ none. absurd (none_is_some hi bound none))
        | inr rest ↦ elim (or_cases (always_reads re) (has_no_group e && (not greedy || leaves_last re)) rest) [
          | inl reads ↦ reading_loop n lo hi greedy e re h (λ none. reads)
          | inr free ↦
              let both = and_parts (has_no_group e) (not greedy || leaves_last re) free in
              let loop = still_loop n lo hi greedy e re h (λ none. order greedy re both.1) both.0 in
              still_common u n (Repeat lo hi greedy e) (repeat lo hi greedy re) loop.0 loop.1
        ]
      ]

  loop_common : (n lo : ℕ) (hi : Option ℕ) (greedy : Bool) (e : Tree) (o : Option Re) → IfSome o (Common u n e) →
      IfSome (loop_pattern lo hi greedy e o) (Common u n (Repeat lo hi greedy e))
  loop_common n lo hi greedy e None h = tt
  loop_common n lo hi greedy e (Some re) h = go (is_common_loop hi greedy e re) (each_loop n lo hi greedy e re h)
    where
      go : (b : Bool) → (b ≡ true → Common u n (Repeat lo hi greedy e) (repeat lo hi greedy re)) →
          IfSome (if b then Some (repeat lo hi greedy re) else None) (Common u n (Repeat lo hi greedy e))
      go false k = tt
      go true k = k refl

  concat_common : (n : ℕ) (es : Trees) (o : Option (List Re)) → IfSome o (AllCommon u n es) →
      IfSome (option_map cat_all o) (Common u n (Concat es))
  concat_common n es None h = tt
  concat_common n es (Some res) h = record {
    captures = subst (λ l. Captures u n (Concat l) (cat_all res)) h.whole (concat_captured u n (children es) res h.captures);
    means = λ free. subst (λ l. Means u (Concat l) (cat_all res)) h.whole (concat_means u (children es) res (h.means free));
    still = λ free. subst (λ l. IsStill (Concat l)) h.whole (concat_is_still (children es) (h.still free));
  }

  alt_common : (n : ℕ) (es : Trees) (o : Option (List Re)) → IfSome o (AllCommon u n es) →
      IfSome (option_map alt_all o) (Common u n (Alt es))
  alt_common n es None h = tt
  alt_common n es (Some res) h = record {
    captures = subst (λ l. Captures u n (Alt l) (alt_all res)) h.whole (alt_captured u n (children es) res h.captures);
    means = λ free. subst (λ l. Means u (Alt l) (alt_all res)) h.whole (alt_means u (children es) res (h.means free));
    still = λ free. subst (λ l. IsStill (Alt l)) h.whole (alt_is_still (children es) (h.still free));
  }

  group_common : (n g : ℕ) (e : Tree) (o : Option Re) → IfSome o (Common u (suc n) e) →
      IfSome (option_map (group n) o) (Common u n (Group g e))
  group_common n g e None h = tt
  group_common n g e (Some re) h = record {
    captures = group_captured u n g e re h.captures;
    means = λ free. absurd (false≢true free);
    still = λ free. absurd (false≢true free);
  }

  more_common : (n : ℕ) (e : Tree) (es : Trees) (o : Option Re) (p : Option (List Re)) → IfSome o (Common u n e) →
      IfSome p (AllCommon u (n + group_count e) es) → IfSome (with_first o p) (AllCommon u n (more e es))
  more_common n e es None p h k = tt
  more_common n e es (Some re) None h k = tt
  more_common n e es (Some re) (Some res) h k = record {
    whole = ap (more e) k.whole;
    captures = (h.captures, k.captures);
    means = λ free. let both = and_parts (has_no_group e) (have_no_group es) free in (h.means both.0, k.means both.1);
    still = λ free. let both = and_parts (has_no_group e) (have_no_group es) free in (h.still both.0, k.still both.1);
  }

  assert_common : (n : ℕ) (within : _) (a : Assertion) (o : Option Look) → IfSome o (IsSameLook u a) →
      IfSome (option_map look o) (Common u n (Assert within a))
  assert_common n within a None h = tt
  assert_common n within a (Some l) h =
      still_common u n (Assert within a) (look l) (assertion_means u within a l h) (assertion_is_still within a)

  mutual
    common : (n : ℕ) (e : Tree) → IfSome (pattern ranges_of look_of n e) (Common u n e)
    common n Empty = still_common u n Empty empty (empty_means u) empty_is_still
    common n (DefineGroup e) = still_common u n (DefineGroup e) empty (define_means u e) (define_is_still e)
    common n (Any newline crlf) =
        chars_common n (Any newline crlf) (ranges_of (Any newline crlf)) _ (exact.any newline crlf) (any_means u newline crlf)
        (any_is_still newline crlf)
    common n (Literal c casei) =
        chars_common n (Literal c casei) (ranges_of (Literal c casei)) _ (exact.literal c casei) (literal_means u c casei)
        (literal_is_still c casei)
    common n (Delegate inner casei) =
        chars_common n (Delegate inner casei) (ranges_of (Delegate inner casei)) _ (exact.delegate inner casei)
        (class_means u inner casei) (class_is_still inner casei)
    common n (Assert within a) = assert_common n within a (look_of a) (exact.looks a)
    common n (Concat es) = concat_common n es (patterns ranges_of look_of n es) (all_common n es)
    common n (Alt es) = alt_common n es (patterns ranges_of look_of n es) (all_common n es)
    common n (Group g e) = group_common n g e (pattern ranges_of look_of (suc n) e) (common (suc n) e)
    common n (Repeat lo hi greedy e) = loop_common n lo hi greedy e (pattern ranges_of look_of n e) (common n e)
    common n KeepOut = tt
    common n ContinueFromPreviousMatchEnd = tt
    common n AbsentClear = tt
    common n (GeneralNewline unicode) = tt
    common n (LiteralBytes cs) = tt
    common n (LookAround l e) = tt
    common n (Backref g casei) = tt
    common n (BackrefWithLevel g level casei) = tt
    common n (BackrefExists g level) = tt
    common n (AtomicGroup e) = tt
    common n (AbsentRepeater e) = tt
    common n (AbsentStopper e) = tt
    common n (AbsentExpression a e) = tt
    common n (Control verb) = tt
    common n (Conditional c t f) = tt
    common n (SubroutineCall g) = tt
    common n (AstNode node) = tt

    all_common : (n : ℕ) (es : Trees) → IfSome (patterns ranges_of look_of n es) (AllCommon u n es)
    all_common n none = record { whole = refl; captures = tt; means = λ _. tt; still = λ _. tt }
    all_common n (more e es) =
        more_common n e es (pattern ranges_of look_of n e) (patterns ranges_of look_of (n + group_count e) es) (common n e)
        (all_common (n + group_count e) es)

pub common_part : CommonPart
common_part u ranges_of look_of exact n e = go (pattern ranges_of look_of n e) (common u ranges_of look_of exact n e)
  where
    go : (o : Option Re) → IfSome o (Common u n e) → IfSome o (Captures u n e)
    go None h = tt
    go (Some re) h = h.captures
