-- Which nodes are searched for by the kit alike, and by which pattern: a test that computes.
use Rattle.std.specs.Prelude.{ℕ, suc, ◌+◌, Bool, true, false, ◌&&◌, ◌||◌, not, List, [], ◌∷◌, Option, Some, None, IfSome, is_some, if◌then◌else◌, option_map}
use Rattle.regex_class.specs.Ranges.{Range}
use Rattle.regex_hir.specs.declared.look.Look.{Look}
use Rattle.regex_hir.specs.Re.{Re, empty, char_in, look, group}
use Rattle.regex_hir.specs.Reads.{always_reads}
use Rattle.regex_hir.specs.Meaning.{alt_all, cat_all, repeat}
use Rattle.fancy_meaning.specs.Tree.{Tree, Trees, none, more, Assertion, Empty, Any, Literal, Delegate, Assert, DefineGroup, Concat, Alt, Group, Repeat}
use Rattle.fancy_meaning.specs.Nodes.{group_count}
use Rattle.fancy_meaning.specs.Chars.{any_takes, class_takes, literal_takes}
use Rattle.fancy_agreement.specs.First.{IsSameLook, IsSameTest, leaves_last}
use Rattle.fancy_agreement.specs.Captures.{Captures}

-- no group stands in the nodes that are searched for alike
abbrev mutual
  pub has_no_group : Tree → Bool
  has_no_group (Concat es) = have_no_group es
  has_no_group (Alt es) = have_no_group es
  has_no_group (Group g e) = false
  has_no_group (Repeat lo hi greedy e) = has_no_group e
  has_no_group e = true

  pub have_no_group : Trees → Bool
  have_no_group none = true
  have_no_group (more e es) = has_no_group e && have_no_group es

-- a bound, a body that always reads, or one without groups in which rounds that read nothing come last, or are lazy
abbrev pub is_common_loop : Option ℕ → Bool → Tree → Re → Bool
is_common_loop hi greedy e re = is_some hi || (always_reads re || (has_no_group e && (not greedy || leaves_last re)))

abbrev pub loop_pattern : ℕ → Option ℕ → Bool → Tree → Option Re → Option Re
loop_pattern lo hi greedy e None = None
loop_pattern lo hi greedy e (Some re) = if is_common_loop hi greedy e re then Some (repeat lo hi greedy re) else None

abbrev pub with_first : Option Re → Option (List Re) → Option (List Re)
with_first None res = None
with_first (Some re) res = option_map (λ l. re ∷ l) res

-- from what is known of characters and assertions
module _ (ranges_of : Tree → Option (List Range)) (look_of : Assertion → Option Look) where
  abbrev mutual
    -- the pattern of a node whose first group has the number n, if it is searched for alike
    pub pattern : ℕ → Tree → Option Re
    pattern n Empty = Some empty
    pattern n (DefineGroup e) = Some empty
    pattern n (Any newline crlf) = option_map char_in (ranges_of (Any newline crlf))
    pattern n (Literal c casei) = option_map char_in (ranges_of (Literal c casei))
    pattern n (Delegate inner casei) = option_map char_in (ranges_of (Delegate inner casei))
    pattern n (Assert within a) = option_map look (look_of a)
    pattern n (Concat es) = option_map cat_all (patterns n es)
    pattern n (Alt es) = option_map alt_all (patterns n es)
    pattern n (Group g e) = option_map (group n) (pattern (suc n) e)
    pattern n (Repeat lo hi greedy e) = loop_pattern lo hi greedy e (pattern n e)
    pattern n e = None

    pub patterns : ℕ → Trees → Option (List Re)
    patterns n none = Some []
    patterns n (more e es) = with_first (pattern n e) (patterns (n + group_count e) es)

  -- what is known is exact
  pub record AreExact (u : Bool) : Type 0 where
    pub any : (newline crlf : Bool) → IfSome (ranges_of (Any newline crlf)) (λ rs. IsSameTest rs (any_takes newline crlf))
    pub literal : (c : ℕ) (casei : Bool) → IfSome (ranges_of (Literal c casei)) (λ rs. IsSameTest rs (literal_takes u c casei))
    pub delegate : (inner : List ℕ) (casei : Bool) →
        IfSome (ranges_of (Delegate inner casei)) (λ rs. IsSameTest rs (class_takes u inner casei))
    pub looks : (a : Assertion) → IfSome (look_of a) (IsSameLook u a)

-- the common part: where a node has a pattern, the pattern takes its first ways, with captures
abbrev pub CommonPart : Type 0
CommonPart = (u : Bool) (ranges_of : Tree → Option (List Range)) (look_of : Assertion → Option Look) → AreExact ranges_of look_of u →
    (n : ℕ) (e : Tree) → IfSome (pattern ranges_of look_of n e) (Captures u n e)
