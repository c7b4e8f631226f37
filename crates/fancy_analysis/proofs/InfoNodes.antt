-- The nodes of a tree, child by child, and which groups are read.
use Rattle.std.proofs.Common.{◌≡◌, ℕ, ◌+◌, ◌<◌, Bool, true, ◌||◌, List, [], ◌∷◌, length, map, take, get_or, sym, ap, ◌∙◌, refl, ◌≤◌, false, ◌&&◌, nat_eq, nat_lt, filter_map, Option, Some, None}
use Rattle.std.proofs.Math.Bool.{or_assoc}
use Rattle.std.specs.List.{list_any, cons_option}
use Rattle.std.proofs.lemmas.List.{length-map, take_all}
use Rattle.std.proofs.lemmas.List.Folds.{list_any-append, list_any_at, list_any_more}
use Rattle.fancy_meaning.specs.Tree.{Tree, Trees, trees, parts, Assert, AbsentRepeater, AbsentExpression, AbsentStopper, AbsentClear, Within}
use Rattle.fancy_meaning.specs.Nodes.{nodes, nodes_of_each, read_by, read_groups, is_read}
use Rattle.fancy_info.specs.declared.info.Info.{Info}
use Rattle.fancy_expr.specs.Exprs.{below, exprs, exprs_of_each}
use Rattle.fancy_info.specs.Infos.{absent_over, info_tree, info_children, info_facts}
use Rattle.fancy_expr.specs.declared.expr.Absent.{Absent}
use Rattle.fancy_expr.specs.declared.expr.Absent.TheVariants as code_absent
use Rattle.fancy_meaning.specs.Sizes.{Known}
use Rattle.fancy_analysis.specs.Made.{IsSized, IsSizedNode}
use Rattle.fancy_info.proofs.Children.{each_at}
use Rattle.fancy_info.proofs.Unfolded.{tree_out, each_here, each_below}
use Rattle.fancy_expr.proofs.Walks.{each-taken}
use Rattle.fancy_info.proofs.OverParts.{over-parts}
use Rattle.fancy_expr.proofs.NodeParts.{nodes-parts}
use Rattle.fancy_meaning.specs.Numbering.{numbered_within}
use Rattle.fancy_expr.specs.declared.expr.Expr.{Expr}
use Rattle.fancy_expr.specs.Views.{tree_of}
use Rattle.fancy_analysis.specs.LateReads.{is_named}
use Rattle.fancy_expr.proofs.Exprs.{exprs-below, nodes-exprs}
use Rattle.fancy_expr.proofs.Listed.{any-map}
use Rattle.fancy_expr.proofs.Numbered.{nodes-numbered}

-- how many children a node has
abbrev pub HasParts : Info → Type 0
HasParts i = length (info_children i) ≡ length (below (info_facts i).expr)

pub sized_parts : (known : Known) (i : Info) → IsSized known i → HasParts i
sized_parts known i h = (each_here (IsSizedNode known) i h).arity

pub child_sized : (known : Known) (i : Info) (n : ℕ) (child : Info) → n < length (info_children i) → child ≡ get_or (info_children i) n child →
    IsSized known i → IsSized known child
child_sized known i n child h at sized = each_at (IsSized known) (info_children i) n child (each_below (IsSizedNode known) i sized) h at

pub parts-out : (i : Info) → HasParts i → parts (info_tree i) ≡ trees (map info_tree (info_children i))
parts-out i h =
    let f = info_facts i in
    ap parts (tree_out i) ∙ over-parts f.expr f.start_group f.within (map info_tree (info_children i)) (length-map (info_children i) info_tree ∙ h)

-- what is the same of all absent nodes
pub absent_alike : {X : Type 0} (f : Tree → X) (x : X) → ((y : Tree) → f (AbsentRepeater y) ≡ x) → ((y z : Tree) → f (AbsentExpression y z) ≡ x) →
    ((y : Tree) → f (AbsentStopper y) ≡ x) → f AbsentClear ≡ x → (a : Absent) (es : Trees) → f (absent_over a es) ≡ x
absent_alike f x repeater expression stopper clear (code_absent.Repeater' b y) es = repeater _
absent_alike f x repeater expression stopper clear (code_absent.Expression' b y c z) es = expression _ _
absent_alike f x repeater expression stopper clear (code_absent.Stopper' b y) es = stopper _
absent_alike f x repeater expression stopper clear code_absent.Clear es = clear

module _ (test : Tree → Bool) where
  abbrev any_in : Info → Bool
  any_in i = list_any test (nodes (info_tree i))

  -- a node of one of these trees passes
  abbrev pub any_in_each : List Info → Bool
  any_in_each is = list_any any_in is

  any-each : (is : List Info) → list_any test (nodes_of_each (trees (map info_tree is))) ≡ any_in_each is
  any-each [] = refl
  any-each (i ∷ is) =
      list_any-append test (nodes (info_tree i)) (nodes_of_each (trees (map info_tree is)))
      ∙ ap (λ b. list_any test (nodes (info_tree i)) || b) (any-each is)

  pub any-below : (i : Info) → HasParts i → list_any test (nodes (info_tree i)) ≡ (test (info_tree i) || any_in_each (info_children i))
  any-below i h =
      ap (list_any test) (nodes-parts (info_tree i))
      ∙ ap (λ ts. test (info_tree i) || list_any test (nodes_of_each ts)) (parts-out i h)
      ∙ ap (λ b. test (info_tree i) || b) (any-each (info_children i))

  pub any-taken : (is : List Info) (n : ℕ) (i : Info) → n < length is → i ≡ get_or is n i →
      any_in_each (take (n + 1) is) ≡ (any_in_each (take n is) || list_any test (nodes (info_tree i)))
  any-taken is n i h at = list_any_more any_in is n i h ∙ ap (λ x. any_in_each (take n is) || any_in x) (sym at)

  pub any-at : (is : List Info) (n : ℕ) (i : Info) → n < length is → i ≡ get_or is n i → list_any test (nodes (info_tree i)) ≡ true → any_in_each is ≡ true
  any-at is n i h at passes = list_any_at any_in is n i h (ap any_in (sym at) ∙ passes)

abbrev pub read_here : Expr → ℕ → Bool
read_here e g = is_named (read_by (tree_of e)) g

-- one of these nodes reads it
abbrev pub read_among : List Expr → ℕ → Bool
read_among es g = list_any (λ x. read_here x g) es

abbrev pub read_among_each : List Expr → ℕ → Bool
read_among_each es g = read_among (exprs_of_each es) g

put_first : (o : Option ℕ) (g : ℕ) (xs : List Tree) (x : Tree) → read_by x ≡ o →
    list_any (nat_eq g) (filter_map read_by (x ∷ xs)) ≡ (is_named o g || list_any (nat_eq g) (filter_map read_by xs))
put_first None g xs x is = ap (λ o. list_any (nat_eq g) (cons_option o (filter_map read_by xs))) is
put_first (Some h) g xs x is = ap (λ o. list_any (nat_eq g) (cons_option o (filter_map read_by xs))) is

named-any : (g : ℕ) (xs : List Tree) → list_any (nat_eq g) (filter_map read_by xs) ≡ list_any (λ x. is_named (read_by x) g) xs
named-any g [] = refl
named-any g (x ∷ xs) = put_first (read_by x) g xs x refl ∙ ap (λ b. is_named (read_by x) g || b) (named-any g xs)

pub read-nodes : (t : Tree) (g : ℕ) → is_read t g ≡ list_any (λ x. is_named (read_by x) g) (nodes t)
unfolding read_groups
read-nodes t g = named-any g (nodes t)

pub read-exprs : (e : Expr) (g : ℕ) → is_read (tree_of e) g ≡ read_among (exprs e) g
read-exprs e g =
    read-nodes (tree_of e) g
    ∙ ap (list_any (λ x. is_named (read_by x) g)) (sym (nodes-exprs e))
    ∙ sym (any-map (λ x. is_named (read_by x) g) tree_of (exprs e))

pub read-taken : (es : List Expr) (i : ℕ) (e : Expr) (g : ℕ) → i < length es → e ≡ get_or es i e →
    read_among_each (take (i + 1) es) g ≡ (read_among_each (take i es) g || is_read (tree_of e) g)
read-taken es i e g h at =
    ap (λ l. read_among l g) (each-taken es i e h at)
    ∙ list_any-append (λ x. read_here x g) (exprs_of_each (take i es)) (exprs e)
    ∙ ap (λ b. read_among_each (take i es) g || b) (sym (read-exprs e g))

pub read-all : (e : Expr) (n g : ℕ) → length (below e) ≤ n → (read_here e g || read_among_each (take n (below e)) g) ≡ is_read (tree_of e) g
read-all e n g h =
    ap (λ l. read_here e g || read_among_each l g) (take_all n (below e) h)
    ∙ ap (λ l. read_among l g) (sym (exprs-below e))
    ∙ sym (read-exprs e g)

-- ---- numbering

blind : (w : Within) (n : ℕ) (e : Tree) → read_by (numbered_within w n e) ≡ read_by e
blind w n (Assert old a) = refl
blind w n e = refl

pub read-numbered : (w : Within) (n : ℕ) (t : Tree) (g : ℕ) → is_read (numbered_within w n t) g ≡ is_read t g
read-numbered w n t g =
    read-nodes (numbered_within w n t) g
    ∙ any-map (λ o. is_named o g) read_by (nodes (numbered_within w n t))
    ∙ ap (list_any (λ o. is_named o g)) (nodes-numbered read_by blind w n t)
    ∙ sym (any-map (λ o. is_named o g) read_by (nodes t))
    ∙ sym (read-nodes t g)

-- ---- flags

pub or_and : (a l b r : Bool) → ((a || (l && b)) || (l && r)) ≡ (a || (l && (b || r)))
or_and true l b r = refl
or_and false true b r = refl
or_and false false b r = refl

pub marked_more : (e child : Expr) (i g n m : ℕ) (old now next : Bool) → i < length (below e) → child ≡ get_or (below e) i child →
    now ≡ (old || (nat_lt g n && (read_here e g || read_among_each (take i (below e)) g))) → m ≡ n →
    next ≡ (now || (nat_lt g m && is_read (tree_of child) g)) → next ≡ (old || (nat_lt g n && (read_here e g || read_among_each (take (i + 1) (below e)) g)))
marked_more e child i g n m old now next h at so_far same here =
    here
    ∙ ap (λ k. now || (nat_lt g k && is_read (tree_of child) g)) same
    ∙ ap (λ b. b || (nat_lt g n && is_read (tree_of child) g)) so_far
    ∙ or_and old (nat_lt g n) (read_here e g || read_among_each (take i (below e)) g) (is_read (tree_of child) g)
    ∙ ap (λ b. old || (nat_lt g n && b)) (or_assoc (read_here e g) (read_among_each (take i (below e)) g) (is_read (tree_of child) g)
    ∙ ap (λ b. read_here e g || b) (sym (read-taken (below e) i child g h at)))
