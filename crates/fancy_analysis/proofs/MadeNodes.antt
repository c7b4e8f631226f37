-- A node over its children, children that are visited one by one, and the root.
use Rattle.std.proofs.Common.{◌≡◌, ℕ, zero, suc, ◌+◌, Bool, true, false, ◌||◌, List, [], ◌∷◌, map, slice_index_or, refl, sym, ap, ◌∙◌, arith, ◌&&◌, ◌==◌, subst, ◌<◌, ◌≤◌, ◌++◌, Contains, length, take, get_or}
use Rattle.fancy_meaning.specs.Tree.{Tree, Trees, none, more, trees, parts, NoLook}
use Rattle.fancy_meaning.specs.Nodes.{group_count, is_read}
use Rattle.fancy_meaning.specs.Options.{Analysis, AnalysisOptions, analysis_of}
use Rattle.fancy_meaning.specs.Sizes.{Size, Known, plus, either, times, size, size_by, each_size, known_of}
use Rattle.fancy_meaning.specs.Hard.{is_hard, any_hard, is_hard_assertion}
use Rattle.fancy_analysis.specs.declared.make.VisitTables.{VisitTables}
use Rattle.fancy_info.specs.declared.info.Info.{Info}
use Rattle.fancy_info.specs.declared.info.Info.TheOpen.{Info-F}
use Rattle.fancy_info.specs.declared.info.Info.TheViews.{roll-Info, out-roll-Info, out-Info}
use Rattle.fancy_expr.specs.declared.expr.Absent.{Absent}
use Rattle.fancy_expr.specs.declared.expr.Expr.{Expr}
use Rattle.fancy_expr.specs.declared.expr.Assertion.{Assertion}
use Rattle.fancy_expr.specs.Views.{assertion_of, bound_of, tree_of, absent_of}
use Rattle.fancy_info.specs.Sized.{size_of}
use Rattle.fancy_info.specs.Infos.{analysis_options_of, nth, absent_over, node_over, info_tree, info_size, info_hard, is_read_group, facts, tree_over, IsFound, IsAnalysed, first_number, info_within, info_children, info_expr, info_facts, IsNode, IsRoot, AreInTurn}
use Rattle.fancy_expr.specs.Each.{Each}
use Rattle.fancy_expr.specs.Walk.{within_of, start_inside, within_inside}
use Rattle.fancy_analysis.specs.Made.{nth_size, absent_size, size_over, some_true, first_true, is_hard_by_size, hard_over, read_flag, tables_known, IsSizedNode, IsSized, IsMadeNode, Suits, IsVisited}
use Rattle.fancy_analysis.specs.Rounds.{Agree}
use Rattle.fancy_info.proofs.Unfolded.{tree_roll, tree_out, each_made, each_here, each_below}
use Rattle.std.proofs.lemmas.List.{map-append, take_all, length-map}
use Rattle.std.proofs.lemmas.List.Elements.{Contains-append_left, Contains-append_right}
use Rattle.fancy_meaning.specs.Numbering.{numbered_within, each_numbered, numbered}
use Rattle.fancy_expr.specs.Exprs.{below, exprs, exprs_of_each}
use Rattle.fancy_expr.proofs.Groups.{group_total, total-append, count-total, total-taken, total-all}
use Rattle.fancy_expr.proofs.Walks.{each-taken, taken}
use Rattle.fancy_expr.proofs.Exprs.{exprs-below, parts-below}
use Rattle.fancy_expr.proofs.Starts.{start-own}
use Rattle.fancy_expr.proofs.Numbered.{count-numbered}
use Rattle.fancy_analysis.specs.Endings.{IsRootOf, IsWhole}
use Rattle.fancy_analysis.proofs.InfoNodes.{absent_alike}
use Rattle.fancy_analysis.proofs.RefusalNodes.{low}
use Rattle.fancy_meaning.specs.Tree as plain
use Rattle.fancy_expr.specs.declared.expr.Absent.TheVariants as code_absent
use Rattle.fancy_expr.specs.declared.expr.Expr.TheVariants as code
use Rattle.fancy_expr.specs.declared.expr.Assertion.TheVariants as code_assertion

-- ---- sizes

nth-size : (known : Known) (es : Trees) (i : ℕ) → size_by known (nth es i) ≡ nth_size (each_size known es) i
nth-size known none i = refl
nth-size known (more e es) zero = refl
nth-size known (more e es) (suc i) = nth-size known es i

abbrev varying : Size → Size
varying s = record s { is_const = false }

absent-size : (known : Known) (a : Absent) (es : Trees) → size_by known (absent_over a es) ≡ absent_size a (each_size known es)
absent-size known (code_absent.Repeater' b e) es = refl
absent-size known (code_absent.Expression' b a c e) es = ap varying (nth-size known es 1)
absent-size known (code_absent.Stopper' b e) es = refl
absent-size known code_absent.Clear es = refl

node-size : (known : Known) (e : Expr) (n : ℕ) (w : plain.Within) (es : Trees) → size_by known (node_over e n w es) ≡ size_over known e (each_size known es)
node-size known (code.Group' b e) n w es = nth-size known es 0
node-size known (code.AtomicGroup' b e) n w es = nth-size known es 0
node-size known (code.Repeat' b e lo hi greedy) n w es = ap (times lo (bound_of hi)) (nth-size known es 0)
node-size known (code.Conditional' b c d t x f) n w es =
    ap (λ s. either (plus s (size_by known (nth es 1))) (size_by known (nth es 2))) (nth-size known es 0)
    ∙ ap (λ s. either (plus (nth_size (each_size known es) 0) s) (size_by known (nth es 2))) (nth-size known es 1)
    ∙ ap (λ s. either (plus (nth_size (each_size known es) 0) (nth_size (each_size known es) 1)) s) (nth-size known es 2)
node-size known (code.Absent a) n w es = absent-size known a es
node-size known e n w es = refl

-- the size of a node is right
pub sized_here : (known : Known) (i : Info) → IsSized known i → info_size i ≡ size_by known (info_tree i)
sized_here known i h = (each_here (IsSizedNode known) i h).size ∙ ap (size_by known) (sym (tree_out i))

sizes-children : (known : Known) (is : List Info) → Each (IsSized known) is → map info_size is ≡ each_size known (trees (map info_tree is))
sizes-children known [] h = refl
sizes-children known (i ∷ is) h =
    ap (λ s. s ∷ map info_size is) (sized_here known i h.0) ∙ ap (λ l. size_by known (info_tree i) ∷ l) (sizes-children known is h.1)

-- ---- hardness

module _ (a : Analysis) where
  first-hard : (es : Trees) (hards : List Bool) → hards ≡ map (is_hard a) (plain.children es) → is_hard a (nth es 0) ≡ first_true hards
  first-hard none hards h = sym (ap first_true h)
  first-hard (more e es) hards h = sym (ap first_true h)

  some-hard : (es : Trees) → any_hard a es ≡ some_true (map (is_hard a) (plain.children es))
  some-hard none = refl
  some-hard (more e es) = ap (λ b. is_hard a e || b) (some-hard es)

  hards-children : (is : List Info) → Each (IsAnalysed a) is → map info_hard is ≡ map (is_hard a) (plain.children (trees (map info_tree is)))
  hards-children [] h = refl
  hards-children (i ∷ is) h =
      ap (λ b. b ∷ map info_hard is) ((each_here (IsFound a) i h.0).hard ∙ ap (is_hard a) (sym (tree_out i)))
      ∙ ap (λ l. is_hard a (info_tree i) ∷ l) (hards-children is h.1)

  assertion-hard : (w : plain.Within) (x : Assertion) →
      is_hard_assertion (record { tree = plain.Empty; options = a.options }) w (assertion_of x) ≡ is_hard_assertion a w (assertion_of x)
  assertion-hard w code_assertion.StartText = refl
  assertion-hard w x = refl

  list-hard : (es : Trees) (t : Tree) (s : Size) (hards : List Bool) → s ≡ size a.tree t → hards ≡ map (is_hard a) (plain.children es) →
      (some_true hards || is_hard_by_size a.options s) ≡ (any_hard a es || is_hard_by_size a.options (size a.tree t))
  list-hard es t s hards sized below =
      ap (λ l. some_true l || is_hard_by_size a.options s) below
      ∙ ap (λ b. b || is_hard_by_size a.options s) (sym (some-hard es))
      ∙ ap (λ x. any_hard a es || is_hard_by_size a.options x) sized

  child-hard : (es : Trees) (t : Tree) (s : Size) (hards : List Bool) → s ≡ size a.tree t → hards ≡ map (is_hard a) (plain.children es) →
      (first_true hards || is_hard_by_size a.options s) ≡ (is_hard a (nth es 0) || is_hard_by_size a.options (size a.tree t))
  child-hard es t s hards sized below =
      ap (λ b. b || is_hard_by_size a.options s) (sym (first-hard es hards below))
      ∙ ap (λ x. is_hard a (nth es 0) || is_hard_by_size a.options x) sized

  group-hard : (es : Trees) (n : ℕ) (s : Size) (read : Bool) (hards : List Bool) → s ≡ size a.tree (plain.Group n (nth es 0)) → read ≡ is_read a.tree n →
      hards ≡ map (is_hard a) (plain.children es) → (read || first_true hards || is_hard_by_size a.options s) ≡ is_hard a (plain.Group n (nth es 0))
  group-hard es n s read hards sized flagged below =
      ap (λ b. b || first_true hards || is_hard_by_size a.options s) flagged
      ∙ ap (λ b. is_read a.tree n || b || is_hard_by_size a.options s) (sym (first-hard es hards below))
      ∙ ap (λ x. is_read a.tree n || is_hard a (nth es 0) || is_hard_by_size a.options x) sized

  node-hard : (e : Expr) (n : ℕ) (w : plain.Within) (es : Trees) (s : Size) (read : Bool) (hards : List Bool) → s ≡ size a.tree (node_over e n w es) →
      read ≡ is_read_group a.tree (node_over e n w es) → hards ≡ map (is_hard a) (plain.children es) →
      hard_over a.options e w s read hards ≡ is_hard a (node_over e n w es)
  node-hard (code.Assertion x) n w es s read hards sized flagged below = assertion-hard w x
  node-hard (code.Concat' shape row) n w es s read hards sized flagged below = list-hard es (plain.Concat es) s hards sized below
  node-hard (code.Alt' shape row) n w es s read hards sized flagged below = list-hard es (plain.Alt es) s hards sized below
  node-hard (code.Group' b e) n w es s read hards sized flagged below = group-hard es n s read hards sized flagged below
  node-hard (code.Repeat' b e lo hi greedy) n w es s read hards sized flagged below =
      child-hard es (plain.Repeat lo (bound_of hi) greedy (nth es 0)) s hards sized below
  node-hard (code.Absent x) n w es s read hards sized flagged below = sym (absent_alike (is_hard a) true (λ y. refl) (λ y z. refl) (λ y. refl) refl x es)
  node-hard e n w es s read hards sized flagged below = refl

  node-read : (reads : List Bool) → ((g : ℕ) → slice_index_or reads g false ≡ is_read a.tree g) → (e : Expr) (n : ℕ) (w : plain.Within) (es : Trees) →
      read_flag reads e n ≡ is_read_group a.tree (node_over e n w es)
  node-read reads h (code.Group' b e) n w es = h n
  node-read reads h (code.Absent x) n w es = sym (absent_alike (is_read_group a.tree) false (λ y. refl) (λ y z. refl) (λ y. refl) refl x es)
  node-read reads h e n w es = refl

-- ---- the node

-- a node's own size goes by what it names alone
size_agrees : (one two : Known) (e : Expr) (sizes : List Size) → Agree one two (e ∷ []) → size_over one e sizes ≡ size_over two e sizes
size_agrees one two (code.Backref zero casei) sizes h = refl
size_agrees one two (code.Backref (suc g) casei) sizes h = h (code.Backref (suc g) casei) (0, omega arith, refl) (suc g) refl
size_agrees one two (code.BackrefWithRelativeRecursionLevel zero level casei) sizes h = refl
size_agrees one two (code.BackrefWithRelativeRecursionLevel (suc g) level casei) sizes h =
    h (code.BackrefWithRelativeRecursionLevel (suc g) level casei) (0, omega arith, refl) (suc g) refl
size_agrees one two (code.SubroutineCall g) sizes h = h (code.SubroutineCall g) (0, omega arith, refl) g refl
size_agrees one two e sizes h = refl

module _ (t : VisitTables) (f : Info-F Info) where
  module _ (known : Known) (agree : Agree (tables_known t) known (f.expr.now ∷ [])) where
    size-over : size_of f.size ≡ size_over (tables_known t) f.expr.now (map info_size f.children.items) → Each (IsSized known) f.children.items →
        size_of f.size ≡ size_by known (tree_over (facts f) f.children.items)
    size-over sized below =
        sized
        ∙ ap (size_over (tables_known t) f.expr.now) (sizes-children known f.children.items below)
        ∙ size_agrees (tables_known t) known f.expr.now (each_size known (trees (map info_tree f.children.items))) agree
        ∙ sym (node-size known f.expr.now f.start_group (within_of f.within) (trees (map info_tree f.children.items)))

  pub made : size_of f.size ≡ size_over (tables_known t) f.expr.now (map info_size f.children.items) →
      f.is_read ≡ read_flag t.reads.now f.expr.now f.start_group →
      f.hard ≡ hard_over (analysis_options_of t.context) f.expr.now (within_of f.within) (size_of f.size) f.is_read (map info_hard f.children.items) →
      f.context ≡ t.context → IsMadeNode t f.expr.now f.start_group f.end_group (within_of f.within) f.children.items (roll-Info f)
  made sized flagged hard context = record {
    expr = ap (λ x. x.expr.now) (out-roll-Info f);
    tree = tree_roll f;
    start_group = ap (λ x. x.start_group) (out-roll-Info f);
    end_group = ap (λ x. x.end_group) (out-roll-Info f);
    within = ap (λ x. within_of x.within) (out-roll-Info f);
    size = λ known agree arity below. each_made (IsSizedNode known) f (record { size = size-over known agree sized below; arity = arity }) below;
    found = λ a suits agree arity exprs below analysed in_turn ends.
        let here : size_of f.size ≡ size a.tree (tree_over (facts f) f.children.items) = size-over (known_of a.tree) agree sized below in
        let flag : f.is_read ≡ is_read_group a.tree (tree_over (facts f) f.children.items) =
        flagged ∙ node-read a t.reads.now suits.reads f.expr.now f.start_group (within_of f.within) (trees (map info_tree f.children.items)) in
        each_made (IsFound a) f
        (record {
          node = record {
            size = here;
            read = flag;
            arity = arity;
            exprs = exprs;
            end_group = ends ∙ ap (λ x. f.start_group + group_count x) (tree_roll f);
            in_turn = in_turn;
            options = ap analysis_options_of context ∙ suits.options;
          };
          hard = hard
              ∙ ap (λ o. hard_over o f.expr.now (within_of f.within) (size_of f.size) f.is_read (map info_hard f.children.items)) suits.options
              ∙ node-hard a f.expr.now f.start_group (within_of f.within) (trees (map info_tree f.children.items)) (size_of f.size) f.is_read
              (map info_hard f.children.items) here flag (hards-children a f.children.items analysed);
        })
        analysed;
  }

abbrev hardened : Info → Bool → Info-F Info
hardened i hard = record (out-Info i) { hard = hard }

pub root_made : (a : Analysis) (i : Info) (hard : Bool) → info_within i ≡ plain.NoLook → (info_facts i).start_group ≡ first_number a.options →
    info_tree i ≡ a.tree → IsAnalysed a i → hard ≡ (info_hard i || (a.end_text && (info_size i).least == 0)) →
    IsRoot a (roll-Info (hardened i hard)) × (info_expr (roll-Info (hardened i hard)) ≡ info_expr i)
root_made a i hard within start tree analysed is =
    let f = hardened i hard in
    let here = each_here (IsFound a) i analysed in
    let at : tree_over (info_facts i) (info_children i) ≡ a.tree = sym (tree_out i) ∙ tree in (
      record {
        tree = tree_roll f ∙ at;
        within = ap (λ x. within_of x.within) (out-roll-Info f) ∙ within;
        start_group = ap (λ x. x.start_group) (out-roll-Info f) ∙ start;
        node = subst (λ x. IsNode a (facts x) x.children.items) (sym (out-roll-Info f))
            (record {
              size = here.node.size;
              read = here.node.read;
              arity = here.node.arity;
              exprs = here.node.exprs;
              end_group = here.node.end_group;
              in_turn = here.node.in_turn;
              options = here.node.options;
            });
        hard = ap (λ x. x.hard) (out-roll-Info f)
            ∙ is
            ∙ ap (λ h. h || (a.end_text && (info_size i).least == 0)) (here.hard ∙ ap (is_hard a) at)
            ∙ ap (λ s. is_hard a a.tree || (a.end_text && s.least == 0)) (here.node.size ∙ ap (size a.tree) at);
        children = subst (λ x. Each (IsAnalysed a) x.children.items) (sym (out-roll-Info f)) (each_below (IsFound a) i analysed);
      },
      ap (λ x. x.expr.now) (out-roll-Info f),
    )

-- the trees of neighbours, the first group with this number
abbrev pub each_from : plain.Within → ℕ → List Expr → List Tree
each_from w n [] = []
each_from w n (e ∷ es) = numbered_within w n (tree_of e) ∷ each_from w (n + group_count (tree_of e)) es

abbrev pub end_of : ℕ → List Info → ℕ
end_of n [] = n
end_of n (i ∷ is) = end_of (out-Info i).end_group is

pub record AreVisited (t : VisitTables) (es : List Expr) (start : ℕ) (w : plain.Within) (next : ℕ) (infos : List Info) : Type 0 where
  pub counted : next ≡ start + group_total (exprs_of_each es)
  pub exprs : map info_expr infos ≡ es
  pub trees : map info_tree infos ≡ each_from w start es
  pub in_turn : AreInTurn w start infos
  pub ends : end_of start infos ≡ next
  pub sizes : (known : Known) → Agree (tables_known t) known (exprs_of_each es) → Each (IsSized known) infos
  pub found : (a : Analysis) → Suits a t → Agree (tables_known t) (known_of a.tree) (exprs_of_each es) → Each (IsAnalysed a) infos

-- ---- what agrees on the numbers that are named

-- what agrees for all nodes up to a child agrees for those before it, and for its own
agree_both : (one two : Known) (es : List Expr) (i : ℕ) (e : Expr) → i < length es → e ≡ get_or es i e → Agree one two (exprs_of_each (take (i + 1) es)) →
    Agree one two (exprs_of_each (take i es)) × Agree one two (exprs e)
agree_both one two es i e h at agree =
    let is = each-taken es i e h at in (
      λ x there. agree x (subst (λ l. Contains l x) (sym is) (Contains-append_left (exprs_of_each (take i es)) (exprs e) x there)),
      λ x there. agree x (subst (λ l. Contains l x) (sym is) (Contains-append_right (exprs_of_each (take i es)) (exprs e) x there)),
    )

-- what agrees for a node and all below it
agree_parts : (one two : Known) (e : Expr) (i : ℕ) → length (below e) ≤ i → Agree one two (exprs e) →
    Agree one two (e ∷ []) × Agree one two (exprs_of_each (take i (below e)))
agree_parts one two e i h agree = (
  λ x there. agree x (subst (λ l. Contains l x) (sym (exprs-below e)) (Contains-append_left (e ∷ []) (exprs_of_each (below e)) x there)),
  λ x there. agree x (subst (λ l. Contains l x) (sym (exprs-below e))
      (Contains-append_right (e ∷ []) (exprs_of_each (below e)) x (subst (λ l. Contains (exprs_of_each l) x) (take_all i (below e) h) there))),
)

-- ---- one more

each-more : {X : Type 0} (P : X → Type 0) (xs : List X) (x : X) → Each P xs → P x → Each P (xs ++ x ∷ [])
each-more P [] x h p = (p, tt)
each-more P (y ∷ xs) x h p = (h.0, each-more P xs x h.1 p)

turn-more : (w : plain.Within) (n : ℕ) (is : List Info) (i : Info) → AreInTurn w n is → info_within i ≡ w → (out-Info i).start_group ≡ end_of n is →
    AreInTurn w n (is ++ i ∷ [])
turn-more w n [] i h at starts = (at, starts, tt)
turn-more w n (j ∷ is) i h at starts = (h.0, h.1, turn-more w (out-Info j).end_group is i h.2 at starts)

end-more : (n : ℕ) (is : List Info) (i : Info) → end_of n (is ++ i ∷ []) ≡ (out-Info i).end_group
end-more n [] i = refl
end-more n (j ∷ is) i = end-more (out-Info j).end_group is i

from-more : (w : plain.Within) (n m : ℕ) (es : List Expr) (e : Expr) → m ≡ n + group_total (exprs_of_each es) →
    each_from w n (es ++ e ∷ []) ≡ each_from w n es ++ numbered_within w m (tree_of e) ∷ []
from-more w n m [] e at = ap (λ k. numbered_within w k (tree_of e) ∷ []) (omega arith)
from-more w n m (x ∷ es) e at =
    let rest : m ≡ n + group_count (tree_of x) + group_total (exprs_of_each es) = omega (arith, at, total-append (exprs x) (exprs_of_each es), count-total x) in
    ap (λ l. numbered_within w n (tree_of x) ∷ l) (from-more w (n + group_count (tree_of x)) m es e rest)

module _ (t : VisitTables) (es : List Expr) (i : ℕ) (e : Expr) (start : ℕ) (w : plain.Within) (next : ℕ) (infos after : List Info) (info : Info) where
  pub visited_more : i < length es → e ≡ get_or es i e → AreVisited t (take i es) start w next infos → IsVisited t e next w info → after ≡ infos ++ info ∷ [] →
      AreVisited t (take (i + 1) es) start w (out-Info info).end_group after
  visited_more h at before here pushed =
      subst (λ l. AreVisited t (take (i + 1) es) start w (out-Info info).end_group l) (sym pushed) (record {
        counted = omega (arith, here.end_group, before.counted, total-taken es i e h at);
        exprs = map-append info_expr infos (info ∷ [])
            ∙ ap (λ l. l ++ info_expr info ∷ []) before.exprs
            ∙ ap (λ x. take i es ++ x ∷ []) here.expr
            ∙ sym (taken es i e h at);
        trees = map-append info_tree infos (info ∷ [])
            ∙ ap (λ l. l ++ info_tree info ∷ []) before.trees
            ∙ ap (λ x. each_from w start (take i es) ++ x ∷ []) here.tree
            ∙ sym (from-more w start next (take i es) e before.counted)
            ∙ ap (each_from w start) (sym (taken es i e h at));
        in_turn = turn-more w start infos info before.in_turn here.within (here.start_group ∙ sym before.ends);
        ends = end-more start infos info;
        sizes = λ known agree. let both = agree_both (tables_known t) known es i e h at agree in
            each-more (IsSized known) infos info (before.sizes known both.0) (here.size known both.1);
        found = λ a suits agree. let both = agree_both (tables_known t) (known_of a.tree) es i e h at agree in
            each-more (IsAnalysed a) infos info (before.found a suits both.0) (here.found a suits both.1);
      })

-- ---- the node over its children

from-trees : (w : plain.Within) (n : ℕ) (es : List Expr) → trees (each_from w n es) ≡ each_numbered w n (trees (map tree_of es))
from-trees w n [] = refl
from-trees w n (e ∷ es) = ap (more (numbered_within w n (tree_of e))) (from-trees w (n + group_count (tree_of e)) es)

length-from : (w : plain.Within) (n : ℕ) (es : List Expr) → length (each_from w n es) ≡ length es
length-from w n [] = refl
length-from w n (e ∷ es) = ap suc (length-from w (n + group_count (tree_of e)) es)

absent-rebuilt : (a : Absent) (n : ℕ) (w : plain.Within) → absent_over a (each_numbered w n (parts (absent_of a))) ≡ numbered_within w n (absent_of a)
absent-rebuilt (code_absent.Repeater' b e) n w = refl
absent-rebuilt (code_absent.Expression' b a c e) n w = refl
absent-rebuilt (code_absent.Stopper' b e) n w = refl
absent-rebuilt code_absent.Clear n w = refl

rebuilt : (e : Expr) (n : ℕ) (w : plain.Within) →
    node_over e n w (each_numbered (within_inside e w) (start_inside e n) (parts (tree_of e))) ≡ numbered_within w n (tree_of e)
rebuilt (code.Assertion x) n w = refl
rebuilt (code.Absent a) n w = absent-rebuilt a n w
rebuilt e n w = refl

pub visited_node : (t : VisitTables) (e : Expr) (i start : ℕ) (w : plain.Within) (next : ℕ) (infos : List Info) (info : Info) → length (below e) ≤ i →
    AreVisited t (take i (below e)) (start_inside e start) (within_inside e w) next infos → IsMadeNode t e start next w infos info → IsVisited t e start w info
visited_node t e i start w next infos info h before made =
    let inner = within_inside e w in
    let first = start_inside e start in
    let tree : info_tree info ≡ numbered_within w start (tree_of e) =
    made.tree
    ∙ ap (λ l. node_over e start w (trees l)) (before.trees ∙ ap (each_from inner first) (take_all i (below e) h))
    ∙ ap (node_over e start w) (from-trees inner first (below e) ∙ ap (each_numbered inner first) (sym (parts-below e)))
    ∙ rebuilt e start w in
    let ends : next ≡ start + group_count (tree_of e) = omega (arith, before.counted, total-all e i h, start-own e start) in
    let arity : length infos ≡ length (below e) =
    sym (length-map infos info_tree)
    ∙ ap length before.trees
    ∙ length-from inner first (take i (below e))
    ∙ ap length (take_all i (below e) h) in
    record {
      expr = made.expr;
      tree = tree;
      start_group = made.start_group;
      end_group = made.end_group ∙ ends;
      within = made.within;
      size = λ known agree. let parts = agree_parts (tables_known t) known e i h agree in
          made.size known parts.0 arity (before.sizes known parts.1);
      found = λ a suits agree. let parts = agree_parts (tables_known t) (known_of a.tree) e i h agree in
          made.found a suits parts.0 arity (before.exprs ∙ take_all i (below e) h) (before.sizes (known_of a.tree) parts.1) (before.found a suits parts.1)
          before.in_turn
          (ends ∙ ap (λ k. start + k) (sym (ap group_count tree ∙ count-numbered w start (tree_of e))));
    }

pub root_visited : (tables : VisitTables) (e : Expr) (first : ℕ) (info : Info) → first ≤ 1 → IsVisited tables e first NoLook info →
    Agree (tables_known tables) (known_of (numbered first (tree_of e))) (exprs e) → IsRootOf (numbered first (tree_of e)) info
unfolding numbered
root_visited tables e first info low visited agree = record {
  tree = visited.tree;
  sized = visited.size (known_of (numbered_within NoLook first (tree_of e))) agree;
  first = first;
  is_first = low;
  parsed = tree_of e;
  numbered = refl;
  end_group = visited.end_group ∙ ap (λ k. first + k) (sym (count-numbered NoLook first (tree_of e)));
}

pub whole_visited : (options : AnalysisOptions) (tables : VisitTables) (e : Expr) (first : ℕ) (info : Info) → first ≡ first_number options →
    IsVisited tables e first NoLook info → Suits (analysis_of (tree_of e) options) tables →
    Agree (tables_known tables) (known_of (numbered_within NoLook first (tree_of e))) (exprs e) → IsWhole (analysis_of (tree_of e) options) info
unfolding numbered
whole_visited options tables e first info is visited suits agree =
    let all = subst (λ n. Agree (tables_known tables) (known_of (numbered_within NoLook n (tree_of e))) (exprs e)) is agree in
    record {
      analysed = visited.found (analysis_of (tree_of e) options) suits all;
      root = root_visited tables e (first_number options) info (low options.explicit_capture_group_0)
          (subst (λ n. IsVisited tables e n NoLook info) is visited) all;
    }
