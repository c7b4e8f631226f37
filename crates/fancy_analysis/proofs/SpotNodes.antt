-- The spots of a tree, child by child, and where a reference stands behind a call of its group.
use Rattle.std.proofs.Common.{◌≡◌, ℕ, ◌+◌, ◌<◌, ◌≤◌, Bool, true, false, List, [], ◌∷◌, ◌++◌, length, map, drop, get_or, filter_map, Option, Some, if◌then◌else◌, refl, sym, ap, ◌∙◌, ◌==◌, arith, append-nil, append_assoc, zero, suc, ⊎_elim, ◌&&◌, ◌||◌, Contains}
use Rattle.std.specs.List.{cons_option, list_any}
use Rattle.std.proofs.lemmas.List.Elements.{filter_map-append}
use Rattle.std.proofs.lemmas.List.{length-map, drop_all}
use Rattle.fancy_meaning.specs.Tree.{Tree, trees, Trees, Within, Group, Backref, SubroutineCall}
use Rattle.fancy_meaning.specs.Sizes.{known_of, size}
use Rattle.fancy_meaning.specs.Spots.{Around, Spot, spot, spots, all_spots, spots_in_turn, spots_of_each, past}
use Rattle.fancy_info.specs.declared.info.Info.{Info}
use Rattle.fancy_analysis.specs.declared.links.Link.{Link}
use Rattle.fancy_expr.specs.declared.expr.Absent.{Absent}
use Rattle.fancy_expr.specs.declared.expr.Expr.{Expr}
use Rattle.fancy_expr.specs.Exprs.{below, below_absent}
use Rattle.fancy_info.specs.Infos.{nth, absent_over, node_over, info_tree, info_size, info_children, info_facts}
use Rattle.fancy_analysis.specs.Made.{IsSizedNode, IsSized}
use Rattle.fancy_analysis.specs.Links.{around_inside, follows, link_from, link_of, links_at, links_of}
use Rattle.fancy_analysis.specs.LateReads.{own_inside, meet, met_over, is_late, is_own_call, is_read_late}
use Rattle.fancy_info.proofs.Children.{rest_at}
use Rattle.fancy_info.proofs.Unfolded.{tree_out, each_here}
use Rattle.fancy_analysis.proofs.InfoNodes.{absent_alike, sized_parts}
use Rattle.std.specs.Prelude.{slice_get}
use Rattle.std.proofs.lemmas.Bool.{and_from, and_parts, eqb-true, eq-eqb, or_cases, or_left, or_right}
use Rattle.std.proofs.Math.Bool.{and-false, or-false}
use Rattle.std.proofs.lemmas.List.Sums.{fold-append}
use Rattle.std.proofs.lemmas.Option.{none-some, same_Some}
use Rattle.fancy_meaning.specs.Nodes.{nodes, as_group, groups}
use Rattle.fancy_meaning.specs.AnalysisRefusals.{ReadsAfterCall, is_back_to, spots_in_group}
use Rattle.fancy_analysis.specs.declared.late_reads.Met.{Met}
use Rattle.fancy_expr.proofs.Listed.{true_false, false_true, any_passes}
use Rattle.fancy_analysis.proofs.RefusalNodes.{some_there}
use Rattle.fancy_meaning.specs.Tree as plain
use Rattle.fancy_expr.specs.declared.expr.Absent.TheVariants as code_absent
use Rattle.fancy_expr.specs.declared.expr.Expr.TheVariants as code

module _ (whole : Tree) where
  -- the spots of children, from this one on
  abbrev pub chain : (ℕ → Bool) → Around → Around → ℕ → List Tree → List Spot
  chain follow first next i [] = []
  chain follow first next i (t ∷ ts) = spots whole next t ++ chain follow first (if follow i then past whole t next else first) (i + 1) ts

  in_turn : (first next : Around) (i : ℕ) (ts : List Tree) → spots_in_turn whole next (trees ts) ≡ chain (λ _. true) first next i ts
  in_turn first next i [] = refl
  in_turn first next i (t ∷ ts) = ap (λ l. spots whole next t ++ l) (in_turn first (past whole t next) (i + 1) ts)

  of_each : (a : Around) (i : ℕ) (ts : List Tree) → spots_of_each whole a (trees ts) ≡ chain (λ _. false) a a i ts
  of_each a i [] = refl
  of_each a i (t ∷ ts) = ap (λ l. spots whole a t ++ l) (of_each a (i + 1) ts)

  one_below : (a : Around) (ts : List Tree) → length ts ≡ 1 → spots whole a (nth (trees ts) 0) ≡ chain (λ _. false) a a 0 ts
  one_below a [] h = absurd (omega arith)
  one_below a (t ∷ []) h = sym (append-nil (spots whole a t))
  one_below a (t ∷ u ∷ ts) h = absurd (omega arith)

  two_below : (a : Around) (ts : List Tree) → length ts ≡ 2 → spots whole a (nth (trees ts) 0) ++ spots whole a (nth (trees ts) 1) ≡ chain (λ _. false) a a 0 ts
  two_below a [] h = absurd (omega arith)
  two_below a (t ∷ []) h = absurd (omega arith)
  two_below a (t ∷ u ∷ []) h = ap (λ l. spots whole a t ++ l) (sym (append-nil (spots whole a u)))
  two_below a (t ∷ u ∷ v ∷ ts) h = absurd (omega arith)

  three_below : (a : Around) (ts : List Tree) → length ts ≡ 3 →
      spots whole a (nth (trees ts) 0) ++ (spots whole (past whole (nth (trees ts) 0) a) (nth (trees ts) 1) ++ spots whole a (nth (trees ts) 2))
      ≡ chain (λ i. i == 0) a a 0 ts
  three_below a [] h = absurd (omega arith)
  three_below a (t ∷ []) h = absurd (omega arith)
  three_below a (t ∷ u ∷ []) h = absurd (omega arith)
  three_below a (t ∷ u ∷ v ∷ []) h = ap (λ l. spots whole a t ++ (spots whole (past whole t a) u ++ l)) (sym (append-nil (spots whole a v)))
  three_below a (t ∷ u ∷ v ∷ w ∷ ts) h = absurd (omega arith)

  none_below : (follow : ℕ → Bool) (a : Around) (ts : List Tree) → length ts ≡ 0 → [] ≡ chain follow a a 0 ts
  none_below follow a [] h = refl
  none_below follow a (t ∷ ts) h = absurd (omega arith)

  heads : (a : Around) (t : Tree) (l m : List Spot) → l ≡ m → spot a t ∷ l ≡ spot a t ∷ m
  heads a t l m e = ap (λ x. spot a t ∷ x) e

  absent_spots : (e : Absent) (a : Around) (ts : List Tree) → length ts ≡ length (below_absent e) →
      spots whole a (absent_over e (trees ts)) ≡ spot a (absent_over e (trees ts)) ∷ chain (λ _. false) a a 0 ts
  absent_spots (code_absent.Repeater' b e) a ts h = heads a _ _ _ (one_below a ts h)
  absent_spots (code_absent.Expression' b x c e) a ts h = heads a _ _ _ (two_below a ts h)
  absent_spots (code_absent.Stopper' b e) a ts h = heads a _ _ _ (one_below a ts h)
  absent_spots code_absent.Clear a ts h = heads a _ _ _ (none_below (λ _. false) a ts h)

  -- the spots of a node over its children
  over_spots : (e : Expr) (n : ℕ) (w : plain.Within) (a : Around) (ts : List Tree) → length ts ≡ length (below e) →
      spots whole a (node_over e n w (trees ts)) ≡ spot a (node_over e n w (trees ts)) ∷ chain (follows e) (around_inside e n a) (around_inside e n a) 0 ts
  over_spots (code.Concat' shape row) n w a ts h = heads a _ _ _ (in_turn a a 0 ts)
  over_spots (code.Alt' shape row) n w a ts h = heads a _ _ _ (of_each a 0 ts)
  over_spots (code.Group' b e) n w a ts h = heads a _ _ _ (one_below _ ts h)
  over_spots (code.LookAround' b e look) n w a ts h = heads a _ _ _ (one_below a ts h)
  over_spots (code.Repeat' b e lo hi greedy) n w a ts h = heads a _ _ _ (one_below _ ts h)
  over_spots (code.AtomicGroup' b e) n w a ts h = heads a _ _ _ (one_below a ts h)
  over_spots (code.Conditional' b c d t x f) n w a ts h = heads a _ _ _ (three_below a ts h)
  over_spots (code.Absent e) n w a ts h = absent_spots e a ts h
  over_spots (code.DefineGroup' b e) n w a ts h = heads a _ _ _ (one_below _ ts h)
  over_spots e n w a ts h = heads a _ _ _ (none_below (follows e) a ts h)

pub spots-below : (whole : Tree) (a : Around) (i : Info) → IsSized (known_of whole) i →
    spots whole a (info_tree i)
    ≡ spot a (info_tree i) ∷ chain whole (follows (info_facts i).expr) (around_inside (info_facts i).expr (info_facts i).start_group a)
    (around_inside (info_facts i).expr (info_facts i).start_group a) 0 (map info_tree (info_children i))
spots-below whole a i sized =
    let f = info_facts i in
    let ts = map info_tree (info_children i) in
    let inside = around_inside f.expr f.start_group a in
    ap (spots whole a) (tree_out i)
    ∙ over_spots whole f.expr f.start_group f.within a ts (length-map (info_children i) info_tree ∙ sized_parts (known_of whole) i sized)
    ∙ ap (λ t. spot a t ∷ chain whole (follows f.expr) inside inside 0 ts) (sym (tree_out i))

-- a child's size is that of its tree
pub child_size : (whole : Tree) (i : Info) → IsSized (known_of whole) i → info_size i ≡ size whole (info_tree i)
child_size whole i sized = (each_here (IsSizedNode (known_of whole)) i sized).size ∙ ap (size whole) (sym (tree_out i))

-- ---- a walk, which comes from what it has to another by the spots that it passes

module _ {X : Type 0} (act : X → List Spot → X) (whole : Tree) (i : Info) (a : Around) where
  abbrev inside : Around
  inside = around_inside (info_facts i).expr (info_facts i).start_group a

  -- the spots from child n on
  abbrev rest_of : Around → ℕ → List Info → List Spot
  rest_of next n cs = chain whole (follows (info_facts i).expr) inside next n (map info_tree cs)

  -- the next child stands so, and what is left leads to what the walk comes to
  pub record IsOnWay (At : Around → Type 0) (all now : X) (n : ℕ) : Type 0 where
    pub around : Around
    pub stands : At around
    pub completes : act now (rest_of around n (drop n (info_children i))) ≡ all

  pub on_way_all : ((x : X) → act x [] ≡ x) → (At : Around → Type 0) (all now : X) (n : ℕ) → length (info_children i) ≤ n → IsOnWay At all now n →
      now ≡ all
  on_way_all nothing At all now n h w = sym (nothing now) ∙ sym (ap (λ cs. act now (rest_of w.around n cs)) (drop_all n (info_children i) h)) ∙ w.completes

  module _ (joins : (x : X) (p q : List Spot) → act x (p ++ q) ≡ act (act x p) q) where
    pub on_way_first : (At : Around → Type 0) (before now : X) → IsSized (known_of whole) i → At inside → now ≡ act before (spot a (info_tree i) ∷ []) →
        IsOnWay At (act before (spots whole a (info_tree i))) now 0
    on_way_first At before now sized at own = record {
      around = inside;
      stands = at;
      completes = ap (λ x. act x (rest_of inside 0 (info_children i))) own
          ∙ sym (joins before (spot a (info_tree i) ∷ []) (rest_of inside 0 (info_children i)))
          ∙ ap (act before) (sym (spots-below whole a i sized));
    }

    -- past a child
    pub on_way_more : (At Next : Around → Type 0) (all now after : X) (n : ℕ) (child : Info) → n < length (info_children i) →
        child ≡ get_or (info_children i) n child → (w : IsOnWay At all now n) → after ≡ act now (spots whole w.around (info_tree child)) →
        Next (if follows (info_facts i).expr n then past whole (info_tree child) w.around else inside) → IsOnWay Next all after (n + 1)
    on_way_more At Next all now after n child h at w added stands =
        let behind = if follows (info_facts i).expr n then past whole (info_tree child) w.around else inside in
        let rest = rest_of behind (n + 1) (drop (n + 1) (info_children i)) in
        record {
          around = behind;
          stands = stands;
          completes = ap (λ x. act x rest) added
              ∙ sym (joins now (spots whole w.around (info_tree child)) rest)
              ∙ sym (ap (λ cs. act now (rest_of w.around n cs)) (rest_at (info_children i) n child h at))
              ∙ w.completes;
        }

-- ---- the links

abbrev pub more_links : List Link → List Spot → List Link
more_links links ss = links ++ filter_map link_of ss

pub links-join : (links : List Link) (p q : List Spot) → more_links links (p ++ q) ≡ more_links (more_links links p) q
links-join links p q = ap (λ l. links ++ l) (filter_map-append link_of p q) ∙ sym (append_assoc links (filter_map link_of p) (filter_map link_of q))

pub own_added : (i : Info) (a : Around) (before after : List Link) (o : Option Link) →
    o ≡ link_from (node_over (info_facts i).expr (info_facts i).start_group (info_facts i).within (trees (map info_tree (info_children i)))) a →
    after ≡ before ++ cons_option o [] → after ≡ more_links before (spot a (info_tree i) ∷ [])
own_added i a before after o is added = added ∙ ap (λ x. before ++ cons_option x []) (is ∙ ap (λ t. link_from t a) (sym (tree_out i)))

pub links-whole : (whole t : Tree) → t ≡ whole → links_at whole (record { owner = 0; position = 0; is_skipped = false }) t ≡ links_of whole
unfolding links_at links_of all_spots
links-whole whole t e = ap (λ x. filter_map link_of (spots whole (record { owner = 0; position = 0; is_skipped = false }) x)) e

-- ---- the own group

pub own-inside : (g : ℕ) (e : Expr) (n : ℕ) (a : Around) → ((around_inside e n a).owner == g) ≡ own_inside e n g (a.owner == g)
own-inside g (code.Group' b e) n a = refl
own-inside g (code.DefineGroup' b e) n a = refl
own-inside g (code.Repeat' b e lo hi greedy) n a = refl
own-inside g e n a = refl

-- where the next child stands, the own group is that of the node before it, or that inside
pub owner_kept : (P : ℕ → Type 0) (whole t : Tree) (b : Bool) (next first : Around) → P next.owner → P first.owner →
    P (if b then past whole t next else first).owner
owner_kept P whole t true next first p q = p
owner_kept P whole t false next first p q = q

-- ---- what a walk meets

pub met-append : (g : ℕ) (m : Met) (xs ys : List Spot) → met_over g m (xs ++ ys) ≡ met_over g (met_over g m xs) ys
met-append g m xs ys = fold-append (λ m s. meet g (s.owner == g) s.node m) m xs ys

abbrev reads : ℕ → List Spot → Bool
reads g ss = list_any (λ s. is_back_to g s.node) ss

-- what was met before, or is met in these nodes
abbrev in_all : Met → Bool → Bool → Bool
in_all m read late = (m.read_after || (m.call && read)) || late

past_call : (r c k y l : Bool) → ((r || ((c || k) && y)) || l) ≡ ((r || (c && y)) || ((k && y) || l))
past_call true c k y l = refl
past_call false true k true l = refl
past_call false true true false l = refl
past_call false true false false l = refl
past_call false false k y l = refl

past_read : (r c q y l : Bool) → (((r || (c && q)) || (c && y)) || l) ≡ ((r || (c && (q || y))) || l)
past_read true c q y l = refl
past_read false true q y l = refl
past_read false false q y l = refl

past_none : (r c : Bool) → r ≡ ((r || (c && false)) || false)
past_none r c = sym (or-false (r || (c && false)) ∙ ap (λ b. r || b) (and-false c) ∙ or-false r)

module _ (g : ℕ) where
  past_node : (own : Bool) (t : Tree) (m : Met) (y l : Bool) → in_all (meet g own t m) y l ≡ in_all m (is_back_to g t || y) ((is_own_call g own t && y) || l)
  past_node own (SubroutineCall h) m y l = past_call m.read_after m.call (own && h == g) y l
  past_node own (Backref h casei) m y l = past_read m.read_after m.call (h == g) y l
  past_node own t m y l = refl

  met-late : (m : Met) (ss : List Spot) → (met_over g m ss).read_after ≡ in_all m (reads g ss) (is_late g ss)
  met-late m [] = past_none m.read_after m.call
  met-late m (s ∷ ss) = met-late (meet g (s.owner == g) s.node m) ss ∙ past_node (s.owner == g) s.node m (reads g ss) (is_late g ss)

  -- ---- where they are

  reference : (t : Tree) → is_back_to g t ≡ true → (casei : Bool) × (t ≡ Backref g casei)
  reference (Backref h casei) is = (casei, ap (λ n. Backref n casei) (eqb-true h g is))
  reference t is = absurd (false_true is)

  own_call : (own : Bool) (t : Tree) → is_own_call g own t ≡ true → (own ≡ true) × (t ≡ SubroutineCall g)
  own_call own (SubroutineCall h) is = let both = and_parts own (h == g) is in (both.0, ap SubroutineCall (eqb-true h g both.1))
  own_call own t is = absurd (false_true is)

  reads_at : (ss : List Spot) → reads g ss ≡ true → (k : ℕ) × (s : Spot) × (casei : Bool) × (slice_get ss k ≡ Some s) × (s.node ≡ Backref g casei)
  reads_at [] h = absurd (false_true h)
  reads_at (s ∷ ss) h =
      ⊎_elim
      (λ here. let is = reference s.node here in (0, s, is.0, refl, is.1))
      (λ later. let r = reads_at ss later in (suc r.0, r.1, r.2, r.3, r.4))
      (or_cases (is_back_to g s.node) (reads g ss) h)

  -- of the spots of a group's body, these are from the n-th on
  late_at : (whole body : Tree) → Contains (groups whole) (g, body) → (ss : List Spot) (n : ℕ) →
      ((k : ℕ) → slice_get (spots_in_group whole g body) (n + k) ≡ slice_get ss k) → is_late g ss ≡ true → ReadsAfterCall whole g
  late_at whole body there [] n at h = absurd (false_true h)
  late_at whole body there (s ∷ ss) n at h =
      ⊎_elim
      (λ here.
      let both = and_parts (is_own_call g (s.owner == g) s.node) (reads g ss) here in
      let call = own_call (s.owner == g) s.node both.0 in
      let r = reads_at ss both.1 in
      record {
        body = body;
        is_group = there;
        at_call = n + 0;
        at_read = n + suc r.0;
        in_order = omega arith;
        call = s;
        is_there = at 0;
        is_call = call.1;
        is_own = eqb-true s.owner g call.0;
        read = r.1;
        casei = r.2;
        is_read = at (suc r.0) ∙ r.3;
        is_reference = r.4;
      })
      (λ later. late_at whole body there ss (suc n) (λ k. let up : suc n + k ≡ n + suc k = omega arith in
      ap (slice_get (spots_in_group whole g body)) up ∙ at (suc k)) later)
      (or_cases (is_own_call g (s.owner == g) s.node && reads g ss) (is_late g ss) h)

  reads_found : (ss : List Spot) (k : ℕ) (s : Spot) (casei : Bool) → slice_get ss k ≡ Some s → s.node ≡ Backref g casei → reads g ss ≡ true
  reads_found [] k s casei at is = absurd (none-some s at)
  reads_found (x ∷ ss) zero s casei at is =
      or_left _ _ (ap (λ y. is_back_to g y.node) (same_Some x s at) ∙ ap (is_back_to g) is ∙ eq-eqb g g refl)
  reads_found (x ∷ ss) (suc k) s casei at is = or_right _ _ (reads_found ss k s casei at is)

  late_found : (ss : List Spot) (i j : ℕ) (c s : Spot) (casei : Bool) → i < j → slice_get ss i ≡ Some c → c.node ≡ SubroutineCall g → c.owner ≡ g →
      slice_get ss j ≡ Some s → s.node ≡ Backref g casei → is_late g ss ≡ true
  late_found [] i j c s casei lt at call own at_read read = absurd (none-some c at)
  late_found (x ∷ ss) i zero c s casei lt at call own at_read read = absurd (omega (arith, lt))
  late_found (x ∷ ss) zero (suc j) c s casei lt at call own at_read read =
      or_left _ _ (and_from _ _ (ap (λ y. is_own_call g (y.owner == g) y.node) (same_Some x c at) ∙ ap (is_own_call g (c.owner == g)) call
      ∙ and_from _ _ (eq-eqb c.owner g own) (eq-eqb g g refl)) (reads_found ss j s casei at_read read))
  late_found (x ∷ ss) (suc i) (suc j) c s casei lt at call own at_read read =
      or_right _ _ (late_found ss i j c s casei (omega (arith, lt)) at call own at_read read)

-- ---- the groups of a tree

abbrev late_in : Tree → ℕ × Tree → Bool
late_in whole h = is_late h.0 (spots_in_group whole h.0 h.1)

any-late : (whole : Tree) (es : List Tree) → list_any (is_read_late whole) es ≡ list_any (late_in whole) (filter_map as_group es)
any-late whole [] = refl
any-late whole (Group g e ∷ es) = ap (λ b. is_late g (spots_in_group whole g e) || b) (any-late whole es)
any-late whole (e ∷ es) = any-late whole es

pub read_late : (whole : Tree) → list_any (is_read_late whole) (nodes whole) ≡ true → (g : ℕ) × ReadsAfterCall whole g
unfolding groups
read_late whole h =
    let some = some_there (late_in whole) (filter_map as_group (nodes whole)) (sym (any-late whole (nodes whole)) ∙ h) in (
      some.0.0,
      late_at some.0.0 whole some.0.1 some.1 (spots_in_group whole some.0.0 some.0.1) 0
          (λ k. let none : 0 + k ≡ k = omega arith in ap (slice_get (spots_in_group whole some.0.0 some.0.1)) none) some.2,
    )

pub no_read_late : (whole : Tree) → list_any (is_read_late whole) (nodes whole) ≡ false → (g : ℕ) → ¬ ReadsAfterCall whole g
unfolding groups
no_read_late whole h g r =
    let late = late_found g (spots_in_group whole g r.body) r.at_call r.at_read r.call r.read r.casei r.in_order r.is_there r.is_call r.is_own r.is_read r.is_reference in
    true_false (sym (any_passes (late_in whole) (filter_map as_group (nodes whole)) (g, r.body) r.is_group late) ∙ sym (any-late whole (nodes whole)) ∙ h)

-- ---- a group, and what is none

abbrev pub at_group : ℕ → Around
at_group g = record { owner = g; position = 0; is_skipped = false }

pub late_group : (whole t : Tree) (g : ℕ) (e : Tree) → t ≡ Group g e →
    (met_over g (record { call = false; read_after = false }) (spots whole (at_group g) t)).read_after ≡ is_read_late whole t
late_group whole t g e is =
    ap (λ x. (met_over g (record { call = false; read_after = false }) (spots whole (at_group g) x)).read_after) is
    ∙ met-late g (record { call = false; read_after = false }) (spots_in_group whole g e)
    ∙ sym (ap (is_read_late whole) is)

over_late : (whole : Tree) (e : Expr) (n : ℕ) (w : Within) (ts : Trees) → ((x : _) → e ≡ code.Group x → ⊥) → is_read_late whole (node_over e n w ts) ≡ false
over_late whole (code.Group' b x) n w ts h = absurd (h _ refl)
over_late whole (code.Absent a) n w ts h = absent_alike (is_read_late whole) false (λ y. refl) (λ y z. refl) (λ y. refl) refl a ts
over_late whole e n w ts h = refl

pub no_group_late : (whole : Tree) (i : Info) → ((x : _) → (info_facts i).expr ≡ code.Group x → ⊥) → is_read_late whole (info_tree i) ≡ false
no_group_late whole i h =
    let f = info_facts i in
    ap (is_read_late whole) (tree_out i) ∙ over_late whole f.expr f.start_group f.within (trees (map info_tree (info_children i))) h
