-- How the children of a concatenation, of an alternation and of a look-around are written.
use Rattle.std.proofs.Common.{◌≡◌, ℕ, zero, suc, ◌+◌, ◌-◌, ◌&&◌, ◌||◌, ◌==◌, Bool, true, false, not, List, [], ◌∷◌, ◌++◌, length, map, take, drop, reverse, if◌then◌else◌, true≢false, refl, sym, ap, ap₂, ◌∙◌, arith, length-drop}
use Rattle.std.specs.List.{list_all, prefix_len, suffix_len}
use Rattle.std.proofs.lemmas.List.{length-map, take-map, drop-map, take-append-drop, map-append}
use Rattle.std.proofs.lemmas.List.Folds.{length-prefix_len, list_all-map}
use Rattle.std.proofs.lemmas.List.Sums.{suffix_len-le-length}
use Rattle.fancy_meaning.specs.Tree.{Tree, trees, Concat, Alt, LookAround, LookAhead, LookAheadNeg, LookBehind, LookBehindNeg}
use Rattle.fancy_meaning.specs.Instr.{Instr}
use Rattle.fancy_meaning.specs.Sizes.{Size, size}
use Rattle.fancy_meaning.specs.Options.{Analysis}
use Rattle.fancy_code.specs.Sites.{Site}
use Rattle.fancy_meaning.specs.Batches.{batch}
use Rattle.fancy_meaning.specs.Code.{Code, nothing, one, ◌>>◌, in_turn, branches}
use Rattle.fancy_meaning.specs.Constructs.{look_code, negative_look_code, behind_code}
use Rattle.fancy_meaning.specs.Marks.{takes_nothing}
use Rattle.fancy_meaning.specs.Layout.{Part, concat_code, each_part, in_context, is_prefix, is_suffix, written, body_code}
use Rattle.fancy_info.specs.declared.info.Info.{Info}
use Rattle.fancy_info.specs.Infos.{info_tree, info_size, IsAnalysed}
use Rattle.fancy_expr.specs.Each.{Each}
use Rattle.fancy_code.specs.Drafts.{is_easy, written_code, node_code}
use Rattle.fancy_compile.specs.AnalysedNodes.{back_start, front_count, is_back, is_front}
use Rattle.fancy_compile.specs.Nodes.{codes_in_turn, codes_of_branches, codes_of_none}
use Rattle.fancy_compile.proofs.Known.{hard_child, known_child, size_known}
use Rattle.fancy_compile.proofs.Slices.{back_turned}
use Rattle.fancy_compile.proofs.EachLaws.{each_by, each_drop, each_reverse, each_take, map-reverse}

-- ---- how many are the first batch, and where the last one begins

run_mapped : {X Y : Type 0} (test : Y → Bool) (f : X → Y) (l : List X) → prefix_len test (map f l) ≡ prefix_len (λ x. test (f x)) l
run_mapped test f [] = refl
run_mapped test f (x ∷ l) = ap (λ n. if test (f x) then 1 + n else 0) (run_mapped test f l)

run_same : (f g : Info → Bool) (l : List Info) → Each (λ i. f i ≡ g i) l → prefix_len f l ≡ prefix_len g l
run_same f g [] h = refl
run_same f g (i ∷ l) h = ap₂ (λ b n. if b then 1 + n else 0) h.0 (run_same f g l h.1)

all_same : (f g : Info → Bool) (l : List Info) → Each (λ i. f i ≡ g i) l → list_all f l ≡ list_all g l
all_same f g [] h = refl
all_same f g (i ∷ l) h = ap₂ (λ b c. b && c) h.0 (all_same f g l h.1)

and_none : (b : Bool) → b ≡ (b && true)
and_none true = refl
and_none false = refl

and_later : (a b c : Bool) → ((a && b) && c) ≡ (a && (b && c))
and_later true b c = refl
and_later false b c = refl

module _ (a : Analysis) where
  -- the tests, of trees
  abbrev front_test : Tree → Bool
  front_test e = is_easy a e && (size a.tree e).is_const

  abbrev back_test : Bool → Tree → Bool
  back_test in_hard e = is_easy a e && (not in_hard || (size a.tree e).is_const)

  abbrev const_known : (i : Info) → IsAnalysed a i → (info_size i).is_const ≡ (size a.tree (info_tree i)).is_const
  const_known i h = ap (λ (z : Size). z.is_const) (size_known i a (known_child a i h))

  front_known : (i : Info) → IsAnalysed a i → is_front i ≡ front_test (info_tree i)
  front_known i h = ap₂ (λ x y. not x && y) (hard_child a i h) (const_known i h)

  back_known : (in_hard : Bool) (i : Info) → IsAnalysed a i → is_back in_hard i ≡ back_test in_hard (info_tree i)
  back_known in_hard i h = ap₂ (λ x y. not x && (not in_hard || y)) (hard_child a i h) (const_known i h)

  nothing_known : (i : Info) → IsAnalysed a i → takes_nothing a.tree (info_tree i) ≡ ((info_size i).most == 0)
  nothing_known i h = ap (λ (z : Size). z.most == 0) (sym (size_known i a (known_child a i h)))

-- ---- a concatenation of parts

module _ (p : Site) (in_hard : Bool) (ws : List Part) where
  abbrev tree_in : Part → Tree
  tree_in w = w.tree

  abbrev code_of : Part → Code
  code_of w = w.code true

  abbrev fronts : Part → Bool
  fronts = is_prefix p.plan (is_easy p.analysis)

  abbrev backs : Part → Bool
  backs = is_suffix p.plan (is_easy p.analysis) in_hard

  abbrev pub first_count : ℕ
  first_count = prefix_len fronts ws

  -- with so many first ones, the last ones, and so many between
  abbrev cut : ℕ → List Part → ℕ → Code
  cut n back m =
      batch p.unicode (map tree_in (take first_count ws)) >> in_turn (map code_of (take m (drop n ws))) >> batch p.unicode (map tree_in back)

  abbrev last_of : ℕ → List Part
  last_of n = let rest = drop n ws in reverse (take (suffix_len backs rest) (reverse rest))

  abbrev start_of : ℕ → ℕ
  start_of n = length (drop n ws) - suffix_len backs (drop n ws)

  before_last : (n : ℕ) → length (drop n ws) - length (last_of n) ≡ start_of n
  before_last n =
      let rest = drop n ws in
      omega (arith, ap length (back_turned backs rest), length-drop (length rest - suffix_len backs rest) rest, suffix_len-le-length backs rest)

  pub concat_cut : concat_code p.plan (is_easy p.analysis) ws in_hard ≡
      cut first_count (drop (start_of first_count) (drop first_count ws)) (start_of first_count)
  concat_cut =
      ap (λ n. cut n (last_of n) (length (drop n ws) - length (last_of n))) (length-prefix_len fronts ws)
      ∙ ap (cut first_count (last_of first_count)) (before_last first_count)
      ∙ ap (λ back. cut first_count back (start_of first_count)) (back_turned backs (drop first_count ws))

and_true : (a b : Bool) → (a && b) ≡ true → (a ≡ true) × (b ≡ true)
and_true true b h = (refl, h)
and_true false b h = absurd (true≢false (sym h))

else_code : (b : Bool) (x y : Code) → b ≡ false → (if b then x else y) ≡ y
else_code b x y h = ap (λ c. if c then x else y) h

module _ (p : Site) (call : ℕ → Bool → Code) where
  in_turn_codes : (at_start : Bool) (es : List Tree) → map (λ w. w.code true)
      (each_part p.plan (is_easy p.analysis) call at_start (trees es)) ≡ codes_in_turn p call at_start es
  in_turn_codes at_start [] = refl
  in_turn_codes at_start (e ∷ es) = ap (λ l. node_code p call e at_start true ∷ l) (in_turn_codes (at_start && takes_nothing p.analysis.tree e) es)

  branch_codes : (in_hard : Bool) (es : List Tree) → map (λ w. w.code in_hard)
      (each_part p.plan (is_easy p.analysis) call false (trees es)) ≡ codes_of_branches p call false in_hard es
  branch_codes in_hard [] = refl
  branch_codes in_hard (e ∷ es) = ap (λ l. node_code p call e false in_hard ∷ l) (branch_codes in_hard es)

  codes_behind : (n : ℕ) (at_start : Bool) (es : List Tree) → drop n (codes_in_turn p call at_start es) ≡
      codes_in_turn p call (at_start && list_all (takes_nothing p.analysis.tree) (take n es)) (drop n es)
  codes_behind zero at_start es = ap (λ b. codes_in_turn p call b es) (and_none at_start)
  codes_behind (suc n) at_start [] = refl
  codes_behind (suc n) at_start (e ∷ es) =
      codes_behind n (at_start && takes_nothing p.analysis.tree e) es
      ∙ ap (λ b. codes_in_turn p call b (drop n es))
      (and_later at_start (takes_nothing p.analysis.tree e) (list_all (takes_nothing p.analysis.tree) (take n es)))

  codes_first : (m : ℕ) (at_start : Bool) (es : List Tree) → take m (codes_in_turn p call at_start es) ≡ codes_in_turn p call at_start (take m es)
  codes_first zero at_start es = refl
  codes_first (suc m) at_start [] = refl
  codes_first (suc m) at_start (e ∷ es) =
      ap (λ l. node_code p call e at_start true ∷ l) (codes_first m (at_start && takes_nothing p.analysis.tree e) es)

  part_trees : (at_start : Bool) (es : List Tree) → map (λ w. w.tree) (each_part p.plan (is_easy p.analysis) call at_start (trees es)) ≡ es
  part_trees at_start [] = refl
  part_trees at_start (e ∷ es) = ap (λ l. e ∷ l) (part_trees (at_start && takes_nothing p.analysis.tree e) es)

  -- the children of a concatenation, as they were analysed
  module _ (at_start in_hard : Bool) (is : List Info) (each : Each (IsAnalysed p.analysis) is) where
    abbrev child_trees : List Tree
    child_trees = map info_tree is

    abbrev child_parts : List Part
    child_parts = each_part p.plan (is_easy p.analysis) call at_start (trees child_trees)

    abbrev n : ℕ
    n = front_count is

    abbrev rest : List Info
    rest = drop n is

    abbrev m : ℕ
    m = back_start in_hard rest

    same_front : first_count p in_hard child_parts ≡ n
    same_front =
        sym (run_mapped (front_test p.analysis) (λ w. w.tree) child_parts)
        ∙ ap (prefix_len (front_test p.analysis)) (part_trees at_start child_trees)
        ∙ run_mapped (front_test p.analysis) info_tree is
        ∙ sym (run_same is_front (λ i. front_test p.analysis (info_tree i)) is
        (each_by (IsAnalysed p.analysis) (λ i. is_front i ≡ front_test p.analysis (info_tree i)) (front_known p.analysis) is each))

    trees_behind : map (λ w. w.tree) (drop n child_parts) ≡ map info_tree rest
    trees_behind = sym (drop-map (λ w. w.tree) n child_parts) ∙ ap (drop n) (part_trees at_start child_trees) ∙ drop-map info_tree n is

    same_suffix : suffix_len (λ w. back_test p.analysis in_hard w.tree) (drop n child_parts) ≡ suffix_len (is_back in_hard) rest
    same_suffix =
        let test = back_test p.analysis in_hard in
        sym (run_mapped test (λ w. w.tree) (reverse (drop n child_parts)))
        ∙ ap (prefix_len test)
        (map-reverse (λ w. w.tree) (drop n child_parts) ∙ ap reverse trees_behind ∙ sym (map-reverse info_tree rest))
        ∙ run_mapped test info_tree (reverse rest)
        ∙ sym (run_same (is_back in_hard) (λ i. test (info_tree i)) (reverse rest)
        (each_by (IsAnalysed p.analysis) (λ i. is_back in_hard i ≡ test (info_tree i)) (back_known p.analysis in_hard) (reverse rest)
        (each_reverse (IsAnalysed p.analysis) rest (each_drop (IsAnalysed p.analysis) n is each))))

    same_length : length (drop n child_parts) ≡ length rest
    same_length = sym (length-map (drop n child_parts) (λ w. w.tree)) ∙ ap length trees_behind ∙ length-map rest info_tree

    same_start : start_of p in_hard child_parts n ≡ m
    same_start = ap₂ (λ x y. x - y) same_length same_suffix

    -- the mark goes on past the first batch
    abbrev pub is_first : Bool
    is_first = at_start && list_all (λ i. (info_size i).most == 0) (take n is)

    same_mark : (at_start && list_all (takes_nothing p.analysis.tree) (take n child_trees)) ≡ is_first
    same_mark =
        ap (λ l. at_start && list_all (takes_nothing p.analysis.tree) l) (take-map info_tree n is)
        ∙ ap (λ b. at_start && b) (list_all-map (takes_nothing p.analysis.tree) info_tree (take n is)
        ∙ all_same (λ i. takes_nothing p.analysis.tree (info_tree i)) (λ i. (info_size i).most == 0) (take n is)
        (each_by (IsAnalysed p.analysis) (λ i. takes_nothing p.analysis.tree (info_tree i) ≡ ((info_size i).most == 0)) (nothing_known p.analysis) (take n is)
        (each_take (IsAnalysed p.analysis) n is each)))

    front_trees : map (λ w. w.tree) (take n child_parts) ≡ map info_tree (take n is)
    front_trees = sym (take-map (λ w. w.tree) n child_parts) ∙ ap (take n) (part_trees at_start child_trees) ∙ take-map info_tree n is

    middle_codes : map (λ w. w.code true) (take m (drop n child_parts)) ≡ codes_in_turn p call is_first (map info_tree (take m rest))
    middle_codes =
        sym (take-map (λ w. w.code true) m (drop n child_parts))
        ∙ ap (take m) (sym (drop-map (λ w. w.code true) n child_parts) ∙ ap (drop n) (in_turn_codes at_start child_trees) ∙ codes_behind n at_start child_trees)
        ∙ codes_first m (at_start && list_all (takes_nothing p.analysis.tree) (take n child_trees)) (drop n child_trees)
        ∙ ap₂ (codes_in_turn p call) same_mark (ap (take m) (drop-map info_tree n is) ∙ take-map info_tree m rest)

    back_trees : map (λ w. w.tree) (drop m (drop n child_parts)) ≡ map info_tree (drop m rest)
    back_trees = sym (drop-map (λ w. w.tree) m (drop n child_parts)) ∙ ap (drop m) trees_behind ∙ drop-map info_tree m rest

    abbrev of_counts : ℕ → ℕ → Code
    of_counts k j =
        batch p.unicode (map (λ w. w.tree) (take k child_parts)) >> in_turn (map (λ w. w.code true) (take j (drop k child_parts)))
        >> batch p.unicode (map (λ w. w.tree) (drop j (drop k child_parts)))

    abbrev of_lists : List Tree → List Code → List Tree → Code
    of_lists front codes back = batch p.unicode front >> in_turn codes >> batch p.unicode back

    pub concat_by : written_code p call (Concat (trees child_trees)) at_start in_hard ≡
        (batch p.unicode (map info_tree (take n is)) >> in_turn (codes_in_turn p call is_first (map info_tree (take m rest)))
        >> batch p.unicode (map info_tree (drop m rest)))
    concat_by =
        concat_cut p in_hard child_parts
        ∙ ap (λ k. of_counts k (start_of p in_hard child_parts k)) same_front
        ∙ ap (of_counts n) same_start
        ∙ ap (λ l. of_lists l (map (λ w. w.code true) (take m (drop n child_parts))) (map (λ w. w.tree) (drop m (drop n child_parts)))) front_trees
        ∙ ap (λ l. of_lists (map info_tree (take n is)) l (map (λ w. w.tree) (drop m (drop n child_parts)))) middle_codes
        ∙ ap (of_lists (map info_tree (take n is)) (codes_in_turn p call is_first (map info_tree (take m rest)))) back_trees

    -- they are all of them
    pub concat_parts : (map info_tree (take n is) ++ (map info_tree (take m rest) ++ map info_tree (drop m rest))) ≡ child_trees
    concat_parts =
        ap (λ l. map info_tree (take n is) ++ l) (sym (map-append info_tree (take m rest) (drop m rest)) ∙ ap (map info_tree) (take-append-drop m rest))
        ∙ sym (map-append info_tree (take n is) rest) ∙ ap (map info_tree) (take-append-drop n is)

  pub alt_by : (at_start in_hard : Bool) (es : List Tree) → written_code p call (Alt (trees es)) at_start in_hard ≡ branches
      (codes_of_branches p call false in_hard es)
  alt_by at_start in_hard es = ap branches (branch_codes in_hard es)

  -- ---- look-around, of an alternation too

  pub ahead_by : (at_start in_hard : Bool) (e : Tree)
      → written_code p call (LookAround LookAhead e) at_start in_hard ≡ look_code (node_code p call e false false)
  ahead_by at_start in_hard (Alt es) = refl
  ahead_by at_start in_hard e = refl

  pub negative_by : (at_start in_hard : Bool) (e : Tree) → written_code p call (LookAround LookAheadNeg e) at_start in_hard ≡ negative_look_code
      (node_code p call e false false)
  negative_by at_start in_hard (Alt es) = refl
  negative_by at_start in_hard e = refl

  abbrev const : Tree → Bool
  const e = (size p.analysis.tree e).is_const

  abbrev least : Tree → ℕ
  least e = (size p.analysis.tree e).least

  -- a lookbehind where the body has a constant size, and where it has not
  behind_if : (b : Bool) (look : Code → Code) (n : ℕ) (body other : Code) → b ≡ true
      → (if b then (if b then look (one (Instr.GoBack n) >> body) else nothing) else other) ≡ look (one (Instr.GoBack n) >> body)
  behind_if true look n body other h = refl
  behind_if false look n body other h = absurd (true≢false (sym h))

  -- what is written over branches, whose places are not those of the body
  abbrev in_parts : (List Code → Code) → (Code → Code) → Tree → Code
  in_parts all look (Alt es) = all (map (behind_code look) (map (body_code p.plan) (each_part p.plan (is_easy p.analysis) call false es)))
  in_parts all look e = all []

  pub behind_by : (at_start in_hard : Bool) (e : Tree) → const e ≡ true → written_code p call (LookAround LookBehind e) at_start in_hard ≡ look_code
      (one (Instr.GoBack (least e)) >> node_code p call e false false)
  behind_by at_start in_hard (Alt es) h = behind_if (const (Alt es)) look_code (least (Alt es)) (node_code p call (Alt es) false false)
      (in_parts branches look_code (Alt es)) h
  behind_by at_start in_hard e h = behind_if (const e) look_code (least e) (node_code p call e false false) (branches []) h

  pub not_behind_by : (at_start in_hard : Bool) (e : Tree) → const e ≡ true
      → written_code p call (LookAround LookBehindNeg e) at_start in_hard ≡ negative_look_code (one (Instr.GoBack (least e)) >> node_code p call e false false)
  not_behind_by at_start in_hard (Alt es) h = behind_if (const (Alt es)) negative_look_code (least (Alt es)) (node_code p call (Alt es) false false)
      (in_parts in_turn negative_look_code (Alt es)) h
  not_behind_by at_start in_hard e h = behind_if (const e) negative_look_code (least e) (node_code p call e false false) (in_turn []) h

  -- of branches that have constant sizes
  abbrev pub AllConst : List Tree → Type 0
  AllConst es = list_all const es ≡ true

  one_behind : (look : Code → Code) (e : Tree) → const e ≡ true → behind_code look
      (body_code p.plan (record { tree = e; code = in_context p.plan (is_easy p.analysis) e (written p.plan (is_easy p.analysis) call e false) })) ≡ look
      (one (Instr.GoBack (least e)) >> node_code p call e false false)
  one_behind look e h = ap (λ b. if b then look (one (Instr.GoBack (least e)) >> node_code p call e false false) else nothing) h

  behind_branches : (es : List Tree) → AllConst es → map (behind_code look_code)
      (map (body_code p.plan) (each_part p.plan (is_easy p.analysis) call false (trees es))) ≡ codes_of_branches p call true false es
  behind_branches [] h = refl
  behind_branches (e ∷ es) h =
      let both = and_true (const e) (list_all const es) h in
      ap (λ c. c ∷ map (behind_code look_code) (map (body_code p.plan) (each_part p.plan (is_easy p.analysis) call false (trees es))))
      (one_behind look_code e both.0)
      ∙ ap (λ l. look_code (one (Instr.GoBack (least e)) >> node_code p call e false false) ∷ l) (behind_branches es both.1)

  none_behind : (es : List Tree) → AllConst es → map (behind_code negative_look_code)
      (map (body_code p.plan) (each_part p.plan (is_easy p.analysis) call false (trees es))) ≡ codes_of_none p call es
  none_behind [] h = refl
  none_behind (e ∷ es) h =
      let both = and_true (const e) (list_all const es) h in
      ap (λ c. c ∷ map (behind_code negative_look_code) (map (body_code p.plan) (each_part p.plan (is_easy p.analysis) call false (trees es))))
      (one_behind negative_look_code e both.0)
      ∙ ap (λ l. negative_look_code (one (Instr.GoBack (least e)) >> node_code p call e false false) ∷ l) (none_behind es both.1)

  pub behind_alt_by : (at_start in_hard : Bool) (es : List Tree) → const (Alt (trees es)) ≡ false → AllConst es
      → written_code p call (LookAround LookBehind (Alt (trees es))) at_start in_hard ≡ branches (codes_of_branches p call true false es)
  behind_alt_by at_start in_hard es varies h =
      else_code (const (Alt (trees es))) (behind_code look_code (size p.analysis.tree (Alt (trees es)), node_code p call (Alt (trees es)) false false))
      (in_parts branches look_code (Alt (trees es))) varies ∙ ap branches (behind_branches es h)

  pub not_behind_alt_by : (at_start in_hard : Bool) (es : List Tree) → const (Alt (trees es)) ≡ false → AllConst es
      → written_code p call (LookAround LookBehindNeg (Alt (trees es))) at_start in_hard ≡ in_turn (codes_of_none p call es)
  not_behind_alt_by at_start in_hard es varies h =
      else_code (const (Alt (trees es)))
      (behind_code negative_look_code (size p.analysis.tree (Alt (trees es)), node_code p call (Alt (trees es)) false false))
      (in_parts in_turn negative_look_code (Alt (trees es))) varies ∙ ap in_turn (none_behind es h)
