-- The code of each node fits, where that of calls does.
use Rattle.std.proofs.Common.{◌≡◌, ℕ, ◌+◌, ◌*◌, ◌<◌, ◌≤◌, Bool, true, false, ◌&&◌, ◌||◌, ◌==◌, not, if◌then◌else◌, List, [], ◌∷◌, ◌++◌, length, map, flat_map, drop, take_while, Option, Some, None, encode_utf8_all, refl, sym, ap, ◌∙◌, subst, arith, append-nil, eq-eqb}
use Rattle.std.proofs.lemmas.Bool.{lt-ltb}
use Rattle.std.proofs.lemmas.Grind.{flat_map-append}
use Rattle.std.proofs.lemmas.List.{map-append}
use Rattle.fancy_meaning.specs.Tree.{Tree, Trees, none, more, Empty, KeepOut, ContinueFromPreviousMatchEnd, AbsentClear, Any, Assert, GeneralNewline, Literal, LiteralBytes, Delegate, Concat, Alt, Group, LookAround, Repeat, Backref, BackrefWithLevel, BackrefExists, AtomicGroup, DefineGroup, AbsentRepeater, AbsentStopper, AbsentExpression, Control, Conditional, SubroutineCall, AstNode, Look, Verb, Fail}
use Rattle.fancy_meaning.specs.Nodes.{nodes, nodes_of_each, is_read}
use Rattle.fancy_meaning.specs.Assertions.{assertion_within}
use Rattle.fancy_meaning.specs.Options.{Plan}
use Rattle.fancy_meaning.specs.Sizes.{size}
use Rattle.fancy_meaning.specs.Instr.{Instr}
use Rattle.fancy_meaning.specs.Code.{Code, nothing, one, ◌>>◌, in_turn}
use Rattle.fancy_meaning.specs.Batches.{batch, pattern_of, fragment, group_range}
use Rattle.fancy_meaning.specs.Constructs.{loop_form, absent_code}
use Rattle.fancy_meaning.specs.Layout.{Part, in_context, is_prefix, is_suffix, concat_code, alt_code, body_code, group_body, is_at_most_once, absent_repeater_code, is_refused_body, written, each_part}
use Rattle.fancy_meaning.specs.WellFormed.{refers}
use Rattle.fancy_meaning.specs.Marks.{takes_nothing}
use Rattle.fancy_laws.proofs.Every.{Every, no_item, item, every_map, every_append_parts}
use Rattle.fancy_laws.proofs.Numbering.{numbers_of}
use Rattle.fancy_laws.proofs.Splits.{back_while, before_back, cut_in_three}
use Rattle.fancy_fits.proofs.Codes.{fits_if, fits_nothing, fits_next, fits_branches, fits_in_turn}
use Rattle.fancy_fits.proofs.Constructs.{Fits, fits_plain, fits_group, fits_atomic, fits_conditional, fits_newline, BodyFits, fits_look_around, fits_repeat, fits_absent}
use Rattle.fancy_fits.proofs.Known.{RefersWithin, Known, known_front, known_back, known_below}
use Rattle.fancy_fits.proofs.Batches.{neighbours_fit, fits_any, fits_class, fits_batch}

-- the nodes of these parts
abbrev all_nodes : List Part → List Tree
all_nodes ws = flat_map nodes (map (λ w. w.tree) ws)

nodes_of_both : (xs ys : List Part) → all_nodes (xs ++ ys) ≡ all_nodes xs ++ all_nodes ys
nodes_of_both xs ys =
    ap (flat_map nodes) (map-append (λ w. w.tree) xs ys)
    ∙ flat_map-append nodes (map (λ w. w.tree) xs) (map (λ w. w.tree) ys)

-- the code of each call fits
abbrev pub CallsFit : (len slots : ℕ) → (ℕ → Bool → Code) → Type 0
CallsFit len slots call = (g : ℕ) (in_hard : Bool) → Fits len slots (call g in_hard)

-- the branches of a body that is an alternation
abbrev alternatives : Tree → Trees
alternatives (Alt es) = es
alternatives e = none

module _ (p : Plan) (easy : Tree → Bool) (len count slots : ℕ) (two : 2 ≤ slots) (room : 2 * count ≤ slots) where
  abbrev FitsHere : Code → Type 0
  FitsHere c = Fits len slots c

  abbrev KnownHere : List Tree → Type 0
  KnownHere es = Known count slots es

  fits_known : (es : List Tree) → KnownHere (flat_map nodes es) → FitsHere (batch p.unicode es)
  fits_known es k = fits_batch len slots p.unicode es (neighbours_fit count slots room p.unicode es k)

  -- the nodes of a node alone, as those of neighbours
  alone : (e : Tree) → KnownHere (nodes e) → KnownHere (flat_map nodes (e ∷ []))
  alone e k = subst KnownHere (sym (append-nil (nodes e))) k

  pub fits_alone : (e : Tree) → KnownHere (nodes e) → FitsHere (batch p.unicode (e ∷ []))
  fits_alone e k = fits_known (e ∷ []) (alone e k)

  pub fits_in_context : (e : Tree) (code : Bool → Code) (in_hard : Bool) → KnownHere (nodes e) → FitsHere (code in_hard) →
      FitsHere (in_context p easy e code in_hard)
  fits_in_context e code in_hard k f =
      fits_if len slots (easy e && not in_hard) (batch p.unicode (e ∷ [])) (code in_hard) (fits_alone e k) f

  -- the pair of a group
  pair_of : (g : ℕ) (e : Tree) → KnownHere (Group g e ∷ nodes e) → 2 * g + 1 < slots
  pair_of g e k = by_first k.numbers
    where
      by_first : Every (λ h. h < count) (g ∷ numbers_of (nodes e)) → 2 * g + 1 < slots
      by_first (item lt h) = omega (arith, lt, room)

  pub fits_group_body : (g : ℕ) (e : Tree) (code : Bool → Code) (in_hard : Bool) → KnownHere (Group g e ∷ nodes e) →
      ((h : Bool) → FitsHere (code h)) → FitsHere (group_body p easy g e code in_hard)
  fits_group_body g e code in_hard k f =
      let context = in_hard || is_read p.analysis.tree g in
      fits_group len slots g (in_context p easy e code context) (pair_of g e k)
      (fits_in_context e code context (known_below count slots (Group g e) (nodes e) k) (f context))

  -- ---- several children

  abbrev PartFits : Part → Type 0
  PartFits w = (in_hard : Bool) → FitsHere (w.code in_hard)

  fits_cut : (front middle back : List Part) → KnownHere (all_nodes (front ++ (middle ++ back))) → Every PartFits middle →
      FitsHere (batch p.unicode (map (λ w. w.tree) front) >> (in_turn (map (λ w. w.code true) middle)
      >> batch p.unicode (map (λ w. w.tree) back)))
  fits_cut front middle back k h =
      let all = subst KnownHere (nodes_of_both front (middle ++ back)) k in
      let rest = known_back count slots (all_nodes front) (all_nodes (middle ++ back)) all in
      let behind = subst KnownHere (nodes_of_both middle back) rest in
      let first = batch p.unicode (map (λ w. w.tree) front) in
      let between = in_turn (map (λ w. w.code true) middle) in
      let last = batch p.unicode (map (λ w. w.tree) back) in
      fits_next len slots first (between >> last)
      (fits_known (map (λ w. w.tree) front)
      (known_front count slots (all_nodes front) (all_nodes (middle ++ back)) all))
      (fits_next len slots between last
      (fits_in_turn len slots (map (λ w. w.code true) middle) (every_map (λ w. w.code true) (λ w f. f true) h))
      (fits_known (map (λ w. w.tree) back)
      (known_back count slots (all_nodes middle) (all_nodes back) behind)))

  fits_concat : (ws : List Part) (in_hard : Bool) → KnownHere (all_nodes ws) → Every PartFits ws →
      FitsHere (concat_code p easy ws in_hard)
  fits_concat ws in_hard k h =
      let in_front = is_prefix p easy in
      let in_back = is_suffix p easy in_hard in
      let front = take_while in_front ws in
      let rest = drop (length front) ws in
      let middle = before_back in_back rest in
      let back = back_while in_back rest in
      let cut = cut_in_three in_front in_back ws in
      let others = (every_append_parts front (middle ++ back) (subst (Every PartFits) (sym cut) h)).1 in
      fits_cut front middle back (subst (λ xs. KnownHere (all_nodes xs)) (sym cut) k)
      (every_append_parts middle back others).0

  fits_alt : (ws : List Part) (in_hard : Bool) → Every PartFits ws → FitsHere (alt_code ws in_hard)
  fits_alt ws in_hard h =
      fits_branches len slots (map (λ w. w.code in_hard) ws) (every_map (λ w. w.code in_hard) (λ w f. f in_hard) h)

  fits_bodies : (ws : List Part) → Every PartFits ws → Every (BodyFits len slots) (map (body_code p) ws)
  fits_bodies ws h = every_map (body_code p) (λ w f. f false) h

  fits_absent_repeater : (e : Tree) (code : Bool → Code) → KnownHere (nodes e) → ((h : Bool) → FitsHere (code h)) →
      FitsHere (absent_repeater_code p easy e code)
  fits_absent_repeater e code k f =
      let plain = Instr.AbsentRepeater (pattern_of p.unicode (e ∷ [])) (fragment p.unicode (e ∷ [])) (group_range (e ∷ [])) in
      let out = absent_code (in_context p easy e code false) in
      fits_if len slots (easy e) (one plain) (if is_refused_body p e then nothing else out)
      (fits_plain len slots plain refl)
      (fits_if len slots (is_refused_body p e) nothing out (fits_nothing len slots)
      (fits_absent len slots (in_context p easy e code false) (fits_in_context e code false k (f false))))

  -- ---- each node

  module _ (call : ℕ → Bool → Code) where
    abbrev code_at : Tree → Bool → Bool → Code
    code_at e at_start in_hard = written p easy call e at_start in_hard

    abbrev parts_of : Bool → Trees → List Part
    parts_of at_start es = each_part p easy call at_start es

    part_nodes : (at_start : Bool) (es : Trees) → all_nodes (parts_of at_start es) ≡ nodes_of_each es
    part_nodes at_start none = refl
    part_nodes at_start (more e es) = ap (λ l. nodes e ++ l) (part_nodes (at_start && takes_nothing p.analysis.tree e) es)

    -- a look-around, by its body and the branches of it
    fits_looks : (look : Look) (e : Tree) (at_start in_hard : Bool) → KnownHere (nodes e) → FitsHere (code_at e false false) →
        Every PartFits (parts_of false (alternatives e)) → FitsHere (code_at (LookAround look e) at_start in_hard)
    fits_looks look (Alt es) at_start in_hard k f h =
        fits_look_around len slots look (size p.analysis.tree (Alt es), in_context p easy (Alt es) (code_at (Alt es) false) false)
        (map (body_code p) (parts_of false es)) (fits_in_context (Alt es) (code_at (Alt es) false) false k f)
        (fits_bodies (parts_of false es) h)
    fits_looks look e at_start in_hard k f h =
        fits_look_around len slots look (size p.analysis.tree e, in_context p easy e (code_at e false) false) []
        (fits_in_context e (code_at e false) false k f) no_item

    fits_exists : (g : ℕ) (level : Option _) (at_start in_hard : Bool) → 2 * g + 1 < slots →
        FitsHere (code_at (BackrefExists g level) at_start in_hard)
    fits_exists g None at_start in_hard lt = fits_plain len slots (Instr.BackrefExistsCondition g) (lt-ltb (2 * g + 1) slots lt)
    fits_exists g (Some level) at_start in_hard lt = fits_nothing len slots

    fits_control : (verb : Verb) (at_start in_hard : Bool) → FitsHere (code_at (Control verb) at_start in_hard)
    fits_control Fail at_start in_hard = fits_plain len slots Instr.Fail refl
    fits_control _ at_start in_hard = fits_nothing len slots

    -- the pair of the group that a node refers to
    referred : (e : Tree) (es : List Tree) → Every (RefersWithin count slots) (e ∷ es) → (g : ℕ) → refers g e ≡ true → 2 * g + 1 < slots
    referred e es (item r h) g is = r g is

    module _ (calls : CallsFit len slots call) where
      mutual
        pub fits_tree : (e : Tree) → KnownHere (nodes e) → (at_start in_hard : Bool) → FitsHere (code_at e at_start in_hard)
        fits_tree Empty k a h = fits_nothing len slots
        fits_tree (DefineGroup e) k a h = fits_nothing len slots
        fits_tree (BackrefWithLevel g level casei) k a h = fits_nothing len slots
        fits_tree (AstNode node) k a h = fits_nothing len slots
        fits_tree AbsentClear k a h = fits_nothing len slots
        fits_tree (AbsentStopper e) k a h = fits_nothing len slots
        fits_tree (AbsentExpression x e) k a h = fits_nothing len slots
        fits_tree (Literal c casei) k a h = fits_alone (Literal c casei) k
        fits_tree (LiteralBytes cs) k a h = fits_plain len slots (Instr.Lit (encode_utf8_all cs)) refl
        fits_tree (Any newline crlf) k a h = fits_any len slots newline crlf
        fits_tree (Delegate inner casei) k a h = fits_class len slots p.unicode inner casei
        fits_tree (Assert within a') k a h = fits_plain len slots (Instr.Assert (assertion_within within a')) refl
        fits_tree (GeneralNewline unicode) k a h = fits_newline len slots unicode
        fits_tree ContinueFromPreviousMatchEnd k a h = fits_plain len slots (Instr.ContinueFromPreviousMatchEnd a) refl
        fits_tree KeepOut k a h = fits_plain len slots (Instr.Save 0) (lt-ltb 0 slots (omega (arith, two)))
        fits_tree (Backref g casei) k a h =
            let there = referred (Backref g casei) [] k.references g (eq-eqb g g refl) in
            fits_plain len slots (Instr.Backref (2 * g) casei p.unicode) (lt-ltb (2 * g + 1) slots there)
        fits_tree (BackrefExists g level) k a h =
            fits_exists g level a h (referred (BackrefExists g level) [] k.references g (eq-eqb g g refl))
        fits_tree (Control verb) k a h = fits_control verb a h
        fits_tree (SubroutineCall g) k a h = calls g h
        fits_tree (Concat es) k a h =
            let below = known_below count slots (Concat es) (nodes_of_each es) k in
            fits_concat (parts_of a es) h (subst KnownHere (sym (part_nodes a es)) below) (fits_each es below a)
        fits_tree (Alt es) k a h =
            fits_alt (parts_of false es) h (fits_each es (known_below count slots (Alt es) (nodes_of_each es) k) false)
        fits_tree (Group g e) k a h =
            fits_group_body g e (code_at e a) h k (λ v. fits_tree e (known_below count slots (Group g e) (nodes e) k) a v)
        fits_tree (AtomicGroup e) k a h =
            let below = known_below count slots (AtomicGroup e) (nodes e) k in
            fits_atomic len slots (in_context p easy e (code_at e false) false)
            (fits_in_context e (code_at e false) false below (fits_tree e below false false))
        fits_tree (Conditional c t f) k a h =
            let below = known_below count slots (Conditional c t f) (nodes c ++ (nodes t ++ nodes f)) k in
            let rest = known_back count slots (nodes c) (nodes t ++ nodes f) below in
            let of_c = known_front count slots (nodes c) (nodes t ++ nodes f) below in
            let of_t = known_front count slots (nodes t) (nodes f) rest in
            let of_f = known_back count slots (nodes t) (nodes f) rest in
            fits_conditional len slots (in_context p easy c (code_at c false) h) (in_context p easy t (code_at t false) h)
            (in_context p easy f (code_at f false) h)
            (fits_in_context c (code_at c false) h of_c (fits_tree c of_c false h))
            (fits_in_context t (code_at t false) h of_t (fits_tree t of_t false h))
            (fits_in_context f (code_at f false) h of_f (fits_tree f of_f false h))
        fits_tree (AbsentRepeater e) k a h =
            let below = known_below count slots (AbsentRepeater e) (nodes e) k in
            fits_absent_repeater e (code_at e false) below (λ v. fits_tree e below false v)
        fits_tree (Repeat lo hi greedy e) k a h =
            let below = known_below count slots (Repeat lo hi greedy e) (nodes e) k in
            let form = loop_form lo hi ((size p.analysis.tree e).least == 0) in
            let context = h || not (is_at_most_once form) in
            fits_repeat len slots greedy (in_context p easy e (code_at e false) context) form
            (fits_in_context e (code_at e false) context below (fits_tree e below false context))
        fits_tree (LookAround look e) k a h =
            let below = known_below count slots (LookAround look e) (nodes e) k in
            fits_looks look e a h below (fits_tree e below false false) (fits_alternatives e below)

        fits_each : (es : Trees) → KnownHere (nodes_of_each es) → (at_start : Bool) → Every PartFits (parts_of at_start es)
        fits_each none k a = no_item
        fits_each (more e es) k a =
            let of_e = known_front count slots (nodes e) (nodes_of_each es) k in
            item (λ h. fits_in_context e (code_at e a) h of_e (fits_tree e of_e a h))
            (fits_each es (known_back count slots (nodes e) (nodes_of_each es) k) (a && takes_nothing p.analysis.tree e))

        fits_alternatives : (e : Tree) → KnownHere (nodes e) → Every PartFits (parts_of false (alternatives e))
        fits_alternatives (Alt es) k = fits_each es (known_below count slots (Alt es) (nodes_of_each es) k) false
        fits_alternatives e k = no_item
