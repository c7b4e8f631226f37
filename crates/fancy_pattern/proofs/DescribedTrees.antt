-- What comes with a tree that a pattern spells says of it what is so.
use Rattle.std.proofs.Common.{◌≡◌, ℕ, zero, suc, ◌<◌, ◌≤◌, Bool, true, false, ◌||◌, nat_eq, cond, List, [], ◌∷◌, length, map, string_bytes, IsUtf8, filter_map, All, Contains, Some, IfSome, slice_index_or, refl, sym, ap, ◌∙◌, subst, arith, ltb, leb, ltb-true, le-leb}
use Rattle.std.specs.List.{list_any}
use Rattle.std.specs.declared.cmp.Ordering.{Ordering}
use Rattle.std.specs.declared.cmp.Ordering.TheVariants.{Less, Equal, Greater}
use Rattle.std.specs.Ordering.{match_ordering, nat_cmp}
use Rattle.std.specs.BTreeSet.{insert_key}
use Rattle.std.proofs.lemmas.Bool.{eqb-true, eq-eqb, or_left, or_right, true≢false}
use Rattle.std.proofs.lemmas.Str.{IsUtf8-string_bytes}
use Rattle.std.proofs.lemmas.Map.Lookups.{exact_unsigned}
use Rattle.std.proofs.lemmas.Map.Views.{All-insert_key, Contains-from_any}
use Rattle.std.proofs.lemmas.List.Folds.{list_any-append}
use Rattle.std.proofs.lemmas.List.Elements.{filter_map-append, All-contains}
use Rattle.fancy_meaning.specs.Tree.{Tree, Backref, BackrefWithLevel, SubroutineCall}
use Rattle.fancy_meaning.specs.Nodes.{nodes}
use Rattle.fancy_meaning.specs.WellFormed.{IsFine, Has, refers, is_call, is_any_call, most_groups}
use Rattle.fancy_expr.specs.declared.expr.ExprTree.{ExprTree}
use Rattle.fancy_expr.specs.Views.{tree_of, absent_of}
use Rattle.fancy_expr.specs.Each.{Each}
use Rattle.fancy_expr.specs.Sound.{IsOneChar, IsSoundNode, AllSound, IsWellFormedTree}
use Rattle.fancy_expr.specs.Exprs.{exprs}
use Rattle.fancy_expr.proofs.Exprs.{nodes-exprs}
use Rattle.fancy_expr.specs.declared.expr.Expr.{Expr}
use Rattle.fancy_expr.specs.declared.expr.Expr.TheVariants as code
use Rattle.fancy_expr.specs.declared.expr.Absent.{Absent}
use Rattle.fancy_expr.specs.declared.expr.Absent.TheVariants as code_absent
use Rattle.fancy_meaning.specs.Tree as plain
use Rattle.fancy_pattern.specs.Reading.{OneCharEach}
use Rattle.fancy_pattern.proofs.FineNodes.{spelled_fine}
use Rattle.fancy_expr.proofs.SoundNodes.{nodes_fine, all_one_char, sound_literal}
use Rattle.fancy_pattern.specs.declared.options.ParseOptions.{ParseOptions}
use Rattle.fancy_pattern.specs.Texts.{Text}
use Rattle.fancy_tokens.specs.Tokens.{Placed}
use Rattle.fancy_pattern.specs.Naming.{named_in}
use Rattle.fancy_pattern.specs.Described.{referred_to, references, first_past, up_to}
use Rattle.fancy_pattern.specs.Spelling.{HasTokens, every_group, named_groups, IsTreeOf}
use Rattle.fancy_pattern.proofs.FoundTokens.{FineBut, FineToken, opened_in, opened-counted, tokens_fine, groups_few}
use Rattle.fancy_pattern.proofs.Counting.{spelled_groups}

-- ---- calls

some_call : (es : List Tree) → list_any is_call es ≡ true → list_any is_any_call es ≡ true
some_call [] h = absurd (true≢false (sym h))
some_call (SubroutineCall g ∷ es) h = refl
some_call (e ∷ es) h = or_right (is_any_call e) _ (some_call es h)

-- ---- references

mem : ℕ → List ℕ → Bool
mem g gs = list_any (nat_eq g) gs

found_itself : (g : ℕ) (gs : List ℕ) → mem g (g ∷ gs) ≡ true
unfolding mem
found_itself g gs = or_left _ _ (eq-eqb g g refl)

itself_inserted : (keys : List ℕ) (g : ℕ) → mem g (insert_key nat_cmp keys g) ≡ true
unfolding mem
itself_inserted [] g = found_itself g []
itself_inserted (k ∷ keys) g = by_order (nat_cmp g k) refl (itself_inserted keys g)
  where
    by_order : (r : Ordering) → nat_cmp g k ≡ r → list_any (nat_eq g) (insert_key nat_cmp keys g) ≡ true →
        list_any (nat_eq g) (match_ordering r (g ∷ k ∷ keys) (k ∷ keys) (k ∷ insert_key nat_cmp keys g)) ≡ true
    by_order Less is h = found_itself g (k ∷ keys)
    by_order Equal is h = or_left _ _ (eq-eqb g k (exact_unsigned g k is))
    by_order Greater is h = or_right (nat_eq g k) _ h

others_kept : (keys : List ℕ) (g h : ℕ) → mem h keys ≡ true → mem h (insert_key nat_cmp keys g) ≡ true
unfolding mem
others_kept [] g h there = absurd (true≢false (sym there))
others_kept (k ∷ keys) g h there = by_order (nat_cmp g k) (others_kept keys g h)
  where
    behind : (b : Bool) → (list_any (nat_eq h) keys ≡ true → list_any (nat_eq h) (insert_key nat_cmp keys g) ≡ true) → (b || list_any
        (nat_eq h) keys) ≡ true →
        (b || list_any (nat_eq h) (insert_key nat_cmp keys g)) ≡ true
    behind true below t = refl
    behind false below t = below t

    by_order : (r : Ordering) → (list_any (nat_eq h) keys ≡ true → list_any (nat_eq h) (insert_key nat_cmp keys g) ≡ true) →
        list_any (nat_eq h) (match_ordering r (g ∷ k ∷ keys) (k ∷ keys) (k ∷ insert_key nat_cmp keys g)) ≡ true
    by_order Less below = or_right (nat_eq h g) _ there
    by_order Equal below = there
    by_order Greater below = behind (nat_eq h k) below there

kept_up : (groups : ℕ) (keys gs : List ℕ) (h : ℕ) → mem h keys ≡ true → mem h (up_to groups keys gs) ≡ true
kept_up groups keys [] h there = there
kept_up groups keys (g ∷ gs) h there = kept_up groups (cond (leb g groups) (insert_key nat_cmp keys g) keys) gs h (by_size (leb g groups))
  where
    by_size : (b : Bool) → mem h (cond b (insert_key nat_cmp keys g) keys) ≡ true
    by_size true = others_kept keys g h there
    by_size false = there

reached : (groups : ℕ) (keys gs : List ℕ) (h : ℕ) → mem h gs ≡ true → h ≤ groups → mem h (up_to groups keys gs) ≡ true
unfolding mem
reached groups keys [] h there le = absurd (true≢false (sym there))
reached groups keys (g ∷ gs) h there le = by_same (nat_eq h g) refl (λ t. reached groups (cond (leb g groups)
    (insert_key nat_cmp keys g) keys) gs h t le) there
  where
    by_same : (b : Bool) → nat_eq h g ≡ b → (list_any (nat_eq h) gs ≡ true → mem h (up_to groups keys (g ∷ gs)) ≡ true) →
        (b || list_any (nat_eq h) gs) ≡ true → mem h (up_to groups keys (g ∷ gs)) ≡ true
    by_same true is below t =
        let same : h ≡ g = eqb-true h g is in
        let small : leb g groups ≡ true = le-leb g groups (subst (λ n. n ≤ groups) same le) in
        kept_up groups (cond (leb g groups) (insert_key nat_cmp keys g) keys) gs h
        (subst (λ b. mem h (cond b (insert_key nat_cmp keys g) keys) ≡ true) (sym small)
        (subst (λ n. mem n (insert_key nat_cmp keys g) ≡ true) (sym same) (itself_inserted keys g)))
    by_same false is below t = below t

reference_there : (es : List Tree) (g : ℕ) (casei : Bool) (k : ℕ) (d : Tree) → k < length es → slice_index_or es k d ≡ Backref g casei →
    mem g (filter_map referred_to es) ≡ true
unfolding mem
reference_there [] g casei k d lt at = absurd (omega arith)
reference_there (e ∷ es) g casei zero d lt at =
    subst (λ x. mem g (filter_map referred_to (x ∷ es)) ≡ true) (sym at) (found_itself g (filter_map referred_to es))
reference_there (e ∷ es) g casei (suc k) d lt at =
    ap (mem g) (filter_map-append referred_to (e ∷ []) es)
    ∙ list_any-append (nat_eq g) (filter_map referred_to (e ∷ [])) (filter_map referred_to es)
    ∙ or_right _ _ (reference_there es g casei k d (omega arith) at)

-- ---- what is listed is referred to

each_map : {X : Type 0} (P Q : X → Type 0) (xs : List X) → ((x : X) → P x → Q x) → Each P xs → Each Q xs
each_map P Q [] f h = tt
each_map P Q (x ∷ xs) f h = (f x h.0, each_map P Q xs f h.1)

pub references_refer : (es : List Tree) → Each (λ g. list_any (refers g) es ≡ true) (filter_map referred_to es)
references_refer [] = tt
references_refer (Backref g casei ∷ es) =
    (or_left _ _ (eq-eqb g g refl), each_map _ _ (filter_map referred_to es) (λ h q. or_right (refers h (Backref g casei)) _ q) (references_refer es))
references_refer (BackrefWithLevel g level casei ∷ es) = (
  or_left _ _ (eq-eqb g g refl),
  each_map _ _ (filter_map referred_to es) (λ h q. or_right (refers h (BackrefWithLevel g level casei)) _ q) (references_refer es),
)
references_refer (e ∷ es) = each_map _ _ (filter_map referred_to es) (λ h q. or_right (refers h e) _ q) (references_refer es)

listed : (P : ℕ → Type 0) (groups : ℕ) (keys gs : List ℕ) → All P keys → Each P gs → All P (up_to groups keys gs)
listed P groups keys [] all h = all
listed P groups keys (g ∷ gs) all h = listed P groups (cond (leb g groups) (insert_key nat_cmp keys g) keys) gs (by_size (leb g groups)) h.1
  where
    by_size : (b : Bool) → All P (cond b (insert_key nat_cmp keys g) keys)
    by_size true = All-insert_key nat_cmp g P keys all h.0
    by_size false = all

past : (P : ℕ → Type 0) (groups : ℕ) (gs : List ℕ) → Each P gs → IfSome (first_past groups gs) (λ g. P g × (groups < g))
past P groups [] h = tt
past P groups (g ∷ gs) h = by_size (ltb groups g) refl (past P groups gs h.1)
  where
    by_size : (b : Bool) → ltb groups g ≡ b → IfSome (first_past groups gs) (λ g. P g × (groups < g)) →
        IfSome (cond b (Some g) (first_past groups gs)) (λ g. P g × (groups < g))
    by_size true is below = (h.0, ltb-true groups g is)
    by_size false is below = below

-- ---- tokens

all_fine : {options : ParseOptions} {text : Text} {ignored : Bool} {ts : List Placed} → HasTokens options text ignored ts → Each (λ p. FineToken p.token) ts
all_fine (every_group l h) = tokens_fine l (omega arith)
all_fine (named_groups l h m) = tokens_fine m (omega arith)

few_opened : {options : ParseOptions} {text : Text} {ignored : Bool} {ts : List Placed} → HasTokens options text ignored ts → opened_in ts ≤ most_groups
few_opened (every_group l h) = let k = groups_few l (omega arith) in omega (arith, k)
few_opened (named_groups l h m) = let k = groups_few m (omega arith) in omega (arith, k)

-- a tree with sound nodes that a pattern spells may be handed in
pub well_formed_if_sound : (options : ParseOptions) (text : Text) (t : ExprTree) → IsTreeOf options text t → AllSound t.expr → IsWellFormedTree t
unfolding mem
well_formed_if_sound options text t is sound =
    let d = is.described in
    let ts = is.spells.tokens in
    let whole = nodes (tree_of t.expr) in
    let opened : t.total_groups ≡ opened_in ts = d.groups ∙ sym (opened-counted ts) in
    let few = few_opened is.spells.lexed in
    let refer : Each (λ g. list_any (refers g) whole ≡ true) (references (tree_of t.expr)) = references_refer whole in (
      record {
        fine = nodes_fine t.expr sound;
        groups = opened ∙ spelled_groups (named_in ts) ts (tree_of t.expr) is.spells.spelled (all_fine is.spells.lexed);
        not_too_many = omega (arith, opened, few);
        calls = λ h. d.calls ∙ some_call whole h;
        no_calls = λ h. d.calls ∙ h;
        backrefs = λ g casei there le.
            subst (λ keys. Contains keys g) (sym d.backrefs) (Contains-from_any (λ x y. eqb-true x y) g (up_to t.total_groups [] (references
            (tree_of t.expr)))
            (reached t.total_groups [] (references (tree_of t.expr)) g (reference_there whole g casei there.0 (Backref g casei) there.1 there.2) le));
        only_references = λ g there.
            All-contains (λ g. list_any (refers g) whole ≡ true) (up_to t.total_groups [] (references (tree_of t.expr))) g
            (listed (λ g. list_any (refers g) whole ≡ true) t.total_groups [] (references (tree_of t.expr)) (λ k d lt. absurd (omega arith)) refer)
            (subst (λ keys. Contains keys g) d.backrefs there);
        out_of_range =
            subst (λ o. IfSome o (λ g. Has (tree_of t.expr) (refers g) × (t.total_groups < g))) (sym d.out_of_range)
            (past (λ g. list_any (refers g) whole ≡ true) t.total_groups (references (tree_of t.expr)) refer);
      },
      all_one_char t.expr sound,
    )

-- ---- nodes

each_all : {X : Type 0} (P : X → Type 0) (xs : List X) → Each P xs → All P xs
each_all P [] h k d lt = absurd (omega arith)
each_all P (x ∷ xs) h zero d lt = h.0
each_all P (x ∷ xs) h (suc k) d lt = each_all P xs h.1 k d (omega arith)

fine_class : (bytes : List ℕ) (casei : Bool) → IsUtf8 bytes → FineBut (plain.Delegate bytes casei) → IsFine (plain.Delegate bytes casei)
fine_class [] casei u h = h
fine_class (b ∷ bs) casei u h = u

fine_absent : (a : Absent) → IsFine (absent_of a)
fine_absent (code_absent.Repeater' b e) = tt
fine_absent (code_absent.Expression' b a c e) = tt
fine_absent (code_absent.Stopper' b e) = tt
fine_absent code_absent.Clear = tt

fine_expr : (x : Expr) → FineBut (tree_of x) → IsOneChar x → IsFine (tree_of x)
fine_expr (code.Literal val casei) h one = ((sound_literal (code.Literal val casei) val casei 1 refl (sym one)).0 refl).fine
fine_expr (code.Delegate inner casei) h one = fine_class (string_bytes inner) casei (IsUtf8-string_bytes inner) h
fine_expr (code.Absent a) h one = fine_absent a
fine_expr x h one = h

sound_each : (xs : List Expr) → Each FineBut (map tree_of xs) → Each IsOneChar xs → Each IsSoundNode xs
sound_each [] h k = tt
sound_each (x ∷ xs) h k = (record { fine = fine_expr x h.0 k.0; one_char = k.0 }, sound_each xs h.1 k.1)

-- a tree whose literals are one character each may be handed in where a pattern spells it
pub well_formed : (options : ParseOptions) (text : Text) (t : ExprTree) → IsTreeOf options text t → OneCharEach t.expr → IsWellFormedTree t
well_formed options text t is chars =
    let fine = spelled_fine is.spells.tokens (tree_of t.expr) is.spells.spelled (all_fine is.spells.lexed) in
    well_formed_if_sound options text t is
    (each_all IsSoundNode (exprs t.expr) (sound_each (exprs t.expr) (subst (Each FineBut) (sym (nodes-exprs t.expr)) fine) chars))
