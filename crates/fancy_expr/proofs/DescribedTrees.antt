-- What comes with a tree says of it what is so, where it is made of the tree's back references.
use Rattle.std.proofs.Common.{◌≡◌, ℕ, zero, suc, ◌<◌, ◌≤◌, Bool, true, false, ◌||◌, nat_eq, cond, List, [], ◌∷◌, length, filter_map, All, Contains, Some, IfSome, IsFalse, slice_index_or, refl, sym, ap, ◌∙◌, subst, arith, ltb, ltb-true, leb, le-leb}
use Rattle.std.specs.List.{list_any}
use Rattle.std.specs.declared.cmp.Ordering.{Ordering}
use Rattle.std.specs.declared.cmp.Ordering.TheVariants.{Less, Equal, Greater}
use Rattle.std.specs.Ordering.{match_ordering, nat_cmp}
use Rattle.std.specs.BTreeSet.{insert_key}
use Rattle.std.proofs.lemmas.Bool.{eqb-true, eq-eqb, or_left, or_right, true≢false}
use Rattle.std.proofs.lemmas.Map.Lookups.{exact_unsigned}
use Rattle.std.proofs.lemmas.Map.Views.{All-insert_key, Contains-from_any}
use Rattle.std.proofs.lemmas.List.Folds.{list_any-append}
use Rattle.std.proofs.lemmas.List.Elements.{filter_map-append, All-contains}
use Rattle.fancy_meaning.specs.Tree.{Tree, Backref, BackrefWithLevel}
use Rattle.fancy_meaning.specs.Nodes.{nodes, group_count}
use Rattle.fancy_meaning.specs.WellFormed.{Has, refers, is_call, is_any_call, most_groups}
use Rattle.fancy_expr.specs.declared.expr.ExprTree.{ExprTree}
use Rattle.fancy_expr.specs.Views.{tree_of}
use Rattle.fancy_expr.specs.Each.{Each}
use Rattle.fancy_expr.specs.Sound.{AllSound, IsWellFormedTree}
use Rattle.fancy_expr.specs.BackReferences.{referred_to, references, first_past, up_to}
use Rattle.fancy_expr.proofs.EachLaws.{each_map}
use Rattle.fancy_expr.proofs.SoundNodes.{nodes_fine, all_one_char}

-- ---- references

mem : ℕ → List ℕ → Bool
mem g gs = list_any (nat_eq g) gs

found_itself : (g : ℕ) (gs : List ℕ) → mem g (g ∷ gs) ≡ true
unfolding mem
found_itself g gs = or_left _ _ (eq-eqb g g refl)

itself_inserted : (keys : List ℕ) (g : ℕ) → mem g (insert_key nat_cmp keys g) ≡ true
unfolding mem
itself_inserted [] g = found_itself g []
itself_inserted (k ∷ keys) g = by_order (nat_cmp g k) refl (itself_inserted keys g)
  where
    by_order : (r : Ordering) → nat_cmp g k ≡ r → list_any (nat_eq g) (insert_key nat_cmp keys g) ≡ true →
        list_any (nat_eq g) (match_ordering r (g ∷ k ∷ keys) (k ∷ keys) (k ∷ insert_key nat_cmp keys g)) ≡ true
    by_order Less is h = found_itself g (k ∷ keys)
    by_order Equal is h = or_left _ _ (eq-eqb g k (exact_unsigned g k is))
    by_order Greater is h = or_right (nat_eq g k) _ h

others_kept : (keys : List ℕ) (g h : ℕ) → mem h keys ≡ true → mem h (insert_key nat_cmp keys g) ≡ true
unfolding mem
others_kept [] g h there = absurd (true≢false (sym there))
others_kept (k ∷ keys) g h there = by_order (nat_cmp g k) (others_kept keys g h)
  where
    behind : (b : Bool) → (list_any (nat_eq h) keys ≡ true → list_any (nat_eq h) (insert_key nat_cmp keys g) ≡ true) → (b || list_any (nat_eq h) keys) ≡ true →
        (b || list_any (nat_eq h) (insert_key nat_cmp keys g)) ≡ true
    behind true below t = refl
    behind false below t = below t

    by_order : (r : Ordering) → (list_any (nat_eq h) keys ≡ true → list_any (nat_eq h) (insert_key nat_cmp keys g) ≡ true) →
        list_any (nat_eq h) (match_ordering r (g ∷ k ∷ keys) (k ∷ keys) (k ∷ insert_key nat_cmp keys g)) ≡ true
    by_order Less below = or_right (nat_eq h g) _ there
    by_order Equal below = there
    by_order Greater below = behind (nat_eq h k) below there

kept_up : (groups : ℕ) (keys gs : List ℕ) (h : ℕ) → mem h keys ≡ true → mem h (up_to groups keys gs) ≡ true
kept_up groups keys [] h there = there
kept_up groups keys (g ∷ gs) h there = kept_up groups (cond (leb g groups) (insert_key nat_cmp keys g) keys) gs h (by_size (leb g groups))
  where
    by_size : (b : Bool) → mem h (cond b (insert_key nat_cmp keys g) keys) ≡ true
    by_size true = others_kept keys g h there
    by_size false = there

reached : (groups : ℕ) (keys gs : List ℕ) (h : ℕ) → mem h gs ≡ true → h ≤ groups → mem h (up_to groups keys gs) ≡ true
unfolding mem
reached groups keys [] h there le = absurd (true≢false (sym there))
reached groups keys (g ∷ gs) h there le = by_same (nat_eq h g) refl (λ t. reached groups (cond (leb g groups) (insert_key nat_cmp keys g) keys) gs h t le) there
  where
    by_same : (b : Bool) → nat_eq h g ≡ b → (list_any (nat_eq h) gs ≡ true → mem h (up_to groups keys (g ∷ gs)) ≡ true) →
        (b || list_any (nat_eq h) gs) ≡ true → mem h (up_to groups keys (g ∷ gs)) ≡ true
    by_same true is below t =
        let same : h ≡ g = eqb-true h g is in
        let small : leb g groups ≡ true = le-leb g groups (subst (λ n. n ≤ groups) same le) in
        kept_up groups (cond (leb g groups) (insert_key nat_cmp keys g) keys) gs h
        (subst (λ b. mem h (cond b (insert_key nat_cmp keys g) keys) ≡ true) (sym small)
        (subst (λ n. mem n (insert_key nat_cmp keys g) ≡ true) (sym same) (itself_inserted keys g)))
    by_same false is below t = below t

reference_there : (es : List Tree) (g : ℕ) (casei : Bool) (k : ℕ) (d : Tree) → k < length es → slice_index_or es k d ≡ Backref g casei →
    mem g (filter_map referred_to es) ≡ true
unfolding mem
reference_there [] g casei k d lt at = absurd (omega arith)
reference_there (e ∷ es) g casei zero d lt at =
    subst (λ x. mem g (filter_map referred_to (x ∷ es)) ≡ true) (sym at) (found_itself g (filter_map referred_to es))
reference_there (e ∷ es) g casei (suc k) d lt at =
    ap (mem g) (filter_map-append referred_to (e ∷ []) es)
    ∙ list_any-append (nat_eq g) (filter_map referred_to (e ∷ [])) (filter_map referred_to es)
    ∙ or_right _ _ (reference_there es g casei k d (omega arith) at)

-- ---- what is listed is referred to

references_refer : (es : List Tree) → Each (λ g. list_any (refers g) es ≡ true) (filter_map referred_to es)
references_refer [] = tt
references_refer (Backref g casei ∷ es) =
    (or_left _ _ (eq-eqb g g refl), each_map _ _ (filter_map referred_to es) (λ h q. or_right (refers h (Backref g casei)) _ q) (references_refer es))
references_refer (BackrefWithLevel g level casei ∷ es) = (
  or_left _ _ (eq-eqb g g refl),
  each_map _ _ (filter_map referred_to es) (λ h q. or_right (refers h (BackrefWithLevel g level casei)) _ q) (references_refer es),
)
references_refer (e ∷ es) = each_map _ _ (filter_map referred_to es) (λ h q. or_right (refers h e) _ q) (references_refer es)

listed : (P : ℕ → Type 0) (groups : ℕ) (keys gs : List ℕ) → All P keys → Each P gs → All P (up_to groups keys gs)
listed P groups keys [] all h = all
listed P groups keys (g ∷ gs) all h = listed P groups (cond (leb g groups) (insert_key nat_cmp keys g) keys) gs (by_size (leb g groups)) h.1
  where
    by_size : (b : Bool) → All P (cond b (insert_key nat_cmp keys g) keys)
    by_size true = All-insert_key nat_cmp g P keys all h.0
    by_size false = all

past : (P : ℕ → Type 0) (groups : ℕ) (gs : List ℕ) → Each P gs → IfSome (first_past groups gs) (λ g. P g × (groups < g))
past P groups [] h = tt
past P groups (g ∷ gs) h = by_size (ltb groups g) refl (past P groups gs h.1)
  where
    by_size : (b : Bool) → ltb groups g ≡ b → IfSome (first_past groups gs) (λ g. P g × (groups < g)) →
        IfSome (cond b (Some g) (first_past groups gs)) (λ g. P g × (groups < g))
    by_size true is below = (h.0, ltb-true groups g is)
    by_size false is below = below

-- such a tree may be handed in, where its nodes are sound, and its groups and calls are what is said
pub well_described : (t : ExprTree) → AllSound t.expr → t.total_groups ≡ group_count (tree_of t.expr) → t.total_groups ≤ most_groups →
    (Has (tree_of t.expr) is_call → t.contains_subroutines ≡ true) →
    (IsFalse (list_any is_any_call (nodes (tree_of t.expr))) → t.contains_subroutines ≡ false) →
    t.backrefs.keys ≡ up_to t.total_groups [] (references (tree_of t.expr)) → t.out_of_range_backref ≡ first_past t.total_groups (references (tree_of t.expr)) →
    IsWellFormedTree t
unfolding mem
well_described t sound count few calls no_calls backrefs out_of_range =
    let whole = nodes (tree_of t.expr) in
    let numbers : List ℕ = references (tree_of t.expr) in
    let refer : Each (λ g. list_any (refers g) whole ≡ true) numbers = references_refer whole in (
      record {
        fine = nodes_fine t.expr sound;
        groups = count;
        not_too_many = few;
        calls = calls;
        no_calls = no_calls;
        backrefs = λ g casei there le.
            subst (λ keys. Contains keys g) (sym backrefs) (Contains-from_any (λ x y. eqb-true x y) g (up_to t.total_groups [] numbers)
            (reached t.total_groups [] numbers g (reference_there whole g casei there.0 (Backref g casei) there.1 there.2) le));
        only_references = λ g there.
            All-contains (λ g. list_any (refers g) whole ≡ true) (up_to t.total_groups [] numbers) g
            (listed (λ g. list_any (refers g) whole ≡ true) t.total_groups [] numbers (λ k d lt. absurd (omega arith)) refer)
            (subst (λ keys. Contains keys g) backrefs there);
        out_of_range =
            subst (λ o. IfSome o (λ g. Has (tree_of t.expr) (refers g) × (t.total_groups < g))) (sym out_of_range)
            (past (λ g. list_any (refers g) whole ≡ true) t.total_groups numbers refer);
      },
      all_one_char t.expr sound,
    )
