-- The table of classes, when one is added.
use Rattle.std.proofs.Common.{cond, ◌≡◌, ℕ, ◌==◌, Bool, true, false, List, Some, drop, slice_index_or, string_bytes, refl, sym, ap, ◌∙◌, subst}
use Rattle.std.specs.Prelude.{String, Result, Ok, Err, OnOk, OnErr, unwrap_or}
use Rattle.std.specs.BTreeMap.{BTreeMap, get_by_text, is_at, IsUnchanged, Updates}
use Rattle.std.specs.Map.{lookup, update}
use Rattle.std.specs.Cmp.Lexicographic.{slice_cmp}
use Rattle.std.specs.Ordering.{nat_cmp}
use Rattle.std.specs.String.{string_cmp}
use Rattle.std.specs.declared.sync.Arc.{Arc}
use Rattle.std.specs.Str.{bytes_eq}
use Rattle.std.proofs.lemmas.Slice.Eq.{bytes_eq-Decides}
use Rattle.std.proofs.lemmas.Map.Text.{btree_map_updates_text}
use Rattle.fancy_characters.specs.declared.classes.CharClassMatcher.{CharClassMatcher}
use Rattle.fancy_code.specs.ClassKeys.{AreClasses, IsClass, class_key}

-- ---- a key tells its class

key_unicode : (unicode casei : Bool) (inner : List ℕ) → (slice_index_or (class_key unicode inner casei) 0 0 == 117) ≡ unicode
key_unicode true true inner = refl
key_unicode true false inner = refl
key_unicode false true inner = refl
key_unicode false false inner = refl

key_casei : (unicode casei : Bool) (inner : List ℕ) → (slice_index_or (class_key unicode inner casei) 1 0 == 105) ≡ casei
key_casei true true inner = refl
key_casei true false inner = refl
key_casei false true inner = refl
key_casei false false inner = refl

key_inner : (unicode casei : Bool) (inner : List ℕ) → drop 2 (class_key unicode inner casei) ≡ inner
key_inner true true inner = refl
key_inner true false inner = refl
key_inner false true inner = refl
key_inner false false inner = refl

module _ (unicode casei u c : Bool) (inner other : List ℕ) (same : class_key unicode inner casei ≡ class_key u other c) where
  same_unicode : unicode ≡ u
  same_unicode = sym (key_unicode unicode casei inner) ∙ ap (λ k. slice_index_or k 0 0 == 117) same ∙ key_unicode u c other

  same_casei : casei ≡ c
  same_casei = sym (key_casei unicode casei inner) ∙ ap (λ k. slice_index_or k 1 0 == 105) same ∙ key_casei u c other

  same_inner : inner ≡ other
  same_inner = sym (key_inner unicode casei inner) ∙ ap (drop 2) same ∙ key_inner u c other

  pub same_class : {Z : Type 0} (class : Arc CharClassMatcher Z) → IsClass unicode casei inner class → IsClass u c other class
  same_class class is =
      subst (λ b. IsClass b c other class) same_unicode
      (subst (λ b. IsClass unicode b other class) same_casei (subst (λ l. IsClass unicode casei l class) same_inner is))

-- ---- the table with one more class

module _ {Y Z : Type 0} (m n : BTreeMap (String Y) (Arc CharClassMatcher Z)) (unicode casei : Bool) (inner : List ℕ) (class : Arc CharClassMatcher Z)
    (is : IsClass unicode casei inner class)
    (sets : (key : List ℕ) → get_by_text n key ≡ update bytes_eq (get_by_text m) (class_key unicode inner casei) (Some class) key) where
  one_more : AreClasses m → AreClasses n
  one_more known u c other found there = by_test (bytes_eq (class_key unicode inner casei) (class_key u other c)) refl
      (sym (sets (class_key u other c)) ∙ there)
    where
      by_test : (v : Bool) → bytes_eq (class_key unicode inner casei) (class_key u other c) ≡ v
          → cond v (Some class) (get_by_text m (class_key u other c)) ≡ Some found → IsClass u c other found
      by_test true same h =
          subst (IsClass u c other) (ap (λ o. unwrap_or o class) h)
          (same_class unicode casei u c inner other ((bytes_eq-Decides (class_key unicode inner casei) (class_key u other c)).0 same) class is)
      by_test false other_key h = known u c other found h

-- after an insertion, which may have been refused
module _ {Y Z : Type 0} (m n : BTreeMap (String Y) (Arc CharClassMatcher Z)) (key : String Y) (class : Arc CharClassMatcher Z) (unicode casei : Bool)
    (inner : List ℕ)
    (of_key : string_bytes key ≡ class_key unicode inner casei) (is : IsClass unicode casei inner class) (known : AreClasses m) where
  pub classes_with_key : {T E : Type 0} (r : Result T E) → OnOk r (Updates string_cmp m n key (Some class)) → OnErr r (IsUnchanged m n) → AreClasses n
  classes_with_key (Ok x) updates same =
      one_more m n unicode casei inner class is
      (subst (λ bytes. (k : List ℕ) → get_by_text n k ≡ update bytes_eq (get_by_text m) bytes (Some class) k) of_key
      (btree_map_updates_text (string_bytes key) m n (Some class) updates))
      known
  classes_with_key (Err e) updates same = λ u c other found there.
      known u c other found (sym (ap (lookup (is_at (λ k. slice_cmp nat_cmp (class_key u other c) (string_bytes k)))) same) ∙ there)
