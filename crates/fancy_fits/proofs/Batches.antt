-- A batch fits: it writes the pairs of its groups at most, and not those of groups that no way can set.
use Rattle.std.proofs.Common.{◌≡◌, ℕ, ◌+◌, ◌*◌, ◌<◌, ◌≤◌, Bool, true, false, if◌then◌else◌, nat_lt, List, [], ◌∷◌, ◌++◌, map, flat_map, Option, Some, None, encode_utf8_all, refl, sym, subst, arith}
use Rattle.std.proofs.lemmas.Bool.{lt-ltb}
use Rattle.std.specs.List.{list_any, list_all}
use Rattle.fancy_meaning.specs.Tree.{Tree, Trees, none, more, Any, Delegate, Concat, Alt, Group, LookAround, Repeat, AtomicGroup, Conditional, Look, LookAhead, LookAheadNeg, LookBehind, LookBehindNeg}
use Rattle.fancy_meaning.specs.Nodes.{nodes, nodes_of_each}
use Rattle.fancy_meaning.specs.Chars.{is_class}
use Rattle.fancy_meaning.specs.Instr.{Instr, Codepoint}
use Rattle.fancy_meaning.specs.Code.{nothing, one}
use Rattle.fancy_meaning.specs.Batches.{all_joined, literal_chars, literal_instr, class_code, any_instr, pattern_of, fragment, group_range, delegate_code, batch_code, batch}
use Rattle.fancy_meaning.specs.Fits.{fragment_fits, is_entered, is_positive, settable_groups, settable_in_each}
use Rattle.fancy_laws.proofs.Every.{Every, no_item, item, every_if, every_append, every_append_parts}
use Rattle.fancy_laws.proofs.Numbering.{numbers_of, numbers_of_both}
use Rattle.fancy_fits.proofs.Codes.{both, fits_if, fits_nothing}
use Rattle.fancy_fits.proofs.Constructs.{Fits, fits_plain}
use Rattle.fancy_fits.proofs.Known.{Known}

-- the slots that a delegate of neighbours writes are there
abbrev pub NeighboursFit : ℕ → Bool → List Tree → Type 0
NeighboursFit slots unicode es = fragment_fits slots (fragment unicode es) ≡ true

-- neighbours without a name, and with one
no_name : (unicode : Bool) (es : List Tree) → pattern_of unicode es ≡ [] → delegate_code unicode es ≡ nothing
no_name unicode es e = rw e refl

some_name : (unicode : Bool) (es : List Tree) (c : ℕ) (cs : List ℕ) → pattern_of unicode es ≡ c ∷ cs →
    delegate_code unicode es ≡ one (Instr.Delegate (c ∷ cs) (fragment unicode es) (group_range es))
some_name unicode es c cs e = rw e refl

-- what holds of the numbers of all groups holds of those that can be set
module _ {P : ℕ → Type 0} where
  numbers_apart : (xs ys : List Tree) → Every P (numbers_of (xs ++ ys)) → Every P (numbers_of xs) × Every P (numbers_of ys)
  numbers_apart xs ys h = every_append_parts (numbers_of xs) (numbers_of ys) (subst (Every P) (numbers_of_both xs ys) h)

  when_positive : (look : Look) {gs : List ℕ} → Every P gs → Every P (if is_positive look then gs else [])
  when_positive LookAhead h = h
  when_positive LookAheadNeg h = no_item
  when_positive LookBehind h = h
  when_positive LookBehindNeg h = no_item

  mutual
    settable_number : (e : Tree) → Every P (numbers_of (nodes e)) → Every P (settable_groups e)
    settable_number (Concat es) h = settable_in_trees es h
    settable_number (Alt es) h = settable_in_trees es h
    settable_number (Group g e) (item p h) = item p (settable_number e h)
    settable_number (LookAround look e) h = when_positive look (settable_number e h)
    settable_number (Repeat lo hi greedy e) h = every_if (is_entered lo hi) (λ on. settable_number e h) (λ off. no_item)
    settable_number (AtomicGroup e) h = settable_number e h
    settable_number (Conditional c t f) h =
        let first = numbers_apart (nodes c) (nodes t ++ nodes f) h in
        let rest = numbers_apart (nodes t) (nodes f) first.1 in
        every_append (settable_number c first.0) (every_append (settable_number t rest.0) (settable_number f rest.1))
    settable_number e h = no_item

    settable_in_trees : (es : Trees) → Every P (numbers_of (nodes_of_each es)) → Every P (settable_in_each es)
    settable_in_trees none h = no_item
    settable_in_trees (more e es) h =
        let parts = numbers_apart (nodes e) (nodes_of_each es) h in
        every_append (settable_number e parts.0) (settable_in_trees es parts.1)

  settable_in_list : (es : List Tree) → Every P (numbers_of (flat_map nodes es)) → Every P (flat_map settable_groups es)
  settable_in_list [] h = no_item
  settable_in_list (e ∷ es) h =
      let parts = numbers_apart (nodes e) (flat_map nodes es) h in
      every_append (settable_number e parts.0) (settable_in_list es parts.1)

module _ (count slots : ℕ) (room : 2 * count ≤ slots) where
  pairs_fit : (gs : List ℕ) → Every (λ g. g < count) gs → list_all (λ g. nat_lt (2 * g + 1) slots) gs ≡ true
  pairs_fit [] h = refl
  pairs_fit (g ∷ gs) (item lt h) = both (lt-ltb (2 * g + 1) slots (omega (arith, lt, room))) (pairs_fit gs h)

  pub neighbours_fit : (unicode : Bool) (es : List Tree) → Known count slots (flat_map nodes es) →
      NeighboursFit slots unicode es
  neighbours_fit unicode es k = pairs_fit (flat_map settable_groups es) (settable_in_list es k.numbers)

module _ (len slots : ℕ) where
  pub fits_any : (newline crlf : Bool) → Fits len slots (one (any_instr newline crlf))
  fits_any true crlf = fits_plain len slots Instr.Any refl
  fits_any false true = fits_plain len slots Instr.AnyNoCRLF refl
  fits_any false false = fits_plain len slots Instr.AnyNoNL refl

  pub fits_class : (unicode : Bool) (inner : List ℕ) (casei : Bool) → Fits len slots (class_code unicode inner casei)
  fits_class unicode inner casei =
      fits_if len slots (is_class unicode inner casei) (one (Instr.Class (Codepoint inner casei unicode))) nothing
      (fits_plain len slots (Instr.Class (Codepoint inner casei unicode)) refl) (fits_nothing len slots)

  fits_chars : (unicode : Bool) (cs : List (ℕ × Bool)) → Fits len slots (one (literal_instr unicode cs))
  fits_chars unicode cs = by_fold (list_any (λ c. c.1) cs)
    where
      by_fold : (v : Bool) →
          Fits len slots (one (if v then Instr.LitCasei cs unicode else Instr.Lit (encode_utf8_all (map (λ c. c.0) cs))))
      by_fold true = fits_plain len slots (Instr.LitCasei cs unicode) refl
      by_fold false = fits_plain len slots (Instr.Lit (encode_utf8_all (map (λ c. c.0) cs))) refl

  fits_delegate : (unicode : Bool) (es : List Tree) → NeighboursFit slots unicode es → Fits len slots (delegate_code unicode es)
  fits_delegate unicode es ok = by_name (pattern_of unicode es) refl
    where
      by_name : (t : List ℕ) → pattern_of unicode es ≡ t → Fits len slots (delegate_code unicode es)
      by_name [] e = subst (Fits len slots) (sym (no_name unicode es e)) (fits_nothing len slots)
      by_name (c ∷ cs) e =
          subst (Fits len slots) (sym (some_name unicode es c cs e))
          (fits_plain len slots (Instr.Delegate (c ∷ cs) (fragment unicode es) (group_range es)) ok)

  by_shape : (unicode : Bool) (o : Option (List (ℕ × Bool))) (es : List Tree) → NeighboursFit slots unicode es →
      Fits len slots (batch_code unicode o es)
  by_shape unicode (Some cs) es ok = fits_chars unicode cs
  by_shape unicode None (Delegate inner casei ∷ []) ok = fits_class unicode inner casei
  by_shape unicode None (Any newline crlf ∷ []) ok = fits_any newline crlf
  by_shape unicode None es ok = fits_delegate unicode es ok

  pub fits_batch : (unicode : Bool) (es : List Tree) → NeighboursFit slots unicode es → Fits len slots (batch unicode es)
  fits_batch unicode [] ok = fits_nothing len slots
  fits_batch unicode (e ∷ es) ok = by_shape unicode (all_joined (map literal_chars (e ∷ es))) (e ∷ es) ok
