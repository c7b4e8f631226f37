-- The tokens of a pattern open groups only where they say so, and their counts are in order.
use Rattle.std.proofs.Common.{◌≡◌, ℕ, ◌+◌, ◌-◌, ◌^◌, ◌<◌, ◌≤◌, Bool, true, false, not, cond, ◌&&◌, ◌||◌, List, [], ◌∷◌, length, filter_map, codes, Option, Some, None, IfSome, Result, Ok, Err, refl, sym, ap, ◌∙◌, subst, arith, eqb, ltb, leb, ltb-true, leb-true}
use Rattle.std.specs.Prelude.{ℤ, option_and_then, FitsSigned, pos, neg_ℤ}
use Rattle.std.specs.Int.{w64}
use borrow.Author.Differences.{fits_in, neg_is}
use Rattle.std.specs.Str.Parse.{digits_value}
use Rattle.std.specs.List.{count_by, take_while}
use Rattle.std.proofs.Math.Utf8.{encode}
use Rattle.std.proofs.lemmas.List.Recursion.{is_count_by}
use Rattle.std.proofs.lemmas.Bool.{eq-eqb, false≢true}
use Rattle.std.proofs.lemmas.Bool.Decides.{nat_tests}
use Rattle.fancy_meaning.specs.Tree as tree
use Rattle.fancy_meaning.specs.Tree.{Tree}
use Rattle.fancy_meaning.specs.Nodes.{nodes, as_group}
use Rattle.fancy_meaning.specs.WellFormed.{IsUsize, IsCount, IsFine, most_groups}
use Rattle.fancy_expr.specs.Views.{bound_of}
use Rattle.fancy_tokens.specs.declared.error.ErrorKind.{ErrorKind}
use Rattle.fancy_tokens.specs.declared.error.Fault.{Fault}
use Rattle.fancy_tokens.specs.declared.lexing.ClassPlace.{ClassPlace}
use Rattle.fancy_tokens.specs.declared.lexing.Head.TheVariants as head
use Rattle.fancy_tokens.specs.declared.flags.Flags.{Flags}
use Rattle.fancy_tokens.specs.declared.lexing.Lexing.{Lexing}
use Rattle.fancy_tokens.specs.declared.tokens.Naming.{Naming}
use Rattle.fancy_tokens.specs.declared.tokens.Quantifier.{Quantifier}
use Rattle.fancy_tokens.specs.declared.tokens.Quantifier.TheVariants.{Counts}
use Rattle.fancy_pattern.specs.Texts.{Text, Read, fault_at, ◌>>=◌, skip_word, skip_run}
use Rattle.fancy_tokens.specs.Tokens.{Target, Number, Nowhere, Reference, If, Group, Opening, Placed, Token, Node, Refer, Open, Close, Quantified, Item, item}
use Rattle.fancy_pattern.specs.Numbers.{number_of, level_of, signed}
use Rattle.fancy_pattern.specs.Quantifiers.{Written, is_empty, count_of, lo_of, hi_of, counts_of, counts_at, written_at}
use Rattle.std.specs.Char.{is_ascii_digit, is_ascii_alphanumeric}
use Rattle.fancy_pattern.specs.Names.{number_at, name_at, closed_at, back, onward, target_at, signed_level_at, level_at, level_for, closing_of, reference_at, delimited_at, named_at}
use Rattle.fancy_pattern.specs.Flags.{letters_at, at_first}
use Rattle.fancy_pattern.specs.Escapes.{hex_at, property_at, is_set, escape_at, literal_at, set_at, refer_at, numbered_at, other_escape_at, leaf_escape, literal_escape, own_escape}
use Rattle.fancy_pattern.specs.Groups.{plain_group, verb_word_at, look_at, condition_number_at, enclosing_of, named_group_at, call_at, numbered_call_at, verb_at, absent_at, angle_at, python_at, flags_item_at, minus_at, condition_by_group_at, pattern_condition_at, group_condition_at, condition_at, other_question_at, question_at, opening_at}
use Rattle.fancy_pattern.specs.Classes.{ClassItem, piece_item, inner, class_item_at, class_escape_at, bracket, closing_bracket}
use Rattle.fancy_pattern.specs.Items.{sign_token, brace_at, item_at, outside_at, within_at, found_at, Found, class_of}
use Rattle.fancy_tokens.specs.Nesting.{opened_by}
use Rattle.fancy_pattern.specs.Grammar as grammar
use Rattle.fancy_pattern.specs.Described.{opens_group}
use Rattle.fancy_pattern.specs.Lexing.{State, Lexes, ended, gap, token, unread, misplaced}
use Rattle.fancy_tokens.specs.Nesting.{GoesBy}
use Rattle.fancy_tokens.specs.declared.lexing.Head.{Head}
use Rattle.fancy_tokens.specs.declared.tokens.Naming.TheVariants as naming
use Rattle.fancy_tokens.specs.declared.error.ErrorKind.TheVariants.{InvalidRepeat, InvalidEscape, InvalidBackref, GeneralParseError}
use Rattle.fancy_expr.specs.Each.{Each}

-- the counts are in order, and below the largest number
abbrev pub FineCounts : Quantifier → Type 0
FineCounts q = IsCount (grammar.lo_of q) × IfSome (bound_of (grammar.hi_of q)) (λ n. (grammar.lo_of q ≤ n) × IsCount n)

-- a number is one of its type, or there is none
abbrev pub FineTarget : Target → Type 0
FineTarget (Number g) = IsUsize g
FineTarget t = Unit {0}

abbrev pub FineReference : Reference → Type 0
FineReference r = FineTarget r.target × IfSome r.level (FitsSigned w64)

abbrev pub FineOpening : Opening → Type 0
FineOpening (Group number name) = IsUsize number
FineOpening (If r) = FineReference r
FineOpening o = Unit {0}

-- fine, but for what a text is
abbrev pub FineBut : Tree → Type 0
FineBut (tree.Delegate (b ∷ bs) casei) = Unit {0}
FineBut (tree.Literal c casei) = Unit {0}
FineBut e = IsFine e

-- no groups are in it, and its nodes are fine
abbrev pub LeafTree : Tree → Type 0
LeafTree e = (filter_map as_group (nodes e) ≡ []) × Each FineBut (nodes e)

abbrev pub FineToken : Token → Type 0
FineToken (Node e) = LeafTree e
FineToken (Refer r) = FineReference r
FineToken (Open o) = FineOpening o
FineToken (Quantified q greedy) = FineCounts q
FineToken t = Unit {0}

abbrev HasToken : Read Token → Type 0
HasToken (Ok p) = FineToken p.0
HasToken (Err e) = Unit {0}

abbrev HasItem : Read Item → Type 0
HasItem (Ok p) = FineToken p.0.token
HasItem (Err e) = Unit {0}

abbrev HasOption : Option Token → Type 0
HasOption (Some t) = FineToken t
HasOption None = Unit {0}

abbrev HasTree : Option Tree → Type 0
HasTree (Some e) = LeafTree e
HasTree None = Unit {0}

-- ---- steps

either : {X : Type 0} (Q : X → Type 0) (b : Bool) (x y : X) → Q x → Q y → Q (cond b x y)
either Q true x y h k = h
either Q false x y h k = k

found : {A B : Type 0} (Q : B → Type 0) (o : Option A) (f : A → B) (b : B) → ((a : A) → Q (f a)) → Q b → Q (elim o [ Some a ↦ f a | None ↦ b ])
found Q (Some a) f b h k = h a
found Q None f b h k = k

then_item : {A : Type 0} (r : Result A Fault) (f : A → Read Item) → ((a : A) → HasItem (f a)) → HasItem (r >>= f)
then_item (Ok a) f h = h a
then_item (Err e) f h = tt

then_token : {A : Type 0} (r : Result A Fault) (f : A → Read Token) → ((a : A) → HasToken (f a)) → HasToken (r >>= f)
then_token (Ok a) f h = h a
then_token (Err e) f h = tt

-- what is read is so
abbrev Gives : {A : Type 0} → (A → Type 0) → Result A Fault → Type 0
Gives Q (Ok a) = Q a
Gives Q (Err e) = Unit {0}

given : {A B : Type 0} {Q : A → Type 0} (P : B → Type 0) (r : Result A Fault) (f : A → Result B Fault) → Gives Q r → ((a : A) → Q a → Gives P (f a)) →
    Gives P (r >>= f)
given P (Ok a) f h k = k a h
given P (Err e) f h k = tt

all_given : {A B : Type 0} (P : B → Type 0) (r : Result A Fault) (f : A → Result B Fault) → ((a : A) → Gives P (f a)) → Gives P (r >>= f)
all_given P (Ok a) f k = k a
all_given P (Err e) f k = tt

given_item : {A : Type 0} {Q : A → Type 0} (r : Result A Fault) (f : A → Read Item) → Gives Q r → ((a : A) → Q a → HasItem (f a)) → HasItem (r >>= f)
given_item (Ok a) f h k = k a h
given_item (Err e) f h k = tt

given_token : {A : Type 0} {Q : A → Type 0} (r : Result A Fault) (f : A → Read Token) → Gives Q r → ((a : A) → Q a → HasToken (f a)) → HasToken (r >>= f)
given_token (Ok a) f h k = k a h
given_token (Err e) f h k = tt

-- ---- numbers and levels

number_fits : (radix : ℕ) (digits : List ℕ) (n : ℕ) → number_of radix digits ≡ Some n → IsUsize n
unfolding number_of
number_fits radix digits n e = by_test (ltb (digits_value radix digits) (2 ^ 64)) refl e
  where
    by_test : (b : Bool) → ltb (digits_value radix digits) (2 ^ 64) ≡ b → cond b (Some (digits_value radix digits)) None ≡ Some n → IsUsize n
    by_test true is e = let same : digits_value radix digits ≡ n = cc in subst IsUsize same (ltb-true _ _ is)
    by_test false is e = absurd (cc)

ReadNumber : ℕ × Text → Type 0
ReadNumber n = IsUsize n.0

number_gives : (text : Text) → Gives ReadNumber (number_at text)
unfolding number_at ReadNumber
number_gives text = either (Gives ReadNumber) (eqb (length (take_while is_ascii_digit text)) 0) _ _ tt (by_number (number_of 10
    (take_while is_ascii_digit text)) refl)
  where
    by_number : (o : Option ℕ) → number_of 10 (take_while is_ascii_digit text) ≡ o → Gives ReadNumber (elim o [
      | None ↦ Err (fault_at InvalidBackref text)
      | Some n ↦ Ok (n, skip_run is_ascii_digit text)
    ])
    by_number None e = tt
    by_number (Some n) e = number_fits 10 (take_while is_ascii_digit text) n e

most_fits : (n : ℕ) → n ≤ most_groups → n + 1 < 2 ^ 64
most_fits n h = omega (arith, h)

ReadTarget : Target × Text → Type 0
ReadTarget t = FineTarget t.0

back_fine : (opened n : ℕ) → opened ≤ most_groups → FineTarget (back opened n)
back_fine opened n h = either FineTarget (ltb 0 n && leb n opened) _ _ (let k = most_fits opened h in omega (arith, k)) tt

onward_fine : (opened n : ℕ) → FineTarget (onward opened n)
onward_fine opened n = either FineTarget (eqb n 0) _ _ tt (by_test (ltb (opened + n) (2 ^ 64)) refl)
  where
    by_test : (b : Bool) → ltb (opened + n) (2 ^ 64) ≡ b → FineTarget (cond b (Number (opened + n)) Nowhere)
    by_test true is = ltb-true (opened + n) (2 ^ 64) is
    by_test false is = tt

target_gives : (opened : ℕ) (text : Text) → opened ≤ most_groups → Gives ReadTarget (target_at opened text)
unfolding target_at ReadTarget ReadNumber
target_gives opened [] h = all_given ReadTarget (name_at []) _ (λ name. tt)
target_gives opened (c ∷ cs) h =
    either (Gives ReadTarget) (eqb c 45) _ _ (given ReadTarget (number_at cs) _ (number_gives cs) (λ n k. back_fine opened n.0 h))
    (either (Gives ReadTarget) (eqb c 43) _ _ (given ReadTarget (number_at cs) _ (number_gives cs) (λ n k. onward_fine opened n.0))
    (either (Gives ReadTarget) (is_ascii_digit c) _ _ (given ReadTarget (number_at (c ∷ cs)) _ (number_gives (c ∷ cs)) (λ n k. k))
    (all_given ReadTarget (name_at (c ∷ cs)) _ (λ name. tt))))

ReadLevel : Option ℤ × Text → Type 0
ReadLevel l = IfSome l.0 (FitsSigned w64)

signed_fits : (negative : Bool) (n : ℕ) → n < 2 ^ 63 → FitsSigned w64 (signed negative n)
signed_fits true n h = fits_in w64 (neg_ℤ (pos n)) (omega (arith, h, neg_is (pos n)))
signed_fits false n h = fits_in w64 (pos n) (omega (arith, h))

level_fits : (negative : Bool) (digits : List ℕ) (l : ℤ) → level_of negative digits ≡ Some l → FitsSigned w64 l
level_fits negative digits l e = by_number (number_of 10 digits) e
  where
    by_test : (n : ℕ) (b : Bool) → ltb n (2 ^ 63) ≡ b → cond b (Some (signed negative n)) None ≡ Some l → FitsSigned w64 l
    by_test n true is e = let same : signed negative n ≡ l = cc in subst (FitsSigned w64) same (signed_fits negative n (ltb-true n (2 ^ 63) is))
    by_test n false is e = absurd (cc)

    by_number : (o : Option ℕ) → option_and_then (λ n. cond (ltb n (2 ^ 63)) (Some (signed negative n)) None) o ≡ Some l → FitsSigned w64 l
    by_number None e = absurd (cc)
    by_number (Some n) e = by_test n (ltb n (2 ^ 63)) refl e

signed_gives : (negative : Bool) (text : Text) → Gives ReadLevel (signed_level_at negative text)
unfolding signed_level_at ReadLevel
signed_gives negative text =
    either (Gives ReadLevel) (eqb (length (take_while is_ascii_digit text)) 0) _ _ tt (by_level (level_of negative (take_while is_ascii_digit text)) refl)
  where
    by_level : (o : Option ℤ) → level_of negative (take_while is_ascii_digit text) ≡ o → Gives ReadLevel (elim o [
      | None ↦ Err (fault_at InvalidBackref text)
      | Some l ↦ Ok (Some l, skip_run is_ascii_digit text)
    ])
    by_level None e = tt
    by_level (Some l) e = level_fits negative (take_while is_ascii_digit text) l e

level_gives : (text : Text) → Gives ReadLevel (level_at text)
unfolding level_at ReadLevel
level_gives [] = tt
level_gives (c ∷ cs) =
    either (Gives ReadLevel) (eqb c 45) _ _ (signed_gives true cs) (either (Gives ReadLevel) (eqb c 43) _ _ (signed_gives false cs) tt)

level_for_gives : (n : Naming) (text : Text) → Gives ReadLevel (level_for n text)
unfolding ReadLevel
level_for_gives naming.Call text = tt
level_for_gives (naming.Backref casei) text = level_gives text
level_for_gives naming.Exists text = level_gives text

ReadReference : Reference × Text → Type 0
ReadReference r = FineReference r.0

reference_gives : (opened : ℕ) (n : Naming) (close : ℕ) (text : Text) → opened ≤ most_groups → Gives ReadReference (reference_at opened n close text)
unfolding reference_at ReadReference ReadTarget ReadLevel
reference_gives opened n close text h =
    given ReadReference (target_at opened text) _ (target_gives opened text h) (λ t k.
    given ReadReference (level_for n t.1) _ (level_for_gives n t.1) (λ l m. all_given ReadReference (closed_at close l.1) _ (λ rest. (k, m))))

delimited_gives : (opened : ℕ) (n : Naming) (text : Text) → opened ≤ most_groups → Gives ReadReference (delimited_at opened n text)
unfolding delimited_at
delimited_gives opened n [] h = tt
delimited_gives opened n (c ∷ cs) h = found (Gives ReadReference) (closing_of n c) _ _ (λ close. reference_gives opened n close cs h) tt

named_gives : (n : Naming) (close : ℕ) (text : Text) → Gives ReadReference (named_at n close text)
unfolding named_at ReadReference
named_gives n close text = all_given ReadReference (name_at text) _ (λ name. all_given ReadReference (closed_at close name.1) _ (λ rest. (tt, tt)))

-- ---- counts

bounded : (lo hi : ℕ) → lo ≤ hi → hi < 2 ^ 64 → IfSome (bound_of hi) (λ n. (lo ≤ n) × IsCount n)
bounded lo hi le fits = by_test (eqb hi (2 ^ 64 - 1)) refl
  where
    by_test : (last : Bool) → eqb hi (2 ^ 64 - 1) ≡ last → IfSome (cond last None (Some hi)) (λ n. (lo ≤ n) × IsCount n)
    by_test true is = tt
    by_test false is =
        (le, let other : hi ≡ 2 ^ 64 - 1 → ⊥ = λ e. false≢true (sym is ∙ eq-eqb hi (2 ^ 64 - 1) e) in omega (arith, other, fits))

counted : (digits : Text) (n : ℕ) → count_of digits ≡ Some n → n < 2 ^ 64 - 1
counted digits n e = by_number (number_of 10 digits) e
  where
    by_test : (b : Bool) (m : ℕ) → ltb m (2 ^ 64 - 1) ≡ b → cond b (Some m) None ≡ Some n → n < 2 ^ 64 - 1
    by_test true m is e = let same : m ≡ n = cc in let h = ltb-true m (2 ^ 64 - 1) is in omega (arith, h, same)
    by_test false m is e = absurd (cc)

    by_number : (o : Option ℕ) → option_and_then (λ n. cond (ltb n (2 ^ 64 - 1)) (Some n) None) o ≡ Some n → n < 2 ^ 64 - 1
    by_number None e = absurd (cc)
    by_number (Some m) e = by_test (ltb m (2 ^ 64 - 1)) m refl e

lo_counted : (digits : Text) (n : ℕ) → lo_of digits ≡ Some n → n < 2 ^ 64 - 1
lo_counted digits n e = by_test (is_empty digits) e
  where
    by_test : (b : Bool) → cond b (Some 0) (count_of digits) ≡ Some n → n < 2 ^ 64 - 1
    by_test true e = let same : 0 ≡ n = cc in omega (arith, same)
    by_test false e = counted digits n e

hi_counted : (lo : ℕ) (w : Option Text) (n : ℕ) → lo < 2 ^ 64 - 1 → hi_of lo w ≡ Some n → (lo ≤ n) × (n < 2 ^ 64)
hi_counted lo None n small e = let same : lo ≡ n = cc in (omega (arith, same), omega (arith, same, small))
hi_counted lo (Some digits) n small e = by_empty (is_empty digits) e
  where
    by_order : (b : Bool) (m : ℕ) → leb lo m ≡ b → count_of digits ≡ Some m → cond b (Some m) None ≡ Some n → (lo ≤ n) × (n < 2 ^ 64)
    by_order true m is c e =
        let same : m ≡ n = cc in
        let h = leb-true lo m is in
        let k = counted digits m c in
        (omega (arith, h, same), omega (arith, k, same))
    by_order false m is c e = absurd (cc)

    by_count : (o : Option ℕ) → count_of digits ≡ o → option_and_then (λ hi. cond (leb lo hi) (Some hi) None) o ≡ Some n → (lo ≤ n) × (n < 2 ^ 64)
    by_count None c e = absurd (cc)
    by_count (Some m) c e = by_order (leb lo m) m refl c e

    by_empty : (b : Bool) → cond b (Some (2 ^ 64 - 1)) (option_and_then (λ hi. cond (leb lo hi) (Some hi) None) (count_of digits)) ≡ Some n →
        (lo ≤ n) × (n < 2 ^ 64)
    by_empty true e = let same : 2 ^ 64 - 1 ≡ n = cc in (omega (arith, same, small), omega (arith, same))
    by_empty false e = by_count (count_of digits) refl e

abbrev HasCounts : Option Quantifier → Type 0
HasCounts (Some q) = FineCounts q
HasCounts None = Unit {0}

counts_fine : (w : Written) → HasCounts (counts_of w)
unfolding counts_of
counts_fine w = by_lo (lo_of w.lo) refl
  where
    by_hi : (lo : ℕ) → lo_of w.lo ≡ Some lo → (o : Option ℕ) → hi_of lo w.hi ≡ o → HasCounts (option_and_then (λ hi. Some (Counts lo hi)) o)
    by_hi lo l None e = tt
    by_hi lo l (Some hi) e =
        let small = lo_counted w.lo lo l in
        let h = hi_counted lo w.hi hi small e in
        (small, bounded lo hi h.0 h.1)

    by_lo : (o : Option ℕ) → lo_of w.lo ≡ o → HasCounts (option_and_then (λ lo. option_and_then (λ hi. Some (Counts lo hi)) (hi_of lo w.hi)) o)
    by_lo None e = tt
    by_lo (Some lo) e = by_hi lo e (hi_of lo w.hi) refl

abbrev HasRead : Option (Result Quantifier ErrorKind × Text) → Type 0
HasRead (Some (Ok q, rest)) = FineCounts q
HasRead (Some (Err e, rest)) = Unit {0}
HasRead None = Unit {0}

read_fine : (x : Bool) (text : Text) → HasRead (counts_at x text)
unfolding counts_at
read_fine x text = by_written (written_at x text)
  where
    by_counts : (o : Option Quantifier) (rest : Text) → HasCounts o → HasRead (elim o [ Some q ↦ Some (Ok q, rest) | None ↦ Some (Err InvalidRepeat, rest) ])
    by_counts (Some q) rest h = h
    by_counts None rest h = tt

    by_written : (o : Option (Written × Text)) →
        HasRead (option_and_then (λ w. elim (counts_of w.0) [ Some q ↦ Some (Ok q, w.1) | None ↦ Some (Err InvalidRepeat, w.1) ]) o)
    by_written None = tt
    by_written (Some w) = by_counts (counts_of w.0) w.1 (counts_fine w.0)

-- ---- outside of classes

brace_fine : (f : Flags) (text after : Text) → HasToken (brace_at f text after)
unfolding brace_at
brace_fine f text after = by_counts (counts_at f.ignore_whitespace after) (read_fine f.ignore_whitespace after)
  where
    by_counts : (o : Option (Result Quantifier ErrorKind × Text)) → HasRead o →
        HasToken (elim o [
          | None ↦ Ok (Node (tree.Literal 123 f.casei), after)
          | Some counts ↦ elim counts.0 [ Ok q ↦ Ok (Quantified q (not f.swap_greed), counts.1) | Err kind ↦ Err (fault_at kind text) ]
        ])
    by_counts None h = (refl, (tt, tt))
    by_counts (Some (Ok q, rest)) h = h
    by_counts (Some (Err e, rest)) h = tt

own_fine : (casei : Bool) (c : ℕ) → HasTree (own_escape casei c)
own_fine casei c = either HasTree (is_ascii_alphanumeric c) _ _ tt (refl, (tt, tt))

literal_fine : (f : Flags) (c : ℕ) → HasTree (literal_escape f c)
literal_fine f c = either HasTree (eqb c 97) _ _ (refl, (tt, tt)) (either HasTree (eqb c 101) _ _ (refl, (tt, tt)) (either HasTree (eqb c 102) _ _ (
  refl,
  (tt, tt),
) (either HasTree (eqb c 110) _ _ (refl, (tt, tt)) (either HasTree (eqb c 114) _ _ (refl, (tt, tt)) (either HasTree (eqb c 116) _ _ (
  refl,
  (tt, tt),
) (either HasTree (eqb c 118) _ _ (refl, (tt, tt)) (own_fine f.casei c)))))))

leaf_fine : (f : Flags) (c : ℕ) → HasTree (leaf_escape f c)
leaf_fine f c = either HasTree (eqb c 65) _ _ (refl, (tt, tt)) (either HasTree (eqb c 122) _ _ (refl, (tt, tt)) (either HasTree (eqb c 90) _ _ (
  refl,
  (tt, tt),
) (either HasTree (eqb c 66) _ _ (refl, (tt, tt)) (either HasTree (eqb c 60) _ _ (refl, (tt, tt)) (either HasTree (eqb c 62) _ _ (refl, (tt, tt))
    (either HasTree (eqb c 71) _ _ (refl, (tt, tt)) (either HasTree (eqb c 75) _ _ (refl, (tt, tt)) (either HasTree (eqb c 82) _ _ (refl, (tt, tt))
    (either HasTree (eqb c 79) _ _ (refl, (tt, tt)) (either HasTree (eqb c 78) _ _ (refl, (tt, tt)) (either HasTree (eqb c 104) _ _ (refl, (tt, tt))
    (either HasTree (eqb c 72) _ _ (refl, (tt, tt)) (literal_fine f c)))))))))))))

numbered_fine : (f : Flags) (text : Text) → HasToken (numbered_at f text)
unfolding numbered_at ReadNumber
numbered_fine f text = given_token (number_at text) _ (number_gives text) (λ n k. (k, tt))

other_escape_fine : (f : Flags) (c : ℕ) (text after : Text) → HasToken (other_escape_at f c text after)
unfolding other_escape_at encode
other_escape_fine f c text after =
    either HasToken (is_set c) _ _ (refl, (tt, tt)) (either HasToken (is_ascii_digit c) _ _ (numbered_fine f text) (by_leaf (leaf_escape f c)
    (leaf_fine f c)))
  where
    by_leaf : (o : Option Tree) → HasTree o → HasToken (elim o [ Some e ↦ Ok (Node e, after) | None ↦ Err (fault_at InvalidEscape text) ])
    by_leaf (Some e) h = h
    by_leaf None h = tt

code_fine : (f : Flags) (n : ℕ) (text : Text) → HasToken (literal_at f n text)
unfolding literal_at
code_fine f n text = then_token (hex_at n text) _ (λ c. (refl, (tt, tt)))

set_fine : (f : Flags) (letter : ℕ) (text : Text) → HasToken (set_at f letter text)
unfolding set_at encode
set_fine f letter text = then_token (property_at text) _ (λ name. (refl, (tt, tt)))

refer_fine : (opened : ℕ) (n : Naming) (text : Text) → opened ≤ most_groups → HasToken (refer_at opened n text)
unfolding refer_at ReadReference
refer_fine opened n text h = given_token (delimited_at opened n text) _ (delimited_gives opened n text h) (λ r k. k)

escape_fine : (f : Flags) (opened : ℕ) (text : Text) → opened ≤ most_groups → HasToken (escape_at f opened text)
unfolding escape_at
escape_fine f opened [] h = tt
escape_fine f opened (c ∷ cs) h =
    either HasToken (eqb c 120) _ _ (code_fine f 2 cs) (either HasToken (eqb c 117) _ _ (code_fine f 4 cs) (either HasToken (eqb c 85) _ _ (code_fine f 8 cs)
    (either HasToken (eqb c 112) _ _ (set_fine f c cs) (either HasToken (eqb c 80) _ _ (set_fine f c cs) (either HasToken (eqb c 98) _ _ (refl, (tt, tt))
    (either HasToken (eqb c 107) _ _ (refer_fine opened (naming.Backref f.casei) cs h) (either HasToken (eqb c 103) _ _
    (refer_fine opened naming.Call cs h) (other_escape_fine f c (c ∷ cs) cs))))))))

named_group_fine : (f : Flags) (opened close : ℕ) (text : Text) → opened ≤ most_groups → HasItem (named_group_at f opened close text)
unfolding named_group_at
named_group_fine f opened close text h = then_item (name_at text) _ (λ name. then_item (closed_at close name.1) _ (λ rest. most_fits opened h))

call_fine : (f : Flags) (n : Naming) (text : Text) → HasItem (call_at f n text)
unfolding call_at ReadReference
call_fine f n text = given_item (named_at n 41 text) _ (named_gives n 41 text) (λ r k. k)

numbered_call_fine : (f : Flags) (opened : ℕ) (text : Text) → opened ≤ most_groups → HasItem (numbered_call_at f opened text)
unfolding numbered_call_at ReadReference
numbered_call_fine f opened text h =
    given_item (reference_at opened naming.Call 41 text) _ (reference_gives opened naming.Call 41 text h) (λ r k. k)

verb_fine : (f : Flags) (text : Text) → HasItem (verb_at f text)
unfolding verb_at
verb_fine f text = found HasItem (verb_word_at text) _ _ (λ v. (refl, (tt, tt))) tt

abbrev HasPair : Item × Text → Type 0
HasPair p = FineToken p.0.token

absent_fine : (f : Flags) (text : Text) → HasPair (absent_at f text)
unfolding absent_at
absent_fine f text = found HasPair (skip_word (codes "|)") text) _ _ (λ rest. (refl, (tt, tt))) (found HasPair (skip_word (codes "|") text) _ _
    (λ rest. tt) tt)

angle_fine : (f : Flags) (opened : ℕ) (text : Text) → opened ≤ most_groups → HasItem (angle_at f opened text)
unfolding angle_at
angle_fine f opened [] h = named_group_fine f opened 62 [] h
angle_fine f opened (c ∷ cs) h = either HasItem (eqb c 61) _ _ tt (either HasItem (eqb c 33) _ _ tt (named_group_fine f opened 62 (c ∷ cs) h))

python_fine : (f : Flags) (opened : ℕ) (text : Text) → opened ≤ most_groups → HasItem (python_at f opened text)
unfolding python_at
python_fine f opened [] h = tt
python_fine f opened (c ∷ cs) h =
    either HasItem (eqb c 60) _ _ (named_group_fine f opened 62 cs h) (either HasItem (eqb c 61) _ _ (call_fine f (naming.Backref f.casei) cs)
    (either HasItem (eqb c 62) _ _ (call_fine f naming.Call cs) tt))

flags_fine : (f : Flags) (text : Text) → HasItem (flags_item_at f text)
unfolding flags_item_at
flags_fine f text = then_item (letters_at (at_first f) text) _ (λ x. either HasItem x.0.is_group _ _ tt tt)

minus_fine : (f : Flags) (opened : ℕ) (minus text : Text) → opened ≤ most_groups → HasItem (minus_at f opened minus text)
unfolding minus_at
minus_fine f opened minus [] h = flags_fine f minus
minus_fine f opened minus (c ∷ cs) h = either HasItem (is_ascii_digit c) _ _ (numbered_call_fine f opened minus h) (flags_fine f minus)

by_group_fine : (f : Flags) (digits : Text) (level : Option ℤ) (text rest : Text) → IfSome level (FitsSigned w64) →
    HasItem (condition_by_group_at f digits level text rest)
unfolding condition_by_group_at
by_group_fine f digits level text rest h = by_number (number_of 10 digits) refl
  where
    by_number : (o : Option ℕ) → number_of 10 digits ≡ o → HasItem (elim o [
      | None ↦ Err (fault_at InvalidBackref text)
      | Some n ↦ Ok (item f (Open (If (record { naming = naming.Exists; target = Number n; level = level; left = length text }))), rest)
    ])
    by_number None e = tt
    by_number (Some n) e = (number_fits 10 digits n e, h)

-- the level of a condition
abbrev HasLevel : Option ((Text × Option ℤ) × Text) → Type 0
HasLevel (Some n) = IfSome n.0.1 (FitsSigned w64)
HasLevel None = Unit {0}

condition_level : (text : Text) → HasLevel (condition_number_at text)
unfolding condition_number_at ReadLevel
condition_level text =
    either HasLevel (eqb (length (take_while is_ascii_digit text)) 0) _ _ tt (by_level (level_at (skip_run is_ascii_digit text)) (level_gives
    (skip_run is_ascii_digit text)))
  where
    by_rest : (o : Option Text) (l : Option ℤ) → IfSome l (FitsSigned w64) →
        HasLevel (option_and_then (λ rest. Some ((take_while is_ascii_digit text, l), rest)) o)
    by_rest None l h = tt
    by_rest (Some rest) l h = h

    by_level : (r : Read (Option ℤ)) → Gives ReadLevel r → HasLevel (elim r [
      | Err e ↦ None
      | Ok l ↦ option_and_then (λ rest. Some ((take_while is_ascii_digit text, l.0), rest)) (skip_word (codes ")") l.1)
    ])
    by_level (Ok l) h = by_rest (skip_word (codes ")") l.1) l.0 h
    by_level (Err e) h = tt

pattern_condition_fine : (f : Flags) (text : Text) → HasPair (pattern_condition_at f text)
unfolding pattern_condition_at
pattern_condition_fine f text = found HasPair (look_at text) _ _ (λ l. tt) tt

group_condition_fine : (f : Flags) (opened : ℕ) (text : Text) → opened ≤ most_groups → HasItem (group_condition_at f opened text)
unfolding group_condition_at ReadReference
group_condition_fine f opened [] h = pattern_condition_fine f []
group_condition_fine f opened (c ∷ cs) h =
    either HasItem (eqb c 60 || eqb c 39) _ _ (given_item (delimited_at opened naming.Exists (c ∷ cs)) _ (delimited_gives opened naming.Exists (c ∷ cs) h)
    (λ r k. then_item (closed_at 41 r.1) _ (λ rest. k))) (pattern_condition_fine f (c ∷ cs))

condition_fine : (f : Flags) (opened : ℕ) (text : Text) → opened ≤ most_groups → HasItem (condition_at f opened text)
unfolding condition_at
condition_fine f opened text h =
    found HasItem (skip_word (codes "DEFINE)") text) _ _ (λ rest. tt) (by_number (condition_number_at text) (condition_level text))
  where
    by_number : (o : Option ((Text × Option ℤ) × Text)) → HasLevel o → HasItem (elim o [
      | Some n ↦ condition_by_group_at f n.0.0 n.0.1 text n.1
      | None ↦ group_condition_at f opened text
    ])
    by_number (Some n) k = by_group_fine f n.0.0 n.0.1 text n.1 k
    by_number None k = group_condition_fine f opened text h

other_question_fine : (f : Flags) (opened c : ℕ) (text after : Text) → opened ≤ most_groups → HasItem (other_question_at f opened c text after)
unfolding other_question_at
other_question_fine f opened c text after h =
    either HasItem (eqb c 126) _ _ (absent_fine f after) (either HasItem (eqb c 60) _ _ (angle_fine f opened after h) (either HasItem (eqb c 39) _ _
    (named_group_fine f opened 39 after h) (either HasItem (eqb c 80) _ _ (python_fine f opened after h) (either HasItem (eqb c 38) _ _
    (call_fine f naming.Call after) (either HasItem (eqb c 40) _ _ (condition_fine f opened after h) (either HasItem (eqb c 35) _ _ tt (either HasItem
    (eqb c 45) _ _ (minus_fine f opened text after h) (either HasItem (eqb c 43) _ _ (numbered_call_fine f opened text h) (either HasItem
    (is_ascii_digit c) _ _ (numbered_call_fine f opened text h) (flags_fine f text))))))))))

question_fine : (f : Flags) (opened : ℕ) (text : Text) → opened ≤ most_groups → HasItem (question_at f opened text)
unfolding question_at
question_fine f opened [] h = tt
question_fine f opened (c ∷ cs) h = found HasItem (enclosing_of c) _ _ (λ e. tt) (other_question_fine f opened c (c ∷ cs) cs h)

plain_fine : (f : Flags) (opened : ℕ) → opened ≤ most_groups → FineOpening (plain_group f opened)
plain_fine f opened h = either FineOpening f.named_only _ _ tt (most_fits opened h)

opening_fine : (f : Flags) (opened : ℕ) (text : Text) → opened ≤ most_groups → HasItem (opening_at f opened text)
unfolding opening_at
opening_fine f opened [] h = plain_fine f opened h
opening_fine f opened (c ∷ cs) h = either HasItem (eqb c 63) _ _ (question_fine f opened cs h) (either HasItem (eqb c 42) _ _ (verb_fine f cs)
    (plain_fine f opened h))

sign_fine : (f : Flags) (c : ℕ) → HasOption (sign_token f c)
sign_fine f c =
    either HasOption (eqb c 46) _ _ (either LeafTree f.dot_all (tree.Any true false) (tree.Any false f.crlf) (refl, (tt, tt)) (refl, (tt, tt)))
    (either HasOption (eqb c 94) _ _ (by_start f.multi_line) (either HasOption (eqb c 36) _ _ (either LeafTree f.multi_line (tree.Assert tree.NoLook
    (tree.EndLine f.crlf)) (tree.Assert tree.NoLook tree.EndText) (refl, (tt, tt)) (refl, (tt, tt))) (either HasOption (eqb c 124) _ _ tt
    (either HasOption (eqb c 41) _ _ tt (either HasOption (eqb c 42) _ _ (omega arith, tt) (either HasOption (eqb c 43) _ _ (omega arith, tt)
    (either HasOption (eqb c 63) _ _ (omega arith, (omega arith, omega arith)) (either HasOption (eqb c 91) _ _ tt tt))))))))
  where
    by_start : (b : Bool) → LeafTree (cond (not b) (tree.Assert tree.NoLook tree.StartText)
        (cond f.oniguruma (tree.Assert tree.NoLook (tree.StartLineOniguruma f.crlf)) (tree.Assert tree.NoLook (tree.StartLine f.crlf))))
    by_start true =
        either LeafTree f.oniguruma (tree.Assert tree.NoLook (tree.StartLineOniguruma f.crlf))
        (tree.Assert tree.NoLook (tree.StartLine f.crlf)) (refl, (tt, tt)) (refl, (tt, tt))
    by_start false = (refl, (tt, tt))

-- a token becomes an item
as_item : (f : Flags) (r : Read Token) → HasToken r → HasItem (r >>= λ t. Ok (item f t.0, t.1))
as_item f (Ok t) h = h
as_item f (Err e) h = tt

item_fine : (f : Flags) (opened : ℕ) (text : Text) → opened ≤ most_groups → HasItem (item_at f opened text)
unfolding item_at
item_fine f opened [] h = tt
item_fine f opened (c ∷ cs) h = by_sign (sign_token f c) (sign_fine f c)
  where
    others : HasItem (cond (eqb c 40) (opening_at f opened cs) (cond (eqb c 92) (escape_at f opened cs >>= λ t. Ok (item f t.0, t.1))
        (cond (eqb c 123) (brace_at f (c ∷ cs) cs >>= λ t. Ok (item f t.0, t.1)) (Ok (item f (Node (tree.Literal c f.casei)), cs)))))
    others =
        either HasItem (eqb c 40) _ _ (opening_fine f opened cs h) (either HasItem (eqb c 92) _ _ (as_item f (escape_at f opened cs)
        (escape_fine f opened cs h)) (either HasItem (eqb c 123) _ _ (as_item f (brace_at f (c ∷ cs) cs) (brace_fine f (c ∷ cs) cs)) (refl, (tt, tt))))

    by_sign : (o : Option Token) → HasOption o → HasItem (elim o [
      | Some t ↦ Ok (item f t, cs)
      | None ↦ cond (eqb c 40) (opening_at f opened cs) (cond (eqb c 92) (escape_at f opened cs >>= λ t. Ok (item f t.0, t.1))
          (cond (eqb c 123) (brace_at f (c ∷ cs) cs >>= λ t. Ok (item f t.0, t.1)) (Ok (item f (Node (tree.Literal c f.casei)), cs))))
    ])
    by_sign (Some t) k = k
    by_sign None k = others

-- ---- found tokens

-- a token, and how many groups were opened behind it
abbrev HasFound : Lexing → Read Found → Type 0
HasFound now (Ok p) =
    FineToken p.0.token × (p.0.behind.opened ≡ now.opened + opened_by p.0.token) × (p.0.behind.opened ≤ most_groups)
HasFound now (Err e) = Unit {0}

within_most : (n : ℕ) → ltb most_groups n ≡ false → n ≤ most_groups
within_most n is = grind (arith, nat_tests)

outside_fine : (now : Lexing) (text : Text) → now.opened ≤ most_groups → HasFound now (outside_at now text)
unfolding outside_at
outside_fine now text few = by_item (item_at now.flags now.opened text) (item_fine now.flags now.opened text few)
  where
    by_count : (i : Item × Text) → FineToken i.0.token → (b : Bool) → ltb most_groups (now.opened + opened_by i.0.token) ≡ b →
        HasFound now (cond b (Err (fault_at GeneralParseError text)) (Ok (
          record {
            token = i.0.token;
            behind = record { flags = i.0.flags; opened = now.opened + opened_by i.0.token; class = class_of i.0.token };
          },
          i.1,
        )))
    by_count i h true is = tt
    by_count i h false is = (h, refl, within_most (now.opened + opened_by i.0.token) is)

    by_item : (r : Read Item) → HasItem r → HasFound now (r
        >>= λ i. cond (ltb most_groups (now.opened + opened_by i.0.token)) (Err (fault_at GeneralParseError text)) (Ok (
          record {
            token = i.0.token;
            behind = record { flags = i.0.flags; opened = now.opened + opened_by i.0.token; class = class_of i.0.token };
          },
          i.1,
        )))
    by_item (Ok i) h = by_count i h (ltb most_groups (now.opened + opened_by i.0.token)) refl
    by_item (Err e) h = tt

abbrev InClass : ClassItem → Type 0
InClass i = FineToken i.token × (opened_by i.token ≡ 0)

abbrev HasClass : Read ClassItem → Type 0
HasClass (Ok p) = InClass p.0
HasClass (Err e) = Unit {0}

bracket_fine : (place : ClassPlace) → InClass (bracket place)
bracket_fine place = by_head place.head
  where
    by_head : (h : Head) → InClass (elim h [
      | head.Start ↦ piece_item (92 ∷ 93 ∷ []) (inner place)
      | head.Caret ↦ piece_item (92 ∷ 93 ∷ []) (inner place)
      | head.Inner ↦ closing_bracket place
    ])
    by_head head.Start = (tt, refl)
    by_head head.Caret = (tt, refl)
    by_head head.Inner = either InClass (leb place.depth 1) _ _ (tt, refl) (tt, refl)

escaped_fine : (place : ClassPlace) (r : Read Text) → HasClass (r >>= λ e. Ok (piece_item e.0 (inner place), e.1))
escaped_fine place (Ok e) = (tt, refl)
escaped_fine place (Err e) = tt

class_item_fine : (place : ClassPlace) (text : Text) → HasClass (class_item_at place text)
unfolding class_item_at
class_item_fine place [] = tt
class_item_fine place (c ∷ cs) =
    either HasClass (eqb c 92) _ _ (escaped_fine place (class_escape_at cs)) (either HasClass (eqb c 91) _ _ (tt, refl) (either HasClass (eqb c 93) _ _
    (bracket_fine place) (either HasClass (eqb c 94) _ _ (tt, refl) ((tt, refl)))))

within_fine : (now : Lexing) (text : Text) → now.opened ≤ most_groups → HasFound now (within_at now text)
unfolding within_at
within_fine now text few = by_item (class_item_at now.class text) (class_item_fine now.class text)
  where
    by_item : (r : Read ClassItem) → HasClass r → HasFound now (r
        >>= λ i. Ok (record { token = i.0.token; behind = record { flags = now.flags; opened = now.opened; class = i.0.place } }, i.1))
    by_item (Ok i) h = (h.0, (let none = h.1 in omega (arith, none)), few)
    by_item (Err e) h = tt

pub found_fine : (now : Lexing) (text : Text) → now.opened ≤ most_groups → HasFound now (found_at now text)
unfolding found_at
found_fine now text few =
    either (HasFound now) (eqb now.class.depth 0) (outside_at now text) (within_at now text) (outside_fine now text few) (within_fine now text few)

-- ---- the tokens of a pattern

goes_opened : (t : Token) (outer : List Flags) (f : Flags) (behind : Lexing) (left : ℕ) (n : Lexing) (new : List Flags) →
    GoesBy t outer f behind left (Ok n) new → n.opened ≡ behind.opened
goes_opened (Open o) outer f behind left n new h = ap (λ l. l.opened) h.1
goes_opened Close outer f behind left n new h = ap (λ l. l.opened) h.1
goes_opened t outer f behind left n new h = ap (λ l. l.opened) h.0

opened_once : (t : Token) → cond (opens_group t) 1 0 ≡ opened_by t
opened_once (Open (Group number name)) = refl
opened_once (Open o) = refl
opened_once t = refl

pub tokens_fine : {s : State} {text : Text} {ts : List Placed} → Lexes s text ts → s.now.opened ≤ most_groups → Each (λ p. FineToken p.token) ts
tokens_fine (ended o) h = tt
tokens_fine (gap o is more) h = tokens_fine more h
tokens_fine {s = s} {text = text} (token {found = a} {next = n} at is goes more) h =
    let f = subst (HasFound s.now) is (found_fine s.now text h) in
    let g = goes_opened a.token s.outer s.now.flags a.behind (length text) n.now n.outer goes in
    let few = f.2 in
    (f.0, tokens_fine more (omega (arith, g, few)))
tokens_fine (unread at is) h = (tt, tt)
tokens_fine (misplaced left at is goes) h = (tt, tt)

-- how many groups these tokens open
unfoldable pub opened_in : List Placed → ℕ
opened_in [] = 0
opened_in (p ∷ ps) = opened_by p.token + opened_in ps

pub opened-counted : (ts : List Placed) → opened_in ts ≡ count_by (λ p. opens_group p.token) ts
unfolding opened_in
opened-counted ts = is_count_by opened_in (λ p. opens_group p.token) refl (λ p ps. by_test (opens_group p.token) (opened_in ps) (sym
    (opened_once p.token))) ts
  where
    by_test : (b : Bool) (n : ℕ) {k : ℕ} → k ≡ cond b 1 0 → k + n ≡ cond b (1 + n) n
    by_test true n e = omega (arith, e)
    by_test false n e = omega (arith, e)

pub groups_few : {s : State} {text : Text} {ts : List Placed} → Lexes s text ts → s.now.opened ≤ most_groups → s.now.opened + opened_in ts ≤ most_groups
unfolding opened_in
groups_few (ended o) h = omega (arith, h)
groups_few (gap o is more) h = groups_few more h
groups_few {s = s} {text = text} (token {found = a} {next = n} {ts = ts} at is goes more) h =
    let f = subst (HasFound s.now) is (found_fine s.now text h) in
    let e = f.1 in
    let g = goes_opened a.token s.outer s.now.flags a.behind (length text) n.now n.outer goes in
    let few = f.2 in
    let r = groups_few more (omega (arith, g, few)) in
    omega (arith, e, g, r)
groups_few (unread at is) h = omega (arith, h)
groups_few (misplaced left at is goes) h = omega (arith, h)
