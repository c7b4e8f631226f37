-- With which bytes characters end, and which are before a place behind which a character is, or is not.
use Rattle.std.proofs.Common.{◌≡◌, inl, inr, ⊎_elim, ℕ, zero, suc, ◌+◌, ◌-◌, ◌≤◌, ◌<◌, ◌%◌, ◌==◌, Bool, true, false, not, if◌then◌else◌, All, List, [], ◌∷◌, ◌++◌, append-nil, filter, flat_map, get_or, length, nat_le, Option, None, Some, is_some, slice_get, encode_utf8, refl, sym, ap, subst, ◌∙◌, arith, eq-eqb, le-leb}
use Rattle.std.specs.Char.{IsScalar, len_utf8}
use Rattle.std.specs.Option.{option_and_then, option_map_or}
use Rattle.std.proofs.lemmas.Bool.{and_from, cases_lt, false≢true, or_left}
use Rattle.std.proofs.lemmas.Bool.Decides.{nat_tests}
use Rattle.std.proofs.lemmas.List.{get_or-drop}
use Rattle.std.proofs.lemmas.Option.{slice_get-get_or, slice_get_within}
use Rattle.std.proofs.lemmas.Str.{encode_ascii, len_utf8_ascii, length-encode}
use Rattle.std.specs.Int.{is_in_range}
use Rattle.regex_hir.specs.Text.{byte_before, is_boundary, is_none_or}
use Rattle.regex_hir.proofs.TextLemmas.{byte_before-add-one, byte_before_some, char_at_ascii, char_at_fits, char_at_parts}
use Rattle.regex_hir.proofs.Utf8Lemmas.{encode_two, encode_three, encode_four}
use Rattle.fancy_meaning.specs.Chars.{class_takes, literal_takes}
use Rattle.fancy_meaning.specs.MatchState.{MatchState, Ways, has_way, moved_to, one_of}
use Rattle.fancy_meaning.specs.Moves.{past_char}
use Rattle.fancy_meaning.specs.Places.{is_place, places_back, range_down}
use Rattle.fancy_meaning.specs.Tree.{Tree, Delegate, Literal, LookAround, LookBehindNeg}
use Rattle.fancy_meaning.specs.Ways.{Setting, ends_here, moves, unless}
use Rattle.fancy_laws.proofs.Every.{Every, no_item, item, All-every}
use Rattle.fancy_laws.proofs.Moves.{past_char_tells}
use Rattle.fancy_laws.proofs.WaysOf.{every_moves, every_stays_if}
use Rattle.fancy_literals.specs.ByteSets.{is_in}
use Rattle.fancy_literals.specs.Befores.{IsBefore, follows, may_be}
use Rattle.fancy_literals.specs.Characters.{AreCharacters, Tells}
use Rattle.fancy_literals.specs.declared.before.Before.{Before}
use Rattle.fancy_literals.proofs.BeforeLaws.{Here, both_sides, is_false}

-- ---- the last byte of a character

record Last (c : ℕ) : Type 0 where
  pub byte : ℕ
  pub front : ℕ
  pub is : (rest : List ℕ) → get_or (encode_utf8 c ++ rest) front 0 ≡ byte
  pub long : len_utf8 c ≡ front + 1
  pub ascii : c < 128 → byte ≡ c
  pub beyond : 128 ≤ c → 128 ≤ byte
  pub below : byte < 256

last_of : (c : ℕ) → IsScalar c → Last c
last_of c scalar =
    let all = length-encode c in
    elim (cases_lt c 0x80) [
      | inl one ↦
          let e = encode_ascii c one in
          record {
            byte = c;
            front = 0;
            is = λ rest. ap (λ l. get_or (l ++ rest) 0 0) e;
            long = omega (arith, all, ap length e);
            ascii = λ small. refl;
            beyond = λ large. large;
            below = omega (arith, one);
          }
      | inr skip_one ↦ elim (cases_lt c 0x800) [
        | inl two ↦
            let e = encode_two c skip_one two in
            record {
              byte = 128 + c % 64;
              front = 1;
              is = λ rest. ap (λ l. get_or (l ++ rest) 1 0) e;
              long = omega (arith, all, ap length e);
              ascii = λ small. absurd (omega (arith, small, skip_one));
              beyond = λ large. omega arith;
              below = omega arith;
            }
        | inr past_two ↦ elim (cases_lt c 0x1_0000) [
          | inl three ↦
              let e = encode_three c past_two three in
              record {
                byte = 128 + c % 64;
                front = 2;
                is = λ rest. ap (λ l. get_or (l ++ rest) 2 0) e;
                long = omega (arith, all, ap length e);
                ascii = λ small. absurd (omega (arith, small, skip_one));
                beyond = λ large. omega arith;
                below = omega arith;
              }
          | inr four ↦
              let e = encode_four c four in
              record {
                byte = 128 + c % 64;
                front = 3;
                is = λ rest. ap (λ l. get_or (l ++ rest) 3 0) e;
                long = omega (arith, all, ap length e);
                ascii = λ small. absurd (omega (arith, small, skip_one));
                beyond = λ large. omega arith;
                below = omega arith;
              }
        ]
      ]
    ]

module _ (bytes : List Bool) (test : ℕ → Bool) (tells : Tells bytes test) where
  -- the byte before the end of a character that passes is in the set
  after_one : (text : List ℕ) (i j : ℕ) → past_char text test i ≡ Some j → follows (record { bytes = bytes; at_start = false }) text j ≡ true
  after_one text i j e =
      let p = past_char_tells text test i j e in
      let parts = char_at_parts text i p.char p.stands in
      let last = last_of p.char parts.0 in
      let fits = char_at_fits text i p.char p.stands in
      let k : ℕ = i + last.front in
      let end : j ≡ k + 1 = omega (arith, p.to, last.long) in
      let there : get_or text k 0 ≡ last.byte =
      sym (get_or-drop i text last.front 0) ∙ ap (λ l. get_or l last.front 0) parts.1 ∙ last.is _ in
      let found : byte_before text j ≡ Some last.byte =
      ap (byte_before text) end ∙ byte_before-add-one text k ∙ slice_get-get_or text k 0 (omega (arith, fits, last.long)) ∙ ap Some there in
      ap (λ o. option_map_or (may_be bytes) o false) found
      ∙ or_left (is_in bytes last.byte) (nat_le 256 last.byte)
      (⊎_elim
      (λ small. ap (is_in bytes) (last.ascii small) ∙ tells.ascii p.char small ∙ p.passes)
      (λ large. tells.others p.char last.byte parts.0 large p.passes (last.beyond large) last.below)
      (cases_lt p.char 128))

  pub ends_after : (q : Setting) (s : MatchState) →
      All (λ t. follows (record { bytes = bytes; at_start = false }) q.text t.place ≡ true) (moves q (past_char q.text test) s)
  ends_after q s =
      All-every {P = λ t. follows (record { bytes = bytes; at_start = false }) q.text t.place ≡ true}
      (every_moves q (past_char q.text test) s (λ i e. after_one q.text s.place i e))

-- ---- no character that passes is behind

not_nil : (x : MatchState) → x ∷ [] ≡ [] → ⊥
not_nil x e = cc

append_none : {A : Type 0} (xs ys : List A) → xs ++ ys ≡ [] → (xs ≡ []) × (ys ≡ [])
append_none [] ys e = (refl, e)
append_none (x ∷ xs) ys e = absurd cc

none_of_any : {A B : Type 0} (f : A → List B) (xs : List A) → flat_map f xs ≡ [] → Every (λ x. f x ≡ []) xs
none_of_any f [] e = no_item
none_of_any f (x ∷ xs) e = let both = append_none (f x) (flat_map f xs) e in item both.0 (none_of_any f xs both.1)

one_that_passes : {A : Type 0} {P : A → Type 0} (x : A) (passing : List A) (b : Bool) → Every P (if b then x ∷ passing else passing) → (b ≡ true → P x) × Every P passing
one_that_passes x passing true (item p rest) = ((λ is. p), rest)
one_that_passes x passing false rest = ((λ never. absurd (false≢true never)), rest)

every_that_passes : {A : Type 0} {P : A → Type 0} (test : A → Bool) (xs : List A) → Every P (filter test xs) → Every (λ x. test x ≡ true → P x) xs
every_that_passes test [] h = no_item
every_that_passes test (x ∷ xs) h = let both = one_that_passes x (filter test xs) (test x) h in item both.0 (every_that_passes test xs both.1)

second_down : {P : ℕ → Type 0} (k : ℕ) → Every P (range_down (suc k)) → P k
second_down zero (item a (item b rest)) = b
second_down (suc k) (item a (item b rest)) = b

no_way : (l : List MatchState) → not (is_some (slice_get l 0)) ≡ true → l ≡ []
no_way [] is = refl
no_way (x ∷ l) is = absurd (false≢true is)

no_continuation : (b : ℕ) → b < 128 → not (is_in_range 0x80 0xBF b) ≡ true
no_continuation b small = grind (arith, nat_tests)

ascii_place : (text : List ℕ) (k b : ℕ) → slice_get text k ≡ Some b → b < 128 → is_place text k ≡ true
unfolding is_boundary
ascii_place text k b at small =
    and_from _ _ (let within = slice_get_within text k b at in le-leb k (length text) (omega (arith, within)))
    (ap (λ o. is_none_or o (λ x. not (is_in_range 0x80 0xBF x))) at ∙ no_continuation b small)

module _ (test : ℕ → Bool) (q : Setting) where
  abbrev body : Ways
  body = moves q (past_char q.text test)

  -- an ASCII character that passes would be a way to here
  is_behind : (s : MatchState) (k b : ℕ) → s.place ≡ suc k → slice_get q.text k ≡ Some b → b < 128 → test b ≡ true → ends_here q body s ≡ [] → ⊥
  unfolding places_back
  is_behind s k b here at small passes none =
      let all : Every (λ i. filter (λ t. t.place == s.place) (body (moved_to i s)) ≡ []) (filter (is_place q.text) (range_down (suc k))) =
      none_of_any (λ i. filter (λ t. t.place == s.place) (body (moved_to i s))) (filter (is_place q.text) (range_down (suc k)))
      (subst (λ p. flat_map (λ i. filter (λ t. t.place == s.place) (body (moved_to i s))) (filter (is_place q.text) (range_down p)) ≡ []) here none) in
      let lacks = second_down k (every_that_passes (is_place q.text) (range_down (suc k)) all) (ascii_place q.text k b at small) in
      let past : past_char q.text test k ≡ Some s.place =
      ap (option_and_then (λ c. if test c then Some (k + len_utf8 c) else None)) (char_at_ascii q.text k b at small)
      ∙ ap (λ v. if v then Some (k + len_utf8 b) else None) passes ∙ ap Some (omega (arith, here, len_utf8_ascii b small)) in
      let kept : MatchState = moved_to s.place (moved_to k s) in
      let one : (if s.place == s.place then kept ∷ [] else []) ≡ [] =
      subst (λ o. filter (λ t. t.place == s.place) (moves q (λ j. o) (moved_to k s)) ≡ []) past lacks in
      not_nil kept (ap (λ v. if v then kept ∷ [] else []) (sym (eq-eqb s.place s.place refl)) ∙ one)

  nothing_behind : (s : MatchState) (b : ℕ) → ends_here q body s ≡ [] → byte_before q.text s.place ≡ Some b → b < 128 → test b ≡ false
  nothing_behind s b none at small =
      let inside = byte_before_some q.text s.place b at in
      is_false (test b) (λ yes. is_behind s (s.place - 1) b (let some = inside.0 in omega (arith, some)) inside.1 small yes none)

module _ (unicode at_end : Bool) (before : Before) (bytes : List Bool)
    (admits : (byte : ℕ) → (byte < 128 → is_in bytes byte ≡ false) → may_be before.bytes byte ≡ true) (start : before.at_start ≡ true) where
  not_behind : (test : ℕ → Bool) → Tells bytes test → (q : Setting) (s : MatchState) →
      All (λ t. follows before q.text (if at_end then t.place else s.place) ≡ true) (unless (one_of (ends_here q (moves q (past_char q.text test)) ∷ [])) s)
  not_behind test tells q s =
      let behind : Ways = ends_here q (moves q (past_char q.text test)) in
      All-every {P = Here unicode at_end before q.text s}
      (every_stays_if (λ u. not (has_way (one_of (behind ∷ [])) u)) s
      (λ no. let none : behind s ≡ [] = sym (append-nil (behind s)) ∙ no_way (one_of (behind ∷ []) s) no in
      both_sides unicode at_end before s s q.text refl (go (byte_before q.text s.place) refl none)))
    where
      go : (o : Option ℕ) → byte_before q.text s.place ≡ o → ends_here q (moves q (past_char q.text test)) s ≡ [] →
          option_map_or (may_be before.bytes) o before.at_start ≡ true
      go None is none = start
      go (Some b) is none = admits b (λ small. tells.ascii b small ∙ nothing_behind test q s b none is small)

-- ---- nodes

-- the end of a literal or a class
pub character_before : (unicode : Bool) (bytes : List Bool) (e : Tree) → AreCharacters unicode bytes e →
    IsBefore unicode true (record { bytes = bytes; at_start = false }) e
character_before unicode bytes (Literal c casei) tells = λ q call w n s same.
    ends_after bytes (literal_takes q.unicode c casei) (subst (λ u. Tells bytes (literal_takes u c casei)) (sym same) tells) q s
character_before unicode bytes (Delegate inner casei) tells = λ q call w n s same.
    ends_after bytes (class_takes q.unicode inner casei) (subst (λ u. Tells bytes (class_takes u inner casei)) (sym same) tells) q s
character_before unicode bytes e tells = absurd tells

-- a negative look-behind with such a body
pub not_before : (unicode at_end : Bool) (before : Before) (bytes : List Bool) →
    ((byte : ℕ) → (byte < 128 → is_in bytes byte ≡ false) → may_be before.bytes byte ≡ true) → before.at_start ≡ true → (e : Tree) → AreCharacters unicode bytes e →
    IsBefore unicode at_end before (LookAround LookBehindNeg e)
not_before unicode at_end before bytes admits start (Literal c casei) tells = λ q call w n s same.
    not_behind unicode at_end before bytes admits start (literal_takes q.unicode c casei) (subst (λ u. Tells bytes (literal_takes u c casei)) (sym same) tells) q s
not_before unicode at_end before bytes admits start (Delegate inner casei) tells = λ q call w n s same.
    not_behind unicode at_end before bytes admits start (class_takes q.unicode inner casei) (subst (λ u. Tells bytes (class_takes u inner casei)) (sym same) tells) q s
not_before unicode at_end before bytes admits start e tells = absurd tells
