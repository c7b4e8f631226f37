-- What nodes take of sets of bytes, and with which bytes characters begin.
use Rattle.std.proofs.Common.{◌≡◌, inl, inr, ◌+◌, ◌<◌, ◌≤◌, ◌/◌, ℕ, Bool, true, List, [], ◌∷◌, ◌++◌, take, map, get_or, length, encode_utf8, refl, sym, ap, subst, ◌∙◌, arith}
use Rattle.std.specs.Char.{IsScalar}
use Rattle.std.proofs.lemmas.Bool.{cases_lt}
use Rattle.std.proofs.lemmas.List.{map-append}
use Rattle.std.proofs.lemmas.Str.{encode_ascii}
use Rattle.regex_hir.proofs.Utf8Lemmas.{InScalarRange-of_IsScalar, encode_two, encode_three, encode_four}
use Rattle.fancy_meaning.specs.Tree.{Tree, Trees, none, more, trees, Literal, Delegate, Concat, Alt, Group, Repeat, AtomicGroup, LookAround, LookAhead, LookBehind}
use Rattle.fancy_expr.specs.Views.{tree_of}
use Rattle.fancy_expr.specs.declared.expr.Expr.{Expr}
use Rattle.fancy_expr.proofs.Walks.{taken}
use Rattle.fancy_literals.specs.Required.{begins_among}
use Rattle.fancy_literals.specs.TakesByte.{EachTakesByte, Includes, OneTakesByte, TakesByte}

-- ---- with which byte a character begins

pub record First (c : ℕ) : Type 0 where
  pub byte : ℕ
  pub rest : List ℕ
  pub is : encode_utf8 c ≡ byte ∷ rest
  pub below : byte < 256
  pub ascii : byte < 128 → c ≡ byte
  pub beyond : 128 ≤ byte → 128 ≤ c

pub first_byte : (c : ℕ) → IsScalar c → First c
first_byte c scalar =
    let range = InScalarRange-of_IsScalar c scalar in
    elim (cases_lt c 0x80) [
      | inl one ↦ record {
        byte = c;
        rest = [];
        is = encode_ascii c one;
        below = omega (arith, one);
        ascii = λ small. refl;
        beyond = λ large. large;
      }
      | inr skip_one ↦ elim (cases_lt c 0x800) [
        | inl two ↦ record {
          byte = 192 + c / 64;
          rest = _;
          is = encode_two c skip_one two;
          below = omega (arith, two);
          ascii = λ small. absurd (omega (arith, small));
          beyond = λ large. skip_one;
        }
        | inr past_two ↦ elim (cases_lt c 0x1_0000) [
          | inl three ↦ record {
            byte = 224 + c / 4096;
            rest = _;
            is = encode_three c past_two three;
            below = omega (arith, three);
            ascii = λ small. absurd (omega (arith, small));
            beyond = λ large. skip_one;
          }
          | inr four ↦ record {
            byte = 240 + c / 262144;
            rest = _;
            is = encode_four c four;
            below = grind (arith, range);
            ascii = λ small. absurd (omega (arith, small));
            beyond = λ large. skip_one;
          }
        ]
      ]
    ]

-- ---- a larger set

module _ (unicode behind : Bool) (bytes larger : List Bool) (inside : Includes bytes larger) where
  begins_larger : (c : ℕ) → IsScalar c → begins_among bytes (encode_utf8 c) ≡ true → begins_among larger (encode_utf8 c) ≡ true
  begins_larger c scalar is =
      let first = first_byte c scalar in
      ap (begins_among larger) first.is ∙ inside first.byte first.below (ap (begins_among bytes) (sym first.is) ∙ is)

  mutual
    pub takes_larger : (e : Tree) → TakesByte unicode behind bytes e → TakesByte unicode behind larger e
    takes_larger (Literal c casei) h = λ d scalar is. begins_larger d scalar (h d scalar is)
    takes_larger (Delegate inner casei) h = λ d scalar is. begins_larger d scalar (h d scalar is)
    takes_larger (Concat es) h = one_larger es h
    takes_larger (Alt es) h = each_larger es h
    takes_larger (Group g e) h = takes_larger e h
    takes_larger (AtomicGroup e) h = takes_larger e h
    takes_larger (Repeat lo hi greedy e) h = (h.0, takes_larger e h.1)
    takes_larger (LookAround LookAhead e) h = takes_larger e h
    takes_larger (LookAround LookBehind e) h = (h.0, takes_larger e h.1)
    takes_larger e h = absurd h

    one_larger : (es : Trees) → OneTakesByte unicode behind bytes es → OneTakesByte unicode behind larger es
    one_larger none h = absurd h
    one_larger (more e es) (inl h) = inl (takes_larger e h)
    one_larger (more e es) (inr h) = inr (one_larger es h)

    pub each_larger : (es : Trees) → EachTakesByte unicode behind bytes es → EachTakesByte unicode behind larger es
    each_larger none h = tt
    each_larger (more e es) h = (takes_larger e h.0, each_larger es h.1)

-- ---- lists that grow

module _ (unicode behind : Bool) (bytes : List Bool) where
  pub one_on : (es : List Tree) (e : Tree) → OneTakesByte unicode behind bytes (trees es) → OneTakesByte unicode behind bytes (trees (es ++ e ∷ []))
  one_on [] e h = absurd h
  one_on (d ∷ es) e (inl h) = inl h
  one_on (d ∷ es) e (inr h) = inr (one_on es e h)

  pub one_last : (es : List Tree) (e : Tree) → TakesByte unicode behind bytes e → OneTakesByte unicode behind bytes (trees (es ++ e ∷ []))
  one_last [] e h = inl h
  one_last (d ∷ es) e h = inr (one_last es e h)

  pub each_last : (es : List Tree) (e : Tree) → EachTakesByte unicode behind bytes (trees es) → TakesByte unicode behind bytes e →
      EachTakesByte unicode behind bytes (trees (es ++ e ∷ []))
  each_last [] e h last = (last, tt)
  each_last (d ∷ es) e h last = (h.0, each_last es e h.1 last)

-- one more of the nodes
pub with_next : (P : List Tree → Type 0) (given : List Expr) (i : ℕ) (e : Expr) → i < length given → e ≡ get_or given i e →
    P (map tree_of (take i given) ++ tree_of e ∷ []) → P (map tree_of (take (i + 1) given))
with_next P given i e lt at h =
    subst P (sym (map-append tree_of (take i given) (e ∷ [])) ∙ ap (map tree_of) (sym (taken given i e lt at))) h
