-- `(a*)b` on "caab", and beside it what the theorem says of it.
use Rattle.std.proofs.Common.{◌≡◌, ℕ, Bool, true, false, List, [], ◌∷◌, Option, Some, None, IfSome, ◌==◌, option_map, refl, arith}
use Rattle.std.proofs.lemmas.Bool.Decides.{nat_tests}
use Rattle.std.specs.Str.{chars}
use Rattle.std.specs.Char.{encode_utf8}
use Rattle.regex_class.specs.Ranges.{Range, in_range, in_ranges}
use Rattle.regex_hir.specs.declared.look.Look.{Look}
use Rattle.regex_hir.specs.Text.{char_at, has_bytes_at, is_boundary}
use Rattle.regex_hir.specs.Re.{Re, rounds, attempt}
use Rattle.regex_hir.specs.Meaning.{repeat}
use Rattle.regex_hir.specs.Find.{find_str, first_from, slot_of}
use Rattle.fancy_meaning.specs.Tree.{Tree, Assertion, Concat, Group, Literal, Repeat, none, more}
use Rattle.fancy_meaning.specs.Nodes.{group_count, groups}
use Rattle.fancy_meaning.specs.Chars.{literal_takes}
use Rattle.fancy_meaning.specs.Numbering.{numbered}
use Rattle.fancy_meaning.specs.Answer.{Search, answer}
use Rattle.fancy_agreement.specs.First.{IsSameTest}
use Rattle.fancy_agreement.specs.Captures.{IsPlain, numbers_of}
use Rattle.fancy_agreement.specs.Common.{AreExact, pattern}
use Rattle.fancy_agreement.proofs.CommonLaw.{common_part}
use Rattle.fancy_agreement.proofs.SearchLaw.{match_is_answer}

computing : Unit {0}
unfolding attempt rounds repeat first_from find_str slot_of has_bytes_at char_at is_boundary in_range in_ranges chars encode_utf8 numbered group_count groups
computing = tt

-- one character exactly, and nothing else
abbrev ranges_of : Tree → Option (List Range)
ranges_of (Literal c false) = Some ((c, c) ∷ [])
ranges_of e = None

abbrev no_look : Assertion → Option Look
no_look a = None

itself : (c d : ℕ) → in_ranges ((c, c) ∷ []) d ≡ (c == d)
unfolding in_ranges in_range
itself c d = grind (arith, nat_tests)

literal_is : (u : Bool) (c : ℕ) (casei : Bool) → IfSome (ranges_of (Literal c casei)) (λ rs. IsSameTest rs (literal_takes u c casei))
literal_is u c true = tt
literal_is u c false = λ d scalar. itself c d

exact : (u : Bool) → AreExact ranges_of no_look u
exact u = record {
  any = λ newline crlf. tt;
  literal = literal_is u;
  delegate = λ inner casei. tt;
  looks = λ a. tt;
}

abbrev e : Tree
e = Concat (more (Group 0 (Repeat 0 None true (Literal 97 false))) (more (Literal 98 false) none))

abbrev q : Search
q = record {
  tree = numbered 1 e;
  setting = record { text = 99 ∷ 97 ∷ 97 ∷ 98 ∷ []; pos = 0; continued = false; unicode = true };
  anchored = false;
  not_empty = false;
  end_text = false;
  leftmost_longest = false;
}

plain : IsPlain q
plain = record { any_start = refl; empty_too = refl; any_end = refl; first_way = refl }

abbrev re : Option Re
re = pattern ranges_of no_look 1 e

-- by the theorem, and computed on the kit's side
answered : IfSome re (λ r. (answer q ≡ option_map (numbers_of 1) (find_str r q.text 0))
    × (option_map (numbers_of 1) (find_str r q.text 0) ≡ Some (1 ∷ 4 ∷ 1 ∷ 3 ∷ [])))
unfolding computing
answered = (match_is_answer q e _ plain refl (common_part true ranges_of no_look (exact true) 1 e), refl)
