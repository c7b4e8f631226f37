-- Nodes without groups leave captures as they are.
use Rattle.std.proofs.Common.{ℕ, ◌+◌, Bool, List, [], ◌∷◌, Option, refl, ◌∙◌}
use Rattle.fancy_meaning.specs.Tree.{Tree, Assertion, Any, Literal, Delegate, Empty, DefineGroup, Assert, Concat, Alt, Repeat, Within, trees}
use Rattle.fancy_meaning.specs.Nodes.{group_count}
use Rattle.fancy_meaning.specs.Chars.{any_takes, class_takes, literal_takes}
use Rattle.fancy_meaning.specs.Assertions.{assertion_within}
use Rattle.fancy_meaning.specs.Moves.{Move, past_char}
use Rattle.fancy_meaning.specs.MatchState.{MatchState, Ways, in_order, one_of}
use Rattle.fancy_meaning.specs.Numbering.{each_numbered, numbered_within}
use Rattle.fancy_meaning.specs.Ways.{Setting, each_ways, moves, ways_with}
use Rattle.fancy_laws.proofs.Every.{Every, every_append, every_flat_map, every_one, every_weaker, no_item}
use Rattle.fancy_laws.proofs.WaysOf.{every_asserts, every_moves}
use Rattle.fancy_laws.proofs.Loops.{IsIterable, every_repeats}
use Rattle.fancy_agreement.proofs.CaptureLaws.{IsStill, Still}

same : (s : MatchState) → Still s s
same s = record { captures = λ g. refl; kept = refl }

on : (s t u : MatchState) → Still s t → Still t u → Still s u
on s t u a b = record { captures = λ g. b.captures g ∙ a.captures g; kept = b.kept ∙ a.kept }

pub empty_is_still : IsStill Empty
empty_is_still = record { at = λ w n q call s. every_one (same s) }

pub define_is_still : (e : Tree) → IsStill (DefineGroup e)
define_is_still e = record { at = λ w n q call s. every_one (same s) }

pub assertion_is_still : (old : Within) (a : Assertion) → IsStill (Assert old a)
assertion_is_still old a = record {
  at = λ w n q call s. every_asserts q (assertion_within w a) s (same s) (record { captures = λ g. refl; kept = refl });
}

still_moves : (q : Setting) (move : Move) (s : MatchState) → Every (Still s) (moves q move s)
still_moves q move s = every_moves q move s (λ i e. record { captures = λ g. refl; kept = refl })

pub any_is_still : (newline crlf : Bool) → IsStill (Any newline crlf)
any_is_still newline crlf = record { at = λ w n q call s. still_moves q (past_char q.text (any_takes newline crlf)) s }

pub literal_is_still : (c : ℕ) (casei : Bool) → IsStill (Literal c casei)
literal_is_still c casei = record { at = λ w n q call s. still_moves q (past_char q.text (literal_takes q.unicode c casei)) s }

pub class_is_still : (inner : List ℕ) (casei : Bool) → IsStill (Delegate inner casei)
class_is_still inner casei = record { at = λ w n q call s. still_moves q (past_char q.text (class_takes q.unicode inner casei)) s }

abbrev pub AreStill : List Tree → Type 0
AreStill [] = Unit {0}
AreStill (e ∷ es) = IsStill e × AreStill es

in_order_still : (es : List Tree) → AreStill es → (w : Within) (n : ℕ) (q : Setting) (call : ℕ → Ways) (s : MatchState) →
    Every (Still s) (in_order (each_ways q call (each_numbered w n (trees es))) s)
in_order_still [] h w n q call s = every_one (same s)
in_order_still (e ∷ es) h w n q call s =
    every_flat_map {Q = Still s} (in_order (each_ways q call (each_numbered w (n + group_count e) (trees es))))
    (λ t one. every_weaker (λ u. on s t u one) (in_order_still es h.1 w (n + group_count e) q call t))
    (h.0.at w n q call s)

pub concat_is_still : (es : List Tree) → AreStill es → IsStill (Concat (trees es))
concat_is_still es h = record { at = in_order_still es h }

branch_still : (es : List Tree) → AreStill es → (w : Within) (n : ℕ) (q : Setting) (call : ℕ → Ways) (s : MatchState) →
    Every (Still s) (one_of (each_ways q call (each_numbered w n (trees es))) s)
branch_still [] h w n q call s = no_item
branch_still (e ∷ es) h w n q call s = every_append (h.0.at w n q call s) (branch_still es h.1 w (n + group_count e) q call s)

pub alt_is_still : (es : List Tree) → AreStill es → IsStill (Alt (trees es))
alt_is_still es h = record { at = branch_still es h }

iterable : IsIterable (λ s. Unit {0}) Still (λ n s t. Still s t)
iterable = record { arrives = λ s t good one. tt; none = λ s good. same s; one_more = λ n s t u good. on s t u }

pub loop_is_still : (lo : ℕ) (hi : Option ℕ) (greedy : Bool) (e : Tree) → IsStill e → IsStill (Repeat lo hi greedy e)
loop_is_still lo hi greedy e h = record {
  at = λ w n q call s. every_weaker (λ t c. c.after)
      (every_repeats iterable (ways_with q call (numbered_within w n e)) (λ x good. h.at w n q call x) q.text lo hi greedy s tt);
}
