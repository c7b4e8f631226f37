-- An easy node has no `\G` and no call: its ways are the same wherever the search began, whether the match before ended
-- there or not, and whatever calls give. So it cannot make a search give up.
use Rattle.std.proofs.Common.{◌≡◌, ℕ, Bool, List, ◌++◌, map, flat_map, Option, refl, sym, ap, ap₂, ◌∙◌, subst, map-id}
use Rattle.fancy_meaning.specs.Tree.{Tree, Trees, none, more, Empty, KeepOut, ContinueFromPreviousMatchEnd, AbsentClear, Any, Assert, GeneralNewline, Literal, LiteralBytes, Delegate, Concat, Alt, Group, LookAround, Repeat, Backref, BackrefWithLevel, BackrefExists, AtomicGroup, DefineGroup, AbsentRepeater, AbsentStopper, AbsentExpression, Control, Conditional, SubroutineCall, AstNode}
use Rattle.fancy_meaning.specs.MatchState.{MatchState, Ways, in_order, one_of, with_span}
use Rattle.fancy_meaning.specs.Loops.{repeats}
use Rattle.fancy_meaning.specs.Ways.{Setting, ways_with, each_ways}
use Rattle.fancy_meaning.specs.Options.{Analysis}
use Rattle.fancy_delegation.proofs.Pairwise.{Pairwise, pairs_equal, pairs_same}
use Rattle.fancy_laws.proofs.Every.{every_anything}
use Rattle.fancy_delegation.proofs.Binding.{flat_map_same}
use Rattle.fancy_delegation.proofs.AlikeLoops.{repeats_alike}
use Rattle.fancy_delegation.proofs.EasyNodes.{IsEasy, AllEasy, easy_group, easy_repeat, easy_concat, easy_alt, easy_each}

-- a loop of ways that are the same
repeats_same : (text : List ℕ) (lo : ℕ) (hi : Option ℕ) (greedy : Bool) (f g : Ways) →
    ((s : MatchState) → f s ≡ g s) → (s : MatchState) → repeats text lo hi greedy f s ≡ repeats text lo hi greedy g s
repeats_same text lo hi greedy f g e s =
    sym (map-id (repeats text lo hi greedy f s))
    ∙ pairs_equal (λ x. x) (λ x. x) (λ x y r. r)
    (repeats_alike (λ x y. x ≡ y) (λ x y r. ap (λ z. z.place) r) f g
    (λ x y r. subst (λ l. Pairwise (λ a b. a ≡ b) (f x) l) (e x ∙ ap g r)
    (pairs_same {P = λ z. Unit {0}} (λ z u. refl) (every_anything (f x) (λ z. tt)))) text lo hi greedy s s refl)
    ∙ map-id (repeats text lo hi greedy g s)

module _ (a : Analysis) (text : List ℕ) (unicode : Bool) (pos pos' : ℕ) (continued continued' : Bool) (call call' : ℕ → Ways) where
  abbrev here : Setting
  here = record { text = text; pos = pos; continued = continued; unicode = unicode }

  abbrev there : Setting
  there = record { text = text; pos = pos'; continued = continued'; unicode = unicode }

  mutual
    pub easy_anywhere : (e : Tree) → IsEasy a e → (s : MatchState) → ways_with here call e s ≡ ways_with there call' e s
    easy_anywhere Empty h s = refl
    easy_anywhere (Any newline crlf) h s = refl
    easy_anywhere (Assert within x) h s = refl
    easy_anywhere (Literal c casei) h s = refl
    easy_anywhere (Delegate inner casei) h s = refl
    easy_anywhere (DefineGroup e) h s = refl
    easy_anywhere KeepOut h s = cc
    easy_anywhere ContinueFromPreviousMatchEnd h s = cc
    easy_anywhere AbsentClear h s = cc
    easy_anywhere (GeneralNewline unicode) h s = cc
    easy_anywhere (LiteralBytes cs) h s = cc
    easy_anywhere (Backref g casei) h s = cc
    easy_anywhere (BackrefWithLevel g level casei) h s = cc
    easy_anywhere (BackrefExists g level) h s = cc
    easy_anywhere (Control verb) h s = cc
    easy_anywhere (SubroutineCall g) h s = cc
    easy_anywhere (AstNode node) h s = cc
    easy_anywhere (AbsentStopper e) h s = cc
    easy_anywhere (AbsentExpression x e) h s = cc
    easy_anywhere (LookAround look e) h s = cc
    easy_anywhere (AtomicGroup e) h s = cc
    easy_anywhere (AbsentRepeater e) h s = cc
    easy_anywhere (Conditional c t f) h s = cc
    easy_anywhere (Group g e) h s = ap (map (λ t. with_span g (s.place, t.place) t)) (easy_anywhere e (easy_group a g e h).1 s)
    easy_anywhere (Repeat lo hi greedy e) h s =
        repeats_same text lo hi greedy (ways_with here call e) (ways_with there call' e) (easy_anywhere e (easy_repeat a lo hi greedy e h)) s
    easy_anywhere (Concat es) h s = sequence_anywhere es (easy_concat a es h) s
    easy_anywhere (Alt es) h s = choice_anywhere es (easy_alt a es h) s

    sequence_anywhere : (es : Trees) → AllEasy a es → (s : MatchState) → in_order (each_ways here call es) s ≡ in_order (each_ways there call' es) s
    sequence_anywhere none h s = refl
    sequence_anywhere (more e es) h s =
        ap (flat_map (in_order (each_ways here call es))) (easy_anywhere e (easy_each a e es h).0 s)
        ∙ flat_map_same (in_order (each_ways here call es)) (in_order (each_ways there call' es))
        (sequence_anywhere es (easy_each a e es h).1) (ways_with there call' e s)

    choice_anywhere : (es : Trees) → AllEasy a es → (s : MatchState) → one_of (each_ways here call es) s ≡ one_of (each_ways there call' es) s
    choice_anywhere none h s = refl
    choice_anywhere (more e es) h s = ap₂ (λ x y. x ++ y) (easy_anywhere e (easy_each a e es h).0 s) (choice_anywhere es (easy_each a e es h).1 s)
