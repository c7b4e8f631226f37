-- Where calls stand: in which group, and behind how much.
use Rattle.std.specs.Prelude.{◌≡◌, ℕ, Bool, true, false, List, [], ◌∷◌, Option, Some, None, refl, filter_map}
use Rattle.fancy_meaning.specs.Tree.{AbsentExpression, AbsentRepeater, DefineGroup, Tree, SubroutineCall}
use Rattle.fancy_meaning.specs.Numbering.{numbered}
use Rattle.fancy_meaning.specs.Spots.{Spot, all_spots}
use Rattle.fancy_examples.proofs.Notation.{lit, cat, alt, grp, rep, star, call, row}

-- of each call its owner, its position, whether a `{0}` stands around it, and what it calls
abbrev Place : Type 0
Place = (ℕ × ℕ) × (Bool × ℕ)

abbrev as_call : Spot → Option Place
as_call s = go s.node
  where
    go : Tree → Option Place
    go (SubroutineCall g) = Some ((s.owner, s.position), (s.is_skipped, g))
    go e = None

abbrev calls : Tree → List Place
calls e = filter_map as_call (all_spots e)

behind_what_is_taken : calls (numbered 1 (cat (lit "a" ∷ lit "b" ∷ call 1 ∷ grp (lit "c") ∷ call 0 ∷ [])))
    ≡ ((0, 2), (false, 1)) ∷ ((0, 4), (false, 0)) ∷ []
unfolding row
behind_what_is_taken = refl

in_its_group : calls (numbered 1 (cat (lit "a" ∷ grp (cat (lit "b" ∷ call 1 ∷ [])) ∷ []))) ≡ ((1, 1), (false, 1)) ∷ []
unfolding row
in_its_group = refl

branches_begin_together : calls
    (numbered 1 (cat (lit "a" ∷ alt (call 0 ∷ cat (lit "b" ∷ lit "c" ∷ call 0 ∷ []) ∷ []) ∷ [])))
    ≡ ((0, 1), (false, 0)) ∷ ((0, 3), (false, 0)) ∷ []
unfolding row
branches_begin_together = refl

definitions_begin_at_0 : calls (numbered 1 (cat (lit "a" ∷ DefineGroup (cat (lit "b" ∷ call 0 ∷ [])) ∷ []))) ≡ ((0, 1), (false, 0)) ∷ []
unfolding row
definitions_begin_at_0 = refl

never_entered : calls (numbered 1 (cat (rep 0 0 (call 1) ∷ grp (rep 0 0 (call 1)) ∷ []))) ≡ ((0, 0), (true, 1)) ∷ ((1, 0), (true, 1)) ∷ []
unfolding row
never_entered = refl

within_what_is_never_entered : calls (numbered 1 (rep 0 0 (grp (cat (lit "a" ∷ star 0 (call 1) ∷ []))))) ≡ ((1, 1), (true, 1)) ∷ []
unfolding row
within_what_is_never_entered = refl

in_an_explicit_group_0 : calls (numbered 0 (grp (cat (lit "a" ∷ call 0 ∷ [])))) ≡ ((0, 1), (false, 0)) ∷ []
unfolding row
in_an_explicit_group_0 = refl

least_counts_in_loops : calls (numbered 1 (cat (star 2 (lit "ab") ∷ call 1 ∷ grp (lit "c") ∷ []))) ≡ ((0, 4), (false, 1)) ∷ []
unfolding row
least_counts_in_loops = refl

absent_begins_where_it_stands : calls
    (numbered 1
    (cat (lit "a" ∷ AbsentRepeater (cat (lit "b" ∷ call 1 ∷ [])) ∷ grp (AbsentExpression (call 1) (call 1)) ∷ [])))
    ≡ ((0, 2), (false, 1)) ∷ ((1, 0), (false, 1)) ∷ ((1, 0), (false, 1)) ∷ []
unfolding row
absent_begins_where_it_stands = refl
