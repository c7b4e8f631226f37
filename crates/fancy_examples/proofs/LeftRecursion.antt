-- Trees that are refused since a call leads back to itself before anything is taken.
use Rattle.std.proofs.Common.{◌≡◌, ◌<◌, ℕ, zero, suc, false, List, [], ◌∷◌, ◌++◌, refl, ap, subst, arith, inl, inr}
use Rattle.std.specs.Prelude.{codes, decimal, Contains, IsTrue}
use Rattle.std.specs.Ordering.{nat_cmp, is_le}
use Rattle.std.specs.Cmp.Lexicographic.{slice_cmp}
use Rattle.std.proofs.lemmas.Fmt.{decimal_digit}
use Rattle.fancy_meaning.specs.Tree.{Tree, Group}
use Rattle.fancy_meaning.specs.Numbering.{numbered}
use Rattle.fancy_meaning.specs.Recursion.{Calls, the_whole, outer, once, IsLeftRecursive}
use Rattle.fancy_meaning.specs.AnalysisRefusals.{LeftRecursiveSubroutineCall, AnalysisRefuses, before_end, left_recursion, by_number, by_name, IsNamed}
use Rattle.fancy_examples.proofs.Notation.{parsed, no_options, lit, cat, alt, grp, call, row}
use Rattle.fancy_examples.proofs.CallsAtOnce.{leads_nowhere}

-- ---- a group that calls itself first

abbrev direct : Tree
direct = grp (alt (cat (call 1 ∷ lit "a" ∷ []) ∷ lit "b" ∷ []))

calls_itself : Calls (numbered 1 direct) 1 0 1
unfolding row
calls_itself = record {
  spot = record { node = call 1; owner = 1; position = 0; is_skipped = false };
  is_there = (3, omega arith, refl);
  is_tracked = record { in_group_or_entered = inl (λ e. cc) };
  is_call = refl;
  owner = refl;
  position = refl;
}

group_1_leads : IsLeftRecursive (numbered 1 direct) 1
unfolding row
group_1_leads = record {
  is_reachable = outer record {
    spot = record { node = Group 1 (alt (cat (call 1 ∷ lit "a" ∷ []) ∷ lit "b" ∷ [])); owner = 0; position = 0; is_skipped = false };
    is_there = (0, omega arith, refl);
    body = alt (cat (call 1 ∷ lit "a" ∷ []) ∷ lit "b" ∷ []);
    is_group = refl;
    owner = refl;
    is_entered = refl;
  };
  on_cycle = 1;
  leads = inl refl;
  cycle = once calls_itself;
}

nothing_below_1 : (m : ℕ) → m < 1 → ¬ IsLeftRecursive (numbered 1 direct) m
unfolding row
nothing_below_1 zero l = leads_nowhere _ 0 refl
nothing_below_1 (suc m) l = absurd (omega (arith, l))

is_group_1 : codes "group " ++ decimal 1 ≡ codes "group 1"
is_group_1 = ap (λ d. codes "group " ++ d) (decimal_digit 1 (omega arith))

calls_itself_first : AnalysisRefuses (parsed direct) no_options (LeftRecursiveSubroutineCall (codes "group 1"))
unfolding row
calls_itself_first =
    subst (λ t. AnalysisRefuses (parsed direct) no_options (LeftRecursiveSubroutineCall t)) is_group_1
    (before_end (left_recursion 1 _ (record { is_one = group_1_leads; least = nothing_below_1 }) (by_number (λ name n. omega (arith, n.is_there.1)))))

abbrev expr : List (List ℕ × List ℕ)
expr = (codes "expr", 1 ∷ []) ∷ []

least_name : (other : List ℕ) → IsNamed expr 1 other → IsTrue (is_le (slice_cmp nat_cmp (codes "expr") other))
least_name other n = go n.numbers n.is_there
  where
    go : (numbers : List ℕ) → Contains expr (other, numbers) → IsTrue (is_le (slice_cmp nat_cmp (codes "expr") other))
    go numbers (zero, l, e) = subst (λ x. IsTrue (is_le (slice_cmp nat_cmp (codes "expr") x))) (ap (λ p. p.0) e) refl
    go numbers (suc k, l, e) = absurd (omega (arith, l))

is_expr : codes "group '" ++ codes "expr" ++ codes "' (" ++ decimal 1 ++ codes ")" ≡ codes "group 'expr' (1)"
is_expr = ap (λ d. codes "group '" ++ codes "expr" ++ codes "' (" ++ d ++ codes ")") (decimal_digit 1 (omega arith))

called_by_name : AnalysisRefuses (record (parsed direct) { named_groups = expr }) no_options (LeftRecursiveSubroutineCall (codes "group 'expr' (1)"))
unfolding row
called_by_name =
    subst (λ t. AnalysisRefuses (record (parsed direct) { named_groups = expr }) no_options (LeftRecursiveSubroutineCall t)) is_expr
    (before_end
    (left_recursion 1 _ (record { is_one = group_1_leads; least = nothing_below_1 })
    (by_name
    (record {
      is_one = record { numbers = 1 ∷ []; is_there = (0, omega arith, refl); has = (0, omega arith, refl) };
      least = least_name;
    }))))

-- ---- the whole tree

nothing_below_0 : {whole : Tree} (m : ℕ) → m < 0 → ¬ IsLeftRecursive whole m
nothing_below_0 m l = absurd (omega (arith, l))

is_group_0 : codes "group " ++ decimal 0 ≡ codes "group 0"
is_group_0 = ap (λ d. codes "group " ++ d) (decimal_digit 0 (omega arith))

abbrev whole_first : Tree
whole_first = alt (call 0 ∷ lit "b" ∷ [])

calls_the_whole : Calls (numbered 1 whole_first) 0 0 0
unfolding row
calls_the_whole = record {
  spot = record { node = call 0; owner = 0; position = 0; is_skipped = false };
  is_there = (1, omega arith, refl);
  is_tracked = record { in_group_or_entered = inr refl };
  is_call = refl;
  owner = refl;
  position = refl;
}

whole_leads : IsLeftRecursive (numbered 1 whole_first) 0
unfolding row
whole_leads = record { is_reachable = the_whole; on_cycle = 0; leads = inl refl; cycle = once calls_the_whole }

calls_the_whole_first : AnalysisRefuses (parsed whole_first) no_options (LeftRecursiveSubroutineCall (codes "group 0"))
unfolding row
calls_the_whole_first =
    subst (λ t. AnalysisRefuses (parsed whole_first) no_options (LeftRecursiveSubroutineCall t)) is_group_0
    (before_end (left_recursion 0 _ (record { is_one = whole_leads; least = nothing_below_0 }) (by_number (λ name n. omega (arith, n.is_there.1)))))

-- ---- a tree that leads into the cycle of a group

abbrev into_a_cycle : Tree
into_a_cycle = cat (call 1 ∷ direct ∷ [])

calls_the_group : Calls (numbered 1 into_a_cycle) 0 0 1
unfolding row
calls_the_group = record {
  spot = record { node = call 1; owner = 0; position = 0; is_skipped = false };
  is_there = (1, omega arith, refl);
  is_tracked = record { in_group_or_entered = inr refl };
  is_call = refl;
  owner = refl;
  position = refl;
}

group_calls_itself : Calls (numbered 1 into_a_cycle) 1 0 1
unfolding row
group_calls_itself = record {
  spot = record { node = call 1; owner = 1; position = 0; is_skipped = false };
  is_there = (5, omega arith, refl);
  is_tracked = record { in_group_or_entered = inr refl };
  is_call = refl;
  owner = refl;
  position = refl;
}

leads_into_a_cycle : AnalysisRefuses (parsed into_a_cycle) no_options (LeftRecursiveSubroutineCall (codes "group 0"))
unfolding row
leads_into_a_cycle =
    subst (λ t. AnalysisRefuses (parsed into_a_cycle) no_options (LeftRecursiveSubroutineCall t)) is_group_0
    (before_end
    (left_recursion 0 _
    (record {
      is_one =
          record {
            is_reachable = the_whole;
            on_cycle = 1;
            leads = inr (once calls_the_group);
            cycle =
                once group_calls_itself;
          };
      least = nothing_below_0;
    }) (by_number (λ name n. omega (arith, n.is_there.1)))))
