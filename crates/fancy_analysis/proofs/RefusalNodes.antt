-- A node is refused exactly where a case of a refusal holds, or it is a call.
use Rattle.std.proofs.Common.{◌≡◌, ℕ, suc, ◌+◌, ◌-◌, ◌<◌, ◌≤◌, Bool, true, false, not, ◌&&◌, ◌||◌, ◌==◌, nat_lt, if◌then◌else◌, List, [], ◌∷◌, length, map, Contains, IsTrue, refl, sym, ap, ap₂, ◌∙◌, subst, arith, ⊎_elim}
use Rattle.std.specs.List.{list_any}
use Rattle.std.proofs.Math.Bool.{and-false}
use Rattle.std.proofs.lemmas.Bool.{and_from, and_parts, cases_lt, eqb-true, eq-eqb, lt-ltb, ne_eqb, not_from_false, or_right}
use Rattle.fancy_analysis.specs.LateReads.{is_named}
use Rattle.fancy_analysis.proofs.CallLinks.{no_left_recursion}
use Rattle.fancy_analysis.proofs.InfoNodes.{read-nodes, read-numbered}
use Rattle.std.proofs.lemmas.List.Elements.{Contains-append_right}
use Rattle.fancy_meaning.specs.Tree.{Tree, Assert, Repeat, Backref, BackrefWithLevel, BackrefExists, AstNode, UnresolvedCall, UnresolvedOther, Within, NoLook, Unresolved}
use Rattle.fancy_meaning.specs.Nodes.{nodes, group_count, is_read, read_by}
use Rattle.fancy_meaning.specs.Numbering.{numbered_within, numbered}
use Rattle.fancy_meaning.specs.Options.{ParsedTree, AnalysisOptions, analysis_of}
use Rattle.fancy_meaning.specs.WellFormed.{refers, is_call}
use Rattle.fancy_meaning.specs.AnalysisRefusals.{CompileError, AnalysisRefuses, RefusesBeforeEnd, is_back_to, is_lazy, has_level, is_no_group, before_end, never_ends, named_groups_with_numbers, reference_to_0, reference_after_call, unresolved_call, unresolved_node, reference_with_level, lazy_loop, group_out_of_range, left_recursion, FeatureNotYetSupported, InvalidBackref, NeverEndingRecursion, ReadsAfterCall, LeftRecursiveSubroutineCall}
use Rattle.fancy_expr.specs.Questions.{is_refused}
use Rattle.fancy_analysis.specs.Refusals.{refusal_of, HasNoRefusedNode, IsAnalysable}
use Rattle.fancy_meaning.specs.Recursion.{IsLeftRecursive, CanEnd}
use Rattle.fancy_expr.proofs.Listed.{any-map, any_passes, any_fails_at, true_false, false_true}
use Rattle.fancy_expr.proofs.Numbered.{nodes-numbered, count-numbered}
use Rattle.fancy_analysis.specs.Names.{IsDescriptionOfLeast}

-- ---- a test that some node passes

some_case : {X : Type 0} (p : X → Bool) (y : X) (xs : List X) → (list_any p xs ≡ true → (x : X) × Contains xs x × (p x ≡ true)) → (b : Bool) →
    p y ≡ b → (p y || list_any p xs) ≡ true → (x : X) × Contains (y ∷ xs) x × (p x ≡ true)
some_case p y xs later true is h = (y, (0, omega arith, refl), is)
some_case p y xs later false is h =
    let rest = later (ap (λ b. b || list_any p xs) (sym is) ∙ h) in
    (rest.0, Contains-append_right (y ∷ []) xs rest.0 rest.1, rest.2)

pub some_there : {X : Type 0} (p : X → Bool) (xs : List X) → list_any p xs ≡ true → (x : X) × Contains xs x × (p x ≡ true)
some_there p [] h = absurd (false_true h)
some_there p (y ∷ xs) h = some_case p y xs (some_there p xs) (p y) refl h

-- what follows from a test on each node
implied : (f g : Tree → Bool) → ((x : Tree) → f x ≡ true → g x ≡ true) → (xs : List Tree) → list_any g xs ≡ false → list_any f xs ≡ true → ⊥
implied f g h xs fails passes =
    let there = some_there f xs passes in
    true_false (sym (h there.0 there.2) ∙ any_fails_at g xs there.0 fails there.1)

any-numbered : (f : Tree → Bool) → ((w : Within) (n : ℕ) (e : Tree) → f (numbered_within w n e) ≡ f e) → (w : Within) (n : ℕ) (t : Tree) →
    list_any f (nodes (numbered_within w n t)) ≡ list_any f (nodes t)
any-numbered f blind w n t =
    any-map (λ b. b) f (nodes (numbered_within w n t)) ∙ ap (list_any (λ b. b)) (nodes-numbered f blind w n t) ∙ sym (any-map (λ b. b) f (nodes t))

-- ---- tests that do not hang on numbers and places

blind-back : (w : Within) (n : ℕ) (e : Tree) → is_back_to 0 (numbered_within w n e) ≡ is_back_to 0 e
blind-back w n (Assert old a) = refl
blind-back w n e = refl

blind-lazy : (w : Within) (n : ℕ) (e : Tree) → is_lazy (numbered_within w n e) ≡ is_lazy e
blind-lazy w n (Assert old a) = refl
blind-lazy w n (Repeat lo hi greedy e) = refl
blind-lazy w n e = refl

blind-level : (w : Within) (n : ℕ) (e : Tree) → has_level (numbered_within w n e) ≡ has_level e
blind-level w n (Assert old a) = refl
blind-level w n e = refl

blind-refers : (g : ℕ) (w : Within) (n : ℕ) (e : Tree) → refers g (numbered_within w n e) ≡ refers g e
blind-refers g w n (Assert old a) = refl
blind-refers g w n e = refl

blind-call : (w : Within) (n : ℕ) (e : Tree) → is_call (numbered_within w n e) ≡ is_call e
blind-call w n (Assert old a) = refl
blind-call w n e = refl

blind-refused : (first last : ℕ) (w : Within) (n : ℕ) (e : Tree) → is_refused first last (numbered_within w n e) ≡ is_refused first last e
blind-refused first last w n (Assert old a) = refl
blind-refused first last w n e = refl

abbrev unresolved : Unresolved → Tree → Bool
unresolved UnresolvedCall (AstNode UnresolvedCall) = true
unresolved UnresolvedOther (AstNode UnresolvedOther) = true
unresolved u e = false

blind-unresolved : (u : Unresolved) (w : Within) (n : ℕ) (e : Tree) → unresolved u (numbered_within w n e) ≡ unresolved u e
blind-unresolved UnresolvedCall w n (Assert old a) = refl
blind-unresolved UnresolvedCall w n e = refl
blind-unresolved UnresolvedOther w n (Assert old a) = refl
blind-unresolved UnresolvedOther w n e = refl

is_unresolved : (u : Unresolved) (e : Tree) → unresolved u e ≡ true → e ≡ AstNode u
is_unresolved UnresolvedCall (AstNode UnresolvedCall) h = refl
is_unresolved UnresolvedOther (AstNode UnresolvedOther) h = refl
is_unresolved UnresolvedCall e h = absurd (false_true h)
is_unresolved UnresolvedOther e h = absurd (false_true h)

-- ---- each refused node is refused for a case

pub low : (b : Bool) → (if b then 0 else 1) ≤ 1
low true = omega arith
low false = omega arith

module _ (p : ParsedTree) (options : AnalysisOptions) where
  abbrev first : ℕ
  first = if options.explicit_capture_group_0 then 0 else 1

  abbrev last : ℕ
  last = first + p.total_groups - 1

  abbrev whole : Tree
  whole = numbered_within NoLook first p.tree

  has : (f : Tree → Bool) → ((w : Within) (n : ℕ) (e : Tree) → f (numbered_within w n e) ≡ f e) → (x : Tree) → Contains (nodes p.tree) x →
      f x ≡ true → list_any f (nodes whole) ≡ true
  has f blind x there h = any-numbered f blind NoLook first p.tree ∙ any_passes f (nodes p.tree) x there h

  no_group : p.total_groups ≡ group_count p.tree → (g : ℕ) → (nat_lt g first || nat_lt last g) ≡ true → IsTrue (is_no_group p options g)
  unfolding numbered
  no_group counted g h =
      let same : p.total_groups ≡ group_count whole = counted ∙ sym (count-numbered NoLook first p.tree) in
      ap (λ n. nat_lt g first || nat_lt (first + n - 1) g) (sym same) ∙ h

  out_of_range : p.total_groups ≡ group_count p.tree → (x : Tree) (g : ℕ) → Contains (nodes p.tree) x → refers g x ≡ true →
      (nat_lt g first || nat_lt last g) ≡ true → AnalysisRefuses p options (InvalidBackref g)
  unfolding numbered
  out_of_range counted x g there names h =
      before_end (group_out_of_range g (has (refers g) (blind-refers g) x there names) (no_group counted g h))

  to_0 : (g : ℕ) (casei : Bool) → Contains (nodes p.tree) (Backref g casei) → (g == 0) ≡ true → AnalysisRefuses p options (InvalidBackref g)
  unfolding numbered
  to_0 g casei there zero_test =
      let case : AnalysisRefuses p options (InvalidBackref 0) = before_end (reference_to_0 (has (is_back_to 0) blind-back (Backref g casei) there zero_test)) in
      subst (λ n. AnalysisRefuses p options (InvalidBackref n)) (sym (eqb-true g 0 zero_test)) case

  unresolved_there : (u : Unresolved) → Contains (nodes p.tree) (AstNode u) → unresolved u (AstNode u) ≡ true → Contains (nodes whole) (AstNode u)
  unresolved_there u there h =
      let some = some_there (unresolved u) (nodes whole) (has (unresolved u) (blind-unresolved u) (AstNode u) there h) in
      subst (Contains (nodes whole)) (is_unresolved u some.0 some.2) some.1

  back_reference : p.total_groups ≡ group_count p.tree → (g : ℕ) (casei : Bool) → Contains (nodes p.tree) (Backref g casei) → (b : Bool) →
      (g == 0) ≡ b → ((g == 0) || nat_lt g first || nat_lt last g) ≡ true → AnalysisRefuses p options (InvalidBackref g)
  back_reference counted g casei there true is h = to_0 g casei there is
  back_reference counted g casei there false is h =
      out_of_range counted (Backref g casei) g there (eq-eqb g g refl) (ap (λ b. b || nat_lt g first || nat_lt last g) (sym is) ∙ h)

  pub refused_for_a_case : p.total_groups ≡ group_count p.tree → (x : Tree) → Contains (nodes p.tree) x → is_refused first last x ≡ true →
      AnalysisRefuses p options (refusal_of x)
  unfolding numbered
  refused_for_a_case counted (Backref g casei) there h = back_reference counted g casei there (g == 0) refl h
  refused_for_a_case counted (BackrefExists g level) there h = out_of_range counted (BackrefExists g level) g there (eq-eqb g g refl) h
  refused_for_a_case counted (BackrefWithLevel g level casei) there h =
      before_end (reference_with_level (has has_level blind-level (BackrefWithLevel g level casei) there refl))
  refused_for_a_case counted (AstNode UnresolvedCall) there h = before_end (unresolved_call (unresolved_there UnresolvedCall there refl))
  refused_for_a_case counted (AstNode UnresolvedOther) there h = before_end (unresolved_node (unresolved_there UnresolvedOther there refl))
  refused_for_a_case counted x there h = absurd (false_true h)

  -- a lazy loop is refused where the longest match may be asked for
  pub lazy_refused : (options.leftmost_longest && list_any is_lazy (nodes p.tree)) ≡ true → AnalysisRefuses p options FeatureNotYetSupported
  unfolding numbered
  lazy_refused h =
      let both = and_parts options.leftmost_longest (list_any is_lazy (nodes p.tree)) h in
      before_end (lazy_loop both.0 (any-numbered is_lazy blind-lazy NoLook first p.tree ∙ both.1))

  -- ---- where no node is refused, no case holds

  back_refused : (x : Tree) → is_back_to 0 x ≡ true → is_refused first last x ≡ true
  back_refused (Backref g casei) h = ap (λ b. b || nat_lt g first || nat_lt last g) h
  back_refused x h = absurd (false_true h)

  level_refused : (x : Tree) → has_level x ≡ true → is_refused first last x ≡ true
  level_refused (BackrefWithLevel g level casei) h = refl
  level_refused x h = absurd (false_true h)

  or_last : (a b c : Bool) → (b || c) ≡ true → (a || b || c) ≡ true
  or_last true b c h = refl
  or_last false b c h = h

  named_refused : (g : ℕ) → (nat_lt g first || nat_lt last g) ≡ true → (x : Tree) → refers g x ≡ true → is_refused first last x ≡ true
  named_refused g out (Backref k casei) h =
      or_last (k == 0) (nat_lt k first) (nat_lt last k) (ap (λ n. nat_lt n first || nat_lt last n) (eqb-true k g h) ∙ out)
  named_refused g out (BackrefExists k level) h = ap (λ n. nat_lt n first || nat_lt last n) (eqb-true k g h) ∙ out
  named_refused g out (BackrefWithLevel k level casei) h = refl
  named_refused g out x h = absurd (false_true h)

  module _ (counted : p.total_groups ≡ group_count p.tree) (quiet : HasNoRefusedNode p options) (no_late : (g : ℕ) → ¬ ReadsAfterCall whole g)
      (no_left : (g : ℕ) → ¬ IsLeftRecursive whole g) where
    none_whole : list_any (is_refused first last) (nodes whole) ≡ false
    none_whole = any-numbered (is_refused first last) (blind-refused first last) NoLook first p.tree ∙ quiet.nodes

    not_unresolved : (u : Unresolved) → Contains (nodes whole) (AstNode u) → ⊥
    not_unresolved u there = true_false (any_fails_at (is_refused first last) (nodes whole) (AstNode u) none_whole there)

    not_before_end : (error : CompileError) → RefusesBeforeEnd p options error → ⊥
    unfolding numbered
    not_before_end _ (named_groups_with_numbers h named) = quiet.names h named
    not_before_end _ (reference_to_0 h) = implied (is_back_to 0) (is_refused first last) back_refused (nodes whole) none_whole h
    not_before_end _ (reference_after_call g r) = no_late g r
    not_before_end _ (unresolved_call there) = not_unresolved UnresolvedCall there
    not_before_end _ (unresolved_node there) = not_unresolved UnresolvedOther there
    not_before_end _ (reference_with_level h) = implied has_level (is_refused first last) level_refused (nodes whole) none_whole h
    not_before_end _ (lazy_loop on h) =
        true_false
        (sym (ap₂ (λ u v. u && v) on (sym (any-numbered is_lazy blind-lazy NoLook first p.tree) ∙ h)) ∙ quiet.lazy)
    not_before_end _ (group_out_of_range g h out) =
        let same : p.total_groups ≡ group_count whole = counted ∙ sym (count-numbered NoLook first p.tree) in
        implied (refers g) (is_refused first last) (named_refused g (ap (λ n. nat_lt g first || nat_lt (first + n - 1) g) same ∙ out))
        (nodes whole) none_whole h
    not_before_end _ (left_recursion g text least described) = no_left g least.is_one

    pub accepted : (list_any is_call (nodes whole) ≡ true → ¬ CanEnd whole whole → ⊥) → IsAnalysable p options
    unfolding numbered
    accepted ends _ (before_end {error = e} r) = not_before_end e r
    accepted ends _ (never_ends has_call cannot no_other) = ends has_call cannot

    pub refused_at_end : list_any is_call (nodes p.tree) ≡ true → ¬ CanEnd whole whole → AnalysisRefuses p options NeverEndingRecursion
    unfolding numbered
    refused_at_end has_call cannot = never_ends (any-numbered is_call blind-call NoLook first p.tree ∙ has_call) cannot not_before_end

  no_call_in : list_any is_call (nodes p.tree) ≡ false → list_any is_call (nodes whole) ≡ false
  no_call_in none = any-numbered is_call blind-call NoLook first p.tree ∙ none

  -- ---- a group that is read is in range

  names_it : (g : ℕ) (x : Tree) → is_named (read_by x) g ≡ true → refers g x ≡ true
  names_it g (Backref k casei) h = eq-eqb k g (sym (eqb-true g k h))
  names_it g (BackrefExists k level) h = eq-eqb k g (sym (eqb-true g k h))
  names_it g x h = absurd (false_true h)

  pub read_in_range : p.total_groups ≡ group_count p.tree → HasNoRefusedNode p options → (g : ℕ) → is_read p.tree g ≡ true → p.total_groups < g → ⊥
  unfolding numbered
  read_in_range counted taken g read past =
      let some = some_there (λ x. is_named (read_by x) g) (nodes p.tree) (sym (read-nodes p.tree g) ∙ read) in
      let out : (nat_lt g first || nat_lt last g) ≡ true =
      or_right (nat_lt g first) (nat_lt last g) (lt-ltb last g (omega (arith, past, low options.explicit_capture_group_0))) in
      true_false (sym (named_refused g out some.0 (names_it g some.0 some.2)) ∙ any_fails_at (is_refused first last) (nodes p.tree) some.0 taken.nodes some.1)

  flag : (n g : ℕ) (b : Bool) → (b ≡ true → g < n) → (nat_lt g n && b) ≡ b
  flag n g true h = ap (λ t. t && true) (lt-ltb g n (h refl))
  flag n g false h = and-false (nat_lt g n)

  pub flag_is_read : p.total_groups ≡ group_count p.tree → HasNoRefusedNode p options → (g : ℕ) →
      (nat_lt g (p.total_groups + 1) && is_read p.tree g) ≡ is_read whole g
  flag_is_read counted taken g =
      flag (p.total_groups + 1) g (is_read p.tree g) (λ read.
      ⊎_elim (λ lt. lt) (λ le. absurd (read_in_range counted taken g read (omega (arith, le)))) (cases_lt g (p.total_groups + 1)))
      ∙ sym (read-numbered NoLook first p.tree g)

-- ---- names

pub names_there : {X Y : Type 0} (f : X → Y) (xs : List X) (b : Bool) → (b && not (length xs == 0)) ≡ true → map f xs ≡ [] → ⊥
names_there f [] b h none = false_true (and_parts b false h).1
names_there f (x ∷ xs) b h none = cc

pub named_flags : {X : Type 0} (xs : List X) (b : Bool) → (b && not (length xs == 0)) ≡ true → b ≡ true
named_flags xs b h = (and_parts b (not (length xs == 0)) h).0

pub names_absent : {X Y : Type 0} (f : X → Y) (xs : List X) (b : Bool) → (b && not (length xs == 0)) ≡ false → b ≡ true → ¬ (map f xs ≡ []) → ⊥
names_absent f [] b h given some = some refl
names_absent f (x ∷ xs) b h given some =
    true_false (sym (and_from b _ given (not_from_false (suc (length xs) == 0) (ne_eqb (suc (length xs)) 0 (λ e. omega (arith, e))))) ∙ h)

module _ (p : ParsedTree) (options : AnalysisOptions) where
  abbrev whole_tree : Tree
  whole_tree = (analysis_of p.tree options).tree

  pub late_refused : (g : ℕ) × ReadsAfterCall whole_tree g → AnalysisRefuses p options FeatureNotYetSupported
  late_refused late = before_end (reference_after_call late.0 late.1)

  pub left_refused : (text : List ℕ) → IsDescriptionOfLeast whole_tree p.named_groups text → AnalysisRefuses p options (LeftRecursiveSubroutineCall text)
  left_refused text d = before_end (left_recursion d.group text d.is_least d.describes)

  module _ (counted : p.total_groups ≡ group_count p.tree) (quiet : HasNoRefusedNode p options) (no_late : (g : ℕ) → ¬ ReadsAfterCall whole_tree g) where
    pub without_calls : list_any is_call (nodes p.tree) ≡ false → IsAnalysable p options
    unfolding numbered
    without_calls none =
        let no_call = no_call_in p options none in
        accepted p options counted quiet no_late (no_left_recursion whole_tree no_call) (λ some cannot. true_false (sym some ∙ no_call))

    module _ (no_left : (g : ℕ) → ¬ IsLeftRecursive whole_tree g) where
      pub that_end : CanEnd whole_tree whole_tree → IsAnalysable p options
      unfolding numbered
      that_end ends = accepted p options counted quiet no_late no_left (λ some cannot. cannot ends)

      pub never_refused : list_any is_call (nodes p.tree) ≡ true → ¬ CanEnd whole_tree whole_tree → AnalysisRefuses p options NeverEndingRecursion
      unfolding numbered
      never_refused = refused_at_end p options counted quiet no_late no_left
