-- What is told of trees that passed limits of their delegates, from the last tree to the first.
use Rattle.std.proofs.Common.{◌≡◌, ◌≢◌, ℕ, zero, suc, ◌-◌, ◌<◌, ◌≤◌, Bool, true, false, List, [], ◌∷◌, length, Option, Some, None, IfSome, option_map, ◌⊎◌, inl, refl, sym, ap, ap₂, ◌∙◌, subst, arith, ⊎_elim}
use Rattle.std.specs.Prelude.{option_and_then, slice_get}
use Rattle.std.proofs.lemmas.Bool.Decides.{eqb_tells}
use Rattle.std.proofs.lemmas.Option.{none-some}
use Rattle.fancy_search.specs.Scratches.{cost_of}
use Rattle.fancy_steps.specs.SearchLimits.{passed_by}
use Rattle.fancy_steps.specs.declared.search_limits.SearchLimit.{SearchLimit}
use Rattle.fancy_steps.specs.declared.search_limits.SearchLimits.{SearchLimits}
use Rattle.fancy_matches.specs.Matchers.{passed_in}
use Rattle.fancy_scanner.specs.Limits.{AreDistinct, IsToldUpTo, TellsPassed, passed_among, passed_at, passed_from, unless_held}
use Rattle.fancy_scanner.specs.Scanning.{AreTreesOf, IsRuleAt, MayPass, Rule, search_limit, stopped_view, trees_of}
use Rattle.fancy_scanner.specs.Scans.{GoesOn, KeepsOthers, holds_for, is_held}
use Rattle.fancy_scanner.specs.declared.scan_limit.ScanLimit.{ScanLimit}
use Rattle.fancy_scanner.specs.declared.scan_text.TreeScan.{TreeScan}
use Rattle.fancy_scanner.specs.declared.scan_text.TreeMatch.{TreeMatch}
use Rattle.fancy_scanner.specs.declared.scanner.ScanMatch.{ScanMatch}
use Rattle.fancy_scanner.specs.declared.scanner.ScanTree.{ScanTree}
use Rattle.fancy_scanner.specs.declared.scanner.TreeScanner.{TreeScanner}
use Rattle.fancy_scanner.specs.declared.scanner.Stopped.{Stopped}

-- the number of a match's tree
abbrev pub index_in : Option ScanMatch → Option ℕ
index_in = option_map (λ m. m.index)

abbrev pub index_of : Option TreeMatch → Option ℕ
index_of = option_map (λ m. m.index)

-- ---- from number n on

pub record TellsFrom (n : ℕ) (passed : ℕ → Option SearchLimit) (found : Option ℕ) (stopped : Option Stopped) : Type 0 where
  pub by_its_limit : IfSome stopped (λ s. (n ≤ s.index) × (passed s.index ≡ search_limit s.limit))
  pub none_hidden : (k : ℕ) (l : SearchLimit) → n ≤ k → passed k ≡ Some l → IsToldUpTo k stopped
  pub answered : IfSome found (λ k. (n ≤ k) × (passed k ≡ None))

pub tells_all : (passed : ℕ → Option SearchLimit) (found : Option ℕ) (stopped : Option Stopped) → TellsFrom 0 passed found stopped →
    TellsPassed passed found stopped
tells_all passed found stopped h = record {
  by_its_limit = by_limit stopped h.by_its_limit;
  none_hidden = λ k l e. h.none_hidden k l (omega arith) e;
  answered = by_answer found h.answered;
}
  where
    by_limit : (o : Option Stopped) → IfSome o (λ s. (0 ≤ s.index) × (passed s.index ≡ search_limit s.limit)) →
        IfSome o (λ s. passed s.index ≡ search_limit s.limit)
    by_limit None g = tt
    by_limit (Some s) g = g.1

    by_answer : (o : Option ℕ) → IfSome o (λ k. (0 ≤ k) × (passed k ≡ None)) → IfSome o (λ k. passed k ≡ None)
    by_answer None g = tt
    by_answer (Some k) g = g.1

pub tells_nothing : (n : ℕ) (passed : ℕ → Option SearchLimit) → ((k : ℕ) → n ≤ k → passed k ≡ None) → TellsFrom n passed None None
tells_nothing n passed none = record {
  by_its_limit = tt;
  none_hidden = λ k l le e. absurd (none-some l (sym (none k le) ∙ e));
  answered = tt;
}

-- ---- from one tree to the one before

module _ (p q : ℕ → Option SearchLimit) (n : ℕ) (some : 0 < n) (same : (k : ℕ) → n ≤ k → q k ≡ p k) where
  still_by : (o : Option Stopped) → IfSome o (λ s. (n ≤ s.index) × (p s.index ≡ search_limit s.limit)) →
      IfSome o (λ s. (n - 1 ≤ s.index) × (q s.index ≡ search_limit s.limit))
  still_by None h = tt
  still_by (Some s) h = let past = h.0 in (omega (arith, past), same s.index past ∙ h.1)

  still_answered : (o : Option ℕ) → IfSome o (λ k. (n ≤ k) × (p k ≡ None)) → IfSome o (λ k. (n - 1 ≤ k) × (q k ≡ None))
  still_answered None h = tt
  still_answered (Some k) h = let past = h.0 in (omega (arith, past), same k past ∙ h.1)

  module _ (found : Option ℕ) (stopped : Option Stopped) (h : TellsFrom n p found stopped) where
    -- the tree before passed none, and the match is of it or the one that was told
    pub tells_answer : q (n - 1) ≡ None → (now : Option ℕ) → (now ≡ found) ⊎ (now ≡ Some (n - 1)) → TellsFrom (n - 1) q now stopped
    tells_answer none now either = record {
      by_its_limit = still_by stopped h.by_its_limit;
      none_hidden = λ k l le e. ⊎_elim
          (λ this. absurd (none-some l (sym none ∙ ap q (sym this.1) ∙ e)))
          (λ other. let ne = other.1 in let past : n ≤ k = omega (arith, le, ne, some) in h.none_hidden k l past (sym (same k past) ∙ e))
          (eqb_tells k (n - 1));
      answered = ⊎_elim
          (λ e. subst (λ o. IfSome o (λ k. (n - 1 ≤ k) × (q k ≡ None))) (sym e) (still_answered found h.answered))
          (λ e. subst (λ o. IfSome o (λ k. (n - 1 ≤ k) × (q k ≡ None))) (sym e) (omega arith, none))
          either;
    }

    pub tells_none : q (n - 1) ≡ None → TellsFrom (n - 1) q found stopped
    tells_none none = tells_answer none found (inl refl)

    -- it passed the limit that is told of it
    pub tells_limit : (limit : ScanLimit) → q (n - 1) ≡ search_limit limit → (now : Stopped) → stopped_view now ≡ (n - 1, limit) →
        TellsFrom (n - 1) q found (Some now)
    tells_limit limit is now view =
        let at : now.index ≡ n - 1 = ap (λ v. v.0) view in
        record {
          by_its_limit = (omega (arith, at), ap q at ∙ (is ∙ ap search_limit (sym (ap (λ v. v.1) view))));
          none_hidden = λ k l le e. omega (arith, at, le);
          answered = still_answered found h.answered;
        }

-- ---- what a tree passed

get_past : {X : Type 0} (xs : List X) (k : ℕ) → length xs ≤ k → slice_get xs k ≡ None
get_past [] k le = refl
get_past (x ∷ xs) zero le = absurd (omega (arith, le))
get_past (x ∷ xs) (suc k) le = get_past xs k (omega (arith, le))

abbrev pub passed_of : Option ScanTree → Option SearchLimit
passed_of = option_and_then (λ x. passed_in x.matcher)

pub none_past : (s : TreeScanner) (k : ℕ) → length (trees_of s) ≤ k → passed_at s k ≡ None
none_past s k le = ap passed_of (get_past (trees_of s) k le)

-- the tree of a rule passed a limit that the rule has
pub rule_passes : (text : List ℕ) (rules : List Rule) (xs : List ScanTree) (k : ℕ) (r : Rule) → AreTreesOf rules text xs → IsRuleAt rules k r →
    k < length xs → MayPass r (passed_of (slice_get xs k))
rule_passes text rules [] k r h at lt = absurd (omega (arith, lt))
rule_passes text [] (x ∷ xs) k r h at lt = absurd h
rule_passes text (q ∷ rules) (x ∷ xs) zero r h at lt =
    subst (λ (p : Rule). MayPass p (passed_in x.matcher)) (ap first_rule at)
    (cost_of x.matcher.scratch, ap (λ (l : SearchLimits). passed_by l (cost_of x.matcher.scratch)) (sym (h.0).limits))
  where
    first_rule : List Rule → Rule
    first_rule [] = q
    first_rule (p ∷ ps) = p
rule_passes text (q ∷ rules) (x ∷ xs) (suc k) r h at lt = rule_passes text rules xs k r h.1 at (omega (arith, lt))

module _ (s t : TreeScanner) (n : ℕ) (some : 0 < n) (others : (k : ℕ) → k ≢ n - 1 → passed_at t k ≡ passed_at s k)
    (found : Option ℕ) (stopped : Option Stopped) (h : TellsFrom n (passed_at s) found stopped) where
  past_it : (k : ℕ) → n ≤ k → passed_at t k ≡ passed_at s k
  past_it k le = let other : k ≢ n - 1 = omega (arith, le, some) in others k other

  -- the search for the tree before answered so
  pub none_told : passed_at t (n - 1) ≡ None → TellsFrom (n - 1) (passed_at t) found stopped
  none_told = tells_none (passed_at s) (passed_at t) n some past_it found stopped h

  pub found_told : passed_at t (n - 1) ≡ None → (now : Option ℕ) → (now ≡ found) ⊎ (now ≡ Some (n - 1)) →
      TellsFrom (n - 1) (passed_at t) now stopped
  found_told = tells_answer (passed_at s) (passed_at t) n some past_it found stopped h

  pub limit_told : (limit : ScanLimit) → passed_at t (n - 1) ≡ search_limit limit → (now : Stopped) → stopped_view now ≡ (n - 1, limit) →
      TellsFrom (n - 1) (passed_at t) found (Some now)
  limit_told = tells_limit (passed_at s) (passed_at t) n some past_it found stopped h

-- ---- in a scan

module _ (pos : ℕ) where
  unless_none : (b : Bool) (passed : Option SearchLimit) → passed ≡ None → unless_held b passed ≡ None
  unless_none true passed e = refl
  unless_none false passed e = e

  pub none_past_in : (s : TreeScan) (k : ℕ) → length (trees_of s.scanner.now) ≤ k → passed_from pos s k ≡ None
  none_past_in s k le = unless_none (is_held s k pos) (passed_at s.scanner.now k) (none_past s.scanner.now k le)

  pub none_held : (s : TreeScan) (k : ℕ) → is_held s k pos ≡ true → passed_from pos s k ≡ None
  none_held s k e = ap (λ b. unless_held b (passed_at s.scanner.now k)) e

  pub passed_stopped : (s : TreeScan) (k : ℕ) (limit : ScanLimit) → is_held s k pos ≡ false → passed_at s.scanner.now k ≡ search_limit limit →
      passed_from pos s k ≡ search_limit limit
  passed_stopped s k limit e is = ap (λ b. unless_held b (passed_at s.scanner.now k)) e ∙ is

  -- a search for one tree leaves what the others passed
  module _ (s t : TreeScan) (k : ℕ) (goes : GoesOn s t) (others : KeepsOthers k s t)
      (limits : (j : ℕ) → j ≢ k → passed_at t.scanner.now j ≡ passed_at s.scanner.now j) where
    pub passed_others : (j : ℕ) → j ≢ k → passed_from pos t j ≡ passed_from pos s j
    passed_others j ne = ap₂ unless_held (ap₂ (λ l a. holds_for l a pos) ((goes.trees).reuse j) (others j ne)) (limits j ne)

    pub among_others : (order : List ℕ) (n : ℕ) → AreDistinct order → 0 < n → slice_get order (n - 1) ≡ Some k → (j : ℕ) → n ≤ j →
        passed_among pos order t j ≡ passed_among pos order s j
    among_others order n distinct some read j le = go (slice_get order j) refl
      where
        go : (o : Option ℕ) → slice_get order j ≡ o → passed_among pos order t j ≡ passed_among pos order s j
        go None e = ap (option_and_then (passed_from pos t)) e ∙ sym (ap (option_and_then (passed_from pos s)) e)
        go (Some i) e =
            ap (option_and_then (passed_from pos t)) e
            ∙ (passed_others i (λ this. let twice = distinct j (n - 1) k (e ∙ ap Some this) read in absurd (omega (arith, twice, le, some)))
            ∙ sym (ap (option_and_then (passed_from pos s)) e))

  pub none_past_order : (order : List ℕ) (s : TreeScan) (j : ℕ) → length order ≤ j → passed_among pos order s j ≡ None
  none_past_order order s j le = ap (option_and_then (passed_from pos s)) (get_past order j le)

  pub read_among : (order : List ℕ) (s : TreeScan) (j k : ℕ) (passed : Option SearchLimit) → slice_get order j ≡ Some k →
      passed_from pos s k ≡ passed → passed_among pos order s j ≡ passed
  read_among order s j k passed read is = ap (option_and_then (passed_from pos s)) read ∙ is
