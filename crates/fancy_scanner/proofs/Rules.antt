-- Rules and the trees of a scanner that are of them, one by one; and the replies of the rules from one on.
use Rattle.std.proofs.Common.{◌≡◌, ℕ, zero, suc, ◌-◌, ◌^◌, ◌<◌, ◌≤◌, List, [], ◌∷◌, ◌++◌, length, drop, get_or, slice_set, Option, Some, None, option_map, Ok, Err, refl, sym, ap, ◌∙◌, subst, arith}
use Rattle.std.specs.Prelude.{IsSome, slice_get}
use Rattle.std.proofs.lemmas.Bool.{true≢false}
use Rattle.std.proofs.lemmas.Option.{none-some, same_Some}
use Rattle.fancy_expr.specs.declared.error.Error.{Error}
use Rattle.fancy_steps.specs.SearchLimits.{no_limits, passed_by}
use Rattle.fancy_steps.specs.declared.search_limits.SearchLimit.{SearchLimit}
use Rattle.fancy_steps.specs.declared.search_limits.SearchLimits.{SearchLimits}
use Rattle.fancy_matches.specs.Listing.{begun_at}
use Rattle.fancy_matches.specs.Matchers.{FindsCaptures, IsSame, captures_text, numbers_in, shown_captures, with_numbers}
use Rattle.fancy_matches.specs.declared.found.Captures.{Captures}
use Rattle.fancy_matches.specs.declared.options.MatcherOptions.{MatcherOptions}
use Rattle.fancy_matches.proofs.Easy.{no_limit}
use Rattle.fancy_matches.proofs.Stepping.{of_same}
use Rattle.fancy_scanner.specs.Scanning.{Rule, AreEasy, AreEasyRuns, AreTreesOf, EachReplies, FailsForOne, IsEasyRun, IsReuseFor, IsRuleAt, IsScannerOf, IsStoppedByDelegates, IsTreeOf, KeepsTrees, MayFail, MayPass, Replies, Reply, RuleMatch, answer_from, earlier, earliest, error_of, first_stopped, here, in_text, later, match_view, search_limit, stopped_view, trees_of}
use Rattle.fancy_scanner.specs.Limits.{passed_at}
use Rattle.fancy_scanner.specs.declared.reuse.Reuse.{Reuse}
use Rattle.fancy_scanner.specs.declared.scan_limit.ScanLimit.{ScanLimit}
use Rattle.fancy_scanner.specs.declared.scan_limit.ScanLimit.TheVariants as limit
use Rattle.fancy_scanner.specs.declared.scanner.ScanMatch.{ScanMatch}
use Rattle.fancy_scanner.specs.declared.scanner.ScanTree.{ScanTree}
use Rattle.fancy_scanner.specs.declared.scanner.TreeScanner.{TreeScanner}
use Rattle.fancy_scanner.specs.declared.scanner.Stopped.{Stopped}
use Rattle.fancy_scanner.proofs.Passed.{TellsFrom, index_in}

abbrev first_of : {X : Type 0} → X → List X → X
first_of d [] = d
first_of d (x ∷ xs) = x

-- the rule with a number is one
pub same_rule : (rules rest : List Rule) (q r : Rule) {l : List Rule} → q ∷ rest ≡ r ∷ l → q ≡ r
same_rule rules rest q r e = ap (first_of r) e

module _ (text : List ℕ) where
  pub one_more : (rules : List Rule) (xs : List ScanTree) (r : Rule) (x : ScanTree) → AreTreesOf rules text xs →
      IsTreeOf r text x → AreTreesOf (rules ++ r ∷ []) text (xs ++ x ∷ [])
  one_more [] [] r x h g = (g, tt)
  one_more [] (y ∷ ys) r x h g = absurd h
  one_more (q ∷ rules) [] r x h g = absurd h
  one_more (q ∷ rules) (y ∷ ys) r x h g = (h.0, one_more rules ys r x h.1 g)

  -- the rule with this number
  pub record RuleAt (rules : List Rule) (k : ℕ) : Type 0 where
    pub rule : Rule
    pub rest : IsRuleAt rules k rule

  pub rule_at : (rules : List Rule) (xs : List ScanTree) (k : ℕ) → AreTreesOf rules text xs → k < length xs → RuleAt rules k
  rule_at [] [] k h lt = absurd (omega (arith, lt))
  rule_at [] (y ∷ ys) k h lt = absurd h
  rule_at (r ∷ rules) [] k h lt = absurd h
  rule_at (r ∷ rules) (y ∷ ys) zero h lt = record { rule = r; rest = refl }
  rule_at (r ∷ rules) (y ∷ ys) (suc k) h lt =
      let below = rule_at rules ys k h.1 (omega (arith, lt)) in record { rule = below.rule; rest = below.rest }

  -- the tree of the rule with this number
  pub tree_at : (rules : List Rule) (xs : List ScanTree) (k : ℕ) (r : Rule) (x : ScanTree) → AreTreesOf rules text xs → IsRuleAt rules k r →
      k < length xs → x ≡ get_or xs k x → IsTreeOf r text x
  tree_at [] [] k r x h at lt e = absurd (omega (arith, lt))
  tree_at [] (y ∷ ys) k r x h at lt e = absurd h
  tree_at (q ∷ rules) [] k r x h at lt e = absurd h
  tree_at (q ∷ rules) (y ∷ ys) zero r x h at lt e =
      subst (λ (p : Rule). IsTreeOf p text x) (ap (first_of r) at) (subst (IsTreeOf q text) (sym e) h.0)
  tree_at (q ∷ rules) (y ∷ ys) (suc k) r x h at lt e = tree_at rules ys k r x h.1 at (omega (arith, lt)) e

  -- one tree is put in the place of the same one
  pub same_put : (rules : List Rule) (xs : List ScanTree) (k : ℕ) (x y : ScanTree) → AreTreesOf rules text xs →
      x ≡ get_or xs k x → IsSame x.matcher y.matcher → y.reuse ≡ x.reuse → AreTreesOf rules text (slice_set xs k y)
  same_put [] [] k x y h e same lasts = tt
  same_put [] (z ∷ zs) k x y h e same lasts = absurd h
  same_put (r ∷ rules) [] k x y h e same lasts = absurd h
  same_put (r ∷ rules) (z ∷ zs) zero x y h e same lasts =
      let of : IsTreeOf r text x = subst (IsTreeOf r text) (sym e) h.0 in (
        record {
          matcher = of_same x.matcher y.matcher r.input text r.options same of.matcher;
          reuse = subst (IsReuseFor r) (sym lasts) of.reuse;
          limits = ap (λ (o : MatcherOptions). o.limits) same.1 ∙ of.limits;
        },
        h.1,
      )
  same_put (r ∷ rules) (z ∷ zs) (suc k) x y h e same lasts = (h.0, same_put rules zs k x y h.1 e same lasts)

  -- of the tree with a number those answers last that last of its rule
  pub reuse_of : (rules : List Rule) (xs : List ScanTree) (k : ℕ) (r : Rule) (reuse : Reuse) → AreTreesOf rules text xs → IsRuleAt rules k r →
      option_map (λ x. x.reuse) (slice_get xs k) ≡ Some reuse → IsReuseFor r reuse
  reuse_of rules [] k r reuse h at e = absurd (none-some _ e)
  reuse_of [] (x ∷ xs) k r reuse h at e = absurd h
  reuse_of (q ∷ rules) (x ∷ xs) zero r reuse h at e =
      subst (λ (p : Rule). IsReuseFor p reuse) (ap (first_of r) at) (subst (IsReuseFor q) (same_Some _ _ e) (h.0).reuse)
  reuse_of (q ∷ rules) (x ∷ xs) (suc k) r reuse h at e = reuse_of rules xs k r reuse h.1 at e

-- the answers of the same tree last as they did
pub reuse_put : (xs : List ScanTree) (i : ℕ) (x y : ScanTree) → x ≡ get_or xs i x → y.reuse ≡ x.reuse → (k : ℕ) →
    option_map (λ z. z.reuse) (slice_get (slice_set xs i y) k) ≡ option_map (λ z. z.reuse) (slice_get xs k)
reuse_put [] i x y e lasts k = refl
reuse_put (z ∷ zs) zero x y e lasts zero = ap Some (lasts ∙ ap (λ (w : ScanTree). w.reuse) e)
reuse_put (z ∷ zs) zero x y e lasts (suc k) = refl
reuse_put (z ∷ zs) (suc i) x y e lasts zero = refl
reuse_put (z ∷ zs) (suc i) x y e lasts (suc k) = reuse_put zs i x y e lasts k

-- ---- the same trees

pub keeps_itself : (s : TreeScanner) → KeepsTrees s s
keeps_itself s = record { count = refl; reuse = λ k. refl; same = λ text rules h. h }

pub keeps_twice : (s t u : TreeScanner) → KeepsTrees s t → KeepsTrees t u → KeepsTrees s u
keeps_twice s t u h g = record {
  count = g.count ∙ h.count;
  reuse = λ k. g.reuse k ∙ h.reuse k;
  same = λ text rules of. g.same text rules (h.same text rules of);
}

-- ---- the replies of the rules from one on

module _ (text : List ℕ) (pos : ℕ) where
  -- The rules from k on replied, and these are the match that begins first and the first rule that passed a limit.
  pub record IsScanFrom (rules : List Rule) (k : ℕ) (found : Option ScanMatch) (stopped : Option Stopped) : Type 0 where
    pub replies : List Reply
    pub each : EachReplies text pos (drop k rules) replies
    pub first : option_map match_view found ≡ option_map (in_text text) (earliest k replies)
    pub stops : option_map stopped_view stopped ≡ first_stopped k replies

  none_left : (rules : List Rule) (xs : List ScanTree) → AreTreesOf rules text xs → drop (length xs) rules ≡ []
  none_left [] [] h = refl
  none_left [] (x ∷ xs) h = absurd h
  none_left (r ∷ rules) [] h = absurd h
  none_left (r ∷ rules) (x ∷ xs) h = none_left rules xs h.1

  pub scan_of_none : (rules : List Rule) (xs : List ScanTree) (k : ℕ) → AreTreesOf rules text xs → k ≡ length xs →
      IsScanFrom rules k None None
  scan_of_none rules xs k h e =
      let none = ap (λ n. drop n rules) e ∙ none_left rules xs h in
      record { replies = []; each = subst (λ l. EachReplies text pos l []) (sym none) tt; first = refl; stops = refl }

  none_found : (a : Option (List ℕ)) → None ≡ option_map (with_numbers text) a → None ≡ a
  none_found None e = refl
  none_found (Some numbers) e = absurd (none-some _ e)

  some_found : (a : Option (List ℕ)) (c : Captures) → Some (shown_captures c) ≡ option_map (with_numbers text) a →
      (Some (numbers_in c) ≡ a) × (captures_text c ≡ text)
  some_found None c e = absurd (none-some _ (sym e))
  some_found (Some numbers) c e =
      let same = same_Some _ _ e in
      (ap Some (ap (λ p. p.1) same), ap (λ p. p.0) same)

  module _ (rules : List Rule) (k : ℕ) (at : RuleAt text rules k) (found : Option ScanMatch) (stopped : Option Stopped)
      (scanned : IsScanFrom rules (suc k) found stopped) where
    -- the rules from k on, where rule k replies so
    one_back : (reply : Reply) (found_now : Option ScanMatch) (stopped_now : Option Stopped) → Replies text pos at.rule reply →
        option_map match_view found_now ≡ option_map (in_text text) (earliest k (reply ∷ scanned.replies)) →
        option_map stopped_view stopped_now ≡ first_stopped k (reply ∷ scanned.replies) →
        IsScanFrom rules k found_now stopped_now
    one_back reply found_now stopped_now replies first stops = record {
      replies = reply ∷ scanned.replies;
      each = subst (λ l. EachReplies text pos l (reply ∷ scanned.replies)) (sym at.rest) (replies, scanned.each);
      first = first;
      stops = stops;
    }

    pub back_past_none : FindsCaptures (at.rule).input text (begun_at (at.rule).options pos) (Ok None) → IsScanFrom rules k found stopped
    back_past_none h =
        one_back (Ok None) found stopped (h.0, none_found (answer_from text pos at.rule) h.1) scanned.first scanned.stops

    pub back_past_some : (c : Captures) (now : ScanMatch) → FindsCaptures (at.rule).input text (begun_at (at.rule).options pos) (Ok (Some c)) →
        ((other : Option RuleMatch) → captures_text c ≡ text → option_map match_view found ≡ option_map (in_text text) other →
        match_view now ≡ in_text text (earlier (k, numbers_in c) other)) →
        IsScanFrom rules k (Some now) stopped
    back_past_some c now h told =
        let there = some_found (answer_from text pos at.rule) c h.1 in
        one_back (Ok (Some (numbers_in c))) (Some now) stopped (h.0, there.0)
        (ap Some (told (earliest (suc k) scanned.replies) there.1 scanned.first)) scanned.stops

    pub back_past_limit : (limit : ScanLimit) (now : Stopped) → MayFail text pos at.rule (error_of limit) → MayPass at.rule (search_limit limit) →
        stopped_view now ≡ (k, limit) → IsScanFrom rules k found (Some now)
    back_past_limit limit now fails passes is = one_back (Err limit) found (Some now) (fails, passes) scanned.first (ap Some is)

  fails_from : (e : Error) (rules : List Rule) (k : ℕ) → FailsForOne text pos e (drop k rules) → FailsForOne text pos e rules
  fails_from e rules zero h = h
  fails_from e [] (suc k) h = h
  fails_from e (r ∷ rules) (suc k) h = later (fails_from e rules k h)

  pub fails_at : (e : Error) (rules : List Rule) (k : ℕ) (at : RuleAt text rules k) →
      FindsCaptures (at.rule).input text (begun_at (at.rule).options pos) (Err e) → FailsForOne text pos e rules
  fails_at e rules k at h = fails_from e rules k (subst (FailsForOne text pos e) (sym at.rest) (here h))

  -- ---- from one tree to the one before

  -- The trees from number n on were searched for: the scanner has the same trees, and this is what the searches came to.
  pub record ScanFrom (before s : TreeScanner) (n : ℕ) (found : Option ScanMatch) (stopped : Option Stopped) : Type 0 where
    pub within : n ≤ length (trees_of s)
    pub keeps : KeepsTrees before s
    pub tells : TellsFrom n (passed_at s) (index_in found) stopped
    pub scanned : (rules : List Rule) → IsScannerOf rules text before → IsScanFrom rules n found stopped

  pub tree_before : (before s t : TreeScanner) (n : ℕ) (found found_now : Option ScanMatch) (stopped stopped_now : Option Stopped) →
      ScanFrom before s n found stopped → 0 < n → KeepsTrees s t → TellsFrom (n - 1) (passed_at t) (index_in found_now) stopped_now →
      ((rules : List Rule) (at : RuleAt text rules (n - 1)) → IsScannerOf rules text s → IsScanFrom rules (suc (n - 1)) found stopped →
      IsScanFrom rules (n - 1) found_now stopped_now) →
      ScanFrom before t (n - 1) found_now stopped_now
  tree_before before s t n found found_now stopped stopped_now h some keeps tells back =
      let next : n ≡ suc (n - 1) = omega (arith, some) in
      record {
        within = omega (arith, h.within, keeps.count);
        keeps = keeps_twice before s t h.keeps keeps;
        tells = tells;
        scanned = λ rules of.
            let now = (h.keeps).same text rules of in
            back rules (rule_at text rules (trees_of s) (n - 1) now (omega (arith, h.within, next))) now
            (subst (λ m. IsScanFrom rules m found stopped) next (h.scanned rules of));
      }

  -- ---- where no limit was asked

  -- a search of an easy rule passes limits of its delegates alone
  delegates_alone : length text < 2 ^ 60 → (r : Rule) (limit : ScanLimit) → IsEasyRun text r → MayFail text pos r (error_of limit) →
      IsSome (search_limit limit)
  delegates_alone small r (limit.RuntimeError e) easy fails =
      absurd
      (no_limit r.input text (begun_at r.options pos) small easy.backtracks easy.steps (error_of (limit.RuntimeError e)) easy.tree fails.1)
  delegates_alone small r limit.VisitLimitExceeded easy fails = refl
  delegates_alone small r limit.MemoryLimitExceeded easy fails = refl

  -- and none of these where there is none
  no_delegate_limit : (r : Rule) (limit : ScanLimit) → r.limits ≡ no_limits → MayPass r (search_limit limit) → IsSome (search_limit limit) → ⊥
  no_delegate_limit r limit none passes some =
      let never : None ≡ search_limit limit = sym (ap (λ (l : SearchLimits). passed_by l passes.0) none) ∙ passes.1 in
      subst (λ (o : Option SearchLimit). IsSome o → ⊥) never (λ h. true≢false (sym h)) some

  first_by_delegates : length text < 2 ^ 60 → (n : ℕ) (rules : List Rule) (replies : List Reply) → AreEasyRuns text rules →
      EachReplies text pos rules replies → (stopped : Option Stopped) → option_map stopped_view stopped ≡ first_stopped n replies →
      IsStoppedByDelegates stopped
  first_by_delegates small n rules replies easy each None e = tt
  first_by_delegates small n [] [] easy each (Some s) e = absurd (none-some _ (sym e))
  first_by_delegates small n [] (reply ∷ replies) easy each (Some s) e = absurd each
  first_by_delegates small n (r ∷ rules) [] easy each (Some s) e = absurd each
  first_by_delegates small n (r ∷ rules) (Ok found ∷ replies) easy each (Some s) e =
      first_by_delegates small (suc n) rules replies easy.1 each.1 (Some s) e
  first_by_delegates small n (r ∷ rules) (Err limit ∷ replies) easy each (Some s) e =
      subst (λ (l : ScanLimit). IsSome (search_limit l)) (sym (ap (λ v. v.1) (same_Some _ _ e)))
      (delegates_alone small r limit easy.0 each.0.0)

  pub easy_by_delegates : (rules : List Rule) (found : Option ScanMatch) (stopped : Option Stopped) → length text < 2 ^ 60 → AreEasyRuns text rules →
      IsScanFrom rules 0 found stopped → IsStoppedByDelegates stopped
  easy_by_delegates rules found stopped small easy scanned =
      first_by_delegates small 0 rules scanned.replies easy scanned.each stopped scanned.stops

  none_stopped : length text < 2 ^ 60 → (n : ℕ) (rules : List Rule) (replies : List Reply) → AreEasy text rules → EachReplies text pos rules replies →
      None ≡ first_stopped n replies
  none_stopped small n [] [] easy each = refl
  none_stopped small n [] (reply ∷ replies) easy each = absurd each
  none_stopped small n (r ∷ rules) [] easy each = absurd each
  none_stopped small n (r ∷ rules) (Ok found ∷ replies) easy each = none_stopped small (suc n) rules replies easy.1 each.1
  none_stopped small n (r ∷ rules) (Err limit ∷ replies) easy each =
      absurd (no_delegate_limit r limit (easy.0).limits each.0.1 (delegates_alone small r limit (easy.0).easy_run each.0.0))

  no_view : (stopped : Option Stopped) → None ≡ option_map stopped_view stopped → stopped ≡ None
  no_view None e = refl
  no_view (Some s) e = absurd (none-some _ e)

  pub easy_never_stops : (rules : List Rule) (found : Option ScanMatch) (stopped : Option Stopped) → length text < 2 ^ 60 → AreEasy text rules →
      IsScanFrom rules 0 found stopped → stopped ≡ None
  easy_never_stops rules found stopped small easy scanned =
      no_view stopped (none_stopped small 0 rules scanned.replies easy scanned.each ∙ sym scanned.stops)
