use Rattle.std.proofs.Common.{◌≡◌, ◌∷◌, [], ℕ, suc, List, Some, None, slice_get, arith, ap, sym, subst, ◌∙◌}
use Rattle.std.proofs.lemmas.Option.{gets}
use Rattle.fancy_backtrack.specs.Paths.{HasOpened, IsOpened, EndsOpened}
use Rattle.fancy_backtrack.specs.declared.trail.Entry.{Entry}
use Rattle.fancy_backtrack.specs.declared.trail.Entry.TheVariants as entry
use Rattle.fancy_backtrack.proofs.trail.Trail.opened.Goals as goal

module _ (entries : List Entry) (link k : ℕ) (is_next : link ≡ suc k) where
  -- where no entry stands the link leads to no group
  ends_none : (opened : List ℕ) → slice_get entries k ≡ None → HasOpened entries link opened → EndsOpened entries link opened None
  ends_none [] none h = tt
  ends_none (i ∷ is) none (n, (outer, (e, at, rest))) =
      let same : n ≡ k = omega (arith, e, is_next) in
      subst (λ o. IsOpened o n outer i) (ap (slice_get entries) same ∙ none) at

  -- and where a group's does it leads to that
  ends_there : (opened : List ℕ) (to from : ℕ) → slice_get entries k ≡ Some (entry.Opened to from) →
      HasOpened entries link opened → EndsOpened entries link opened (Some (from, to))
  ends_there [] to from there h = absurd (omega (arith, is_next, h))
  ends_there (i ∷ is) to from there (n, (outer, (e, at, rest))) =
      let same : n ≡ k = omega (arith, e, is_next) in
      let found : IsOpened (Some (entry.Opened to from)) n outer i = subst (λ o. IsOpened o n outer i) (ap (slice_get entries) same ∙ there) at in
      (found.2, omega (arith, found.0, found.1, e), subst (λ o. HasOpened entries o is) (sym found.0) rest)

pub returns-in_err-outer : goal.returns-in_err-outer
returns-in_err-outer c = λ opened h.
    rw c.from_residual-in_err-outer.ensures
    (ends_none c.args.self.now.entries.items c.args.link c.in_ok-checked_sub.field-0 (grind arith) opened (grind (arith, gets)) h)

pub returns-in-Opened : goal.returns-in-Opened
returns-in-Opened c = λ opened h.
    ends_there c.args.self.now.entries.items c.args.link c.in_ok-checked_sub.field-0 (grind arith) opened c.in-Opened.outer c.in-Opened.from
    (grind (arith, gets)) h
