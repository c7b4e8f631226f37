-- What the engine promises of a reply is promised of it with the errors of this crate.
use Rattle.std.proofs.Common.{◌≡◌, ℕ, Bool, true, false, List, ◌∷◌, Option, Some, None, Result, Ok, Err, IfErr, MatchResult, option_map, if◌then◌else◌, ◌⊎◌, inl, inr, ⊎_elim, refl, sym, ap, subst, ◌∙◌}
use Rattle.std.proofs.lemmas.Option.{none-some}
use Rattle.fancy_meaning.specs.Answer.{answer, search_of}
use Rattle.fancy_meaning.specs.Options as plain
use Rattle.fancy_meaning.specs.Places.{is_place}
use Rattle.fancy_meaning.specs.Premises.{Input, plan, IsText}
use Rattle.fancy_expr.specs.declared.error.Error as engine
use Rattle.fancy_expr.specs.declared.error.Error.TheVariants.{Memory}
use Rattle.fancy_expr.specs.declared.error.Error.TheVariants as of_engine
use Rattle.fancy_steps.specs.SearchLimits.{EndsBy}
use Rattle.fancy_steps.specs.declared.search_limits.SearchLimit.{SearchLimit}
use Rattle.fancy_matches.specs.Listing.{ComesTo, Cursor, by_match, ended, options_at, past_match, stays}
use Rattle.fancy_matches.specs.Matchers.{FailsBy, FindsCaptures as FindsGroups, GivesBy, IsNoLimit, IsNoLimitWhereEasy, Shows, passed_in, shown_captures as engine_shown, with_numbers}
use Rattle.fancy_matches.specs.declared.found.Captures.{Captures as Groups}
use Rattle.fancy_matches.specs.declared.matcher.Matcher as engine_regex
use Rattle.fancy_matches.proofs.Lists.{no_place_ends}
use Rattle.fancy_regex.specs.Errors.{engine_error, limit_in, limit_told}
use Rattle.fancy_regex.specs.Found.{shown_captures}
use Rattle.fancy_regex.specs.Regexes.{FindsCaptures}
use Rattle.fancy_regex.specs.declared.error.Error.{Error}
use Rattle.fancy_regex.specs.declared.error.Error.TheVariants as face
use Rattle.fancy_regex.specs.declared.found.Captures.{Captures}

module _ {A B C D : Type 0} (show : A → C) (seen : List ℕ → C) (shown : B → D) (seen_so : List ℕ → D) (i : Input) (text : List ℕ)
    (o : plain.RunOptions) where
  -- an error of a search that is passed on
  pub search_fails : (e : engine.Error) (f : Error) → engine_error f ≡ e → Shows i text o show seen (Err e) →
      Shows i text o shown seen_so (Err (engine_error f))
  search_fails e f is h = subst (λ e. Shows i text o shown seen_so (Err e)) (sym is) h

  -- an error of a list that is passed on
  pub list_fails : (s t : Cursor) (e : engine.Error) (f : Error) → engine_error f ≡ e →
      GivesBy i text o show seen s (Some (Err e)) t → GivesBy i text o shown seen_so s (Some (Err (engine_error f))) t
  list_fails s t e f is h = subst (λ e. GivesBy i text o shown seen_so s (Some (Err e)) t) (sym is) h

-- the groups that were found, with their names
pub captures_found : (i : Input) (text : List ℕ) (o : plain.RunOptions) (found : Option Groups) (result : Result (Option Captures) Error) →
    MatchResult result (λ c. option_map shown_captures c ≡ option_map engine_shown found) (λ e. e ≡ face.Memory) →
    FindsGroups i text o (Ok found) → FindsCaptures i text o result
captures_found i text o found (Ok c) is h = (h.0, is ∙ h.1)
captures_found i text o found (Err e) is h =
    subst (λ e. Shows i text o shown_captures (with_numbers text) (Err (engine_error e))) (sym is) (tt, tt)

-- ---- where no limit was asked

module _ (r : engine_regex.Matcher) (text : List ℕ) where
  -- an error that is passed on
  pub easy_error : {A : Type 0} (e : engine.Error) (f : Error) (result : Result A engine.Error) → engine_error f ≡ e → result ≡ Err e →
      IfErr result (IsNoLimitWhereEasy r text) → IsNoLimitWhereEasy r text (engine_error f)
  easy_error e f result is was h = subst (IsNoLimitWhereEasy r text) (sym is) (subst (λ x. IfErr x (IsNoLimitWhereEasy r text)) was h)

  -- want of memory is no limit
  pub easy_memory : (e : Error) → e ≡ face.Memory → IsNoLimitWhereEasy r text (engine_error e)
  easy_memory e is i from easy none small = subst (λ e. IsNoLimit (engine_error e)) (sym is) tt

  pub easy_names : {A : Type 0} (P : A → Type 0) (result : Result A Error) → MatchResult result P (λ e. e ≡ face.Memory) →
      IfErr result (λ e. IsNoLimitWhereEasy r text (engine_error e))
  easy_names P (Ok x) h = tt
  easy_names P (Err e) h = easy_memory e h

-- ---- the limits inside easy parts

-- where the groups have no names for want of memory, that tells of no limit
pub names_told : {A : Type 0} (P : A → Type 0) (result : Result A Error) → MatchResult result P (λ e. e ≡ face.Memory) →
    (passed : Option SearchLimit) → passed ≡ None → limit_in result ≡ passed
names_told P (Ok x) h passed none = sym none
names_told P (Err e) h passed none = ap limit_told h ∙ sym none

-- no limit is told of where a search passed none, or there was no search
pub told_none : (r q : engine_regex.Matcher) → (passed_in q ≡ None) ⊎ (q ≡ r) →
    (◌≡◌ {A = Option SearchLimit} None (passed_in q)) ⊎ ((◌≡◌ {A = Option SearchLimit} None None) × (q ≡ r))
told_none r q h = ⊎_elim (λ none. inl (sym none)) (λ same. inr (refl, same)) h

-- want of memory tells of no limit where no limit was passed
pub ends_without : (e : engine.Error) → EndsBy e None
ends_without (of_engine.CompileError e) = refl
ends_without (of_engine.RuntimeError e) = refl
ends_without (of_engine.TreeFault at) = refl
ends_without of_engine.NestLimitExceeded = refl
ends_without of_engine.Memory = tt

-- ---- want of memory after a match of a list was found

module _ (i : Input) (text : List ℕ) (o : plain.RunOptions) where
  found_if : Bool → Cursor → Option (List ℕ)
  found_if b s = if b then answer (search_of (plan i) text (options_at o s)) else None

  -- what is found is found at a place
  at_place : (s : Cursor) (m : List ℕ) (b : Bool) → is_place text s.pos ≡ b → found_if b s ≡ Some m → is_place text s.pos ≡ true
  unfolding found_if
  at_place s m true is found = is
  at_place s m false is found = absurd (none-some m found)

  memory_by : {s t : Cursor} {m : List ℕ} {ms : List (List ℕ)} → ComesTo (plan i) text o s (m ∷ ms) t → FailsBy i text o s Memory
  unfolding found_if
  memory_by (by_match s m found listed rest) = record {
    cursor = s;
    comes = stays;
    fails = record { place = at_place s m (is_place text s.pos) refl found; promise = tt; bounds = tt };
  }
  memory_by (past_match s m found listed rest) =
      let later = memory_by rest in
      record { cursor = later.cursor; comes = past_match s m found listed later.comes; fails = later.fails }

  pub list_wants_memory : {A B C D : Type 0} (show : A → C) (seen : List ℕ → C) (shown : B → D) (seen_so : List ℕ → D) → IsText text →
      (s t : Cursor) (x : A) → GivesBy i text o show seen s (Some (Ok x)) t →
      GivesBy i text o shown seen_so s (Some (Err Memory)) (ended t)
  list_wants_memory show seen shown seen_so is s t x h = (memory_by h.comes, no_place_ends (plan i) text o is (ended t) is.fits)
