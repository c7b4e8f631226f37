-- What is kept of a search for a rule is the answer from each place where it holds.
use Rattle.std.proofs.Common.{◌≡◌, ℕ, ◌<◌, ◌≤◌, Bool, true, false, ◌||◌, ◌&&◌, ◌==◌, List, ◌∷◌, Option, Some, None, Ok, option_map, nat_lt, refl, sym, ap, ◌∙◌, arith}
use Rattle.std.proofs.lemmas.Bool.{and_parts, eqb-true, leb-true, ltb-true, true≢false}
use Rattle.std.proofs.lemmas.Option.{none-some, same_Some}
use Rattle.fancy_meaning.specs.Answer.{Search, answer, search_of}
use Rattle.fancy_meaning.specs.Nodes.{group_count}
use Rattle.fancy_meaning.specs.Premises.{plan}
use Rattle.fancy_steps.specs.Outcomes.{first_pair}
use Rattle.fancy_matches.specs.Listing.{begun_at}
use Rattle.fancy_matches.specs.Matchers.{FindsCaptures, shown_captures, with_numbers}
use Rattle.fancy_matches.specs.declared.found.Captures.{Captures}
use Rattle.fancy_starts.specs.Matches.{Found, match_of}
use Rattle.fancy_starts.proofs.Matches.{answer_is, no_answer_later, numbers_begin, numbers_of, same_answer_later}
use Rattle.fancy_scanner.specs.Kept.{answer_start, start_of}
use Rattle.fancy_scanner.specs.Reuse.{MatchesLast, NoMatchLasts, holds_at, is_anchored, lasts_to}
use Rattle.fancy_scanner.specs.Scanning.{IsReuseFor, Rule, answer_from}
use Rattle.fancy_scanner.specs.Scans.{IsAnswerOf}
use Rattle.fancy_scanner.specs.declared.answers.Answer.{Answer}
use Rattle.fancy_scanner.specs.declared.reuse.Reuse.{Reuse}
use Rattle.fancy_scanner.specs.declared.reuse.Reuse.TheVariants as lasts

-- where a match by these numbers begins
abbrev first_number : List ℕ → ℕ
first_number numbers = (first_pair numbers).0

-- the numbers of an answer are not none
pub record HasFirst (numbers : List ℕ) : Type 0 where
  pub first : ℕ
  pub rest : List ℕ
  pub all : numbers ≡ first ∷ rest

pub has_first : (q : Search) (numbers : List ℕ) → answer q ≡ Some numbers → HasFirst numbers
has_first q numbers e = go (match_of q) (sym e ∙ answer_is q)
  where
    go : (o : Option Found) → Some numbers ≡ numbers_of q o → HasFirst numbers
    go None h = absurd (none-some _ (sym h))
    go (Some m) h = record {
      first = _;
      rest = _;
      all = same_Some _ _ h ∙ numbers_begin (group_count q.tree) m.1;
    }

module _ (text : List ℕ) (r : Rule) (from pos : ℕ) where
  abbrev before : Search
  before = search_of (plan r.input) text (begun_at r.options from)

  module _ (lt : from < pos) where
    none_lasts : NoMatchLasts (is_anchored (plan r.input) r.options) (plan r.input).analysis.tree →
        answer_from text from r ≡ None → answer_from text pos r ≡ None
    none_lasts h e = no_answer_later before pos (r.options).continued h.all_starts h.no_continue (omega (arith, lt)) e

    match_lasts : MatchesLast (is_anchored (plan r.input) r.options) (plan r.input).analysis.tree →
        (numbers : List ℕ) → answer_from text from r ≡ Some numbers → pos ≤ first_number numbers →
        answer_from text pos r ≡ answer_from text from r
    match_lasts h numbers e at =
        let f = has_first before numbers e in
        let all = f.all in
        let start = ap first_number all in
        let now : answer before ≡ Some (f.first ∷ f.rest) = e ∙ ap Some all in
        same_answer_later before pos (r.options).continued (h.no_match).all_starts (h.no_match).no_continue (omega (arith, lt))
        h.no_keep_out f.first f.rest (omega (arith, at, start)) now
        ∙ sym now

    lasts_so : (reuse : Reuse) → IsReuseFor r reuse → (a : Option (List ℕ)) → answer_from text from r ≡ a →
        lasts_to reuse (option_map first_number a) pos ≡ true → answer_from text pos r ≡ answer_from text from r
    lasts_so lasts.Nothing h a e to = absurd (true≢false (sym to))
    lasts_so lasts.NoMatch h None e to = none_lasts h e ∙ sym e
    lasts_so lasts.NoMatch h (Some numbers) e to = absurd (true≢false (sym to))
    lasts_so lasts.Matches h None e to = none_lasts h.no_match e ∙ sym e
    lasts_so lasts.Matches h (Some numbers) e to = match_lasts h numbers e (leb-true pos (first_number numbers) to)

  pub holds_so : (reuse : Reuse) (start : Option ℕ) → IsReuseFor r reuse → start ≡ option_map first_number (answer_from text from r) →
      holds_at reuse from start pos ≡ true → answer_from text pos r ≡ answer_from text from r
  holds_so reuse start h is holds = go (from == pos) refl holds
    where
      go : (b : Bool) → (from == pos) ≡ b → (b || (nat_lt from pos && lasts_to reuse start pos)) ≡ true →
          answer_from text pos r ≡ answer_from text from r
      go true here to = ap (λ i. answer_from text i r) (sym (eqb-true from pos here))
      go false there to =
          let both = and_parts (nat_lt from pos) (lasts_to reuse start pos) to in
          lasts_so (ltb-true from pos both.0) reuse h (answer_from text from r) refl
          (ap (λ s. lasts_to reuse s pos) (sym is) ∙ both.1)

-- ---- what is kept

starts_same : (text : List ℕ) (found : Option Captures) (a : Option (List ℕ)) → option_map shown_captures found ≡ option_map (with_numbers text) a →
    option_map start_of found ≡ option_map first_number a
starts_same text None None e = refl
starts_same text None (Some numbers) e = absurd (none-some _ e)
starts_same text (Some c) None e = absurd (none-some _ (sym e))
starts_same text (Some c) (Some numbers) e = ap (λ (p : List ℕ × List ℕ). Some (first_number p.1)) (same_Some _ _ e)

pub kept_holds : (text : List ℕ) (r : Rule) (a : Answer) (reuse : Reuse) (pos : ℕ) → IsAnswerOf text r a → IsReuseFor r reuse →
    holds_at reuse a.from (answer_start a) pos ≡ true → FindsCaptures r.input text (begun_at r.options pos) (Ok a.found)
kept_holds text r a reuse pos h last holds = (
  h.0,
  h.1
      ∙ ap (option_map (with_numbers text))
      (sym (holds_so text r a.from pos reuse (answer_start a) last (starts_same text a.found (answer_from text a.from r) h.1) holds)),
)
