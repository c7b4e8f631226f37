use Rattle.std.proofs.Common.{refl, sym, ap, ◌∙◌, subst, arith, suc, true, false, length}
use Rattle.fancy_nfa_laws.specs.NfaSearch as plain
use Rattle.fancy_nfa_laws.specs.NfaSearch.{Search, TakesBack, pair_of}
use Rattle.fancy_backtrack.specs.Memos.{AreKept, fails_before, Keeps}
use Rattle.fancy_nfa.specs.Searches.{continuation_of}
use Rattle.std.proofs.lemmas.Result.{err_from_is_err_and}
use Rattle.fancy_backtrack.specs.declared.memo.Memo.{Memo}
use Rattle.fancy_backtrack.specs.BacktrackStack.{choices_of}
use Rattle.fancy_backtrack.specs.PairKeys.{key_of}
use Rattle.fancy_backtrack.specs.FailedPairs.{has_pair}
use Rattle.fancy_nfa.proofs.BackLaws.{back_memoized, goes_back, none_kept, one_more, popped, search_memoized}
use Rattle.fancy_nfa_laws.specs.FirstWays.{search_in}
use Rattle.fancy_nfa.proofs.search.Searcher.take_back.Goals as goal

-- src/search.rt
pub frames-init : goal.frames-init
frames-init c = (λ f h. (0, (f, (refl, h))), refl)

pub frames-smaller : goal.frames-smaller
frames-smaller c =
    let same = ap (λ (m : Memo). length (choices_of m.frames)) c.add_failed.ensures.rest in
    let shorter = ap length c.in-Some.ensures.choices in
    omega (arith, same, shorter)

pub frames-preserved : goal.frames-preserved
frames-preserved c = (
  λ f h.
      let searcher = c.args.self.now in
      let continuation = continuation_of searcher in
      let back = c.frames.invariant.0 f h in
      let g = back.1.0 in
      let cut = c.pop.new.self in
      let same = c.pop.ensures.rest in
      let last = popped continuation c.frames.m cut c.in-Some.choice g c.in-Some.ensures.choices c.in-Some.ensures.path
      (ap (λ (m : Memo). m.failed) same) (ap (λ (m : Memo). m.visits) same) back.1.1.1 in
      let keeps = subst (λ b. Keeps b (continuation last.config) last.config last.rest g.frames) {y = false} c.if-choice.false last.keeps in
      let left : Search = record g { frames = last.rest } in
      let memoized = c.in_ok-add_failed.ensures.ok last.config left last.here last.search.failed in (
        suc back.0,
        (
          plain.with_failed (pair_of last.config) left,
          (
            back_memoized searcher (TakesBack f) back.0 g last.config last.rest back.1.1.0 keeps,
            search_memoized continuation cut c.add_failed.new.self left (pair_of last.config) c.add_failed.ensures.rest memoized last.search,
          ),
        ),
      ),
  ap (λ (m : Memo). m.budget) c.add_failed.ensures.rest ∙ ap (λ (m : Memo). m.budget) c.pop.ensures.rest ∙ c.frames.invariant.1,
)

pub returns-in_err-add_failed-clause-leads : goal.returns-in_err-add_failed-clause-leads
returns-in_err-add_failed-clause-leads c = λ f h.
    let searcher = c.args.self.now in
    let continuation = continuation_of searcher in
    let back = c.frames.invariant.0 f h in
    let g = back.1.0 in
    let cut = c.pop.new.self in
    let same = c.pop.ensures.rest in
    let last = popped continuation c.frames.m cut c.in-Some.choice g c.in-Some.ensures.choices c.in-Some.ensures.path
    (ap (λ (m : Memo). m.failed) same) (ap (λ (m : Memo). m.visits) same) back.1.1.1 in
    let p = err_from_is_err_and c.from_residual.result c.from_residual.ensures.1 in
    rw p.1 (
      back.0,
      λ q.
          c.in_err-add_failed.ensures.err g.failed last.search.failed q
          ∙ sym (ap (λ n. (search_in n).failed q) back.1.1.0),
    )

pub returns-then-choice-clause-leads : goal.returns-then-choice-clause-leads
returns-then-choice-clause-leads c = λ f h.
    let searcher = c.args.self.now in
    let continuation = continuation_of searcher in
    let back = c.frames.invariant.0 f h in
    let g = back.1.0 in
    let cut = c.pop.new.self in
    let same = c.pop.ensures.rest in
    let last = popped continuation c.frames.m cut c.in-Some.choice g c.in-Some.ensures.choices c.in-Some.ensures.path
    (ap (λ (m : Memo). m.failed) same) (ap (λ (m : Memo). m.visits) same) back.1.1.1 in
    let keeps = subst (λ b. Keeps b (continuation last.config) last.config last.rest g.frames) {y = true} c.if-choice.true last.keeps in
    let is_memoized = keeps.0 in
    let other = keeps.1.1.0 in
    goes_back searcher (TakesBack f) back.0 last.config other g
    (record g { frames = fails_before is_memoized last.config last.rest }) c.take_other.result c.take_other.new.m back.1.1.0
    (ap (λ l. plain.back_to l g) keeps.1.1.1.1) refl
    (c.take_other.ensures.leads last.config keeps.1.0 other is_memoized g last.rest last.search last.here keeps.1.1.1.0)

pub returns-clause-leads : goal.returns-clause-leads
returns-clause-leads c = λ f h.
    let searcher = c.args.self.now in
    let back = c.frames.invariant.0 f h in
    let g = back.1.0 in
    let k = back.1.1.1 in
    let no = c.in_default.ensures.choices in
    let left = c.pop.new.self in
    let same = c.pop.ensures.rest in
    let none = none_kept (continuation_of searcher) c.frames.m.trail.entries.items (length c.frames.m.trail.entries.items)
    (choices_of c.frames.m.frames) g.frames no.0 k.frames in (
      suc back.0,
      (
        g,
        (
          one_more searcher back.0 (TakesBack f) (TakesBack g) back.1.1.0 ∙ ap (λ l. plain.back_to l g) none,
          record {
            frames =
                subst (λ l. AreKept (continuation_of searcher) left.trail.entries.items (length left.trail.entries.items) l g.frames)
                (sym no.1) none;
            failed = λ p. ap (λ (m : Memo). has_pair m.failed (key_of p)) same ∙ k.failed p;
            visits = ap (λ (m : Memo). m.visits) same ∙ k.visits;
          },
        ),
      ),
    )
