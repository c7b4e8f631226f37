use Rattle.std.proofs.Common.{refl, sym, ap, ◌∙◌, subst, ◌∷◌, ◌++◌, []}
use Rattle.fancy_backtrack.specs.PairKeys.{stayed_number}
use Rattle.fancy_backtrack.proofs.PathLaws.{AreWritten, option_stays, written_all, written_more}
use Rattle.fancy_backtrack.proofs.memo.push_counters.Goals as goal

-- src/search.rt:108:5
pub counters-init : goal.counters-init
counters-init c = λ counters h. (counters, (h, refl))

-- src/search.rt:108:5
pub counters-smaller : goal.counters-smaller
counters-smaller c = c.in-Some.ensures.below

-- src/search.rt:108:5
pub counters-preserved : goal.counters-preserved
counters-preserved c = λ counters h.
    subst (λ ns. AreWritten c.args.trail.now.entries.items c.args.config.place c.args.numbers.now.items ns c.in-Some.outer counters)
    (ap (λ ns. ns ++ (stayed_number c.eq-has_stayed.result ∷ [])) (sym c.in_ok-push.ensures.items) ∙ sym c.in_ok-push-2.ensures.items)
    (written_more c.args.trail.now.entries.items c.args.config.place c.args.numbers.now.items c.counters.numbers.items c.counters.link counters
    (c.in-Some.counter, c.in-Some.outer) (stayed_number c.eq-has_stayed.result)
    (ap stayed_number (c.eq-has_stayed.ensures ∙ option_stays c.in-Some.counter.since c.args.config.place))
    c.in-Some.ensures.counters (c.counters.invariant counters h))

-- src/search.rt:100:1
pub returns : goal.returns
returns c = record { ok = λ counters h. written_all _ _ _ _ _ _ c.in_default.ensures.counters (c.counters.invariant counters h) }
