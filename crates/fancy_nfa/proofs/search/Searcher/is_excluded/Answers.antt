use Rattle.std.proofs.Common.{slice_get, sym, ap, ◌∙◌}
use Rattle.fancy_nfa.proofs.RunLaws.{refused_at_end, refused_by_test}
use Rattle.fancy_nfa.proofs.search.Searcher.is_excluded.Goals as goal

pub returns-in-None : goal.returns-in-None
returns-in-None c = λ _.
    refused_at_end c.args.self.now c.args.test.now c.args.place
    (ap (λ text. slice_get text c.args.place) (sym c.as_bytes.ensures.value) ∙ sym c.byte_at.ensures ∙ c.in-None.is)

pub returns-then-byte-lt128 : goal.returns-then-byte-lt128
returns-then-byte-lt128 c = λ yes.
    refused_by_test c.args.self.now c.args.test.now c.args.place c.in-Some.byte
    (ap (λ text. slice_get text c.args.place) (sym c.as_bytes.ensures.value) ∙ sym c.byte_at.ensures ∙ c.in-Some.is) c.if-byte-lt128.true
    c.takes_ascii.result yes c.takes_ascii.ensures
