use Rattle.std.proofs.Common.{sym, ap, ◌∙◌}
use Rattle.fancy_nfa_laws.specs.NfaSearch.{pair_of}
use Rattle.fancy_backtrack.specs.PairKeys.{key_of}
use Rattle.fancy_backtrack.specs.FailedPairs.{has_pair}
use Rattle.fancy_backtrack.proofs.MemoLaws.{key_outside}
use Rattle.fancy_backtrack.proofs.memo.Memo.has_failed.Goals as goal

pub returns-then-is_empty-clause-ok : goal.returns-then-is_empty-clause-ok
returns-then-is_empty-clause-ok c = λ s failed h have. sym (c.is_empty.ensures c.if-is_empty.true (key_of (pair_of s))) ∙ have (pair_of s)

pub returns-then-config-eq0-clause-ok : goal.returns-then-config-eq0-clause-ok
returns-then-config-eq0-clause-ok c = λ s failed h have.
    c.has.ensures ∙ ap (has_pair c.args.self.now.failed) (key_outside c.args.self.now c.args.config s h c.if-config-eq0.true)
    ∙ have (pair_of s)
