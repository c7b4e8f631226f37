use Rattle.std.proofs.Common.{◌∷◌, []}
use Rattle.fancy_nfa_laws.specs.NfaSearch.{pair_of}
use Rattle.fancy_backtrack.proofs.MemoLaws.{key_outside, memoized, when_added}
use Rattle.fancy_backtrack.proofs.memo.Memo.add_failed.Goals as goal

pub returns-then-config-eq0-clause-ok : goal.returns-then-config-eq0-clause-ok
returns-then-config-eq0-clause-ok c =
    when_added c.add.result
    (λ added s f h have.
    memoized c.args.self.now.failed c.add.new.self f (c.args.config.at ∷ c.args.config.place ∷ []) (pair_of s)
    (key_outside c.args.self.now c.args.config s h c.if-config-eq0.true) added have) c.add.ensures.ok
