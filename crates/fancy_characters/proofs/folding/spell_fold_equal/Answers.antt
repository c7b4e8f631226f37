use Rattle.std.proofs.Common.{sym, ◌∙◌, drop, ◌≡◌, ◌≢◌}
use Rattle.std.specs.Str.{chars}
use Rattle.ucd_case.specs.CaseFolding.{simple_fold}
use Rattle.fancy_characters.proofs.FoldingLaws.{other_pair, same_pair}
use Rattle.fancy_characters.proofs.folding.spell_fold_equal.Goals as goal

pub returns-then-fold_code : goal.returns-then-fold_code
returns-then-fold_code c =
    let differ : simple_fold c.in-Some.c ≢ simple_fold c.in-Some-spelled_at.d =
    λ e. c.if-fold_code.true (c.fold_code.ensures ∙ e ∙ sym c.fold_code-in-pairs.ensures) in
    sym (other_pair (chars (drop c.pairs.i c.args.a.now)) (chars (drop c.pairs.j c.args.b.now)) c.in-Some.c c.in-Some-spelled_at.d
    (chars (drop c.in-Some.after_c c.args.a.now)) (chars (drop c.in-Some-spelled_at.after_d c.args.b.now))
    c.in-Some.ensures.some c.in-Some-spelled_at.ensures.some differ)
    ∙ c.pairs.invariant

pub pairs-preserved : goal.pairs-preserved
pairs-preserved c =
    let same : simple_fold c.in-Some.c ≡ simple_fold c.in-Some-spelled_at.d =
    sym c.fold_code.ensures ∙ c.if-fold_code.false ∙ c.fold_code-in-pairs.ensures in
    sym (same_pair (chars (drop c.pairs.i c.args.a.now)) (chars (drop c.pairs.j c.args.b.now)) c.in-Some.c c.in-Some-spelled_at.d
    (chars (drop c.in-Some.after_c c.args.a.now)) (chars (drop c.in-Some-spelled_at.after_d c.args.b.now))
    c.in-Some.ensures.some c.in-Some-spelled_at.ensures.some same)
    ∙ c.pairs.invariant
