use Rattle.std.proofs.Common.{ap}
use Rattle.std.proofs.lemmas.Result.{err_from_is_err_and}
use Rattle.fancy_pattern.specs.Naming.{pairs_in}
use Rattle.fancy_tokens.specs.PatternViews.{token_of, reference_of}
use Rattle.fancy_pattern.proofs.OneChars.{reference_chars}
use Rattle.fancy_pattern.proofs.WhereStuck.{unnamed_token}
use Rattle.fancy_pattern.proofs.nodes.node.Goals as goal

pub returns-in_err-reference-in-Refer-clause-fails : goal.returns-in_err-reference-in-Refer-clause-fails
returns-in_err-reference-in-Refer-clause-fails c =
    let p = err_from_is_err_and c.from_residual-in_err-reference-in-Refer.result c.from_residual-in_err-reference-in-Refer.ensures.1 in
    rw (p.1, p.2) (unnamed_token (pairs_in c.args.names.now.pairs) (token_of c.args.token.now) (reference_of c.in-Refer.placed.value.reference) _ (ap token_of c.in-Refer.is)
    (rw c.deref.ensures at c.in_err-reference-in-Refer.ensures.fails))

pub returns-in_ok-reference-in-Refer-clause-one_char : goal.returns-in_ok-reference-in-Refer-clause-one_char
returns-in_ok-reference-in-Refer-clause-one_char c =
    reference_chars (pairs_in c.args.names.now.pairs) (reference_of c.in-Refer.placed.value.reference) c.in_ok-reference-in-Refer.field-0
    (rw c.deref.ensures at c.in_ok-reference-in-Refer.ensures.made)
