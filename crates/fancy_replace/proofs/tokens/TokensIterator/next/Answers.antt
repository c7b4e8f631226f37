use Rattle.std.proofs.Common.{◌<◌, ◌∷◌, length, sym, ap, ap₂, ◌∙◌, arith, eqb-true, rules}
use Rattle.std.proofs.lemmas.Bool.{eqb-false}
use Rattle.std.proofs.lemmas.Str.Pattern.{strip_prefix_char}
use Rattle.std.specs.List.{list_any}
use Rattle.fancy_replace.specs.Reading.{Literal, is_closing, tokens}
use Rattle.fancy_replace.proofs.Tokenizing.{dollar_first, literal_first, literal_shortens, no_tokens, none_dropped}
use Rattle.fancy_replace.proofs.tokens.TokensIterator.next.Goals as goal

pub returns-then-is_empty-clause-steps : goal.returns-then-is_empty-clause-steps
returns-then-is_empty-clause-steps c =
    let none = no_tokens c.args.self.now.rest.now (eqb-true _ 0 (sym c.is_empty.ensures ∙ c.if-is_empty.true)) in
    (none, none)

pub returns-in-Some-clause-steps : goal.returns-in-Some-clause-steps
returns-in-Some-clause-steps c =
    let text = c.args.self.now.rest.now in
    let begins = rw c.in-Some.is at (strip_prefix_char 36 text c.strip_prefix.result c.strip_prefix.ensures.cases (omega arith)) in
    dollar_first text c.in-Some.rest.now begins
    ∙ ap₂ (λ token rest. token ∷ tokens rest) (sym c.dollar_token.ensures.0) (sym c.dollar_token.ensures.1)

pub invariant_of-self-2 : goal.invariant_of-self-2
invariant_of-self-2 c = record {
  closing = λ e.
      ap (list_any is_closing) c.split_literal.ensures.rest ∙ none_dropped is_closing _ c.args.self.now.rest.now (c.args.self.now.closing e);
}

pub returns-clause-steps : goal.returns-clause-steps
returns-clause-steps c =
    let text = c.args.self.now.rest.now in
    let other = rw c.in_default.is at (strip_prefix_char 36 text c.strip_prefix.result c.strip_prefix.ensures.cases (omega arith)) in
    let some = eqb-false (length text) 0 (sym c.is_empty.ensures ∙ c.if-is_empty.false) in
    literal_first text some other
    ∙ ap₂ (λ literal rest. Literal literal ∷ tokens rest) (sym c.split_literal.ensures.literal) (sym c.split_literal.ensures.rest)

pub returns-clause-goes : goal.returns-clause-goes
returns-clause-goes c =
    let text = c.args.self.now.rest.now in
    let other = rw c.in_default.is at (strip_prefix_char 36 text c.strip_prefix.result c.strip_prefix.ensures.cases (omega arith)) in
    let some = eqb-false (length text) 0 (sym c.is_empty.ensures ∙ c.if-is_empty.false) in
    let shorter : length c.split_literal.result.1.now < length text =
    omega (arith, literal_shortens text some other, ap length c.split_literal.ensures.rest) in
    search rules
