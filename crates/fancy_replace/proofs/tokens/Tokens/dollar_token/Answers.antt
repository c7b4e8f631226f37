use Rattle.std.proofs.Common.{length, sym, ap, ◌∙◌, arith, eqb-true}
use Rattle.std.proofs.lemmas.Bool.{eqb-false}
use Rattle.std.proofs.lemmas.Str.Pattern.{strip_prefix_char}
use Rattle.std.specs.List.{list_any}
use Rattle.fancy_replace.specs.Reading.{is_closing}
use Rattle.fancy_replace.proofs.Tokenizing.{dollar_again, in_braces, lone_dollar, longest_word, none_dropped}
use Rattle.fancy_replace.proofs.tokens.Tokens.dollar_token.Goals as goal

pub returns-in-Some : goal.returns-in-Some
returns-in-Some c =
    let text = c.args.self.now.rest.now in
    dollar_again text c.in-Some.rest.now
    (rw c.in-Some.is at (strip_prefix_char 36 text c.strip_prefix.result c.strip_prefix.ensures.cases (omega arith)))

pub returns-in-Some-name_in_braces : goal.returns-in-Some-name_in_braces
returns-in-Some-name_in_braces c =
    in_braces c.args.self.now.rest.now c.in-Some-name_in_braces.name.now c.name_in_braces.new.self.rest.now c.in-Some-name_in_braces.ensures

pub returns-then-is_empty : goal.returns-then-is_empty
returns-then-is_empty c =
    let text = c.args.self.now.rest.now in
    let other = rw c.in_default.is at (strip_prefix_char 36 text c.strip_prefix.result c.strip_prefix.ensures.cases (omega arith)) in
    let unbraced = c.in_default-name_in_braces.ensures in
    let none = eqb-true _ 0 (sym c.is_empty.ensures ∙ c.if-is_empty.true) in
    lone_dollar text c.name_in_braces.new.self.rest.now c.split_word.result.0.now other unbraced c.split_word.ensures.word none

pub invariant_of-self-2 : goal.invariant_of-self-2
invariant_of-self-2 c = record {
  closing = λ e.
      ap (list_any is_closing) c.split_word.ensures.rest
      ∙ none_dropped is_closing _ c.name_in_braces.new.self.rest.now (c.name_in_braces.new.self.closing e);
}

pub returns : goal.returns
returns c =
    let text = c.args.self.now.rest.now in
    let other = rw c.in_default.is at (strip_prefix_char 36 text c.strip_prefix.result c.strip_prefix.ensures.cases (omega arith)) in
    let unbraced = c.in_default-name_in_braces.ensures in
    let some = eqb-false (length c.split_word.result.0.now) 0 (sym c.is_empty.ensures ∙ c.if-is_empty.false) in
    longest_word text c.name_in_braces.new.self.rest.now c.split_word.result.0.now other unbraced c.split_word.ensures.word c.split_word.result.1.now
    c.split_word.ensures.rest some
