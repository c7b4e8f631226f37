use Rattle.std.proofs.Common.{refl, ap, ◌∙◌, arith}
use Rattle.std.proofs.lemmas.Str.Pattern.{strip_prefix_char}
use Rattle.std.specs.List.{list_any}
use Rattle.fancy_replace.specs.Reading.{is_closing}
use Rattle.fancy_replace.proofs.Tokenizing.{none_passes, some_passes}
use Rattle.fancy_replace.proofs.tokens.Tokens.name_in_braces.Goals as goal

pub returns-in_err-inside : goal.returns-in_err-inside
returns-in_err-inside c =
    let text = c.args.self.now.rest.now in
    let none = rw c.in_err-inside.was at (strip_prefix_char 123 text c.strip_prefix.result c.strip_prefix.ensures.cases (omega arith)) in
    rw c.from_residual.ensures (λ inside e. absurd (none inside e), refl)

pub invariant_of-self-in-None : goal.invariant_of-self-in-None
invariant_of-self-in-None c =
    let text = c.args.self.now.rest.now in
    let begins = rw c.in_ok-inside.was at (strip_prefix_char 123 text c.strip_prefix.result c.strip_prefix.ensures.cases (omega arith)) in
    let none = rw c.in-None.is at (c.split_once.ensures.byte (omega arith) (λ w o h. h)) in
    record { closing = λ _. ap (list_any is_closing) begins ∙ none_passes is_closing c.in_ok-inside.inside.now none }

pub returns-in-Some : goal.returns-in-Some
returns-in-Some c =
    let text = c.args.self.now.rest.now in
    let begins = rw c.in_ok-inside.was at (strip_prefix_char 123 text c.strip_prefix.result c.strip_prefix.ensures.cases (omega arith)) in
    let parts = rw c.in-Some.is at (c.split_once.ensures.byte (omega arith) (λ w o h. h)) in
    (c.in_ok-inside.inside.now, begins, some_passes is_closing c.in_ok-inside.inside.now parts.2, parts.0, parts.1)
