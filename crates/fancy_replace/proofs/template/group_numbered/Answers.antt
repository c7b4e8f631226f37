use Rattle.std.proofs.Common.{◌≡◌, ◌^◌, ◌∷◌, [], length, true, nat_lt, sym, ◌∙◌, ltb-true, rules}
use Rattle.std.proofs.lemmas.Bool.{and_parts, cond-false, false_from_ne_true}
use Rattle.std.proofs.lemmas.Str.Parse.{IsNumeralModel, numerals_by_value, parse_digits}
use Rattle.std.specs.Char.{is_ascii_digit}
use Rattle.std.specs.List.{list_all}
use Rattle.std.specs.Str.Parse.{digits_value}
use Rattle.fancy_replace.proofs.template.group_numbered.Goals as goal

digits : IsNumeralModel (λ ds. list_all is_ascii_digit ds ≡ true) (digits_value 10)
digits = numerals_by_value _ (search rules)

pub returns-in-Err : goal.returns-in-Err
returns-in-Err c =
    let text = c.args.digits.now in
    let parts = and_parts (nat_lt 0 (length text)) (list_all is_ascii_digit text) c.requires in
    let fails = rw c.in-Err.is at (parse_digits digits 64 text c.parse.result c.parse.ensures.value.0 parts.1) in
    c.new.ensures.items
    ∙ sym (cond-false (nat_lt (digits_value 10 text) (2 ^ 64)) (digits_value 10 text ∷ []) []
    (false_from_ne_true _ (λ fits. fails (ltb-true 0 _ parts.0, ltb-true _ _ fits))))
