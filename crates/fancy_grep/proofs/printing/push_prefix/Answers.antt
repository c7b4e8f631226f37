use Rattle.std.proofs.Common.{◌≡◌, ℕ, List, Option, ◌++◌, append_assoc, ap, ◌∙◌}
use Rattle.std.proofs.lemmas.Result.{IfOk-weaker}
use Rattle.fancy_grep.specs.Printing.{name_part, number_part, prefix}
use Rattle.fancy_grep.proofs.printing.push_prefix.Goals as goal

-- four parts, one after the other
four : (out n a b d x y z w : List ℕ) → x ≡ out ++ n → y ≡ x ++ a → z ≡ y ++ b → w ≡ z ++ d → w ≡ out ++ (n ++ (a ++ (b ++ d)))
four out n a b d x y z w first second third fourth =
    fourth ∙ ap (λ t. t ++ d) (third ∙ ap (λ t. t ++ b) (second ∙ ap (λ t. t ++ a) first))
    ∙ append_assoc ((out ++ n) ++ a) b d ∙ append_assoc (out ++ n) a (b ++ d) ∙ append_assoc out n (a ++ (b ++ d))

pub returns : goal.returns
returns c =
    let separator = c.args.separator.now in
    let part = λ (number : Option ℕ). number_part c.args.style.has_colours number separator in
    IfOk-weaker c.push_number-3.result
    (λ _. c.push_number-3.new.out.items ≡ c.push_number-2.new.out.items ++ part c.args.place.offset)
    (λ _. c.push_number-3.new.out.items ≡ c.args.out.now.items ++ prefix c.args.style c.args.place separator)
    (λ _ h. four c.args.out.now.items (name_part c.args.style separator) (part c.args.place.number) (part c.args.place.column)
    (part c.args.place.offset) c.push_name.new.out.items c.push_number.new.out.items c.push_number-2.new.out.items
    c.push_number-3.new.out.items c.in_ok-push_name.ensures c.in_ok-push_number.ensures c.in_ok-push_number-2.ensures h)
    c.push_number-3.ensures
