use Rattle.std.proofs.Common.{◌≡◌, Bool, true, false, not, if◌then◌else◌, refl, ap, ◌∙◌, rules, tests}
use Rattle.std.proofs.Math.Bool.{beq}
use Rattle.std.specs.List.{list_any}
use Rattle.std.proofs.lemmas.Iterator.{YieldsList-from_slice}
use Rattle.std.proofs.lemmas.Iterator.Search.{any_from_yields_List}
use Rattle.fancy_grep.specs.Globs.{is_between}
use Rattle.fancy_grep.proofs.globs.Set.is_among.Goals as goal

turned : (is_negated is_among : Bool) → not (beq is_negated is_among) ≡ (if is_negated then not is_among else is_among)
turned true true = refl
turned true false = refl
turned false true = refl
turned false false = refl

pub returns : goal.returns
returns c =
    turned c.args.self.now.is_negated _ ∙ ap (λ a. if c.args.self.now.is_negated then not a else a)
    (any_from_yields_List (is_between c.args.c) _ _ c.any-is_among.result c.any-is_among.ensures.ran (YieldsList-from_slice c.deref.result.now cc)
    (λ x b q k. search (rules, tests))
    ∙ ap (list_any (is_between c.args.c)) c.deref.ensures.value)
