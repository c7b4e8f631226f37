use Rattle.std.proofs.Common.{◌∙◌}
use Rattle.std.proofs.lemmas.Option.{IfSome_then}
use Rattle.regex_class.specs.declared.Class.{Class}
use Rattle.fancy_characters.proofs.ClassLaws.{members_of_class}
use Rattle.fancy_characters.proofs.compiled.class_ranges.Goals as goal

pub returns-in-Ok : goal.returns-in-Ok
returns-in-Ok c =
    IfSome_then {X = Class} _ c.in-Ok.ensures.members
    (λ (class : Class) members. members_of_class c.args.unicode c.args.name.now c.args.casei c.as_str.result.now
    (c.as_str.ensures.value ∙ c.in_ok-pattern.ensures) class.ranges.items members)
