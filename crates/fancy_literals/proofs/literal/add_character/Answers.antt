use Rattle.std.proofs.Common.{◌++◌, encode_utf8, string_bytes, subst, sym, true}
use Rattle.fancy_expr.specs.Views.{tree_of}
use Rattle.fancy_literals.specs.Leads.{AddsOf}
use Rattle.fancy_literals.proofs.LeadLaws.{character_adds, kind_adds}
use Rattle.fancy_literals.proofs.literal.add_character.Goals as goal

pub returns-in_ok-push-in-Some : goal.returns-in_ok-push-in-Some
returns-in_ok-push-in-Some c =
    let old = string_bytes c.args.literal.now in
    let character = c.in-Some.character in
    subst (λ new. AddsOf old new true (tree_of c.args.expr.now)) (sym c.in_ok-push-in-Some.ensures.bytes)
    (subst (AddsOf old (old ++ encode_utf8 character) true) (sym c.in-Some.ensures) (character_adds old character))

pub returns-in-None : goal.returns-in-None
returns-in-None c = kind_adds (string_bytes c.args.literal.now) (tree_of c.args.expr.now) c.stays_here.result c.stays_here.ensures
