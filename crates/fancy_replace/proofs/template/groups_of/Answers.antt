use Rattle.std.proofs.Common.{◌≡◌, [], IfOk, sym, ◌∙◌, subst}
use Rattle.std.proofs.lemmas.Bool.{cond-false}
use Rattle.fancy_analysis.specs.Names.{names_of}
use Rattle.fancy_replace.specs.Reading.{groups_of}
use Rattle.fancy_replace.proofs.Naming.{groups_found, no_groups_found}
use Rattle.fancy_replace.proofs.template.groups_of.Goals as goal

pub returns-in-Some : goal.returns-in-Some
returns-in-Some c =
    let entries = c.args.names.now.entries in
    let name = c.args.name.now in
    let is : groups_of (names_of entries) name ≡ c.in-Some.groups.now.items =
    cond-false _ _ _ (sym c.is_numeral.ensures ∙ c.if-is_numeral.false) ∙ groups_found name entries c.in-Some.groups.now (sym c.in-Some.ensures.value) in
    subst (λ items. IfOk c.from_slice.result (λ v. v.items ≡ items)) (c.deref.ensures.value ∙ sym is) c.from_slice.ensures.items

pub returns-in-None : goal.returns-in-None
returns-in-None c =
    let entries = c.args.names.now.entries in
    let name = c.args.name.now in
    let is : groups_of (names_of entries) name ≡ [] =
    cond-false _ _ _ (sym c.is_numeral.ensures ∙ c.if-is_numeral.false) ∙ no_groups_found name entries (sym c.in-None.ensures.value) in
    c.new.ensures.items ∙ sym is
