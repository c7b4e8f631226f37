use Rattle.std.proofs.Common.{◌≡◌, ◌++◌, ◌∙◌, ℕ, List, append_assoc, sym, subst}
use Rattle.std.specs.Prelude.{codes, decimal}
use Rattle.std.proofs.lemmas.Result.{IfOk-weaker}
use Rattle.fancy_meaning.specs.AnalysisRefusals.{IsLeastName, Describes, by_name, by_number}
use Rattle.fancy_analysis.specs.Names.{names_of}
use Rattle.fancy_analysis.proofs.recursion.describe.Goals as goal

in_turn : (name number : List ℕ) →
    codes "group '" ++ (name ++ (codes "' (" ++ (number ++ codes ")"))) ≡ codes "group '" ++ name ++ codes "' (" ++ number ++ codes ")"
in_turn name number = simp append_assoc

pub returns-in-Some : goal.returns-in-Some
returns-in-Some c =
    let names = names_of c.args.names.now.entries in
    let g = c.args.group in
    let least = subst (IsLeastName names g) (sym c.deref.ensures) c.in-Some.ensures in
    IfOk-weaker c.description_by_name.result _ _
    (λ text e. subst (Describes names g) (sym (e ∙ in_turn c.deref.result.now (decimal g))) (by_name least)) c.description_by_name.ensures

pub returns-in-None : goal.returns-in-None
returns-in-None c =
    let names = names_of c.args.names.now.entries in
    let g = c.args.group in
    IfOk-weaker c.description_by_number.result _ _ (λ text e. subst (Describes names g) (sym e) (by_number c.in-None.ensures)) c.description_by_number.ensures
