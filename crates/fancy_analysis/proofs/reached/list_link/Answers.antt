use Rattle.std.proofs.Common.{◌≡◌, ◌∷◌, [], ◌++◌, None, sym, ap, ◌∙◌, refl, append-nil}
use Rattle.std.proofs.Math.Bool.{and-false}
use Rattle.std.specs.Prelude.{if◌then◌else◌, Some, ◌&&◌, ◌==◌}
use Rattle.std.specs.List.{cons_option}
use Rattle.fancy_analysis.specs.Reached.{listed, way_from}
use Rattle.fancy_analysis.proofs.SearchSteps.{listed_at, listed_more}
use Rattle.fancy_analysis.proofs.reached.list_link.Goals as goal

pub returns-then-not-is_one : goal.returns-then-not-is_one
returns-then-not-is_one c = record {
  length = refl;
  listed = λ n.
      let link = c.args.link in
      let out : way_from c.args.at_once n link ≡ None =
      ap (λ b. if link.from == n && b then Some link.to else None) (sym c.is_one.ensures ∙ c.if-not-is_one.true)
      ∙ ap (λ b. if b then Some link.to else None) (and-false (link.from == n)) in
      sym (ap (λ o. listed c.args.lists.now.items n ++ cons_option o []) out ∙ append-nil (listed c.args.lists.now.items n));
}

pub returns-clause-listed : goal.returns-clause-listed
returns-clause-listed c =
    let lists = c.args.lists.now.items in
    let link = c.args.link in
    listed_more lists link c.push.new.self c.args.at_once c.requires (sym c.is_one.ensures ∙ c.if-not-is_one.false)
    (c.in_ok-push.ensures.items ∙ ap (λ l. l ++ link.to ∷ []) (sym (listed_at lists link.from c.index_mut.result.now c.requires c.index_mut.ensures.value)))
