use Rattle.std.proofs.Common.{rules, ◌≡◌, ◌++◌, ◌∷◌, [], IsTrue, List, false, true, is_ok, sym, subst, ◌∙◌}
use Rattle.fancy_meaning.specs.Places.{is_place}
use Rattle.fancy_highlight.specs.LeftOut.{are_once, are_placed, is_reported}
use Rattle.fancy_highlight.specs.declared.left_out.LeftOut.{LeftOut}
use Rattle.fancy_highlight.proofs.Reports.{either, one_more_once, one_more_placed}
use Rattle.fancy_highlight.proofs.omitted.Reports.push.Goals as goal

pub invariant_of-self : goal.invariant_of-self
invariant_of-self c =
    let s = c.args.self.now in
    let r = c.args.report in
    let text = s.text.now in
    let old = s.reports.items in
    let here : is_place text r.at ≡ true = search rules in
    let off : is_reported old r.rule ≡ false = sym c.has.ensures ∙ c.if-not-has.true in
    let grown : (P : List LeftOut → Type 0) → P (old ++ r ∷ []) → P old → P c.push.new.self.items =
    λ P h k. subst P (sym c.push.ensures.items) (either P (is_ok c.push.result) (old ++ r ∷ []) old h k) in
    record {
      placed = grown (λ l. IsTrue (are_placed text l)) (one_more_placed text old r s.placed here) s.placed;
      once = grown (λ l. IsTrue (are_once l)) (one_more_once old r off s.once) s.once;
    }
