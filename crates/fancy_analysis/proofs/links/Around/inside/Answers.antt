use Rattle.std.proofs.Common.{refl, sym, ◌∙◌}
use Rattle.fancy_meaning.specs.Spots.{is_never}
use Rattle.fancy_expr.specs.Views.{bound_of}
use Rattle.std.proofs.lemmas.Bool.{or_left}
use Rattle.fancy_analysis.proofs.links.Around.inside.Goals as goal

pub returns-in-Group : goal.returns-in-Group
returns-in-Group c = λ a at. rw c.in-Group.is (record { owner = refl; at_start = refl; is_skipped = at.is_skipped })

pub returns-then-self : goal.returns-then-self
returns-then-self c = λ a at. rw c.in-Repeat.is (record {
  owner = at.owner;
  at_start = at.at_start;
  is_skipped = c.if-self.true ∙ sym (or_left a.is_skipped (is_never (bound_of c.in-Repeat.hi)) (sym at.is_skipped ∙ c.if-self.true));
})
