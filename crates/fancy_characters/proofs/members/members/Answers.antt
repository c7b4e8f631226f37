use Rattle.std.proofs.Common.{ℕ, refl, inl, Ok}
use Rattle.regex_syntax.specs.Verdict.{Refuses}
use Rattle.fancy_characters.proofs.ClassLaws.{members_as_read}
use Rattle.fancy_characters.proofs.members.members.Goals as goal

pub returns-in-Ok-between_ends-clause-members : goal.returns-in-Ok-between_ends-clause-members
returns-in-Ok-between_ends-clause-members c = members_as_read {E = ℕ} c.args.pattern.now c.in-Ok.parsed.hir _
    (rw c.default.ensures at c.in-Ok.ensures.ok) (Ok c.in-Ok-between_ends.found) c.in-Ok-between_ends.ensures

pub returns-in-Ok-clause-refused : goal.returns-in-Ok-clause-refused
unfolding Refuses
returns-in-Ok-clause-refused c = inl refl
