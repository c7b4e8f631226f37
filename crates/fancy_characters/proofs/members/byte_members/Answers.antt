use Rattle.fancy_characters.proofs.MembersLaws.{bytes_have_members}
use Rattle.fancy_characters.proofs.members.byte_members.Goals as goal

pub returns-then-is_within : goal.returns-then-is_within
returns-then-is_within c = bytes_have_members c.args.class.ranges.items (c.is_within.ensures.0 c.if-is_within.true)
