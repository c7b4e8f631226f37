use Rattle.std.proofs.Common.{map}
use Rattle.regex_hir.specs.Meaning.{meaning, alt_all}
use Rattle.fancy_characters.specs.Members.{AreMembersOf, whole}
use Rattle.fancy_characters.proofs.members.+set_members.Given as goal

abbrev pub invariant-members_of_any-sets : goal.invariant-members_of_any-sets
invariant-members_of_any-sets l = AreMembersOf (whole (alt_all (map meaning l.yielded))) l.ranges.items
