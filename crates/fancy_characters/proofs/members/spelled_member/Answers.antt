use Rattle.std.proofs.Common.{ap, sym, ◌∙◌}
use Rattle.std.proofs.lemmas.Option.{same_Some}
use Rattle.std.specs.Char.{len_utf8}
use Rattle.fancy_characters.proofs.MembersLaws.{spelled_is_member, others_have_no_members}
use Rattle.fancy_characters.proofs.members.spelled_member.Goals.{in_default-via-in-Some+else-len_utf8-bytes, in_default-via-in_default}
use Rattle.fancy_characters.proofs.members.spelled_member.Goals as goal

pub returns-in-Some : goal.returns-in-Some
returns-in-Some c =
    spelled_is_member c.args.bytes.now c.in-Some.c (sym c.char_at.ensures ∙ c.in-Some.is) (sym c.len_utf8.ensures
    ∙ c.if-len_utf8-bytes.true) c.from_ranges.result
    c.from_ranges.ensures

pub returns-in_default : goal.returns-in_default
returns-in_default c = others_have_no_members c.args.bytes.now (elim c.in_default.branch [
  | in_default-via-in-Some+else-len_utf8-bytes w ↦ λ d first width.
      let same = same_Some w.in-Some.c d (sym w.in-Some.is ∙ c.char_at.ensures ∙ first) in
      w.if-len_utf8-bytes.false (w.len_utf8.ensures ∙ ap len_utf8 same ∙ width)
  | in_default-via-in_default w ↦ λ d first width. w.in_default.not-Some d (c.char_at.ensures ∙ first)
]) c.empty.result.ranges.items c.empty.ensures
