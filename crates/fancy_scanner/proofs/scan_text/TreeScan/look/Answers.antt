use Rattle.std.proofs.Common.{◌<◌, length, Ok, Some, refl, sym, ap, ◌∙◌, subst, arith}
use Rattle.std.specs.Prelude.{option_and_then, slice_get}
use Rattle.fancy_matches.specs.Listing.{begun_at}
use Rattle.fancy_matches.specs.Matchers.{FindsCaptures}
use Rattle.fancy_scanner.specs.Kept.{found_in}
use Rattle.fancy_scanner.specs.Scans.{answers_of, holds_for, text_of}
use Rattle.fancy_scanner.specs.declared.answers.Answer.{Answer}
use Rattle.fancy_scanner.proofs.Kept.{goes_on_answer, held_answers, put_held}
use Rattle.fancy_scanner.proofs.Reading.{get_other, get_same}
use Rattle.fancy_scanner.proofs.scan_text.TreeScan.look.Goals as goal

pub returns-then-holds-clause-promise : goal.returns-then-holds-clause-promise
returns-then-holds-clause-promise c = λ rules r h at.
    held_answers c.args.self.now c.args.index c.args.pos (sym c.holds.ensures ∙ c.if-holds.true) rules r h at

pub returns-in-Ok-clause-promise : goal.returns-in-Ok-clause-promise
returns-in-Ok-clause-promise c = λ rules r h at.
    let s = c.args.self.now in
    let room = c.requires.room in
    let within = c.requires.within in
    let there : c.args.index < length (answers_of s) = omega (arith, room, within) in
    let a : Answer = record { from = c.args.pos; found = c.in-Ok.found } in
    subst (λ found. FindsCaptures r.input (text_of s) (begun_at r.options c.args.pos) (Ok found))
    (sym (ap (option_and_then found_in) (get_same (answers_of s) c.args.index (Some a) there)))
    (c.in-Ok.ensures.promise rules r h.scanner at)

pub returns-in-Ok-clause-others : goal.returns-in-Ok-clause-others
returns-in-Ok-clause-others c = λ j ne. get_other (answers_of c.args.self.now) c.args.index j _ ne

pub returns-in-Ok-clause-held : goal.returns-in-Ok-clause-held
returns-in-Ok-clause-held c = put_held c.args.self.now c.args.index c.args.pos _ (sym c.holds.ensures ∙ c.if-holds.false)

pub returns-in-Ok-clause-goes_on : goal.returns-in-Ok-clause-goes_on
returns-in-Ok-clause-goes_on c =
    let a : Answer = record { from = c.args.pos; found = c.in-Ok.found } in
    goes_on_answer c.args.self.now _ c.args.index a refl c.captures_of.ensures.same (record { scanner = refl; cache = refl }) refl
    (λ rules r h at. c.in-Ok.ensures.promise rules r h at)

pub returns-in-Ok-clause-limits : goal.returns-in-Ok-clause-limits
returns-in-Ok-clause-limits c = c.captures_of.ensures.others

pub returns-in-Err-clause-limits : goal.returns-in-Err-clause-limits
returns-in-Err-clause-limits c = c.captures_of.ensures.others

pub returns-in-Err-clause-failed : goal.returns-in-Err-clause-failed
returns-in-Err-clause-failed c = (
  ap (λ l. holds_for l (slice_get (answers_of c.args.self.now) c.args.index) c.args.pos) (c.captures_of.ensures.same.reuse c.args.index)
      ∙ (sym c.holds.ensures ∙ c.if-holds.false),
  c.in-Err.ensures.stays,
)
