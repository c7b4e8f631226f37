use Rattle.std.proofs.Common.{IfErr, IfSome, Some, ap, ◌∙◌, sym, subst}
use Rattle.fancy_matches.specs.Matchers.{GivesBy, IsNoLimitWhereEasy, StaysInStep, shown_match, cursor_of, with_span}
use Rattle.fancy_regex.proofs.Replies.{easy_error, list_fails}
use Rattle.fancy_regex.proofs.regexes.Regex.next_match.Goals as goal

pub returns-in-None-clause-list : goal.returns-in-None-clause-list
returns-in-None-clause-list c i o h =
    let text = c.args.text.now in
    let from = cursor_of c.args.cursor.now in
    let to = cursor_of c.next_match.new.cursor in
    subst (λ item. GivesBy i text o shown_match (with_span text) from item to)
    c.in-None.is (c.next_match.ensures.list i o h)

pub returns-in-Some-Ok-clause-list : goal.returns-in-Some-Ok-clause-list
returns-in-Some-Ok-clause-list c i o h =
    let text = c.args.text.now in
    let from = cursor_of c.args.cursor.now in
    let to = cursor_of c.next_match.new.cursor in
    subst (λ item. GivesBy i text o shown_match (with_span text) from item to)
    (c.in-Some-Ok.is ∙ ap Some c.in-Some-Ok.field-0-is) (c.next_match.ensures.list i o h)

pub returns-in-Some-Err-clause-list : goal.returns-in-Some-Err-clause-list
returns-in-Some-Err-clause-list c i o h =
    let text = c.args.text.now in
    let from = cursor_of c.args.cursor.now in
    let to = cursor_of c.next_match.new.cursor in
    list_fails shown_match (with_span text) shown_match (with_span text) i text o from to c.in-Some-Err.error c.told.result c.told.ensures.engine
    (subst (λ item. GivesBy i text o shown_match (with_span text) from item to)
    (c.in-Some-Err.is ∙ ap Some c.in-Some-Err.field-0-is) (c.next_match.ensures.list i o h))

pub returns-in-Some-Err-clause-easy : goal.returns-in-Some-Err-clause-easy
returns-in-Some-Err-clause-easy c =
    let r = c.args.self.now.engine in
    let text = c.args.text.now in
    easy_error r text c.in-Some-Err.error c.told.result c.in-Some-Err.field-0 c.told.ensures.engine c.in-Some-Err.field-0-is
    (subst (λ item. IfSome item (λ found. IfErr found (IsNoLimitWhereEasy r text))) c.in-Some-Err.is c.next_match.ensures.easy)

pub returns-in-None-clause-limits : goal.returns-in-None-clause-limits
returns-in-None-clause-limits c = sym (subst (λ item. StaysInStep item c.next_match.new.self) c.in-None.is c.next_match.ensures.stays)

pub returns-in-Some-Ok-clause-limits : goal.returns-in-Some-Ok-clause-limits
returns-in-Some-Ok-clause-limits c =
    sym (subst (λ item. StaysInStep item c.next_match.new.self) (c.in-Some-Ok.is ∙ ap Some c.in-Some-Ok.field-0-is) c.next_match.ensures.stays)

pub returns-in-Some-Err-clause-limits : goal.returns-in-Some-Err-clause-limits
returns-in-Some-Err-clause-limits c =
    c.told.ensures.limit
    (subst (λ item. StaysInStep item c.next_match.new.self) (c.in-Some-Err.is ∙ ap Some c.in-Some-Err.field-0-is) c.next_match.ensures.stays)
