use Rattle.std.proofs.Common.{◌<◌, ◌-◌, suc, length, Some, Ok, Err, IfErr, IfSome, ap, ◌∙◌, sym, subst, arith}
use Rattle.fancy_meaning.specs.Numbers.{usize_max}
use Rattle.fancy_matches.specs.Listing.{ended}
use Rattle.fancy_matches.specs.Matchers.{GivesBy, IsNoLimitWhereEasy, StaysInStep, shown_captures as engine_shown, cursor_of, with_numbers}
use Rattle.fancy_regex.specs.Errors.{engine_error, limit_told}
use Rattle.fancy_regex.specs.Found.{shown_captures}
use Rattle.fancy_regex.proofs.Replies.{easy_error, easy_memory, list_fails, list_wants_memory}
use Rattle.fancy_regex.proofs.regexes.Regex.next_captures.Goals as goal

pub returns-in-None-clause-list : goal.returns-in-None-clause-list
returns-in-None-clause-list c i o h =
    let text = c.args.text.now in
    let from = cursor_of c.args.cursor.now in
    let to = cursor_of c.next_captures.new.cursor in
    subst (λ item. GivesBy i text o engine_shown (with_numbers text) from item to) c.in-None.is (c.next_captures.ensures.list i o h)

pub returns-in-Ok-clause-list : goal.returns-in-Ok-clause-list
returns-in-Ok-clause-list c i o h =
    let text = c.args.text.now in
    let from = cursor_of c.args.cursor.now in
    let to = cursor_of c.next_captures.new.cursor in
    subst (λ g. GivesBy i text o engine_shown (with_numbers text) from (Some (Ok g)) to) (sym c.in-Ok.ensures.0)
    (subst (λ item. GivesBy i text o engine_shown (with_numbers text) from item to) (c.in-Some-Ok.is ∙ ap Some c.in-Some-Ok.field-0-is)
    (c.next_captures.ensures.list i o h))

pub returns-in-Err-clause-list : goal.returns-in-Err-clause-list
returns-in-Err-clause-list c i o h =
    let text = c.args.text.now in
    let small : length text < usize_max = omega arith in
    let from = cursor_of c.args.cursor.now in
    let to = cursor_of c.next_captures.new.cursor in
    subst (λ t. GivesBy i text o shown_captures (with_numbers text) from (Some (Err (engine_error c.from.result))) t) (sym c.end.ensures)
    (subst (λ e. GivesBy i text o shown_captures (with_numbers text) from (Some (Err (engine_error e))) (ended to)) (sym c.from.ensures)
    (list_wants_memory i text o engine_shown (with_numbers text) shown_captures (with_numbers text) (record { utf8 = c.utf8.text; fits = small }) from to
    c.in-Some-Ok.groups
    (subst (λ item. GivesBy i text o engine_shown (with_numbers text) from item to) (c.in-Some-Ok.is ∙ ap Some c.in-Some-Ok.field-0-is)
    (c.next_captures.ensures.list i o h))))

pub returns-in-Err-clause-further : goal.returns-in-Err-clause-further
returns-in-Err-clause-further c =
    let text = c.args.text.now in
    let small : length text < usize_max = omega arith in
    let at = c.next_captures.new.cursor.pos in
    let further = subst (λ item. IfSome item (λ _. suc (length text) - at < suc (length text) - c.args.cursor.now.pos))
    c.in-Some-Ok.is c.next_captures.ensures.further in
    let ends = ap (λ s. s.pos) c.end.ensures in
    omega (arith, further, ends, small)

pub returns-in-Some-Err-clause-list : goal.returns-in-Some-Err-clause-list
returns-in-Some-Err-clause-list c i o h =
    let text = c.args.text.now in
    let from = cursor_of c.args.cursor.now in
    let to = cursor_of c.next_captures.new.cursor in
    list_fails engine_shown (with_numbers text) shown_captures (with_numbers text) i text o from to c.in-Some-Err.error c.told.result
    c.told.ensures.engine
    (subst (λ item. GivesBy i text o engine_shown (with_numbers text) from item to)
    (c.in-Some-Err.is ∙ ap Some c.in-Some-Err.field-0-is) (c.next_captures.ensures.list i o h))

pub returns-in-Err-clause-easy : goal.returns-in-Err-clause-easy
returns-in-Err-clause-easy c = easy_memory c.args.self.now.engine c.args.text.now c.from.result c.from.ensures

pub returns-in-Some-Err-clause-easy : goal.returns-in-Some-Err-clause-easy
returns-in-Some-Err-clause-easy c =
    let r = c.args.self.now.engine in
    let text = c.args.text.now in
    easy_error r text c.in-Some-Err.error c.told.result c.in-Some-Err.field-0 c.told.ensures.engine c.in-Some-Err.field-0-is
    (subst (λ item. IfSome item (λ found. IfErr found (IsNoLimitWhereEasy r text))) c.in-Some-Err.is c.next_captures.ensures.easy)

pub returns-in-None-clause-limits : goal.returns-in-None-clause-limits
returns-in-None-clause-limits c = sym (subst (λ item. StaysInStep item c.next_captures.new.self) c.in-None.is c.next_captures.ensures.stays)

pub returns-in-Ok-clause-limits : goal.returns-in-Ok-clause-limits
returns-in-Ok-clause-limits c =
    sym (subst (λ item. StaysInStep item c.next_captures.new.self) (c.in-Some-Ok.is ∙ ap Some c.in-Some-Ok.field-0-is) c.next_captures.ensures.stays)

pub returns-in-Err-clause-limits : goal.returns-in-Err-clause-limits
returns-in-Err-clause-limits c =
    ap limit_told c.from.ensures
    ∙ sym (subst (λ item. StaysInStep item c.next_captures.new.self) (c.in-Some-Ok.is ∙ ap Some c.in-Some-Ok.field-0-is) c.next_captures.ensures.stays)

pub returns-in-Some-Err-clause-limits : goal.returns-in-Some-Err-clause-limits
returns-in-Some-Err-clause-limits c =
    c.told.ensures.limit
    (subst (λ item. StaysInStep item c.next_captures.new.self) (c.in-Some-Err.is ∙ ap Some c.in-Some-Err.field-0-is) c.next_captures.ensures.stays)
