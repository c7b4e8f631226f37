use Rattle.std.proofs.Common.{string_bytes, sym, ap, ◌∙◌, subst}
use Rattle.std.specs.Prelude.{chars}
use Rattle.fancy_pattern.specs.Spelling.{IsError}
use Rattle.fancy_search.specs.Requests as asked
use Rattle.fancy_host.specs.Hosted.{parsing}
use Rattle.fancy_host.specs.Messages.{Explains, IsExplanation, has_program, message, refused, spells_no_text, unanalysed, unspelled}
use Rattle.fancy_host.proofs.Answered.{compiled_by, read_so, refused_by, within_by}
use Rattle.fancy_host.proofs.Said.{said_by, told_by}
use Rattle.fancy_host.proofs.messages.explanation_of.Goals as goal

pub returns-in-Err : goal.returns-in-Err
returns-in-Err c =
    said_by c.message_of.result (λ text. string_bytes text) (message c.in-Err.outcome) (Explains c.args.pattern.now c.args.options.now)
    c.message_of.ensures (spells_no_text c.in-Err.ensures)

pub returns-in-Err-parse_tree : goal.returns-in-Err-parse_tree
returns-in-Err-parse_tree c =
    let bytes = c.args.pattern.now in
    let o = c.args.options.now in
    let e = c.in-Err-parse_tree.error in
    let spelled = subst (λ t. IsError (parsing o) (chars t) e) c.in-Ok.ensures.0
    (subst (λ q. IsError q (chars c.in-Ok.text.now) e) c.parsing.ensures c.in-Err-parse_tree.ensures.answer) in
    said_by c.message_of-in-Err-parse_tree.result (λ text. string_bytes text) (message c.of_fault.result) (Explains bytes o)
    c.message_of-in-Err-parse_tree.ensures
    (subst (λ f. Explains bytes o (message f)) (sym c.of_fault.ensures) (unspelled c.in-Ok.ensures.1 c.in-Ok.ensures.2 e spelled))

pub returns-in-Err-check_analysis : goal.returns-in-Err-check_analysis
returns-in-Err-check_analysis c =
    let bytes = c.args.pattern.now in
    let o = c.args.options.now in
    let tree = c.in-Ok-parse_tree.tree in
    let read = read_so bytes o tree c.in-Ok.text.now c.parsing.result c.in-Ok.ensures.0 c.parsing.ensures c.in-Ok-parse_tree.ensures.answer in
    said_by c.message_of-in-Err-check_analysis.result (λ text. string_bytes text) (message c.in-Err-check_analysis.outcome) (Explains bytes o)
    c.message_of-in-Err-check_analysis.ensures
    (unanalysed c.in-Ok.ensures.1 c.in-Ok.ensures.2 tree read c.in-Err-check_analysis.ensures)

pub returns-in-Ok-new : goal.returns-in-Ok-new
returns-in-Ok-new c =
    let bytes = c.args.pattern.now in
    let o = c.args.options.now in
    let tree = c.in-Ok-parse_tree.tree in
    let read = read_so bytes o tree c.in-Ok.text.now c.parsing.result c.in-Ok.ensures.0 c.parsing.ensures c.in-Ok-parse_tree.ensures.answer in
    let as_analysed = c.analysis.ensures ∙ ap asked.analysis c.request-request.ensures in
    let as_compiled = c.compilation.ensures ∙ ap asked.compilation c.request-request.ensures in
    subst (Explains bytes o) (sym c.new-in-Ok-new.ensures.bytes)
    (has_program c.in-Ok.ensures.1 c.in-Ok.ensures.2 tree c.in-Ok-new.field-0 read
    c.in_default.ensures
    (compiled_by tree o c.analysis.result c.compilation.result as_analysed as_compiled c.in-Ok-new.field-0 c.in-Ok-new.ensures.made)
    (within_by tree o c.analysis.result c.compilation.result as_analysed as_compiled c.in-Ok-new.ensures.within))

pub returns : goal.returns
returns c =
    let bytes = c.args.pattern.now in
    let o = c.args.options.now in
    let tree = c.in-Ok-parse_tree.tree in
    let e = c.in-Err-new.error in
    let read = read_so bytes o tree c.in-Ok.text.now c.parsing.result c.in-Ok.ensures.0 c.parsing.ensures c.in-Ok-parse_tree.ensures.answer in
    let as_analysed = c.analysis.ensures ∙ ap asked.analysis c.request-request.ensures in
    let as_compiled = c.compilation.ensures ∙ ap asked.compilation c.request-request.ensures in
    told_by c.explained.result (λ text. string_bytes text) (IsExplanation o c.in-Ok.text.now e) (Explains bytes o) c.explained.ensures
    (λ text is. refused c.in-Ok.ensures.1 c.in-Ok.ensures.2 tree e read c.in_default.ensures
    (refused_by tree o c.analysis.result c.compilation.result as_analysed as_compiled e c.in-Err-new.ensures.made)
    (subst (λ t. IsExplanation o t e text) c.in-Ok.ensures.0 is))
