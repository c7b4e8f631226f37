use Rattle.std.proofs.Common.{◌≡◌, ◌<◌, ◌≤◌, true, false, length, slice_index_or, Some, ap, sym, ◌∙◌}
use Rattle.std.proofs.lemmas.Option.{slice_get-get_or, slice_get_past}
use Rattle.fancy_meaning.specs.Machine.{class_test}
use Rattle.fancy_characters.specs.Classes.{class_of}
use Rattle.fancy_nfa.proofs.FirstSetLaws.{skip_ascii, past_end}
use Rattle.fancy_program.proofs.moves.skip_ascii.Goals as goal

pub returns-in_default : goal.returns-in_default
returns-in_default c =
    let text = c.args.text.now in
    let past : length text ≤ c.args.ix = rw c.as_bytes.ensures.value at c.in_default.ensures.lookup.3 in
    sym (past_end text (class_test (class_of c.args.class.now)) c.args.ix (slice_get_past text c.args.ix past))

pub returns-then-takes_ascii : goal.returns-then-takes_ascii
returns-then-takes_ascii c =
    let text = c.args.text.now in
    let byte = c.in-Some.byte.now in
    let inside : c.args.ix < length text = rw c.as_bytes.ensures.value at c.in-Some.ensures.lookup.3.0 in
    let is : byte ≡ slice_index_or text c.args.ix byte = rw c.as_bytes.ensures.value at c.in-Some.ensures.lookup.1 in
    sym
    (skip_ascii text (class_test (class_of c.args.class.now)) c.args.ix byte
    (slice_get-get_or text c.args.ix byte inside ∙ ap Some (sym is)) c.if-byte-ge128.false true
    (sym c.takes_ascii.ensures ∙ c.if-takes_ascii.true))

pub returns-else-takes_ascii : goal.returns-else-takes_ascii
returns-else-takes_ascii c =
    let text = c.args.text.now in
    let byte = c.in-Some.byte.now in
    let inside : c.args.ix < length text = rw c.as_bytes.ensures.value at c.in-Some.ensures.lookup.3.0 in
    let is : byte ≡ slice_index_or text c.args.ix byte = rw c.as_bytes.ensures.value at c.in-Some.ensures.lookup.1 in
    sym
    (skip_ascii text (class_test (class_of c.args.class.now)) c.args.ix byte
    (slice_get-get_or text c.args.ix byte inside ∙ ap Some (sym is)) c.if-byte-ge128.false false
    (sym c.takes_ascii.ensures ∙ c.if-takes_ascii.false))
