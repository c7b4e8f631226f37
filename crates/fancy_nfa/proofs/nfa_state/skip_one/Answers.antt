use Rattle.std.proofs.Common.{◌+◌, Some, None, if◌then◌else◌, arith, sym, ap, ◌∙◌}
use Rattle.std.proofs.lemmas.Bool.{cond-true, cond-false}
use Rattle.std.specs.Char.{len_utf8}
use Rattle.std.specs.Option.{option_and_then}
use Rattle.fancy_meaning.specs.Chars as chars
use Rattle.regex_hir.proofs.TextLemmas.{char_at_fits}
use Rattle.fancy_nfa.proofs.nfa_state.skip_one.Goals as goal

pub overflow_add-result : goal.overflow_add-result
overflow_add-result c = omega (arith, char_at_fits c.args.text.now c.args.ix c.in_ok-d.d (sym c.in_ok-d.ensures))

pub returns-in_err-d : goal.returns-in_err-d
returns-in_err-d c =
    c.from_residual.ensures
    ∙ ap (option_and_then (λ d. if chars.literal_takes c.args.unicode c.args.c c.args.casei d then Some (c.args.ix + len_utf8 d) else None))
    c.in_err-d.ensures

pub returns-then-literal_takes : goal.returns-then-literal_takes
returns-then-literal_takes c =
    ap (λ n. Some (c.args.ix + n)) c.len_utf8.ensures
    ∙ sym (cond-true (chars.literal_takes c.args.unicode c.args.c c.args.casei c.in_ok-d.d) _ _ (sym c.if-literal_takes.ensures))
    ∙ ap (option_and_then (λ d. if chars.literal_takes c.args.unicode c.args.c c.args.casei d then Some (c.args.ix + len_utf8 d) else None))
    c.in_ok-d.ensures

pub returns-else-literal_takes : goal.returns-else-literal_takes
returns-else-literal_takes c =
    sym (cond-false (chars.literal_takes c.args.unicode c.args.c c.args.casei c.in_ok-d.d) _ _ (sym c.if-literal_takes.ensures))
    ∙ ap (option_and_then (λ d. if chars.literal_takes c.args.unicode c.args.c c.args.casei d then Some (c.args.ix + len_utf8 d) else None))
    c.in_ok-d.ensures
