use Rattle.std.proofs.Common.{arith, sym, ap, ◌∙◌, ◌+◌, if◌then◌else◌, Some, None, option_and_then}
use Rattle.std.specs.Char.{len_utf8}
use Rattle.fancy_meaning.specs.Machine.{class_test}
use Rattle.fancy_characters.specs.Classes.{class_of}
use Rattle.regex_hir.specs.Text.{char_at}
use Rattle.regex_hir.proofs.TextLemmas.{char_at_fits}
use Rattle.fancy_characters.proofs.classes.CharClassMatcher.match_len.Goals as goal

pub returns-then-branch-clause-within : goal.returns-then-branch-clause-within
returns-then-branch-clause-within c =
    omega (arith, c.len_utf8.ensures, char_at_fits c.args.text.now c.args.ix c.in-Some.c (rw c.as_bytes.ensures.value at (sym c.in-Some.ensures)))

pub returns-then-branch-clause-taken : goal.returns-then-branch-clause-taken
returns-then-branch-clause-taken c =
    let ix = c.args.ix in
    let test = class_test (class_of c.args.self.now) in
    let there = c.in-Some.ensures ∙ ap (λ l. char_at l ix) c.as_bytes.ensures.value in
    let takes = sym c.if-branch.true ∙ c.in_ok-takes.ensures.taken in
    ap (λ n. Some (ix + n)) c.len_utf8.ensures
    ∙ ap (λ b. if b then Some (ix + len_utf8 c.in-Some.c) else None) takes
    ∙ ap (option_and_then (λ d. if test d then Some (ix + len_utf8 d) else None)) there
