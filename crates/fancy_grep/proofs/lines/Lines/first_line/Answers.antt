use Rattle.std.proofs.Common.{◌+◌, sym, subst, ap, ◌∙◌, eqb-true, take, drop, arith}
use Rattle.std.specs.Str.{IsUtf8}
use Rattle.std.proofs.lemmas.Str.{IsCharBoundary-after_ascii}
use Rattle.fancy_grep.proofs.LineLaws.{HasNoNewline, IsFirstNewline, all_before, newline_at, nothing_after}
use Rattle.fancy_grep.proofs.lines.Lines.first_line.Goals as goal

pub range_from-requires : goal.range_from-requires
range_from-requires c =
    let text = c.args.self.now.rest.now in
    let here = subst (λ t. IsFirstNewline t c.in-Some.at) c.as_bytes.ensures.value c.in-Some.ensures in
    let utf8 = subst IsUtf8 c.as_bytes.ensures.value c.as_bytes.ensures.utf8 in
    λ some. IsCharBoundary-after_ascii text c.in-Some.at utf8 here.0.high (omega (arith, eqb-true _ _ here.1))

pub returns-in-None-clause-line : goal.returns-in-None-clause-line
returns-in-None-clause-line c = all_before c.args.self.now.rest.now (subst HasNoNewline c.as_bytes.ensures.value c.in-None.ensures)

pub returns-in-None-clause-rest : goal.returns-in-None-clause-rest
returns-in-None-clause-rest c = nothing_after c.args.self.now.rest.now (subst HasNoNewline c.as_bytes.ensures.value c.in-None.ensures)

pub returns-in-Some-clause-line : goal.returns-in-Some-clause-line
returns-in-Some-clause-line c =
    let text = c.args.self.now.rest.now in
    let here = subst (λ t. IsFirstNewline t c.in-Some.at) c.as_bytes.ensures.value c.in-Some.ensures in
    c.range.ensures.value ∙ ap (λ n. take n text) (omega (arith, newline_at text c.in-Some.at here))

pub returns-in-Some-clause-rest : goal.returns-in-Some-clause-rest
returns-in-Some-clause-rest c =
    let text = c.args.self.now.rest.now in
    let here = subst (λ t. IsFirstNewline t c.in-Some.at) c.as_bytes.ensures.value c.in-Some.ensures in
    c.range_from.ensures.value ∙ ap (λ n. drop (n + 1) text) (sym (newline_at text c.in-Some.at here))
