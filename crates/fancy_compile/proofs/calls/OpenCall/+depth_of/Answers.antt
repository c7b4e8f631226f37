use Rattle.std.proofs.Common.{◌==◌, sym, ap, ◌∙◌, eq-eqb, ne_eqb}
use Rattle.std.proofs.lemmas.Bool.{cond-true, cond-false}
use Rattle.fancy_compile.specs.declared.calls.OpenCall.TheViews.{out-OpenCall}
use Rattle.fancy_compile.specs.OpenDepths.{depths_of}
use Rattle.fancy_compile.proofs.OpenDepths.{depth_out}
use Rattle.fancy_compile.proofs.calls.OpenCall.+depth_of.Goals as goal

pub returns-then-self-group : goal.returns-then-self-group
returns-then-self-group t c =
    let o = out-OpenCall c.args.self.now in
    sym (depth_out c.args.self.now c.args.group ∙ cond-true (c.args.group == o.group) o.depth (depths_of o.outer c.args.group)
    (eq-eqb c.args.group o.group (sym c.if-self-group.true)))

pub returns-in-Some : goal.returns-in-Some
returns-in-Some t c =
    let o = out-OpenCall c.args.self.now in
    c.depth_of.ensures ∙ ap (λ m. depths_of m c.args.group) (sym c.in-Some.is)
    ∙ sym (depth_out c.args.self.now c.args.group ∙ cond-false (c.args.group == o.group) o.depth (depths_of o.outer c.args.group)
    (ne_eqb c.args.group o.group (λ e. c.if-self-group.false (sym e))))

pub returns-in-None : goal.returns-in-None
returns-in-None t c =
    let o = out-OpenCall c.args.self.now in
    ap (λ m. depths_of m c.args.group) (sym c.in-None.is)
    ∙ sym (depth_out c.args.self.now c.args.group ∙ cond-false (c.args.group == o.group) o.depth (depths_of o.outer c.args.group)
    (ne_eqb c.args.group o.group (λ e. c.if-self-group.false (sym e))))
