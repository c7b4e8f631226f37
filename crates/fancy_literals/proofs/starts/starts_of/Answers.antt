use Rattle.std.proofs.Common.{false, refl, string_bytes, subst, sym, ◌∙◌}
use Rattle.fancy_expr.specs.Views.{tree_of}
use Rattle.fancy_literals.specs.Befores.{IsBefore}
use Rattle.fancy_literals.specs.Leads.{AddsOf}
use Rattle.fancy_literals.specs.Opens.{Opens}
use Rattle.fancy_literals.specs.declared.starts.Starts.{Starts}
use Rattle.fancy_literals.proofs.StartLaws.{starts_there}
use Rattle.fancy_literals.proofs.starts.starts_of.Goals as goal

pub returns : goal.returns
returns c i text o at same option inside bytes =
    let unicode = c.args.unicode in
    let tree = tree_of c.args.expr.now in
    let literal = c.add_literal.new.literal in
    let starts : Starts = record {
      first = c.new-first.result;
      literal = literal;
      before = c.new-before_set.result;
      at_start = c.args.before.at_start;
      at_end = c.args.at_end;
      search = c.of.result;
      guard = c.guard_of.result;
      unicode = unicode;
    } in
    starts_there starts unicode tree refl
    (subst (λ set. IsBefore unicode false (record { bytes = set; at_start = c.args.before.at_start }) tree) (sym c.new-before_set.ensures) c.requires.preceded)
    (c.guard_of.ensures unicode) c.in_ok-add_literal.field-0
    (subst (λ old. AddsOf old (string_bytes literal) c.in_ok-add_literal.field-0 tree) c.new-literal.ensures.bytes c.in_ok-add_literal.ensures)
    i text o at same option c.args.at_end
    (λ known. subst (λ set. Opens unicode false set tree) (sym c.new-first.ensures) (c.requires.opens known))
    (λ unknown. c.new-first.ensures ∙ c.requires.all unknown)
    inside bytes
