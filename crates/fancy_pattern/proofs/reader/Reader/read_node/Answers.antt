use Rattle.std.proofs.Common.{option_map, IfSome, refl, sym, ap, subst, ◌∙◌}
use Rattle.std.proofs.lemmas.Result.{err_from_is_err_and}
use Rattle.fancy_expr.specs.Views.{tree_of}
use Rattle.fancy_pattern.specs.Grammar.{node_of}
use Rattle.fancy_pattern.specs.Naming.{pairs_in}
use Rattle.fancy_tokens.specs.PatternViews.{token_of}
use Rattle.fancy_pattern.specs.Reading.{point_of, OneCharEach}
use Rattle.fancy_pattern.proofs.Points.{takes_next}
use Rattle.fancy_pattern.proofs.WhereStuck.{no_atom, unnamed_atom, given_by, nothing_given}
use Rattle.fancy_pattern.proofs.reader.Reader.read_node.Goals as goal

pub returns-in_default-clause-fails : goal.returns-in_default-clause-fails
returns-in_default-clause-fails c =
    let names = pairs_in c.args.names.now.pairs in
    let x = point_of c.args.self.now in
    no_atom names x c.misfit.result (nothing_given (node_of names) x (sym c.in_default.ensures.value)) c.misfit.ensures

pub returns-in_err-found-clause-fails : goal.returns-in_err-found-clause-fails
returns-in_err-found-clause-fails c =
    let p = err_from_is_err_and c.from_residual.result c.from_residual.ensures.1 in
    rw (p.1, p.2) (unnamed_atom (pairs_in c.args.names.now.pairs) (point_of c.args.self.now) (token_of c.in-Some.token.now) _ (sym c.in-Some.ensures.value)
    c.in_err-found.ensures.fails)

pub returns-in-None-clause-fails : goal.returns-in-None-clause-fails
returns-in-None-clause-fails c =
    let names = pairs_in c.args.names.now.pairs in
    let x = point_of c.args.self.now in
    no_atom names x c.misfit-in-None.result
    (given_by (node_of names) x (token_of c.in-Some.token.now) (sym c.in-Some.ensures.value)
    ∙ sym c.in_ok-found.ensures.made ∙ ap (option_map tree_of) c.in-None.is)
    c.misfit-in-None.ensures

pub returns-in_ok-push-in-Some-2-clause-pushes : goal.returns-in_ok-push-in-Some-2-clause-pushes
returns-in_ok-push-in-Some-2-clause-pushes c =
    let names = pairs_in c.args.names.now.pairs in
    let x = point_of c.args.self.now in
    record {
      read = tree_of c.in-Some-2.found;
      adds = record {
        node = c.in-Some-2.found;
        added = c.in_ok-push-in-Some-2.ensures.items;
        made = refl;
        one_char = subst (λ o. IfSome o OneCharEach) c.in-Some-2.is c.in_ok-found.ensures.one_char;
      };
      spelled =
          takes_next (node_of names) (tree_of c.in-Some-2.found) c.args.self.now c.skip.new.self
          (given_by (node_of names) x (token_of c.in-Some.token.now) (sym c.in-Some.ensures.value)
          ∙ sym c.in_ok-found.ensures.made ∙ ap (option_map tree_of) c.in-Some-2.is)
          c.skip.ensures.skips;
    }
