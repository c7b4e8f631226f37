use Rattle.std.proofs.Common.{refl, sym, subst, ◌∙◌}
use Rattle.fancy_highlight.specs.Tokens.{AreTokens}
use Rattle.fancy_highlight.proofs.Covering.{ahead_place, one_more}
use Rattle.fancy_highlight.proofs.writer.Writer.write_to.Goals as goal

pub invariant_of-self-then-is_ahead : goal.invariant_of-self-then-is_ahead
invariant_of-self-then-is_ahead c =
    let s = c.args.self.now in
    let is = sym c.is_ahead.ensures ∙ c.if-is_ahead.true in
    let to = ahead_place s c.args.end is in record {
      place = to.1;
      covered =
          subst (λ l. AreTokens s.text.now 0 l c.args.end) (sym c.in_ok-push.ensures.items)
          (one_more s.text.now 0 s.tokens.items s.at (record { start = s.at; end = c.args.end; scope = c.args.scope }) s.covered
          (record { begins = refl; takes = to.0; ends = to.1 }));
    }
