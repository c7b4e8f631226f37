use Rattle.std.proofs.Common.{OnOk, Result, Ok, Err}
use Rattle.fancy_highlight.proofs.Covering.{last_place}
use Rattle.fancy_highlight.proofs.writer.Writer.write_rest.Goals as goal

on_ok : {A E : Type 0} {P Q : Type 0} (r : Result A E) → (P → Q) → OnOk r P → OnOk r Q
on_ok (Ok x) f h = f h
on_ok (Err e) f h = tt

pub returns-clause-reached : goal.returns-clause-reached
returns-clause-reached c =
    on_ok c.write_to.result (λ reached. reached (last_place c.args.self.now.text.now)) c.write_to.ensures.reached
