use Rattle.std.proofs.Common.{ap, ◌∙◌}
use Rattle.std.proofs.lemmas.Result.{err_from_is_err_and}
use Rattle.fancy_host.specs.Hosted.{in_no_text, tree_of}
use Rattle.fancy_host.proofs.Answered.{has_tree, none_there, nothing_held}
use Rattle.fancy_host.proofs.reading.searched.Goals as goal

pub returns-in_err-text : goal.returns-in_err-text
returns-in_err-text c =
    let p = err_from_is_err_and c.from_residual.result c.from_residual.ensures.1 in
    rw (p.1, p.2) (in_no_text c.in_err-text.ensures)

pub returns-then-not-program : goal.returns-then-not-program
returns-then-not-program c =
    let held = c.args.program.now.handle.searcher in
    nothing_held c.args.bytes.now c.args.options.now c.coded.result (tree_of held) c.in_ok-text.ensures.1 c.in_ok-text.ensures.2
    (ap tree_of (none_there held c.args.program.now.is_set c.args.program.now.agrees c.if-not-program.true)) c.coded.ensures

pub returns : goal.returns
returns c = (
  c.in_ok-text.ensures.0,
  record {
    size = c.in_ok-text.ensures.1;
    utf8 = c.in_ok-text.ensures.2;
    tree = has_tree c.args.program.now.handle.searcher ∙ c.args.program.now.agrees ∙ c.if-not-program.false;
  },
)
