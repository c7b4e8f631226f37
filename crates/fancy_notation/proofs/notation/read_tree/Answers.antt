use Rattle.std.proofs.Common.{ap, refl, ◌∙◌, length}
use Rattle.std.proofs.lemmas.Result.{err_from_is_err_and}
use Rattle.fancy_expr.specs.Views.{tree_of}
use Rattle.fancy_notation.specs.declared.reader.Reader.{Reader}
use Rattle.fancy_notation.specs.Lexing.{tokens_of}
use Rattle.fancy_notation.specs.NotationViews.{all_placed}
use Rattle.fancy_notation.proofs.Whole.{Begins, whole_fails, whole_read, whole_left, whole_reads}
use Rattle.fancy_notation.proofs.notation.read_tree.Goals as goal

pub returns-in_err-expr-clause-answer : goal.returns-in_err-expr-clause-answer
returns-in_err-expr-clause-answer c =
    let start : Reader = record { alloc = c.args.alloc; rest = c.deref.result; end = length c.args.text.now; groups = 0 } in
    let b : Begins start (length c.args.text.now) (tokens_of c.args.text.now) =
    record { tokens = ap all_placed c.deref.ensures.value ∙ c.in_ok-placed.ensures; groups = refl; ends = refl } in
    let p = err_from_is_err_and c.from_residual-in_err-expr.result c.from_residual-in_err-expr.ensures.1 in
    rw (p.1, p.2) (whole_fails start (length c.args.text.now) (tokens_of c.args.text.now) _ b c.in_err-expr.ensures)

pub returns-in_err-expr-clause-reads : goal.returns-in_err-expr-clause-reads
returns-in_err-expr-clause-reads c =
    whole_reads (length c.args.text.now) (tokens_of c.args.text.now) c.from_residual-in_err-expr.result (returns-in_err-expr-clause-answer c)

pub returns-in_err-read_end-clause-answer : goal.returns-in_err-read_end-clause-answer
returns-in_err-read_end-clause-answer c =
    let start : Reader = record { alloc = c.args.alloc; rest = c.deref.result; end = length c.args.text.now; groups = 0 } in
    let b : Begins start (length c.args.text.now) (tokens_of c.args.text.now) =
    record { tokens = ap all_placed c.deref.ensures.value ∙ c.in_ok-placed.ensures; groups = refl; ends = refl } in
    let p = err_from_is_err_and c.from_residual-in_err-read_end.result c.from_residual-in_err-read_end.ensures.1 in
    rw (p.1, p.2) (whole_left start c.read_node.new.self (tree_of c.in_ok-expr.expr) (length c.args.text.now)
    (tokens_of c.args.text.now) _ b c.in_ok-expr.ensures c.in_err-read_end.ensures)

pub returns-in_err-read_end-clause-reads : goal.returns-in_err-read_end-clause-reads
returns-in_err-read_end-clause-reads c =
    whole_reads (length c.args.text.now) (tokens_of c.args.text.now) c.from_residual-in_err-read_end.result (returns-in_err-read_end-clause-answer c)

pub returns-clause-answer : goal.returns-clause-answer
returns-clause-answer c =
    let start : Reader = record { alloc = c.args.alloc; rest = c.deref.result; end = length c.args.text.now; groups = 0 } in
    let b : Begins start (length c.args.text.now) (tokens_of c.args.text.now) =
    record { tokens = ap all_placed c.deref.ensures.value ∙ c.in_ok-placed.ensures; groups = refl; ends = refl } in
    whole_read start c.read_node.new.self (length c.args.text.now)
    (tokens_of c.args.text.now) c.in_ok-expr.expr c.described.result b c.in_ok-expr.ensures c.in_ok-read_end.ensures c.described.ensures

pub returns-clause-reads : goal.returns-clause-reads
returns-clause-reads c = whole_reads (length c.args.text.now) (tokens_of c.args.text.now) c.described.result (returns-clause-answer c)
