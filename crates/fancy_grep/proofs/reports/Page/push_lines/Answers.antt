use Rattle.std.proofs.Common.{[]}
use Rattle.fancy_grep.proofs.PrintedLaws.{one_more}
use Rattle.fancy_grep.proofs.reports.Page.push_lines.Goals as goal

pub loop-line-preserved : goal.loop-line-preserved
loop-line-preserved g c =
    let page = c.args.self.now in
    one_more g.W.Write.contents c.args.out.now c.loop-line.out c.push_line-pushed.new.out page.settings page.style page.passed page.part
    c.args.lines.now c.loop-line.line-index (record { number = 0; start = 0; text = record { ref_ptr = (0, 0); now = [] } })
    c.push_line-pushed.result c.in_ok-fail_at.field-0 c.loop-line-test.true c.in_ok-fail_at.ensures c.loop-line.invariant
    c.push_line-pushed.ensures
