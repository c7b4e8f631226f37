use Rattle.std.proofs.Common.{[], false, arith}
use Rattle.fancy_grep.proofs.PrintedLaws.{reached_all, reached_more, reached_none}
use Rattle.fancy_grep.proofs.reports.Page.push_all.Goals as goal

pub loop-shown-init : goal.loop-shown-init
loop-shown-init g c = λ plain. reached_none g.W.Write.contents c.args.self.now c.args.out.now (c.args.around.now).last c.args.lines.now

pub loop-shown-preserved : goal.loop-shown-preserved
loop-shown-preserved g c =
    reached_more g.W.Write.contents c.args.self.now c.args.out.now c.loop-shown.out c.push_next-pushed.new.out (c.args.around.now).last
    (c.loop-shown.around).last (c.push_next-pushed.new.around).last c.args.lines.now c.loop-shown.shown-index
    (record { line = record { number = 0; start = 0; text = record { ref_ptr = (0, 0); now = [] } }; is_selected = false })
    c.push_next-pushed.result c.in_ok-fail_at.field-0 c.loop-shown-test.true c.in_ok-fail_at.ensures c.loop-shown.invariant
    c.push_next-pushed.ensures.writes c.push_next-pushed.ensures.last

pub returns : goal.returns
returns g c =
    reached_all g.W.Write.contents c.args.self.now c.args.out.now c.loop-shown.out (c.args.around.now).last (c.loop-shown.around).last
    c.args.lines.now c.loop-shown.shown-index (omega arith) c.loop-shown.invariant
