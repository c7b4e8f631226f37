use Rattle.std.proofs.Common.{◌<◌, ◌≤◌, map, string_bytes, subst}
use Rattle.fancy_command.specs.Commands.{asked, most_depth}
use Rattle.fancy_command.proofs.Performed.{misused_by, too_deep_by, answered_by, refused_by}
use Rattle.fancy_command.proofs.command.command.Goals as goal

pub returns-in_default : goal.returns-in_default
returns-in_default g c =
    misused_by (map string_bytes c.args.args.now) _ _ _ c.usage_line.result.now c.write_line.result c.status.result c.in_default.ensures.asks
    c.usage_line.ensures c.write_line.ensures c.status.ensures

pub returns-then-depth-gt-MOST_DEPTH : goal.returns-then-depth-gt-MOST_DEPTH
returns-then-depth-gt-MOST_DEPTH g c =
    too_deep_by (map string_bytes c.args.args.now) _ _ _ (asked c.in-Some.question) c.depth_line.result.now
    c.write_line-then-depth-gt-MOST_DEPTH.result c.status-then-depth-gt-MOST_DEPTH.result c.in-Some.ensures.asks
    (subst (λ n. most_depth < n) c.depth.ensures.value c.if-depth-gt-MOST_DEPTH.true) c.depth_line.ensures
    c.write_line-then-depth-gt-MOST_DEPTH.ensures c.status-then-depth-gt-MOST_DEPTH.ensures

pub returns-in-Ok : goal.returns-in-Ok
returns-in-Ok g c =
    answered_by (map string_bytes c.args.args.now) _ _ _ (asked c.in-Some.question) c.in-Ok.line c.as_bytes.result.now c.write_line-in-Ok.result
    c.status-in-Ok.result c.in-Some.ensures.asks
    (subst (λ n. n ≤ most_depth) c.depth.ensures.value c.if-depth-gt-MOST_DEPTH.false) c.in-Ok.ensures c.as_bytes.ensures.value c.write_line-in-Ok.ensures c.status-in-Ok.ensures

pub returns-in-Err : goal.returns-in-Err
returns-in-Err g c =
    refused_by (map string_bytes c.args.args.now) _ _ _ (asked c.in-Some.question) c.in-Err.error c.report.result c.in-Some.ensures.asks
    (subst (λ n. n ≤ most_depth) c.depth.ensures.value c.if-depth-gt-MOST_DEPTH.false) c.in-Err.ensures c.report.ensures
