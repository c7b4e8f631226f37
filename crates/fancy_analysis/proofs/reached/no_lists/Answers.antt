use Rattle.std.proofs.Common.{◌≡◌, [], length, ap, arith}
use Rattle.std.proofs.lemmas.List.{length-append}
use Rattle.std.proofs.lemmas.List.Elements.{All-push, All-same}
use Rattle.fancy_analysis.proofs.reached.no_lists.Goals as goal

pub loop-i-preserved : goal.loop-i-preserved
loop-i-preserved c = record {
  length = omega (arith, simp length-append at (ap length c.in_ok-push.ensures.items), c.loop-i.invariant.length);
  none = All-same (λ list. list.items ≡ []) _ _ c.in_ok-push.ensures.items
      (All-push (λ list. list.items ≡ []) c.loop-i.lists.items c.new.result c.loop-i.invariant.none c.new.ensures.items);
}

pub returns-clause-none : goal.returns-clause-none
returns-clause-none c = c.loop-i.invariant.none
