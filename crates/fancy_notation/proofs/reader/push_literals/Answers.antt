use Rattle.std.proofs.Common.{ap, map, ◌++◌, ◌∙◌, sym}
use Rattle.std.proofs.lemmas.Iterator.{YieldsList-from_chars}
use Rattle.std.proofs.lemmas.Iterator.Consumers.{YieldsList-end}
use Rattle.fancy_meaning.specs.Tree.{Literal}
use Rattle.fancy_expr.specs.Views.{tree_of}
use Rattle.fancy_notation.proofs.MadeTrees.{one_more, map_self}
use Rattle.fancy_expr.proofs.OneChars.{with_part}
use Rattle.fancy_notation.proofs.reader.push_literals.Goals as goal

pub returns : goal.returns
returns c =
    let t = YieldsList-end
    (YieldsList-from_chars c.args.text.now c.utf8.text cc) c.loop-c.yielded _ c.loop-c.yielded_by _ _ c.in-None.is c.next.ensures.steps in (
      c.loop-c.invariant.0
          ∙ ap (λ cs. map tree_of c.args.parts.now.items ++ map (λ ch. Literal ch c.args.casei) cs) (sym (map_self _) ∙ t.0),
      c.loop-c.invariant.1,
    )

pub loop-c-preserved : goal.loop-c-preserved
loop-c-preserved c = (
  one_more c.args.parts.now.items _ _ _
      (λ ch. Literal ch c.args.casei) c.loop-c.yielded c.in-Some.c c.loop-c.invariant.0 c.in_ok-push.ensures.items c.in_ok-literal.ensures.0,
  λ h. with_part _ _ _ c.in_ok-push.ensures.items c.in_ok-literal.ensures.1 (c.loop-c.invariant.1 h),
)
