use Rattle.std.proofs.Common.{◌≡◌, ◌++◌, ◌∷◌, ◌||◌, nat_le, suc, true, false, map, refl, sym, ap, ◌∙◌, subst}
use Rattle.std.proofs.lemmas.List.{map-append}
use Rattle.fancy_grep.specs.Context.{IsAt, is_shown, numbers_of, shown, shown_of}
use Rattle.fancy_grep.specs.Lines.{lines, line_of, lines_left}
use Rattle.fancy_grep.proofs.LineLaws.{AreCounted, numbered_counts}
use Rattle.fancy_grep.proofs.WalkLaws.{all_shown, at_start, near_by, none_more, one_more}
use Rattle.fancy_grep.proofs.context.with_context.Goals as goal

pub loop-line-init : goal.loop-line-init
loop-line-init c =
    let all = ap lines_left c.into_iter-line-iterator.ensures.into_iter_gives ∙ c.new-line-items.ensures in record {
      next = 1;
      stands = at_start (numbers_of c.args.selected.now) c.requires;
      counted = subst (AreCounted 1) (sym all) (numbered_counts 1 0 (lines c.args.text.now));
      shows = rw (c.new-lines.ensures.items, all) refl;
    }

pub loop-line-preserved-in-Continue-1 : goal.loop-line-preserved-in-Continue-1
loop-line-preserved-in-Continue-1 c =
    let numbers = numbers_of c.args.selected.now in
    let inv = c.loop-line.invariant in
    let line = c.in-Some.line in
    let rest = lines_left c.next.new.self in
    let counted : AreCounted inv.next (line_of line ∷ rest) = subst (AreCounted inv.next) c.in-Some.ensures.steps inv.counted in
    let stands : IsAt numbers line.number c.loop-line.walk = subst (λ n. IsAt numbers n c.loop-line.walk) (sym counted.0) inv.stands in
    let come = c.come_to-is_selected.ensures numbers stands in
    let near : is_shown c.args.context c.args.owed numbers line.number ≡ true =
    ap (λ b. nat_le line.number c.args.owed || b)
    (near_by line.number c.args.context (numbers_of c.come_to-is_selected.new.self.left.now) come.0)
    ∙ sym c.is_shown.ensures ∙ c.if-is_shown.true in
    let here = ap (λ ls. map shown_of c.loop-line.lines.items ++ shown c.args.context c.args.owed numbers ls) (sym c.in-Some.ensures.steps) ∙ inv.shows in record {
      next = suc inv.next;
      stands = subst (λ n. IsAt numbers (suc n) c.come_to-is_selected.new.self) counted.0 come.0;
      counted = counted.1;
      shows =
          ap (λ items. map shown_of items ++ shown c.args.context c.args.owed numbers rest) c.in_ok-push.ensures.items
          ∙ ap (λ items. items ++ shown c.args.context c.args.owed numbers rest) (map-append shown_of c.loop-line.lines.items _)
          ∙ one_more c.args.context c.args.owed numbers (map shown_of c.loop-line.lines.items) (line_of line) rest _ c.come_to-is_selected.result near come.1 here;
    }

pub loop-line-preserved : goal.loop-line-preserved
loop-line-preserved c =
    let numbers = numbers_of c.args.selected.now in
    let inv = c.loop-line.invariant in
    let line = c.in-Some.line in
    let rest = lines_left c.next.new.self in
    let counted : AreCounted inv.next (line_of line ∷ rest) = subst (AreCounted inv.next) c.in-Some.ensures.steps inv.counted in
    let stands : IsAt numbers line.number c.loop-line.walk = subst (λ n. IsAt numbers n c.loop-line.walk) (sym counted.0) inv.stands in
    let come = c.come_to-is_selected.ensures numbers stands in
    let far : is_shown c.args.context c.args.owed numbers line.number ≡ false =
    ap (λ b. nat_le line.number c.args.owed || b)
    (near_by line.number c.args.context (numbers_of c.come_to-is_selected.new.self.left.now) come.0)
    ∙ sym c.is_shown.ensures ∙ c.if-is_shown.false in
    let here = ap (λ ls. map shown_of c.loop-line.lines.items ++ shown c.args.context c.args.owed numbers ls) (sym c.in-Some.ensures.steps) ∙ inv.shows in record {
      next = suc inv.next;
      stands = subst (λ n. IsAt numbers (suc n) c.come_to-is_selected.new.self) counted.0 come.0;
      counted = counted.1;
      shows = none_more c.args.context c.args.owed numbers (map shown_of c.loop-line.lines.items) (line_of line) rest _ far here;
    }

pub returns : goal.returns
returns c =
    all_shown c.args.context c.args.owed (numbers_of c.args.selected.now) (map shown_of c.loop-line.lines.items) _
    (ap (λ ls. map shown_of c.loop-line.lines.items ++ shown c.args.context c.args.owed (numbers_of c.args.selected.now) ls) (sym c.in-None.ensures.steps.0)
    ∙ c.loop-line.invariant.shows)
