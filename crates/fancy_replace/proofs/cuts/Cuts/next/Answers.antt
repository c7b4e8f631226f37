use Rattle.std.proofs.Common.{◌≡◌, ◌≤◌, IfErr, IfSome, true, true≢false, map, Some, refl, sym, ap, ◌∙◌, subst, slice_range}
use Rattle.fancy_laws.proofs.Characters.{cut_of_place}
use Rattle.fancy_meaning.specs.Places.{is_place}
use Rattle.fancy_steps.specs.Outcomes.{first_pair}
use Rattle.fancy_matches.specs.Matchers.{GivesCaptures, IsNoLimitWhereEasy, StaysInStep, left_of, cursor_of}
use Rattle.fancy_matches.proofs.Stepping.{of_same}
use Rattle.fancy_replace.specs.Pieces.{take_limit}
use Rattle.fancy_replace.specs.Steps.{AreAhead, all_left}
use Rattle.fancy_replace.proofs.Cutting.{fails, next_begins, next_comes, next_ends_at_place, next_is, next_starts_at_place, next_text, no_cuts, none_ahead, rest_ahead}
use Rattle.fancy_replace.proofs.cuts.Cuts.next.Goals as goal

pub range-piece-requires-clause-start_le_end : goal.range-piece-requires-clause-start_le_end
range-piece-requires-clause-start_le_end c =
    let s = c.args.self.now in
    let was = c.in-Some-Ok.is ∙ ap Some c.in-Some-Ok.field-0-is in
    subst (λ n. s.from ≤ n) (sym (c.start.ensures ∙ ap (λ p. p.0) c.whole-whole.ensures.span))
    (next_begins c.args.matcher.now s c.requires c.next_captures.result (cursor_of c.next_captures.new.cursor) c.next_captures.ensures.list
    c.in-Some-Ok.captures was)

pub range-piece-requires-clause-start_boundary : goal.range-piece-requires-clause-start_boundary
range-piece-requires-clause-start_boundary c =
    λ _. cut_of_place c.args.self.now.text.now c.args.self.now.from c.requires.place

pub range-piece-requires-clause-end_boundary : goal.range-piece-requires-clause-end_boundary
range-piece-requires-clause-end_boundary c =
    let s = c.args.self.now in
    let was = c.in-Some-Ok.is ∙ ap Some c.in-Some-Ok.field-0-is in
    cut_of_place s.text.now c.start.result
    (subst (λ n. is_place s.text.now n ≡ true) (sym (c.start.ensures ∙ ap (λ p. p.0) c.whole-whole.ensures.span))
    (next_starts_at_place c.args.matcher.now s c.requires c.next_captures.result (cursor_of c.next_captures.new.cursor) c.next_captures.ensures.list
    c.in-Some-Ok.captures was))

pub returns-in-Some-Err-clause-next : goal.returns-in-Some-Err-clause-next
returns-in-Some-Err-clause-next c =
    let was = c.in-Some-Err.is ∙ ap Some c.in-Some-Err.field-0-is in
    record {
      steps = λ i o h. (
        λ e. true≢false (sym (c.is_spent.ensures.1 e) ∙ c.if-is_spent.false),
        fails c.args.matcher.now c.args.self.now c.requires c.next_captures.result (cursor_of c.next_captures.new.cursor)
            c.next_captures.ensures.list c.in-Some-Err.error was i o h,
      );
      easy =
          subst (λ item. IfSome item (λ found. IfErr found (IsNoLimitWhereEasy c.args.matcher.now c.args.self.now.text.now))) was
          c.next_captures.ensures.easy;
      within = refl;
      same = c.next_captures.ensures.same;
      further = tt;
      stays = subst (λ item. StaysInStep item c.next_captures.new.self) was c.next_captures.ensures.stays;
      spent = λ e. absurd (true≢false (sym (c.is_spent.ensures.1 e) ∙ c.if-is_spent.false));
    }

pub returns-in-Some-Err-clause-ahead : goal.returns-in-Some-Err-clause-ahead
returns-in-Some-Err-clause-ahead c =
    let r = c.args.matcher.now in
    let was = c.in-Some-Err.is ∙ ap Some c.in-Some-Err.field-0-is in
    record {
      place = c.requires.place;
      spans = λ i o h.
          none_ahead r c.args.self.now c.requires c.next_captures.result (cursor_of c.next_captures.new.cursor) c.next_captures.ensures.list
          c.in-Some-Err.error was i o
          (of_same c.next_captures.new.self r i c.args.self.now.text.now o (sym c.next_captures.ensures.same.0, sym c.next_captures.ensures.same.1) h);
    }

pub returns-in-Some-Ok-clause-next : goal.returns-in-Some-Ok-clause-next
returns-in-Some-Ok-clause-next c =
    let r = c.args.matcher.now in
    let s = c.args.self.now in
    let to = cursor_of c.next_captures.new.cursor in
    let was = c.in-Some-Ok.is ∙ ap Some c.in-Some-Ok.field-0-is in
    let span = c.whole-whole.ensures.span in
    record {
      steps = λ i o h. record {
        within_limit = λ e. true≢false (sym (c.is_spent.ensures.1 e) ∙ c.if-is_spent.false);
        found = next_is r s c.requires c.next_captures.result to c.next_captures.ensures.list c.in-Some-Ok.captures was i o h;
        comes = next_comes r s c.requires c.next_captures.result to c.next_captures.ensures.list c.in-Some-Ok.captures was i o h;
        text = next_text r s c.requires c.next_captures.result to c.next_captures.ensures.list c.in-Some-Ok.captures was i o h;
        piece = c.range-piece.ensures.value ∙ ap (λ n. slice_range s.text.now s.from n) (c.start.ensures ∙ ap (λ p. p.0) span);
        from = c.end-self.ensures ∙ ap (λ p. p.1) span;
        limit = c.one_less-self.ensures;
      };
      easy = tt;
      within = refl;
      same = c.next_captures.ensures.same;
      further = c.in-Some-Ok.ensures.further;
      stays = subst (λ item. StaysInStep item c.next_captures.new.self) was c.next_captures.ensures.stays;
      spent = λ e. absurd (true≢false (sym (c.is_spent.ensures.1 e) ∙ c.if-is_spent.false));
    }

pub returns-in-Some-Ok-clause-ahead : goal.returns-in-Some-Ok-clause-ahead
returns-in-Some-Ok-clause-ahead c =
    let r = c.args.matcher.now in
    let s = c.args.self.now in
    let to = cursor_of c.next_captures.new.cursor in
    let was = c.in-Some-Ok.is ∙ ap Some c.in-Some-Ok.field-0-is in
    let ends = c.end-self.ensures ∙ ap (λ p. p.1) c.whole-whole.ensures.span in
    record {
      place =
          subst (λ n. is_place s.text.now n ≡ true) (sym ends)
          (next_ends_at_place r s c.requires c.next_captures.result to c.next_captures.ensures.list c.in-Some-Ok.captures was);
      spans = λ i o h.
          subst (λ n. AreAhead s.text.now n (map first_pair (left_of i s.text.now o to))) (sym ends)
          (rest_ahead r s c.requires c.next_captures.result to c.next_captures.ensures.list c.in-Some-Ok.captures was i o
          (of_same c.next_captures.new.self r i c.args.self.now.text.now o (sym c.next_captures.ensures.same.0, sym c.next_captures.ensures.same.1) h));
    }

pub returns-then-is_spent-clause-next : goal.returns-then-is_spent-clause-next
returns-then-is_spent-clause-next c =
    let s = c.args.self.now in
    let none = c.is_spent.ensures.0 c.if-is_spent.true in
    record {
      steps = λ i o h. (ap (λ limit. take_limit limit (all_left i o s)) none, refl);
      easy = tt;
      within = refl;
      same = (refl, refl);
      further = tt;
      stays = λ some. absurd (some none);
      spent = λ _. refl;
    }

pub returns-in-None-clause-next : goal.returns-in-None-clause-next
returns-in-None-clause-next c =
    let s = c.args.self.now in
    record {
      steps = λ i o h. (
        no_cuts i o s
            (subst (λ x. GivesCaptures i s.text.now o (cursor_of s.cursor) x (cursor_of c.next_captures.new.cursor)) c.in-None.is
            (c.next_captures.ensures.list i o h)).0,
        refl,
      );
      easy = tt;
      within = refl;
      same = c.next_captures.ensures.same;
      further = tt;
      stays = λ _. subst (λ item. StaysInStep item c.next_captures.new.self) c.in-None.is c.next_captures.ensures.stays;
      spent = λ e. absurd (true≢false (sym (c.is_spent.ensures.1 e) ∙ c.if-is_spent.false));
    }
