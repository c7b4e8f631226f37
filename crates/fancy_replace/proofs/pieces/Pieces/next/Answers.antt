use Rattle.std.proofs.Common.{[], ◌∷◌, Ok, inl, refl, sym, ap, ◌∙◌, subst, true≢false, if◌then◌else◌}
use Rattle.fancy_matches.specs.Matchers.{numbers_in}
use Rattle.fancy_replace.specs.Pieces.{pieces_between}
use Rattle.fancy_replace.specs.Steps.{StaysInCut, StepsToCut, cuts_left}
use Rattle.fancy_replace.proofs.Cutting.{piece_last, piece_next, stays_last}
use Rattle.fancy_replace.proofs.pieces.Pieces.next.Goals as goal

pub returns-in-Ok-Some-clause-gives : goal.returns-in-Ok-Some-clause-gives
returns-in-Ok-Some-clause-gives c =
    let s = c.args.self.now.cuts in
    let t = c.next.new.self in
    let cut = c.in-Ok-Some.cut in
    let was = c.in-Ok-Some.is ∙ ap Ok c.in-Ok-Some.field-0-is in
    record {
      steps = λ i o h.
          let next = subst (λ x. StepsToCut i o s x t) was (c.next.ensures.next.steps i o h) in (
            ap (λ b. if b then [] else pieces_between s.text.now s.from (cuts_left i o s)) c.if-self.false
                ∙ piece_next i o s cut t c.next.ensures.next.within next
                ∙ ap (λ b. cut.piece.now ∷ (if b then [] else pieces_between t.text.now t.from (cuts_left i o t))) (sym c.if-self.false),
            λ goes_on. (numbers_in cut.captures, next.comes),
          );
      easy = tt;
      within = c.next.ensures.next.within;
      same = c.next.ensures.next.same;
      stays = inl (subst (λ x. StaysInCut s x c.next.new.matcher) was c.next.ensures.next.stays);
    }

pub returns-in-Ok-None-clause-gives : goal.returns-in-Ok-None-clause-gives
returns-in-Ok-None-clause-gives c =
    let s = c.args.self.now.cuts in
    let t = c.next.new.self in
    let was = c.in-Ok-None.is ∙ ap Ok c.in-Ok-None.field-0-is in
    record {
      steps = λ i o h. (
        ap (λ b. if b then [] else pieces_between s.text.now s.from (cuts_left i o s)) c.if-self.false
            ∙ piece_last i o s t c.next.ensures.next.within (subst (λ x. StepsToCut i o s x t) was (c.next.ensures.next.steps i o h))
            ∙ ap (λ piece. piece ∷ []) (sym c.rest.ensures),
        λ goes_on. absurd (true≢false goes_on),
      );
      easy = tt;
      within = c.next.ensures.next.within;
      same = c.next.ensures.next.same;
      stays =
          stays_last s c.args.matcher.now c.next.new.matcher (subst (λ x. StaysInCut s x c.next.new.matcher) was c.next.ensures.next.stays)
          c.next.ensures.next.spent;
    }

pub returns-in-Err-clause-gives : goal.returns-in-Err-clause-gives
returns-in-Err-clause-gives c = record {
  steps = λ i o h. ((c.in-Err.ensures.next.steps i o h).1, refl);
  easy = c.in-Err.ensures.next.easy;
  within = c.in-Err.ensures.next.within;
  same = c.in-Err.ensures.next.same;
  stays = c.in-Err.ensures.next.stays;
}
