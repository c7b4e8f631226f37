use Rattle.std.proofs.Common.{Some, Err, inl, refl, ap, ◌∙◌, sym, subst}
use Rattle.fancy_replace.specs.Splits as parts
use Rattle.fancy_regex.proofs.Replies.{told_none}
use Rattle.fancy_regex.proofs.regexes.Regex.next_piece.Goals as goal

pub returns-in-None-clause-gives : goal.returns-in-None-clause-gives
returns-in-None-clause-gives c = record {
  gives =
      subst (λ item. parts.GivesPiece (λ piece. piece.now) c.args.self.now.engine c.args.pieces.now item c.next.new.matcher c.next.new.self)
      c.in-None.is c.next.ensures.gives;
  same = record { engine = c.next.ensures.gives.same; names = refl; pattern = refl; options = refl };
  limits = told_none c.args.self.now.engine c.next.new.matcher (subst (λ item. parts.StaysInPiece c.args.self.now.engine item c.next.new.matcher) c.in-None.is c.next.ensures.gives.stays);
}

pub returns-in-Some-Ok-clause-gives : goal.returns-in-Some-Ok-clause-gives
returns-in-Some-Ok-clause-gives c = record {
  gives =
      subst (λ item. parts.GivesPiece (λ piece. piece.now) c.args.self.now.engine c.args.pieces.now item c.next.new.matcher c.next.new.self)
      (c.in-Some-Ok.is ∙ ap Some c.in-Some-Ok.field-0-is) c.next.ensures.gives;
  same = record { engine = c.next.ensures.gives.same; names = refl; pattern = refl; options = refl };
  limits = told_none c.args.self.now.engine c.next.new.matcher (subst (λ item. parts.StaysInPiece c.args.self.now.engine item c.next.new.matcher) (c.in-Some-Ok.is ∙ ap Some c.in-Some-Ok.field-0-is) c.next.ensures.gives.stays);
}

pub returns-in-Some-Err-clause-gives : goal.returns-in-Some-Err-clause-gives
returns-in-Some-Err-clause-gives c = record {
  gives =
      subst (λ e. parts.GivesPiece (λ piece. piece.now) c.args.self.now.engine c.args.pieces.now (Some (Err e)) c.next.new.matcher c.next.new.self)
      (sym c.told.ensures.engine)
      (subst (λ item. parts.GivesPiece (λ piece. piece.now) c.args.self.now.engine c.args.pieces.now item c.next.new.matcher c.next.new.self)
      (c.in-Some-Err.is ∙ ap Some c.in-Some-Err.field-0-is) c.next.ensures.gives);
  same = record { engine = c.next.ensures.gives.same; names = refl; pattern = refl; options = refl };
  limits = inl (c.told.ensures.limit (subst (λ item. parts.StaysInPiece c.args.self.now.engine item c.next.new.matcher) (c.in-Some-Err.is ∙ ap Some c.in-Some-Err.field-0-is) c.next.ensures.gives.stays));
}
