use Rattle.std.proofs.Common.{[], refl, sym, ◌∙◌, subst, append-nil, eqb-true, length}
use Rattle.std.proofs.lemmas.List.{nil_from_length}
use Rattle.fancy_pattern.specs.Lexing.{Lexes, ended}
use Rattle.fancy_pattern.specs.LexerViews.{state_of, placed_in}
use Rattle.fancy_pattern.proofs.Lexed.{took_gap}
use Rattle.fancy_pattern.proofs.lexer.Lexer.next_other.Goals as goal

pub returns-then-is_empty-clause-steps : goal.returns-then-is_empty-clause-steps
returns-then-is_empty-clause-steps c = (
  [],
  sym (append-nil (placed_in c.args.self.now)),
  subst (λ t. Lexes (state_of c.args.self.now) t [])
      (sym (nil_from_length c.args.self.now.rest.now (eqb-true (length c.args.self.now.rest.now) 0 (sym c.is_empty.ensures ∙ c.if-is_empty.true))))
      (ended c.if-self-eq0.true),
)

pub returns-in-Some-clause-steps : goal.returns-in-Some-clause-steps
returns-in-Some-clause-steps c = (
  [],
  sym (append-nil (placed_in c.args.self.now)),
  took_gap (state_of c.args.self.now) (state_of c.args.self.now) c.args.self.now.rest.now c.in-Some.after.now c.in-Some.after.now
      c.if-self-eq0.true (sym c.in-Some.ensures.value) refl refl,
)
