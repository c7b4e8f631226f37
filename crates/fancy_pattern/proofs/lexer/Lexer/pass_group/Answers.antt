use Rattle.std.proofs.Common.{[], ◌∷◌, ◌+◌, None, length, refl, sym, ap, ◌∙◌, subst}
use Rattle.fancy_tokens.specs.declared.lexing.ClassPlace.{ClassPlace}
use Rattle.fancy_tokens.specs.declared.flags.Flags.{Flags}
use Rattle.fancy_tokens.specs.declared.lexing.Lexing.{Lexing}
use Rattle.fancy_pattern.specs.Lone.{next_group}
use Rattle.fancy_pattern.specs.Lexing.{State, misplaced}
use Rattle.fancy_tokens.specs.Nesting.{Enters}
use Rattle.fancy_pattern.specs.LexerViews.{state_of}
use Rattle.fancy_tokens.specs.Tokens.{Open, Group, placed}
use Rattle.fancy_pattern.proofs.Lexed.{took_token, broke_off}
use Rattle.fancy_pattern.proofs.lexer.Lexer.pass_group.Goals as goal

pub returns-in_ok-push-in-Ok-clause-steps : goal.returns-in_ok-push-in-Ok-clause-steps
returns-in_ok-push-in-Ok-clause-steps c =
    let pushed = c.in_ok-push-in-Ok.ensures in
    let old = state_of c.args.self.now in
    let number = old.now.opened + 1 in
    let left = length c.args.self.now.rest.now in
    let behind : Flags → ClassPlace → Lexing = λ f k. record { flags = f; opened = number; class = k } in
    let next : State = record { now = behind c.push.new.self.now.flags c.no_class-self.result; outer = c.push.new.self.outer.items } in (
      placed left (Open (Group number None)) ∷ [],
      pushed.tokens,
      took_token old next c.args.self.now.rest.now c.args.after.now c.args.after.now (next_group old.now) c.enter.new.outer.items
          c.requires.token c.requires.found (
            subst (λ r. Enters old.outer old.now.flags (Group number None) left r c.enter.new.outer.items) c.in-Ok.is c.in_ok-enter.ensures,
            ap (λ s. behind s.now.flags c.no_class-self.result) pushed.state ∙ ap (behind old.now.flags) c.no_class-self.ensures,
          )
          (sym (ap (λ s. s.outer) pushed.state)) refl,
    )

pub returns-in-Err-clause-steps : goal.returns-in-Err-clause-steps
returns-in-Err-clause-steps c =
    let old = state_of c.args.self.now in
    let left = length c.args.self.now.rest.now in
    broke_off c.args.self.now _ c.break_off.new.self c.break_off.result c.in-Err.fault
    (misplaced c.enter.new.outer.items c.requires.token c.requires.found
    (subst (λ r. Enters old.outer old.now.flags (Group (old.now.opened + 1) None) left r c.enter.new.outer.items) c.in-Err.is c.in_ok-enter.ensures))
    refl c.break_off.ensures
