use Rattle.std.proofs.Common.{[], ◌∷◌, length, refl, sym, ap, ◌∙◌, arith}
use Rattle.std.proofs.lemmas.List.{nil_from_length}
use Rattle.fancy_tokens.specs.declared.lexing.ClassPlace.{ClassPlace}
use Rattle.fancy_tokens.specs.declared.lexing.Lexing.{Lexing}
use Rattle.fancy_pattern.specs.Items.{lone_found}
use Rattle.fancy_pattern.specs.Lexing.{State, misplaced}
use Rattle.fancy_pattern.specs.LexerViews.{state_of}
use Rattle.fancy_tokens.specs.Tokens.{Close, placed}
use Rattle.fancy_pattern.proofs.Lexed.{took_token, broke_off}
use Rattle.fancy_pattern.proofs.lexer.Lexer.pass_closing.Goals as goal

pub returns-in_ok-push-in-Some-clause-steps : goal.returns-in_ok-push-in-Some-clause-steps
returns-in_ok-push-in-Some-clause-steps c =
    let pushed = c.in_ok-push-in-Some.ensures in
    let old = state_of c.args.self.now in
    let left = length c.args.self.now.rest.now in
    let behind : State → ClassPlace → Lexing = λ s k. record { flags = c.in-Some.flags; opened = s.now.opened; class = k } in
    let next : State = record { now = behind (state_of c.push.new.self) c.no_class-self.result; outer = c.push.new.self.outer.items } in (
      placed left Close ∷ [],
      pushed.tokens,
      took_token old next c.args.self.now.rest.now c.args.after.now c.args.after.now (lone_found old.now Close) c.pop.new.self.items
          c.requires.token c.requires.found
          (c.in-Some.ensures.items, ap (λ s. behind s c.no_class-self.result) pushed.state ∙ ap (behind old) c.no_class-self.ensures)
          (sym (ap (λ s. s.outer) pushed.state)) refl,
    )

pub returns-in-None-clause-steps : goal.returns-in-None-clause-steps
returns-in-None-clause-steps c =
    let outer = c.args.self.now.outer in
    broke_off c.args.self.now _ c.break_off.new.self c.break_off.result _
    (misplaced c.pop.new.self.items c.requires.token c.requires.found (nil_from_length outer.items (omega (arith, c.in-None.ensures.cases.0, outer.ok.0)), refl)) refl c.break_off.ensures
