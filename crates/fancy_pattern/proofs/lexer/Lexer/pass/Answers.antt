use Rattle.std.proofs.Common.{[], ◌∷◌, length, refl, sym, ap, subst}
use Rattle.fancy_pattern.specs.Lone.{found_token}
use Rattle.fancy_pattern.specs.Lexing.{State, misplaced}
use Rattle.fancy_tokens.specs.Nesting.{GoesBy}
use Rattle.fancy_pattern.specs.LexerViews.{state_of}
use Rattle.fancy_tokens.specs.PatternViews.{token_of}
use Rattle.fancy_tokens.specs.Tokens.{placed}
use Rattle.fancy_pattern.proofs.Lexed.{took_token, broke_off}
use Rattle.fancy_pattern.proofs.lexer.Lexer.pass.Goals as goal

pub returns-in_ok-push-in-Ok-clause-steps : goal.returns-in_ok-push-in-Ok-clause-steps
returns-in_ok-push-in-Ok-clause-steps c =
    let pushed = c.in_ok-push-in-Ok.ensures in
    let t = token_of c.args.token in
    let old = state_of c.args.self.now in
    let next : State = record { now = c.in-Ok.now; outer = c.push.new.self.outer.items } in
    let left = length c.args.self.now.rest.now in (
      placed left t ∷ [],
      pushed.tokens,
      took_token old next c.args.self.now.rest.now c.args.after.now c.args.after.now (found_token t c.args.behind) c.behind_token.new.outer.items
          c.requires.token c.requires.found
          (subst (λ r. GoesBy t old.outer old.now.flags c.args.behind left r c.behind_token.new.outer.items) c.in-Ok.is c.in_ok-now.ensures)
          (sym (ap (λ s. s.outer) pushed.state)) refl,
    )

pub returns-in-Err-clause-steps : goal.returns-in-Err-clause-steps
returns-in-Err-clause-steps c =
    let old = state_of c.args.self.now in
    let t = token_of c.args.token in
    let left = length c.args.self.now.rest.now in
    broke_off c.args.self.now _ c.break_off.new.self c.break_off.result c.in-Err.fault
    (misplaced c.behind_token.new.outer.items c.requires.token c.requires.found
    (subst (λ r. GoesBy t old.outer old.now.flags c.args.behind left r c.behind_token.new.outer.items) c.in-Err.is c.in_ok-now.ensures))
    refl c.break_off.ensures
