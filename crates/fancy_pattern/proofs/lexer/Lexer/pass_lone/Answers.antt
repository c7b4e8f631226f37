use Rattle.std.proofs.Common.{[], ◌∷◌, length, refl, sym, ap}
use Rattle.fancy_tokens.specs.declared.lexing.Lexing.{Lexing}
use Rattle.fancy_pattern.specs.Lone.{lone_in}
use Rattle.fancy_pattern.specs.Lexing.{State}
use Rattle.fancy_pattern.specs.LexerViews.{state_of}
use Rattle.fancy_tokens.specs.PatternViews.{token_of}
use Rattle.fancy_tokens.specs.Tokens.{placed}
use Rattle.fancy_pattern.proofs.Lexed.{took_token, goes_on}
use Rattle.fancy_pattern.proofs.lexer.Lexer.pass_lone.Goals as goal

pub returns-clause-steps : goal.returns-clause-steps
returns-clause-steps c =
    let pushed = c.in_ok-push.ensures in
    let old = state_of c.args.self.now in
    let t = token_of c.args.token in
    let left = length c.args.self.now.rest.now in
    let behind : Lexing → Lexing = λ n. record { flags = n.flags; opened = n.opened; class = c.args.class } in
    let next : State = record { now = behind c.push.new.self.now; outer = c.push.new.self.outer.items } in (
      placed left t ∷ [],
      pushed.tokens,
      took_token old next c.args.self.now.rest.now c.args.after.now c.args.after.now (lone_in old.now t c.args.class) old.outer
          c.requires.token c.requires.found (goes_on t old.outer old.now.flags (behind old.now) (behind c.push.new.self.now) left c.requires.lone
          (ap (λ s. behind s.now) pushed.state))
          (sym (ap (λ s. s.outer) pushed.state)) refl,
    )
