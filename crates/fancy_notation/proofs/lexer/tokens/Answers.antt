use Rattle.std.proofs.Common.{◌+◌, length, subst, sym, arith}
use Rattle.std.proofs.lemmas.Iterator.{YieldsList-from_chars}
use Rattle.std.proofs.lemmas.Iterator.Consumers.{YieldsList-turn, YieldsList-end}
use Rattle.std.proofs.lemmas.List.{length_push}
use Rattle.fancy_notation.proofs.Lexed.{Lexed, lexed_begin, lexed_fits, lexed_next, lexed_done}
use Rattle.fancy_notation.proofs.lexer.tokens.Goals as goal

pub loop-c-init : goal.loop-c-init
loop-c-init c = lexed_begin c.args.text.now c.new-lexer.result c.utf8.text c.new-lexer.ensures.state c.new-lexer.ensures.tokens

pub overflow_add-at : goal.overflow_add-at
overflow_add-at c =
    let t = YieldsList-turn
    (YieldsList-from_chars c.args.text.now c.utf8.text cc) c.loop-c.yielded _ c.loop-c.yielded_by _ _ c.in-Some.c c.in-Some.is c.next.ensures.steps in
    let h = lexed_fits c.args.text.now c.loop-c.lexer c.loop-c.at (length c.loop-c.yielded) c.in-Some.c c.loop-c.invariant t in
    omega (arith, h, c.len_utf8-at.ensures.value)

pub loop-c-preserved : goal.loop-c-preserved
loop-c-preserved c =
    let t = YieldsList-turn
    (YieldsList-from_chars c.args.text.now c.utf8.text cc) c.loop-c.yielded _ c.loop-c.yielded_by _ _ c.in-Some.c c.in-Some.is c.next.ensures.steps in
    subst (λ n. Lexed c.args.text.now c.take.new.self (c.loop-c.at + c.len_utf8-at.result) n) (sym (length_push c.loop-c.yielded c.in-Some.c))
    (subst (λ w. Lexed c.args.text.now c.take.new.self (c.loop-c.at + w) (length c.loop-c.yielded + 1)) (sym c.len_utf8-at.ensures.value)
    (lexed_next c.args.text.now c.loop-c.lexer c.take.new.self c.loop-c.at (length c.loop-c.yielded) c.in-Some.c c.loop-c.invariant t c.in_ok-take.ensures))

pub returns : goal.returns
returns c =
    let t = YieldsList-end
    (YieldsList-from_chars c.args.text.now c.utf8.text cc) c.loop-c.yielded _ c.loop-c.yielded_by _ _ c.in-None.is c.next.ensures.steps in
    lexed_done c.args.text.now c.loop-c.lexer c.end.new.self c.loop-c.at (length c.loop-c.yielded) c.loop-c.invariant t.1 c.in_ok-end.ensures
