use Rattle.std.proofs.Common.{◌≡◌, ◌≤◌, ℕ, Bool, List, Option, Some, None, IfSome, length, sym, subst}
use Rattle.std.proofs.lemmas.Result.{IfOk-weaker}
use Rattle.fancy_meaning.specs.Chars as chars
use Rattle.fancy_meaning.specs.Machine.{class_test}
use Rattle.fancy_meaning.specs.Moves.{past_char}
use Rattle.fancy_laws.proofs.Moves.{past_char_fits}
use Rattle.fancy_characters.specs.Classes.{class_of}
use Rattle.fancy_nfa.proofs.nfa_state.CharTest.skip_other.Goals as goal

past_within : (text : List ℕ) (test : ℕ → Bool) (i : ℕ) (to : Option ℕ) → to ≡ past_char text test i →
    IfSome to (λ j. j ≤ length text)
past_within text test i None e = tt
past_within text test i (Some j) e = (past_char_fits text test i j (sym e)).1

pub returns-in-Any-clause-small : goal.returns-in-Any-clause-small
returns-in-Any-clause-small c =
    subst (λ text. IfSome c.skip_any.result (λ j. j ≤ length text)) c.as_bytes.ensures.value
    (past_within c.as_bytes.result.now (chars.any_takes c.in-Any.newline c.in-Any.crlf) c.args.ix c.skip_any.result c.skip_any.ensures)

pub returns-in-One-clause-small : goal.returns-in-One-clause-small
returns-in-One-clause-small c =
    subst (λ text. IfSome c.skip_one.result (λ j. j ≤ length text)) c.as_bytes-in-One.ensures.value
    (past_within c.as_bytes-in-One.result.now (chars.literal_takes c.args.unicode c.in-One.c c.in-One.casei) c.args.ix
    c.skip_one.result c.skip_one.ensures)

pub returns-in-Class-clause-small : goal.returns-in-Class-clause-small
returns-in-Class-clause-small c =
    IfOk-weaker c.skip_class.result (λ to. to ≡ past_char c.args.text.now (class_test (class_of c.deref.result.now)) c.args.ix)
    (λ to. IfSome to (λ j. j ≤ length c.args.text.now))
    (past_within c.args.text.now (class_test (class_of c.deref.result.now)) c.args.ix)
    c.skip_class.ensures.ok
