use Rattle.std.proofs.Common.{[], ◌∷◌, ◌∙◌, refl}
use Rattle.std.proofs.lemmas.Result.{err_from_is_err_and}
use Rattle.fancy_notation.specs.Misfit.{VerbName, Shut}
use Rattle.fancy_notation.specs.Words.{verb_of}
use Rattle.fancy_notation.specs.Grammar.{in_word, closing, verb}
use Rattle.fancy_notation.proofs.Failing.{after_token, fails_token}
use Rattle.fancy_notation.proofs.reader.Reader.read_verb_node.Goals as goal

pub returns-in_err-found : goal.returns-in_err-found
returns-in_err-found c =
    let p = err_from_is_err_and c.from_residual.result c.from_residual.ensures.1 in
    rw (p.1, p.2) (fails_token (in_word verb_of) VerbName (λ u. []) (λ g t. refl) (Shut ∷ []) c.args.self.now _ c.in_err-found.ensures)

pub returns-in_err-read_close : goal.returns-in_err-read_close
returns-in_err-read_close c =
    let p = err_from_is_err_and c.from_residual-in_err-read_close.result c.from_residual-in_err-read_close.ensures.1 in
    rw (p.1, p.2) (after_token VerbName (λ u. []) (λ g t. refl) (Shut ∷ []) c.args.self.now c.read_verb.new.self _ c.in_ok-found.ensures
    (fails_token closing Shut (λ u. []) (λ g t. refl) [] c.read_verb.new.self _ c.in_err-read_close.ensures))

pub returns : goal.returns
returns c = (
  verb c.in_ok-found.ensures.0 c.in_ok-read_close.ensures.0,
  c.in_ok-read_close.ensures.1 ∙ c.in_ok-found.ensures.1,
  (tt, tt),
)
