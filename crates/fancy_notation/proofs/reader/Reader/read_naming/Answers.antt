use Rattle.std.proofs.Common.{[], ◌∷◌, ◌∙◌, sym, subst, refl}
use Rattle.std.proofs.lemmas.Result.{err_from_is_err_and}
use Rattle.fancy_notation.specs.Misfit.{Number, Shut}
use Rattle.fancy_notation.specs.Words.{number_of}
use Rattle.fancy_notation.specs.Grammar.{in_word, closing, names, SpellsForm}
use Rattle.fancy_notation.specs.declared.forms.Form.TheVariants as form
use Rattle.fancy_notation.specs.NotationViews.{point_of}
use Rattle.fancy_notation.proofs.Failing.{fails_token, after_token}
use Rattle.fancy_notation.proofs.OneChars.{named_chars}
use Rattle.fancy_notation.proofs.reader.Reader.read_naming.Goals as goal

pub returns : goal.returns
returns c = (
  subst (SpellsForm (form.Naming c.args.naming) (point_of c.args.self.now) (point_of c.read_close.new.self)) (sym c.named.ensures)
      (names c.in_ok-group.ensures.0 c.in_ok-read_close.ensures.0),
  c.in_ok-read_close.ensures.1 ∙ c.in_ok-group.ensures.1,
  named_chars c.named.result _ _ c.named.ensures,
)

pub returns-in_err-group : goal.returns-in_err-group
returns-in_err-group c =
    let p = err_from_is_err_and c.from_residual.result c.from_residual.ensures.1 in
    rw (p.1, p.2) (fails_token (in_word number_of) Number (λ u. []) (λ g t. refl) (Shut ∷ []) c.args.self.now _ c.in_err-group.ensures)

pub returns-in_err-read_close : goal.returns-in_err-read_close
returns-in_err-read_close c =
    let p = err_from_is_err_and c.from_residual-in_err-read_close.result c.from_residual-in_err-read_close.ensures.1 in
    rw (p.1, p.2) (after_token Number (λ u. []) (λ g t. refl) (Shut ∷ []) c.args.self.now c.read_number.new.self _ c.in_ok-group.ensures
    (fails_token closing Shut (λ u. []) (λ g t. refl) [] c.read_number.new.self _ c.in_err-read_close.ensures))
