use Rattle.std.proofs.Common.{[], ◌∷◌, ◌∙◌, sym, subst, refl}
use Rattle.std.proofs.lemmas.Result.{err_from_is_err_and}
use Rattle.fancy_notation.specs.Misfit.{Class, Shut}
use Rattle.fancy_meaning.specs.Tree.{Delegate}
use Rattle.fancy_notation.specs.Grammar.{class, closing, set, SpellsForm}
use Rattle.fancy_notation.specs.declared.forms.Form.TheVariants as form
use Rattle.fancy_notation.specs.NotationViews.{point_of}
use Rattle.fancy_notation.proofs.Failing.{after_token, fails_token}
use Rattle.fancy_notation.proofs.reader.Reader.read_set.Goals as goal

pub returns-in_err-inner : goal.returns-in_err-inner
returns-in_err-inner c =
    let p = err_from_is_err_and c.from_residual.result c.from_residual.ensures.1 in
    rw (p.1, p.2) (fails_token class Class (λ u. []) (λ g t. refl) (Shut ∷ []) c.args.self.now _ c.in_err-inner.ensures)

pub returns-in_err-read_close : goal.returns-in_err-read_close
returns-in_err-read_close c =
    let p = err_from_is_err_and c.from_residual-in_err-read_close.result c.from_residual-in_err-read_close.ensures.1 in
    rw (p.1, p.2) (after_token Class (λ u. []) (λ g t. refl) (Shut ∷ []) c.args.self.now c.read_class.new.self _ c.in_ok-inner.ensures
    (fails_token closing Shut (λ u. []) (λ g t. refl) [] c.read_class.new.self _ c.in_err-read_close.ensures))

pub returns : goal.returns
returns c = (
  subst (λ s. SpellsForm (form.Set c.args.casei) (point_of c.args.self.now) (point_of c.read_close.new.self) (Delegate s c.args.casei))
      (sym c.in_ok-from_str.ensures.ok) (set c.in_ok-inner.ensures.0 c.in_ok-read_close.ensures.0),
  c.in_ok-read_close.ensures.1 ∙ c.in_ok-inner.ensures.1,
  (tt, tt),
)
