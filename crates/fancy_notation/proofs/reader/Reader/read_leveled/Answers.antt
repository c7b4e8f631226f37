use Rattle.std.proofs.Common.{[], ◌∷◌, ◌∙◌, sym, ap, subst, refl}
use Rattle.std.proofs.lemmas.Result.{err_from_is_err_and}
use Rattle.fancy_notation.specs.Misfit.{Number, Level, Shut}
use Rattle.std.proofs.Common.{rules}
use mir.Syntax.{w64}
use Rattle.std.proofs.Math.Facts.{to_z-of_z}
use Rattle.fancy_notation.specs.Words.{number_of, level_of}
use Rattle.fancy_notation.specs.Grammar.{in_word, closing, names_at, named_at, SpellsForm}
use Rattle.fancy_notation.specs.declared.forms.Form.TheVariants as form
use Rattle.fancy_notation.specs.NotationViews.{point_of}
use Rattle.fancy_notation.proofs.Failing.{after_token, fails_token}
use Rattle.fancy_notation.proofs.OneChars.{named_at_chars}
use Rattle.fancy_notation.proofs.reader.Reader.read_leveled.Goals as goal

pub returns-in_err-group : goal.returns-in_err-group
returns-in_err-group c =
    let p = err_from_is_err_and c.from_residual.result c.from_residual.ensures.1 in
    rw (p.1, p.2) (fails_token (in_word number_of) Number (λ u. []) (λ g t. refl) (Level ∷ Shut ∷ []) c.args.self.now _ c.in_err-group.ensures)

pub returns-in_err-level : goal.returns-in_err-level
returns-in_err-level c =
    let p = err_from_is_err_and c.from_residual-in_err-level.result c.from_residual-in_err-level.ensures.1 in
    rw (p.1, p.2) (after_token Number (λ u. []) (λ g t. refl) (Level ∷ Shut ∷ []) c.args.self.now c.read_number.new.self _ c.in_ok-group.ensures
    (fails_token (in_word level_of) Level (λ u. []) (λ g t. refl) (Shut ∷ []) c.read_number.new.self _ c.in_err-level.ensures))

pub returns-in_err-read_close : goal.returns-in_err-read_close
returns-in_err-read_close c =
    let p = err_from_is_err_and c.from_residual-in_err-read_close.result c.from_residual-in_err-read_close.ensures.1 in
    rw (p.1, p.2) (after_token Number (λ u. []) (λ g t. refl) (Level ∷ Shut ∷ []) c.args.self.now c.read_number.new.self _ c.in_ok-group.ensures
    (after_token Level (λ u. []) (λ g t. refl) (Shut ∷ []) c.read_number.new.self c.read_level.new.self _ c.in_ok-level.ensures
    (fails_token closing Shut (λ u. []) (λ g t. refl) [] c.read_level.new.self _ c.in_err-read_close.ensures)))

pub returns : goal.returns
returns c = (
  subst (SpellsForm (form.Leveled c.args.leveled) (point_of c.args.self.now) (point_of c.read_close.new.self))
      (sym (c.named_at_level.ensures ∙ ap (named_at c.args.leveled c.in_ok-group.group) (to_z-of_z {w = w64} (search rules))))
      (names_at c.in_ok-group.ensures.0 c.in_ok-level.ensures.0 c.in_ok-read_close.ensures.0),
  c.in_ok-read_close.ensures.1 ∙ c.in_ok-level.ensures.1 ∙ c.in_ok-group.ensures.1,
  named_at_chars c.named_at_level.result _ _ _ c.named_at_level.ensures,
)
