use Rattle.std.proofs.Common.{◌<◌, ◌∙◌, length, slice_get, arith, ap, refl, sym, subst, IsUtf8}
use Rattle.std.proofs.lemmas.Bool.{ltb-true}
use Rattle.std.proofs.lemmas.Option.{slice_get_read}
use Rattle.fancy_meaning.specs.Numbers.{usize_max}
use Rattle.fancy_meaning.specs.Premises.{IsText}
use Rattle.fancy_steps.proofs.machine.Task.is_excluded.Goals as goal

pub returns-in-Some : goal.returns-in-Some
returns-in-Some c = λ yes.
    let text = c.args.self.now.text.now in
    let small : length text < usize_max = omega arith in
    let is_text : IsText text = record { utf8 = subst IsUtf8 c.as_bytes.ensures.value c.as_bytes.ensures.utf8; fits = small } in
    let ix = c.args.ix in
    let bytes = c.as_bytes.result.now in
    let found = c.in-Some.ensures.lookup in
    c.nfa.ensures.none text ix
    (c.excludes.ensures yes text ix is_text c.requires.place
    (ap (λ bytes. slice_get bytes ix) (sym c.as_bytes.ensures.value)
    ∙ slice_get_read bytes (length bytes) ix c.in-Some.byte.now refl (ltb-true ix (length bytes) (sym found.0)) found.1))
