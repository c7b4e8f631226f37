use Rattle.std.proofs.Common.{◌≡◌, ◌++◌, string_bytes, refl, subst}
use Rattle.fancy_replace.specs.Reading.{expansion}
use Rattle.fancy_regex.specs.Found.{captures_text, numbers_in}
use Rattle.fancy_regex.specs.Names.{names_in}
use Rattle.fancy_regex.proofs.found.Captures.expand.Goals as goal

pub returns : goal.returns
returns c =
    let self = c.args.self.now in
    let text = string_bytes c.replace_append.new.out in
    let before = string_bytes c.args.out.now in
    subst (λ names. text ≡ before ++ expansion (names_in names) c.args.text.now (captures_text self) (numbers_in self)) c.deref-2.ensures
    (subst (λ write. text ≡ before ++ write (captures_text self) (numbers_in self)) c.in_ok-template.ensures.ok
    (c.in_ok-replace_append.ensures 0 before refl))
