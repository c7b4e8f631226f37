use Rattle.std.proofs.Common.{◌≡◌, ℕ, Bool, true, false, ap, sym, refl, eq-eqb}
use Rattle.std.specs.Char.{to_ascii_lowercase}
use Rattle.ucd_case.specs.CaseFolding.{simple_fold}
use Rattle.fancy_meaning.specs.Chars.{fold_equal, folds_to}
use Rattle.fancy_characters.proofs.folding.folds_to.Goals as goal

same_folds : (unicode : Bool) (a b : ℕ) → a ≡ b → true ≡ folds_to unicode a b
unfolding fold_equal
same_folds true a b same = sym (eq-eqb (simple_fold a) (simple_fold b) (ap simple_fold same))
same_folds false a b same = sym (eq-eqb (to_ascii_lowercase a) (to_ascii_lowercase b) (ap to_ascii_lowercase same))

pub returns-then-a-b : goal.returns-then-a-b
returns-then-a-b c = same_folds c.args.unicode c.args.a c.args.b c.if-a-b.true

pub returns-then-unicode : goal.returns-then-unicode
unfolding fold_equal
returns-then-unicode c = rw (c.if-unicode.true, c.fold_code.ensures, c.fold_code-then-unicode.ensures) refl
