-- What is said of an assertion of the code, by what it is.
use Rattle.std.proofs.Common.{◌≡◌, Bool, sym, subst}
use Rattle.regex_hir.specs.declared.look.Look.{Look}
use Rattle.fancy_expr.specs.declared.expr.Assertion as code
use Rattle.fancy_expr.specs.Views.{assertion_of}
use Rattle.fancy_agreement.specs.First.{IsSameLook}

pub told : (u : Bool) (a b : code.Assertion) (l m : Look) → a ≡ b → l ≡ m → IsSameLook u (assertion_of b) m → IsSameLook u (assertion_of a) l
told u a b l m is are h = subst (λ k. IsSameLook u (assertion_of a) k) (sym are) (subst (λ k. IsSameLook u (assertion_of k) m) (sym is) h)
