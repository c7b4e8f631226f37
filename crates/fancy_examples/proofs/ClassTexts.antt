-- Class texts that have a pattern, and texts that have none, which `compile` refuses. Without `unicode` a class does not
-- compute.
use Rattle.std.specs.Prelude.{◌≡◌, true, false, [], ◌∷◌, Some, codes, refl, length}
use Rattle.fancy_meaning.specs.Tree.{KeepOut}
use Rattle.fancy_meaning.specs.Chars.{is_class}
use Rattle.fancy_meaning.specs.Layout.{layout}
use Rattle.fancy_meaning.specs.Instr.{End, Class, Codepoint}
use Rattle.fancy_meaning.specs.AnalysisRefusals.{InnerError}
use Rattle.fancy_meaning.specs.CompileRefusals.{CompileRefuses, refused_node, root, part, there, here, no_class}
use Rattle.fancy_examples.proofs.Notation.{Answered, Lays, Undelegated, plain, explicit, from, code, lit, cat, rep, set, iset, row}
use Rattle.regex.proofs.OnLiterals.{regex_on_literals}

range_out_of_order : is_class true (codes "[z-a]") false ≡ false
unfolding row regex_on_literals
range_out_of_order = refl

class_that_does_not_end : is_class true (codes "[a") false ≡ false
unfolding row regex_on_literals
class_that_does_not_end = refl

two_classes : is_class true (codes "a)(b") false ≡ true
unfolding row regex_on_literals
two_classes = refl

range : is_class true (codes "[a-c]") false ≡ true
unfolding row regex_on_literals
range = refl

folded_range : is_class true (codes "[a-c]") true ≡ true
unfolding row regex_on_literals
folded_range = refl

out_of_order_is_refused : CompileRefuses (plain (set "[z-a]")) (length (layout (plain (set "[z-a]"))).body) (InnerError (codes "[z-a]"))
unfolding row regex_on_literals
out_of_order_is_refused = refused_node root (no_class refl)

folded_is_refused : CompileRefuses (plain (cat (KeepOut ∷ iset "[a" ∷ [])))
    (length (layout (plain (cat (KeepOut ∷ iset "[a" ∷ [])))).body) (InnerError (codes "[a"))
unfolding row regex_on_literals
folded_is_refused = refused_node (part root (there here)) (no_class refl)

refused_class_is_not_written : Undelegated (explicit (cat (set "[z-a]" ∷ lit "a" ∷ []))) (code "a" ∷ End ∷ [])
unfolding row regex_on_literals
refused_class_is_not_written = refl

class_is_written : Undelegated (explicit (cat (set "[a-c]" ∷ lit "a" ∷ []))) (Class (Codepoint (codes "[a-c]") false true) ∷ code "a" ∷ End ∷ [])
unfolding row regex_on_literals
class_is_written = refl

one_class_is_no_delegate : Lays (explicit (set "[a-c]")) (Class (Codepoint (codes "[a-c]") false true) ∷ End ∷ [])
unfolding row regex_on_literals
one_class_is_no_delegate = refl

class_that_is_never_entered : Answered (plain (rep 0 0 (set "[a"))) [] (from 0) (Some (0 ∷ 0 ∷ []))
unfolding row
class_that_is_never_entered = (refl, refl, refl)
