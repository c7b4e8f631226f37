-- Nodes that are fine but for their texts are sound, since a text of the code is UTF-8 and a literal one character.
use Rattle.std.proofs.Common.{ℕ, Bool, List, [], ◌∷◌, map, string_bytes, IsUtf8, refl, sym, subst}
use Rattle.std.proofs.lemmas.Str.{IsUtf8-string_bytes}
use Rattle.fancy_meaning.specs.Tree as plain
use Rattle.fancy_meaning.specs.Tree.{Tree}
use Rattle.fancy_meaning.specs.Nodes.{nodes}
use Rattle.fancy_meaning.specs.WellFormed.{IsFine}
use Rattle.fancy_expr.specs.declared.expr.Expr.{Expr}
use Rattle.fancy_expr.specs.declared.expr.Expr.TheVariants as code
use Rattle.fancy_expr.specs.declared.expr.Absent.{Absent}
use Rattle.fancy_expr.specs.declared.expr.Absent.TheVariants as code_absent
use Rattle.fancy_expr.specs.Views.{tree_of, absent_of}
use Rattle.fancy_expr.specs.Exprs.{exprs}
use Rattle.fancy_expr.specs.Each.{Each}
use Rattle.fancy_expr.specs.Sound.{IsOneChar, IsSoundNode, AllSound}
use Rattle.fancy_expr.proofs.Exprs.{nodes-exprs}
use Rattle.fancy_expr.proofs.SoundNodes.{sound_literal}
use Rattle.fancy_expr.proofs.EachLaws.{each_all}

-- fine, but for what a text is
abbrev pub FineBut : Tree → Type 0
FineBut (plain.Delegate (b ∷ bs) casei) = Unit {0}
FineBut (plain.Literal c casei) = Unit {0}
FineBut e = IsFine e

fine_class : (bytes : List ℕ) (casei : Bool) → IsUtf8 bytes → FineBut (plain.Delegate bytes casei) → IsFine (plain.Delegate bytes casei)
fine_class [] casei u h = h
fine_class (b ∷ bs) casei u h = u

fine_absent : (a : Absent) → IsFine (absent_of a)
fine_absent (code_absent.Repeater' b e) = tt
fine_absent (code_absent.Expression' b a c e) = tt
fine_absent (code_absent.Stopper' b e) = tt
fine_absent code_absent.Clear = tt

fine_expr : (x : Expr) → FineBut (tree_of x) → IsOneChar x → IsFine (tree_of x)
fine_expr (code.Literal val casei) h one = ((sound_literal (code.Literal val casei) val casei 1 refl (sym one)).0 refl).fine
fine_expr (code.Delegate inner casei) h one = fine_class (string_bytes inner) casei (IsUtf8-string_bytes inner) h
fine_expr (code.Absent a) h one = fine_absent a
fine_expr x h one = h

sound_each : (xs : List Expr) → Each FineBut (map tree_of xs) → Each IsOneChar xs → Each IsSoundNode xs
sound_each [] h k = tt
sound_each (x ∷ xs) h k = (record { fine = fine_expr x h.0 k.0; one_char = k.0 }, sound_each xs h.1 k.1)

pub sound_if_fine_but : (e : Expr) → Each FineBut (nodes (tree_of e)) → Each IsOneChar (exprs e) → AllSound e
sound_if_fine_but e fine chars =
    each_all IsSoundNode (exprs e) (sound_each (exprs e) (subst (Each FineBut) (sym (nodes-exprs e)) fine) chars)
