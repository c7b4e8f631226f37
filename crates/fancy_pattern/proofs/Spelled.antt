-- What the parser answers is what the pattern spells.
use Rattle.std.proofs.Common.{◌≡◌, Bool, true, false, List, [], ◌∷◌, length, map, refl, sym, ap, ◌∙◌, subst, arith}
use Rattle.fancy_meaning.specs.Tree.{Tree}
use Rattle.fancy_expr.specs.declared.expr.Expr.{Expr}
use Rattle.fancy_expr.specs.declared.expr.ExprTree.{ExprTree}
use Rattle.fancy_expr.specs.Views.{tree_of}
use Rattle.fancy_tokens.specs.declared.flags.Flags.{Flags}
use Rattle.fancy_pattern.specs.declared.options.ParseOptions.{ParseOptions}
use Rattle.fancy_pattern.specs.declared.reader.Reader.{Reader}
use Rattle.fancy_tokens.specs.declared.tokens.Placed.{Placed as Code}
use Rattle.fancy_pattern.specs.Texts.{Text}
use Rattle.fancy_tokens.specs.Tokens.{Placed}
use Rattle.fancy_pattern.specs.Lexing.{Lexes, at_start}
use Rattle.fancy_pattern.specs.Naming.{named_in}
use Rattle.fancy_pattern.specs.Grammar.{Names, SpellsAlternatives}
use Rattle.fancy_tokens.specs.PatternViews.{placed_of}
use Rattle.fancy_pattern.specs.Reading.{point_of}
use Rattle.fancy_pattern.specs.Described.{IsDescribed}
use Rattle.fancy_pattern.specs.Spelling.{flags_of, ignores, HasTokens, every_group, named_groups, IsSpelled, IsTreeOf}

pub every_token : (options : ParseOptions) (text : Text) (f : Flags) (b : Bool) (ts us : List Placed) → f ≡ flags_of options false →
    Lexes (at_start f) text ts → b ≡ ignores options us → us ≡ ts → b ≡ false → HasTokens options text false ts
every_token options text f b ts us with_flags lexes is same unset =
    every_group (subst (λ g. Lexes (at_start g) text ts) with_flags lexes) (ap (ignores options) (sym same) ∙ sym is ∙ unset)

pub named_tokens : (options : ParseOptions) (text : Text) (f g : Flags) (b : Bool) (every us ts : List Placed) → f ≡ flags_of options false →
    Lexes (at_start f) text every → b ≡ ignores options us → us ≡ every → b ≡ true → g ≡ flags_of options true → Lexes (at_start g) text ts →
    HasTokens options text true ts
named_tokens options text f g b every us ts with_flags lexes is same set again more =
    named_groups (subst (λ h. Lexes (at_start h) text every) with_flags lexes) (ap (ignores options) (sym same) ∙ sym is ∙ set)
    (subst (λ h. Lexes (at_start h) text ts) again more)

none_left : (ts : List Code) → length ts ≡ 0 → map placed_of ts ≡ []
none_left [] h = refl
none_left (t ∷ ts) h = absurd (omega (arith, h))

pub spelled_whole : (names : Names) (ts : List Placed) (old new : Reader) (e : Tree) → names ≡ named_in ts → point_of old ≡ ts →
    SpellsAlternatives names (point_of old) (point_of new) e → length new.rest.now ≡ 0 → IsSpelled ts e
spelled_whole names ts old new e of_them begins s none =
    subst (λ n. SpellsAlternatives n ts [] e) of_them
    (subst (λ x. SpellsAlternatives names x [] e) begins
    (subst (λ y. SpellsAlternatives names (point_of old) y e) (none_left new.rest.now none) s))

pub tree_made : (options : ParseOptions) (text : Text) (ignored : Bool) (ts us : List Placed) (e : Expr) (t : ExprTree) → HasTokens options text ignored ts →
    IsSpelled ts (tree_of e) → t.expr ≡ e → us ≡ ts → IsDescribed ignored us t → IsTreeOf options text t
tree_made options text ignored ts us e t lexed spelled same are described = record {
  spells = record { ignored = ignored; tokens = ts; lexed = lexed; spelled = subst (λ x. IsSpelled ts (tree_of x)) (sym same) spelled };
  described = subst (λ l. IsDescribed ignored l t) are described;
}
