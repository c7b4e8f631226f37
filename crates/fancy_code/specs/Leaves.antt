-- What writing a node does that is written by itself.
use Rattle.std.specs.Prelude.{◌≡◌, ℕ, Bool, true, [], ◌∷◌}
use Rattle.fancy_meaning.specs.Tree as plain
use Rattle.fancy_meaning.specs.Tree.{Tree, Trees}
use Rattle.fancy_meaning.specs.Code.{Code}
use Rattle.fancy_expr.specs.declared.expr.Expr.{Expr}
use Rattle.fancy_info.specs.Infos.{node_over}
use Rattle.fancy_code.specs.Drafts.{Draft, Writes, written_code}
use Rattle.fancy_code.specs.Sites.{Site, HasRoom}

-- the node, which is written by itself
abbrev pub WritesTree : Tree → Draft → Draft → Type 0
WritesTree e s t =
    (p : Site) (call : ℕ → Bool → Code) (at_start in_hard : Bool)
    → HasRoom p
    → Writes p (written_code p call e at_start in_hard) (e ∷ []) s t

-- the same, by a plan with this option
abbrev pub WritesTreeBy : (unicode : Bool) → Tree → Draft → Draft → Type 0
WritesTreeBy unicode e s t =
    (p : Site) (call : ℕ → Bool → Code) (at_start in_hard : Bool)
    → HasRoom p
    → p.unicode ≡ unicode
    → Writes p (written_code p call e at_start in_hard) (e ∷ []) s t

-- a node of this expression, over any children
abbrev pub WritesLeaf : (unicode : Bool) → Expr → Bool → Draft → Draft → Type 0
WritesLeaf unicode e at_start s t =
    (p : Site) (call : ℕ → Bool → Code) (in_hard : Bool) (start : ℕ) (w : plain.Within) (es : Trees)
    → HasRoom p
    → p.unicode ≡ unicode
    → Writes p (written_code p call (node_over e start w es) at_start in_hard) (node_over e start w es ∷ []) s t

-- the assertion of a node, which may stand in a look-around
abbrev pub assertion_inside : (in_look : Bool) → plain.Assertion → plain.Assertion
assertion_inside true (plain.StartLineOniguruma crlf) = plain.StartLine crlf
assertion_inside in_look a = a
