use Rattle.std.proofs.Common.{◌≡◌, Bool, true, false, not, map, true≢false, refl, sym, ap, ap₂, ◌∙◌}
use mathlib.Core.Bool.{beq}
use Rattle.fancy_expr.specs.Views.{tree_of}
use Rattle.fancy_expr.specs.Walk.{within_of}
use Rattle.fancy_meaning.specs.Batches.{fragment}
use Rattle.fancy_fragments.proofs.FragmentNodes.{same_nodes}
use Rattle.fancy_fragments.proofs.fragment.Fragment.is_of.Goals as goal

not_true : (b : Bool) → not b ≡ true → b ≡ false
not_true true h = sym h
not_true false h = refl

same_bool : (a b : Bool) → beq a b ≡ true → a ≡ b
same_bool true true h = refl
same_bool true false h = absurd (true≢false (sym h))
same_bool false true h = absurd (true≢false (sym h))
same_bool false false h = refl

pub returns-then-begin_at : goal.returns-then-begin_at
returns-then-begin_at c = λ h.
    let f = c.args.self.now in
    let is = c.args.infos.now in
    let same = sym (ap (map tree_of) c.deref.ensures.value) ∙ c.exprs_differ.ensures (not_true c.exprs_differ.result h) in
    let nodes = same_nodes is c.requires f.exprs.items same f.first_group (within_of f.within) (c.begin_at.ensures c.if-begin_at.true) in
    ap₂ (λ es b. fragment b es) nodes (same_bool f.unicode c.args.unicode c.if-self-unicode.true)
