-- The cases of the call that asks for the groups with a name.
use Rattle.std.proofs.Common.{◌≡◌, ℕ, List, [], ◌++◌, Option, None, Some, length, sym, ap, ◌∙◌, subst}
use Rattle.std.specs.Prelude.{IsUtf8}
use Rattle.std.proofs.Math.Seq.{take-nil}
use Rattle.fancy_replace.specs.Reading.{groups_named}
use Rattle.fancy_host.specs.declared.tree.CompiledTree.{CompiledTree}
use Rattle.fancy_host.specs.Hosted.{names_of, over}
use Rattle.fancy_host.specs.Names.{FindsGroups, found}

module _ (name old : List ℕ) (held : Option CompiledTree) where
  pub none_held : held ≡ None → IsUtf8 name → FindsGroups held name old 0 old
  none_held nothing utf8 =
      let same : over [] old ≡ old = ap (λ front. front ++ old) (take-nil (length old)) in
      subst (λ m. FindsGroups m name old 0 old) (sym nothing) (subst (FindsGroups None name old 0) same (found utf8))

  pub groups_written : (s taken : CompiledTree) (read numbers new : List ℕ) → held ≡ Some s → taken ≡ s → read ≡ name → IsUtf8 name →
      numbers ≡ groups_named (names_of taken) read → new ≡ over numbers old → FindsGroups held name old (length numbers) new
  groups_written s taken read numbers new there is same utf8 named writes =
      let all : numbers ≡ groups_named (names_of s) name =
      named ∙ ap (λ t. groups_named (names_of t) read) is ∙ ap (groups_named (names_of s)) same in
      subst (λ m. FindsGroups m name old (length numbers) new) (sym there)
      (subst (FindsGroups (Some s) name old (length numbers)) (sym writes)
      (subst (λ n. FindsGroups (Some s) name old (length n) (over n old)) (sym all) (found utf8)))
