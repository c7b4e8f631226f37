-- The names of scopes.
use Rattle.std.specs.Prelude.{ℕ, zero, suc, List, [], ◌∷◌, Option, option_and_then, slice_get}
use Rattle.std.specs.Option.{option_map_or}
use Rattle.fancy_highlight.specs.declared.scopes.Names.{Names}
use Rattle.fancy_highlight.specs.declared.scopes.Scope.{Scope}
use Rattle.fancy_highlight.specs.declared.scopes.Scopes.{Scopes}

abbrev pub scopes_in : Scopes → List Scope
scopes_in s = s.scopes.items

-- the names of a scope of these, the innermost first, and at most so many
abbrev pub names_within : List Scope → ℕ → Option ℕ → List ℕ
names_within scopes zero scope = []
names_within scopes (suc most) scope =
    option_map_or (λ s. s.name ∷ names_within scopes most s.outer) (option_and_then (slice_get scopes) scope) []

-- the names that are still to come
abbrev pub names_left : Names → List ℕ
names_left names = names_within names.scopes.now names.left names.next
