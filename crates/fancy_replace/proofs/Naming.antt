-- A name is looked up in a map of names.
use Rattle.std.proofs.Common.{◌≡◌, ℕ, true, false, List, [], ◌∷◌, Option, Some, None, option_map, unwrap_or, cond, string_bytes, String, Vec, refl, sym, ap, ◌∙◌}
use Rattle.std.proofs.lemmas.Map.Text.{is_eq-slice_cmp}
use Rattle.std.specs.BTreeMap.{is_at}
use Rattle.std.specs.Cmp.Lexicographic.{slice_cmp}
use Rattle.std.specs.Map.{lookup}
use Rattle.std.specs.Ordering.{nat_cmp}
use Rattle.std.specs.Str.{bytes_eq}
use Rattle.std.specs.declared.alloc.Global.{Global}
use Rattle.fancy_analysis.specs.Names.{names_of}
use Rattle.fancy_replace.specs.Reading.{groups_named}

abbrev Entries : Type 0
Entries = List (String Global × Vec ℕ Global)

-- the groups that a map has for a name
abbrev pub groups_at : List ℕ → Entries → Option (Vec ℕ Global)
groups_at name entries = lookup (is_at (λ other. slice_cmp nat_cmp name (string_bytes other))) entries

lookup-names : (name : List ℕ) (entries : Entries) →
    option_map (λ (groups : Vec ℕ Global). groups.items) (groups_at name entries) ≡ lookup (bytes_eq name) (names_of entries)
lookup-names name [] = refl
lookup-names name (e ∷ es) =
    rw (is_eq-slice_cmp name (string_bytes e.0))
    (elim (bytes_eq name (string_bytes e.0)) as (λ b. option_map (λ (groups : Vec ℕ Global). groups.items) (cond b (Some e.1) (groups_at name es))
    ≡ cond b (Some e.1.items) (lookup (bytes_eq name) (names_of es))) [ true ↦ refl | false ↦ lookup-names name es ])

pub groups_found : (name : List ℕ) (entries : Entries) (groups : Vec ℕ Global) → groups_at name entries ≡ Some groups →
    groups_named (names_of entries) name ≡ groups.items
groups_found name entries groups e =
    ap (λ found. unwrap_or found []) (sym (lookup-names name entries) ∙ ap (option_map (λ (groups : Vec ℕ Global). groups.items)) e)

pub no_groups_found : (name : List ℕ) (entries : Entries) → groups_at name entries ≡ None → groups_named (names_of entries) name ≡ []
no_groups_found name entries e =
    ap (λ found. unwrap_or found []) (sym (lookup-names name entries) ∙ ap (option_map (λ (groups : Vec ℕ Global). groups.items)) e)
