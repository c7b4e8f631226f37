-- Which answers of a search for a tree hold from later places on too. That they do is proved of these premises by
-- `none_from_later` and `same_answer_from_later` of `fancy_starts`.
use Rattle.std.specs.Prelude.{◌≡◌, ◌==◌, ◌||◌, ◌&&◌, ℕ, Bool, true, false, Option, Some, None, is_none, nat_lt, nat_le}
use Rattle.fancy_meaning.specs.Options.{Plan, RunOptions}
use Rattle.fancy_meaning.specs.Tree.{Tree}
use Rattle.fancy_starts.specs.Matches.{has_continue, has_keep_out}
use Rattle.fancy_scanner.specs.declared.reuse.Reuse.{Reuse}
use Rattle.fancy_scanner.specs.declared.reuse.Reuse.TheVariants as lasts

-- one start alone is tried
abbrev pub is_anchored : Plan → RunOptions → Bool
is_anchored p o = p.anchored || o.anchored

-- all starts are tried, and no `\G` asks where the search began
pub record NoMatchLasts (anchored : Bool) (e : Tree) : Type 0 where
  pub all_starts : anchored ≡ false
  pub no_continue : has_continue e ≡ false

-- and no `\K` moves where a match begins
pub record MatchesLast (anchored : Bool) (e : Tree) : Type 0 where
  pub no_match : NoMatchLasts anchored e
  pub no_keep_out : has_keep_out e ≡ false

-- so answers of searches for the tree last
abbrev pub IsReuse : Bool → Tree → Reuse → Type 0
IsReuse anchored e lasts.Nothing = Unit {0}
IsReuse anchored e lasts.NoMatch = NoMatchLasts anchored e
IsReuse anchored e lasts.Matches = MatchesLast anchored e

-- an answer lasts to this later place, where its match begins there, or where it has none
abbrev pub lasts_to : Reuse → Option ℕ → ℕ → Bool
lasts_to lasts.Nothing start pos = false
lasts_to lasts.NoMatch start pos = is_none start
lasts_to lasts.Matches None pos = true
lasts_to lasts.Matches (Some start) pos = nat_le pos start

-- An answer that was asked from one place holds at another: at the same, and at later ones to which it lasts.
abbrev pub holds_at : Reuse → ℕ → Option ℕ → ℕ → Bool
holds_at reuse from start pos = (from == pos) || (nat_lt from pos && lasts_to reuse start pos)
