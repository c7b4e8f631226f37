-- How deep nodes stand in one another where they are written out.
use Rattle.std.specs.Prelude.{◌≡◌, ℕ, suc, ◌<◌, Option, Some, None}
use Rattle.fancy_meaning.specs.CompileRefusals.{IsAmong, written_parts}
use Rattle.fancy_meaning.specs.Nodes.{target}
use Rattle.fancy_meaning.specs.OpenCalls.{Depths, opened, call_depth}
use Rattle.fancy_meaning.specs.Tree.{Tree, SubroutineCall}

-- More than so many nodes stand in one another, this one outermost, where these calls are open. In a node stand the parts
-- that are written out with it, and in a call what it names, as long as fewer than `call_depth` calls of it are open.
pub data NestsDeeper (whole : Tree) : Depths → ℕ → Tree → Type 0 where
  alone : {calls : Depths} {e : Tree} → NestsDeeper whole calls 0 e
  over_part : {calls : Depths} {n : ℕ} {c e : Tree} → IsAmong c (written_parts e) → NestsDeeper whole calls n c
      → NestsDeeper whole calls (suc n) e
  over_called : {calls : Depths} {n g : ℕ} {body : Tree} → calls g < call_depth → target whole g ≡ Some body
      → NestsDeeper whole (opened g calls) n body → NestsDeeper whole calls (suc n) (SubroutineCall g)

-- deeper than the limit, if there is one
abbrev pub NestsOver : Tree → Depths → Option ℕ → Tree → Type 0
NestsOver whole calls None e = ⊥
NestsOver whole calls (Some most) e = NestsDeeper whole calls most e
